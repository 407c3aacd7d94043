-- Laws of what is written.
use Prim.Native.Nat.{ℕ, ◌+◌}
use native.Mathlib.Nat.{add-zero}
use mathlib.Core.Path.{◌≡◌, refl, ◌∙◌}
use mathlib.Core.List.{List, [], ◌++◌}
use Rattle.format.specs.Strip.{Entry, code, encode, direct, container}
use Rattle.format.specs.Strip.Entry.{opens, closes}
use Rattle.format.specs.Wrote.{Wrote}
use Rattle.format.proofs.Lists.{encode-container}
use Rattle.format.proofs.Lists as lists
use Rattle.format.proofs.Wrote as wrote
use Rattle.strip_put.specs.declared.Writer.{Writer}
use Rattle.strip_put.specs.Writer.{Writes}

-- As bytes of a list, without the buffer's name.
pub wrote_of : {u v : Writer} {xs : List ℕ} → Writes u xs v → Wrote u.buffer.now u.at xs v.buffer.now v.at
wrote_of w = record { place = w.place; contents = w.contents }

pub writes_of : {u v : Writer} {xs : List ℕ} → Wrote u.buffer.now u.at xs v.buffer.now v.at → v.buffer.ghost_name ≡ u.buffer.ghost_name → Writes u xs v
writes_of w s = record { place = w.place; contents = w.contents; same_buffer = s; same_length = wrote.kept w }

-- Nothing written.
pub nothing : (u : Writer) → Writes u [] u
nothing u = record { place = rw add-zero; contents = refl; same_buffer = refl; same_length = refl }

-- One run of bytes after another.
pub then : {u v w : Writer} {xs ys : List ℕ} → Writes u xs v → Writes v ys w → Writes u (xs ++ ys) w
then a b = writes_of (wrote.then (wrote_of a) (wrote_of b)) (b.same_buffer ∙ a.same_buffer)

-- A container is written by writing its opening, which counts what is inside, then that, and its close.
pub contained : {u v w x : Writer} (i s e : ℕ) (inside : List Entry)
    → Writes u (code (opens i s e (direct 0 inside))) v → Writes v (encode inside) w → Writes w (code closes) x → Writes u (encode (container i s e inside)) x
contained i s e inside a b c = rw (encode-container i s e inside) (then a (then b c))

-- The same where it is opened last. What is inside leaves fourteen bytes for that.
pub contained_last : {u v w x : Writer} (i s e : ℕ) (inside : List Entry)
    → Writes (record u { at = u.at + 14 }) (encode inside) v → Writes (record v { at = u.at }) (code (opens i s e (direct 0 inside))) w → Writes (record w { at = v.at }) (code closes) x
    → Writes u (encode (container i s e inside)) x
contained_last i s e inside a b c = writes_of (lists.contained_last i s e inside (wrote_of a) (wrote_of b) (wrote_of c)) (c.same_buffer ∙ (b.same_buffer ∙ a.same_buffer))
