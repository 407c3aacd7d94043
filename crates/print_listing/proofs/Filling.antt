-- The loop that fills a buffer with lines: its invariant, and the laws of it.
use Prim.Native.Nat.{ℕ, zero, suc, ◌+◌, ◌-◌, ◌≤◌, ◌<◌}
use native.Mathlib.Omega.{arith}
use mathlib.Core.Path.{◌≡◌, refl, sym, ◌∙◌}
use mathlib.Core.Bool.{Bool, true, false, cond}
use mathlib.Core.List.{List, [], ◌++◌, append_assoc, append-nil}
use lib.ListN.{length, take, drop}
use lib.Seq.{length-take-le}
use lib.Dec.{ltb}
use borrow.Author.Tests.{le-ltb, lt-ltb}
use Rattle.format.specs.Strip.{Entry, Step, step_at}
use Rattle.format.specs.Strip.Step.{entry, end, refused}
use Rattle.format.specs.Wrote.{Wrote}
use Rattle.format.specs.Print.{line, line_room}
use Rattle.format.specs.Pieces.{lines, followed_by, lines_from, lines_at}
use Rattle.format.proofs.Wrote.{then, nothing, kept, lent, lent_room}
use Rattle.format.proofs.Pieces.{forward}
use Rattle.print_lines.specs.Text.{fitting}
use Rattle.print_lines.proofs.Room.{line_fits}

-- What the definition says of a line more, of too little room, and of a step that gives no entry.
from_entry : (k room : ℕ) (s : List ℕ) (p : ℕ) (x : Entry) (q : ℕ) → 160 ≤ room → step_at s p ≡ entry x q → length s < k + p
    → lines_from k room s p ≡ followed_by (line x) (lines_from (k - 1) (room - length (line x)) s q)
unfolding lines_from
from_entry zero room s p x q m e h = let g = forward s p x q e in absurd (omega arith)
from_entry (suc k) room s p x q m e h =
    let z : suc k - 1 ≡ k = omega arith in
    rw (lines_from, le-ltb room line_room m, e, z)

from_full : (k room : ℕ) (s : List ℕ) (p : ℕ) → room < 160 → lines_from k room s p ≡ lines [] p
unfolding lines_from
from_full zero room s p m = refl
from_full (suc k) room s p m = rw (lines_from, lt-ltb room line_room m)

from_ended : (k room : ℕ) (s : List ℕ) (p : ℕ) → ((x : Entry) (q : ℕ) → step_at s p ≡ entry x q → ⊥) → lines_from k room s p ≡ lines [] p
unfolding lines_from
from_ended zero room s p n = refl
from_ended (suc k) room s p n = go (ltb room line_room) (step_at s p) refl
  where
    go : (b : Bool) (t : Step) → step_at s p ≡ t → cond b (lines [] p) (elim t [
      | entry x q ↦ followed_by (line x) (lines_from k (room - length (line x)) s q)
      | end ↦ lines [] p
      | refused n ↦ lines [] p
    ]) ≡ lines [] p
    go true t e = refl
    go false (entry x q) e = absurd (n x q e)
    go false end e = refl
    go false (refused m) e = refl

-- A line that is put into what is left of the buffer, lent by itself, is put into the buffer.
pub line_put : {l ys : List ℕ} {a n : ℕ} (x : Entry) → 160 ≤ length l - a → Wrote (take (length l - a) (drop a l)) 0 (fitting (length (take (length l - a) (drop a l))) (line x)) ys n
    → Wrote l a (line x) (take a l ++ (ys ++ drop (length l - a) (drop a l))) (a + n)
line_put {l} {ys} {a} {n} x m w =
    let f = line_fits x in
    let r = lent_room l a 160 (omega arith) in
    lent (omega arith) (rw (le-ltb (length (take (length l - a) (drop a l))) line_room (omega arith)) at w)

-- What the call ensures.
abbrev Put : (out₀ strip : List ℕ) (place : ℕ) (out : List ℕ) (size next : ℕ) → Type 0
Put out₀ s place out size next =
    Wrote out₀ 0 (lines_at (length out₀) s place).text out size × ((next ≡ (lines_at (length out₀) s place).next) × ((size ≤ length out) × (size ≡ length (take size out))))

-- So many bytes of lines stand at the front of the buffer, and the lines that the call puts are those and the lines from
-- the next place on into the room that is left.
pub record Filling (out₀ strip : List ℕ) (place : ℕ) (out : List ℕ) (size next : ℕ) : Type 0 where
  pub fuel : ℕ
  pub done : List ℕ
  pub wrote : Wrote out₀ 0 done out size
  pub rest : lines_at (length out₀) strip place ≡ followed_by done (lines_from fuel (length out₀ - size) strip next)
  pub enough : length strip < fuel + next
  pub inside : size ≤ length out

pub begin : (out strip : List ℕ) (place : ℕ) → Filling out strip place out 0 place
unfolding lines_at
begin out strip place =
    let z : length out - 0 ≡ length out = omega arith in record {
      fuel = suc (length strip);
      done = [];
      wrote = nothing out 0;
      rest = rw z;
      enough = omega arith;
      inside = omega arith;
    }

module _ (out₀ s : List ℕ) (place : ℕ) (out : List ℕ) (size next : ℕ) (f : Filling out₀ s place out size next) where
  -- One line more.
  pub turn : (x : Entry) (q : ℕ) {out₁ : List ℕ} {size₁ : ℕ} → 160 ≤ length out - size → step_at s next ≡ entry x q
      → Wrote out size (line x) out₁ size₁ → Filling out₀ s place out₁ size₁ q
  turn x q {out₁} {size₁} m e w =
      let g = forward s next x q e in
      let l = line_fits x in
      let k = kept w in
      let k₀ = kept f.wrote in
      let n = f.enough in
      let h : 160 ≤ length out₀ - size = omega arith in
      let z : length out₀ - size - length (line x) ≡ length out₀ - size₁ = omega (arith, w.place) in
      record {
        fuel = f.fuel - 1;
        done = f.done ++ line x;
        wrote = then f.wrote w;
        rest = f.rest ∙ rw (from_entry f.fuel (length out₀ - size) s next x q h e n, z, append_assoc);
        enough = omega arith;
        inside = omega (arith, w.place);
      }

  -- No line follows: for want of room, or of an entry.
  stopped : lines_from f.fuel (length out₀ - size) s next ≡ lines [] next → Put out₀ s place out size next
  stopped e =
      let z : lines_at (length out₀) s place ≡ lines f.done next = f.rest ∙ rw (e, append-nil) in
      let i = f.inside in
      (rw z f.wrote, (rw z refl, (i, sym (length-take-le size out i))))

  pub full : length out - size < 160 → Put out₀ s place out size next
  full h = let k = kept f.wrote in stopped (from_full f.fuel (length out₀ - size) s next (omega arith))

  pub ended : ((x : Entry) (q : ℕ) → step_at s next ≡ entry x q → ⊥) → Put out₀ s place out size next
  ended h = stopped (from_ended f.fuel (length out₀ - size) s next h)
