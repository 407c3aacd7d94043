-- The laws of a loop that writes the entries of a list one by one, and of one that sums up their lengths.
use Prim.Native.Nat.{ℕ, ◌+◌, ◌*◌, ◌-◌, ◌≤◌, ◌<◌}
use native.Mathlib.Nat.{suc-mul}
use native.Mathlib.Omega.{arith}
use mathlib.Core.Path.{◌≡◌, refl, ◌∙◌}
use mathlib.Core.List.{List, [], flat_map}
use mathlib.Core.Option.{some}
use lib.ListN.{length}
use Rattle.format.specs.Strip.{Entry, code, encode}
use Rattle.format.specs.Strip.Entry.{opens, closes}
use Rattle.format.specs.Body.{listing, listing_if_any}
use Rattle.format.specs.Inside.{Counts}
use Rattle.format.specs.Cut.{Span, Rule, cut, after, fixed_rule}
use Rattle.format.proofs.Loop as loop
use Rattle.format.proofs.Loop.{spread}
use Rattle.format.proofs.FixedLoop as fixed
use Rattle.format.proofs.Unique.{span}
use Rattle.format.proofs.Inside.{direct_of, counts_each}
use Rattle.format.proofs.Lists.{fixed_cut, if_none, if_some}
use Rattle.strip_put.specs.declared.Writer.{Writer}
use Rattle.strip_put.specs.Writer.{Writes, HasRoom}
use Rattle.strip_put.proofs.Laws.{wrote_of, writes_of, contained}

-- The entries before pos are written to the strip, and `left` are still due: of the bytes by the law of all such loops, and in one
-- buffer.
pub record Writing (r : Rule) (f : Span → List Entry) (b : List ℕ) (count first : ℕ) (old now : Writer) (pos left : ℕ) : Type 0 where
  pub bytes : loop.Writing r f b count first old.buffer.now old.at now.buffer.now now.at pos left
  pub same_buffer : now.buffer.ghost_name ≡ old.buffer.ghost_name

module _ (r : Rule) (f : Span → List Entry) (b : List ℕ) (count first : ℕ) (old : Writer) where
  pub begin : Writing r f b count first old old first count
  begin = record { bytes = loop.begin r f b count first old.buffer.now old.at old.buffer.now old.at refl refl; same_buffer = refl }

  -- a turn: the entry at pos is written
  pub turn : {now next : Writer} {pos left : ℕ} (n : ℕ) → Writing r f b count first old now pos left → 0 < left → r b pos ≡ some n
      → Writes now (encode (f (span pos n))) next → Writing r f b count first old next (pos + n) (left - 1)
  turn n g h e w = record { bytes = loop.turn r f b count first old.buffer.now old.at n g.bytes h e (wrote_of w); same_buffer = w.same_buffer ∙ g.same_buffer }

  -- the room that the next entry has
  pub room : {now : Writer} {pos left : ℕ} (n : ℕ) → Writing r f b count first old now pos left → 0 < left → r b pos ≡ some n
      → HasRoom old (length (spread f (cut r b count first))) → HasRoom now (length (encode (f (span pos n))))
  room n g h e l = loop.room r f b count first old.buffer.now old.at n g.bytes h e l

  -- the end of the loop
  pub finish : {now : Writer} {pos left : ℕ} → Writing r f b count first old now pos left → cut r b left pos ≡ []
      → Writes old (spread f (cut r b count first)) now × (pos ≡ after first (cut r b count first)) × (length (cut r b count first) ≡ count - left)
  finish g e = let p = loop.finish r f b count first old.buffer.now old.at g.bytes e in (writes_of p.0 g.same_buffer, p.1, p.2)

-- The same of entries of one length n.
pub record FixedWriting (n : ℕ) (f : Span → List Entry) (b : List ℕ) (count first : ℕ) (old now : Writer) (pos left : ℕ) : Type 0 where
  pub bytes : fixed.FixedWriting n f b count first old.buffer.now old.at now.buffer.now now.at pos left
  pub same_buffer : now.buffer.ghost_name ≡ old.buffer.ghost_name

module _ {n : ℕ} {f : Span → List Entry} {b : List ℕ} {count first : ℕ} {old : Writer} where
  pub fixed_begin : first + count * n ≤ length b → HasRoom old (length (encode (flat_map f (cut (fixed_rule n) b count first))))
      → FixedWriting n f b count first old old first count
  fixed_begin h l = record { bytes = fixed.fixed_begin h l; same_buffer = refl }

  module _ {now : Writer} {pos left : ℕ} (g : FixedWriting n f b count first old now pos left) where
    pub fixed_room : 0 < left → HasRoom now (length (encode (f (span pos n))))
    fixed_room h = (fixed.fixed_next g.bytes h).fits

    pub fixed_turn : {next : Writer} → 0 < left → Writes now (encode (f (span pos n))) next → FixedWriting n f b count first old next (pos + n) (left - 1)
    fixed_turn h w = record { bytes = (fixed.fixed_next g.bytes h).written (wrote_of w); same_buffer = w.same_buffer ∙ g.same_buffer }

    pub fixed_finish : left ≡ 0 → Writes old (encode (flat_map f (cut (fixed_rule n) b count first))) now
    fixed_finish e = writes_of (fixed.fixed_finish g.bytes e) g.same_buffer

-- An array is written by writing its opening, which counts its entries, then these, and its close. Each span is shown by one.
pub listed : {u v w x : Writer} (i : ℕ) (f : Span → List Entry) (o p : ℕ) (ss : List Span) {e n : ℕ} → ((s : Span) → Counts 1 (f s)) → n ≡ length ss → o + after p ss ≡ e
    → Writes u (code (opens i (o + p) e n)) v → Writes v (spread f ss) w → Writes w (code closes) x → Writes u (encode (listing i f o p ss)) x
unfolding listing spread
listed i f o p ss h m q a b c = contained i (o + p) (o + after p ss) (flat_map f ss) (rw (direct_of (counts_each f h ss), ← m, q) a) b c

-- An array that is opened only where it has an entry, of as many entries of n bytes as the body has room for.
module _ (i n : ℕ) (f : Span → List Entry) (b : List ℕ) (o p k : ℕ) where
  pub not_opened : k ≡ 0 → listing_if_any i f o p (cut (fixed_rule n) b k p) ≡ []
  unfolding cut
  not_opened e = rw e (if_none i f o p [] refl)

  pub opened : 0 < k → p + k * n ≤ length b → listing_if_any i f o p (cut (fixed_rule n) b k p) ≡ listing i f o p (cut (fixed_rule n) b k p)
  opened h l = if_some i f o p (cut (fixed_rule n) b k p) (let c = (fixed_cut n b k p l).0 in omega arith)

-- In a list of entries of n bytes, entry i begins n bytes before the next.
pub next_place : (n first i : ℕ) → first + (i + 1) * n ≡ first + i * n + n
next_place n first i = let m = suc-mul i n in omega arith
