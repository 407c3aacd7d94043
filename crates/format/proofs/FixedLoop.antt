-- The laws of a loop that writes entries of one length n, as many as a count that the body and the strip have room for, and of
-- one that sums up their bytes.
use Prim.Native.Nat.{ℕ, zero, suc, ◌+◌, ◌*◌, ◌-◌, ◌≤◌, ◌<◌}
use native.Mathlib.Nat.{suc-mul, not-suc-le-zero}
use native.Mathlib.Omega.{arith}
use mathlib.Core.Path.{◌≡◌, refl}
use mathlib.Core.List.{List, flat_map}
use lib.ListN.{length}
use Rattle.format.specs.Strip.{Entry, encode}
use Rattle.format.specs.Wrote.{Wrote}
use Rattle.format.specs.Cut.{Span, cut, fixed_rule}
use Rattle.format.proofs.Wrote.{kept}
use Rattle.format.proofs.Unique.{span}
use Rattle.format.proofs.Loop.{Writing, Measuring, spread, begin, turn, room, finish, measure_begin, measure_turn, measure_room, measure_finish}
use Rattle.format.proofs.Lists.{fixed_stands}

-- Where an entry is still due, it lies in the body, and so do those after it.
pub due : (n : ℕ) (b : List ℕ) (pos left : ℕ) → pos + left * n ≤ length b → 0 < left → (pos + n ≤ length b) × (pos + n + (left - 1) * n ≤ length b)
due n b pos zero h l = absurd (not-suc-le-zero l)
due n b pos (suc k) h l =
    let m = suc-mul k n in
    let q : suc k - 1 ≡ k = omega arith in
    (omega arith, rw q (omega arith))

-- The entries before pos are written, `left` more lie in the body, and the strip has room for all.
pub record FixedWriting (n : ℕ) (f : Span → List Entry) (b : List ℕ) (count from : ℕ) (strip₀ : List ℕ) (at : ℕ) (strip : List ℕ) (a pos left : ℕ) : Type 0 where
  pub writing : Writing (fixed_rule n) f b count from strip₀ at strip a pos left
  pub within : pos + left * n ≤ length b
  pub enough : at + length (encode (flat_map f (cut (fixed_rule n) b count from))) ≤ length strip₀

-- The next entry: it lies in the body, the strip has room for it, and where it was written the loop stands after it.
pub record FixedNext (n : ℕ) (f : Span → List Entry) (b : List ℕ) (count from : ℕ) (strip₀ : List ℕ) (at : ℕ) (strip : List ℕ) (a pos left : ℕ) : Type 0 where
  pub lies : pos + n ≤ length b
  pub fits : a + length (encode (f (span pos n))) ≤ length strip
  pub written : {strip' : List ℕ} {a' : ℕ} → Wrote strip a (encode (f (span pos n))) strip' a' → FixedWriting n f b count from strip₀ at strip' a' (pos + n) (left - 1)

module _ {n : ℕ} {f : Span → List Entry} {b : List ℕ} {count from : ℕ} {strip₀ : List ℕ} {at : ℕ} where
  pub fixed_begin : from + count * n ≤ length b → at + length (encode (flat_map f (cut (fixed_rule n) b count from))) ≤ length strip₀
      → FixedWriting n f b count from strip₀ at strip₀ at from count
  fixed_begin h l = record { writing = begin (fixed_rule n) f b count from strip₀ at strip₀ at refl refl; within = h; enough = l }

  pub fixed_next : {strip : List ℕ} {a pos left : ℕ} → FixedWriting n f b count from strip₀ at strip a pos left → 0 < left
      → FixedNext n f b count from strip₀ at strip a pos left
  unfolding spread
  fixed_next {pos = pos} {left} g h =
      let d = due n b pos left g.within h in
      let e = fixed_stands n b pos d.0 in
      record {
        lies = d.0;
        fits = room (fixed_rule n) f b count from strip₀ at n g.writing h e g.enough;
        written = λ w. record {
          writing = turn (fixed_rule n) f b count from strip₀ at n g.writing h e w;
          within = d.1;
          enough = g.enough;
        };
      }

  module _ {strip : List ℕ} {a pos left : ℕ} (g : FixedWriting n f b count from strip₀ at strip a pos left) where
    pub fixed_kept : length strip ≡ length strip₀
    fixed_kept = kept g.writing.so_far

    pub fixed_finish : left ≡ 0 → Wrote strip₀ at (encode (flat_map f (cut (fixed_rule n) b count from))) strip a
    unfolding spread cut
    fixed_finish e = (finish (fixed_rule n) f b count from strip₀ at g.writing (rw e refl)).0

-- The bytes of the entries before pos are summed up, and `left` more entries lie in the body.
pub record FixedMeasuring (n : ℕ) (f : Span → List Entry) (b : List ℕ) (count from total pos left : ℕ) : Type 0 where
  pub measuring : Measuring (fixed_rule n) f b count from total pos left
  pub within : pos + left * n ≤ length b

-- The next entry: it lies in the body, the sum with it is no more than that of all, and then the loop stands after it.
pub record FixedSum (n : ℕ) (f : Span → List Entry) (b : List ℕ) (count from total pos left : ℕ) : Type 0 where
  pub lies : pos + n ≤ length b
  pub at_most : total + length (encode (f (span pos n))) ≤ length (spread f (cut (fixed_rule n) b count from))
  pub summed : FixedMeasuring n f b count from (total + length (encode (f (span pos n)))) (pos + n) (left - 1)

module _ {n : ℕ} {f : Span → List Entry} {b : List ℕ} {count from : ℕ} where
  pub fixed_measure_begin : from + count * n ≤ length b → FixedMeasuring n f b count from 0 from count
  fixed_measure_begin h = record { measuring = measure_begin (fixed_rule n) f b count from; within = h }

  pub fixed_measure_next : {total pos left : ℕ} → FixedMeasuring n f b count from total pos left → 0 < left → FixedSum n f b count from total pos left
  fixed_measure_next {pos = pos} {left} g h =
      let d = due n b pos left g.within h in
      let e = fixed_stands n b pos d.0 in
      record {
        lies = d.0;
        at_most = measure_room (fixed_rule n) f b count from n g.measuring h e;
        summed = record { measuring = measure_turn (fixed_rule n) f b count from n g.measuring h e; within = d.1 };
      }

  pub fixed_measure_finish : {total pos left : ℕ} → FixedMeasuring n f b count from total pos left → left ≡ 0 → total ≡ length (spread f (cut (fixed_rule n) b count from))
  unfolding cut
  fixed_measure_finish g e = (measure_finish (fixed_rule n) f b count from g.measuring (rw e refl)).0
