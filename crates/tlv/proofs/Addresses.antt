-- An address that is filled in over 16 zeros, and prefixes that are compared by their parts.
use Rattle.std.proofs.Common.{◌≡◌, ℕ, ◌+◌, ◌-◌, ◌≤◌, min, Bool, true, false, cond, ◌&&◌, nat_eq, List, ◌++◌, length, take, drop, replicate, Ok, refl, sym, inl, inr, arith, le-ltb}
use Rattle.std.proofs.lemmas.List.{take-append-le, take_all, take-replicate, drop-replicate, drop_all, length-replicate, append-nil}
use Rattle.std.proofs.lemmas.Bool.{cases_lt}
use Rattle.std.proofs.Math.Seq.{take-append-add}
use Rattle.format.specs.Prefix.{address, same_bits, comparison, same, different}
use Rattle.tlv.specs.Answers.{comparison_meaning}

-- The first m of a list with m of z after it: so much of the list, and z for what it lacks.
first_of : (m : ℕ) (bs : List ℕ) (z n : ℕ) → n ≡ min (length bs) m → take n bs ++ drop n (replicate m z) ≡ take m (bs ++ replicate m z)
first_of m bs z n h = elim (cases_lt (length bs) m) [
  | inl k ↦
      let e : n ≡ length bs = omega arith in
      let g : length bs + (m - length bs) ≡ m = omega arith in
      rw (e, take_all (length bs) bs (omega arith), drop-replicate (length bs) m z, ← take-replicate (m - length bs) m z (omega arith))
      (rw g at (sym (take-append-add bs (replicate m z) (m - length bs))))
  | inr k ↦
      let e : n ≡ m = omega arith in
      rw (e, drop_all m (replicate m z) (omega (arith, length-replicate m z)), append-nil, take-append-le m bs (replicate m z) k)
]

pub filled : (bs : List ℕ) (n : ℕ) → n ≡ min (length bs) 16 → take n bs ++ drop n (replicate 16 0) ≡ address bs
unfolding address
filled bs n h = first_of 16 bs 0 n h

by_parts : (s t : Bool) → comparison_meaning (Ok (s && t)) ≡ cond s (cond t same different) different
by_parts true true = refl
by_parts true false = refl
by_parts false t = refl

pub compared : (l : ℕ) (a : List ℕ) (m : ℕ) (b : List ℕ) (r : Bool) → l ≤ 128 → m ≤ 128 → r ≡ nat_eq l m && same_bits l a b → comparison_meaning (Ok r) ≡ comparison l a m b
unfolding comparison
compared l a m b r h k e = rw (le-ltb 128 l h, le-ltb 128 m k, e) (by_parts (nat_eq l m) (same_bits l a b))
