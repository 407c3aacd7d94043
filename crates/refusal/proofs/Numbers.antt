-- No refusal has the number 0, and its number and the length needed tell which it is.
use Prim.Native.Nat.{ℕ, ◌≤◌, ◌<◌}
use native.Mathlib.Omega.{arith}
use mathlib.Core.Bool.{cond}
use mathlib.Core.Logic.{◌⊎◌}
use mathlib.Core.Path.{◌≡◌, refl}
use Rattle.std.proofs.Common.{rules}
use lib.Dec.{eqb}
use Rattle.refusal.specs.Numbers.{number_of, needed_of}
use Rattle.refusal.specs.declared.Refusal.{Refusal}
use Rattle.refusal.specs.declared.Refusal.TheVariants.{NoVersion, TooMuch, TooFar, TooLittle, NoRoom, PlaceBeyond, NoKind, EntryCut, NotInPacket, PrefixTooLong, AgeTooLarge, NoWalk, NoLsa, SharedIdentity, NoFreeRow}

pub number_positive : (r : Refusal) → 0 < number_of r
number_positive NoVersion = omega arith
number_positive TooMuch = omega arith
number_positive TooFar = omega arith
number_positive TooLittle = omega arith
number_positive (NoRoom n) = omega arith
number_positive PlaceBeyond = omega arith
number_positive NoKind = omega arith
number_positive EntryCut = omega arith
number_positive NotInPacket = omega arith
number_positive PrefixTooLong = omega arith
number_positive AgeTooLarge = omega arith
number_positive NoWalk = omega arith
number_positive NoLsa = omega arith
number_positive SharedIdentity = omega arith
number_positive NoFreeRow = omega arith

-- The refusal of a number, with the length needed.
abbrev pub refusal_by : ℕ → ℕ → Refusal
refusal_by k n =
    cond (eqb k 1) NoVersion (cond (eqb k 2) TooMuch (cond (eqb k 3) TooFar (cond (eqb k 4) TooLittle (cond (eqb k 5) (NoRoom n) (cond (eqb k 6) PlaceBeyond (cond (eqb k 7) NoKind (cond (eqb k 8) EntryCut (cond (eqb k 9) NotInPacket (cond (eqb k 10) PrefixTooLong (cond (eqb k 11) AgeTooLarge (cond (eqb k 12) NoWalk (cond (eqb k 13) NoLsa (cond (eqb k 14) SharedIdentity NoFreeRow)))))))))))))

pub refusal_back : (r : Refusal) → refusal_by (number_of r) (needed_of r) ≡ r
refusal_back NoVersion = refl
refusal_back TooMuch = refl
refusal_back TooFar = refl
refusal_back TooLittle = refl
refusal_back (NoRoom n) = refl
refusal_back PlaceBeyond = refl
refusal_back NoKind = refl
refusal_back EntryCut = refl
refusal_back NotInPacket = refl
refusal_back PrefixTooLong = refl
refusal_back AgeTooLarge = refl
refusal_back NoWalk = refl
refusal_back NoLsa = refl
refusal_back SharedIdentity = refl
refusal_back NoFreeRow = refl

pub refusal_meant : (k n : ℕ) → 0 < k → k ≤ 15 → (k ≡ 5) ⊎ (n ≡ 0) → (number_of (refusal_by k n) ≡ k) × (needed_of (refusal_by k n) ≡ n)
refusal_meant k n g h e = search rules
