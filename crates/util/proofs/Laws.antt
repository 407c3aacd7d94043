-- The code's answers tell those of the definitions.
use native.Mathlib.Omega.{arith}
use Rattle.std.specs.Prelude.{ℕ, ◌≡◌, refl, Option, None, Some}
use Rattle.std.proofs.Math.Option as math
use Rattle.std.proofs.Math.Option.{none, some}
use Rattle.util.specs.Answers.{option_of}

pub some_of : {A : Type 0} (x : math.Option A) (a : A) (y : Option A) → y ≡ option_of x → y ≡ Some a → x ≡ some a
some_of (some b) a y e h = let z : b ≡ a = cc in rw z
some_of none a y e h = let z : ◌≡◌ {A = ℕ} 0 1 = cc in absurd (omega arith)

pub none_of : {A : Type 0} (x : math.Option A) (y : Option A) → y ≡ option_of x → y ≡ None → x ≡ none
none_of (some a) y e h = let z : ◌≡◌ {A = ℕ} 0 1 = cc in absurd (omega arith)
none_of none y e h = refl
