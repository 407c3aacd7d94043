-- The length of an object: fifteen bytes more than what is inside.
use Prim.Native.Nat.{ℕ, ◌+◌}
use native.Mathlib.Omega.{arith}
use mathlib.Core.Path.{◌≡◌}
use mathlib.Core.List.{List}
use lib.ListN.{length}
use Rattle.format.specs.Bytes.{part}
use Rattle.format.specs.Strip.{Entry, encode}
use Rattle.format.proofs.Lists.{length-container}
use Rattle.format.proofs.Unique.{span}
use Rattle.walk_list.specs.Object.{object}

pub object_length : (i : ℕ) (inside : List ℕ → ℕ → List Entry) (d : List ℕ) (o p n : ℕ)
    → length (encode (object i inside d o (span p n))) ≡ 15 + length (encode (inside (part d p n) (o + p)))
unfolding object
object_length i inside d o p n = omega (arith, length-container i (o + p) (o + p + n) (inside (part d p n) (o + p)))
