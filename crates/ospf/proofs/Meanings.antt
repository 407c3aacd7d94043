-- The code's step says what the definition's does; and how long an entry is that a step gives.
use Prim.Native.Nat.{ℕ, ◌-◌, ◌≤◌, ◌<◌}
use native.Mathlib.Omega.{arith}
use mathlib.Core.Path.{◌≡◌}
use mathlib.Core.List.{List}
use Rattle.format.specs.Strip as strip
use Rattle.format.proofs.Steps.{steps}
use Rattle.format.proofs.Comparisons.{entry_small}

pub entry_length : (s : List ℕ) (p : ℕ) (x : strip.Entry) (q : ℕ) → strip.step_at s p ≡ strip.Step.entry x q → (p ≤ q) × (q - p < 4294967296)
entry_length s p x q e = let g = (((steps s p).gives x q).0 e).4 in (omega arith, omega (arith, entry_small s p))
