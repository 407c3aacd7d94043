-- The code's answers for those of the definitions.
use Rattle.std.specs.Prelude.{ℕ, Option, None, Some}
use Rattle.std.proofs.Math.Option as math
use Rattle.std.proofs.Math.Option.{none, some}
use Rattle.format.specs.Metric.{Metric}
use Rattle.format.specs.Metric.Metric.{cost, unreachable}

abbrev pub option_of : {A : Type 0} → math.Option A → Option A
option_of none = None
option_of (some x) = Some x

abbrev pub cost_of : Metric → Option ℕ
cost_of (cost v) = Some v
cost_of unreachable = None
