-- A metric of 24 bits: the cost of a route, or LSInfinity, by which the destination is unreachable. RFC 2328 appendix B.
use Rattle.std.specs.Prelude.{ℕ, cond, List, eqb}
use Rattle.format.specs.Bytes.{be24_at}

pub data Metric : Type 0 where
  cost : (value : ℕ) → Metric
  unreachable : Metric

-- 24 bits, all ones.
abbrev pub ls_infinity : ℕ
ls_infinity = 0xffffff

-- The metric whose bytes stand in b from p on.
abbrev pub metric_at : List ℕ → ℕ → Metric
metric_at b p = cond (eqb (be24_at b p) ls_infinity) unreachable (cost (be24_at b p))
