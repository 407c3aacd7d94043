use Prim.Native.Nat.{ℕ, ◌*◌, ◌-◌, ◌≤◌}
use lib.ListN.{length}
use mathlib.Core.Path.{◌≡◌}
use Rattle.format.proofs.Loop.{Measuring}
use Rattle.body.proofs.list.measure_records.Given as goal

abbrev pub invariant-loop : goal.invariant-loop
invariant-loop g l =
    ((o : ℕ) → Measuring g.R.Record.rule (g.R.Record.entries l.body.bytes.now o) l.body.bytes.now l.count l.first l.list.length l.list.end (l.count - l.counter))
    × (l.list.count ≡ l.counter) × (l.first ≤ l.list.end) × (l.list.end ≤ length l.body.bytes.now) × (l.list.length ≤ 32 * (l.list.end - l.first))
