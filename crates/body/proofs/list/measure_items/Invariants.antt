use Prim.Native.Nat.{ℕ, ◌+◌, ◌*◌, ◌-◌, ◌≤◌}
use Rattle.format.proofs.FixedLoop.{FixedMeasuring}
use Rattle.body.proofs.list.measure_items.Given as goal

abbrev pub invariant-loop-i : goal.invariant-loop-i
invariant-loop-i g l =
    let n = g.I.Item.SIZE in
    ((o : ℕ) → FixedMeasuring n (g.I.Item.entries l.body.bytes.now o) l.body.bytes.now l.count l.first l.length (l.first + l.i * n) (l.count - l.i)) × (l.length ≤ l.i * 256)
