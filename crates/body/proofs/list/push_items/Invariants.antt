use Prim.Native.Nat.{◌+◌, ◌*◌, ◌-◌}
use Rattle.body.proofs.Loops.{FixedWriting}
use Rattle.body.proofs.list.push_items.Given as goal

abbrev pub invariant-loop-i : goal.invariant-loop-i
invariant-loop-i g l =
    let n = g.I.Item.SIZE in
    FixedWriting n (g.I.Item.entries l.body.bytes.now l.body.offset) l.body.bytes.now l.count l.first l.initial.strip l.strip (l.first + l.i * n) (l.count - l.i)
