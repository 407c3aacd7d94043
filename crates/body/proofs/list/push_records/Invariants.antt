use Prim.Native.Nat.{◌≤◌}
use lib.ListN.{length}
use Rattle.body.proofs.Loops.{Writing}
use Rattle.body.proofs.list.push_records.Given as goal

abbrev pub invariant-loop-left : goal.invariant-loop-left
invariant-loop-left g l =
    Writing g.R.Record.rule (g.R.Record.entries l.body.bytes.now l.body.offset) l.body.bytes.now l.count l.first l.initial.strip l.strip l.pos l.left × (l.first ≤ l.pos) × (l.pos ≤ length l.body.bytes.now)

abbrev pub decreases-loop-left : goal.decreases-loop-left
decreases-loop-left g l = l.left
