use Rattle.std.proofs.Common.{length}
use Rattle.replay_tally.proofs.Turns.{Counting}
use Rattle.replay_tally.proofs.count_different.Given as goal

abbrev pub invariant-loop-call : goal.invariant-loop-call
invariant-loop-call l = Counting (length l.initial.strip) l.file l.initial.strip (length l.yielded) l.different l.strip
