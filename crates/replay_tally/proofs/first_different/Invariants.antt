use Rattle.std.proofs.Common.{length}
use Rattle.replay_tally.proofs.Turns.{Agreeing}
use Rattle.replay_tally.proofs.first_different.Given as goal

abbrev pub invariant-loop-call : goal.invariant-loop-call
invariant-loop-call l = Agreeing (length l.initial.strip) l.file l.initial.strip (length l.yielded) l.agreed l.strip
