use Rattle.std.proofs.Common.{◌≡◌, length, take}
use Rattle.format.specs.Cut.{after}
use Rattle.replay_tally.specs.Calls.{calls}
use Rattle.replay_tally.proofs.whole_calls.Given as goal

abbrev pub invariant-loop-call : goal.invariant-loop-call
invariant-loop-call l = (l.whole.calls ≡ length l.yielded) × (l.whole.end ≡ after 0 (take (length l.yielded) (calls l.most l.file)))
