use Rattle.std.proofs.Common.{rules}
use Rattle.replay_call.proofs.Turns.{none_left, first_left}
use Rattle.replay_call.proofs.CallsIterator.next.Goals as goal

pub returns-in_err-call-clause-steps : goal.returns-in_err-call-clause-steps
returns-in_err-call-clause-steps c =
    let s = c.args.self.now in
    let e = none_left s.most s.file.now s.at c.in_err-call.ensures in
    rw c.from_residual.ensures (e, e)

pub returns-clause-steps : goal.returns-clause-steps
returns-clause-steps c =
    let s = c.args.self.now in
    first_left s.most s.file.now _ s.at _ _ c.in_ok-call.ensures c.end-self.ensures

pub returns-clause-goes : goal.returns-clause-goes
returns-clause-goes c =
    let s = c.args.self.now in
    let t = first_left s.most s.file.now _ s.at _ _ c.in_ok-call.ensures c.end-self.ensures in
    search rules
