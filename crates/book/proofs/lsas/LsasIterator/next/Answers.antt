use Rattle.std.proofs.Common.{rules, ◌<◌, arith}
use Rattle.book.proofs.Left.{lsa_inside, none_left, zero_left, first_left}
use Rattle.book.proofs.lsas.LsasIterator.next.Goals as goal

pub returns-then-self-eq0-clause-steps : goal.returns-then-self-eq0-clause-steps
returns-then-self-eq0-clause-steps c =
    let s = c.args.self.now in
    let e = zero_left s.version s.body.now s.count s.place c.if-self-eq0.true in
    (e, e)

pub returns-in_err-row-clause-steps : goal.returns-in_err-row-clause-steps
returns-in_err-row-clause-steps c =
    let s = c.args.self.now in
    let e = none_left s.version s.body.now s.count s.place c.in_err-row.ensures in
    rw c.from_residual.ensures (e, e)

pub overflow_add-self : goal.overflow_add-self
overflow_add-self c =
    let s = c.args.self.now in
    let i = (lsa_inside s.body.now s.place c.in_ok-row.length c.in_ok-row.ensures.0).within in
    search rules

pub invariant_of-self : goal.invariant_of-self
invariant_of-self c =
    let s = c.args.self.now in
    record { known = s.known; within = (lsa_inside s.body.now s.place c.in_ok-row.length c.in_ok-row.ensures.0).within }

pub returns-clause-steps : goal.returns-clause-steps
returns-clause-steps c =
    let s = c.args.self.now in
    let h : 0 < s.count = omega (arith, c.if-self-eq0.false) in
    rw c.in_ok-row.ensures.1 (first_left s.version s.body.now s.count s.place c.in_ok-row.length h c.in_ok-row.ensures.0)

pub returns-clause-goes : goal.returns-clause-goes
returns-clause-goes c =
    let s = c.args.self.now in
    let h : 0 < s.count = omega (arith, c.if-self-eq0.false) in
    let t = first_left s.version s.body.now s.count s.place c.in_ok-row.length h c.in_ok-row.ensures.0 in
    search rules
