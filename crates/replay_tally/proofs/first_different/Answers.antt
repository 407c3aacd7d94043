use Rattle.std.proofs.Common.{length, arith}
use Rattle.std.proofs.lemmas.List.{length_push}
use Rattle.replay_tally.proofs.Turns.{Calling, calling_turn, calling_end, agreeing_begin, agreeing_turn, agreeing_differs, agreeing_end}
use Rattle.replay_tally.proofs.first_different.Goals as goal
use Rattle.replay_tally.proofs.first_different.Goals.{In-Some}

pub loop-call-init : goal.loop-call-init
loop-call-init c = agreeing_begin _ _ _

here : (c : In-Some) → Calling (length c.args.strip.now) c.args.file.now (length c.loop-call.yielded) c.in-Some.call.file.now c.in-Some.call.at
here c = calling_turn _ _ c.into_iter-call-iterator.ensures.into_iter_gives c.new-call-items.ensures _ _ c.next.new.self c.loop-call.yielded_by c.in-Some.is c.next.ensures.steps

pub agrees-requires : goal.agrees-requires
agrees-requires c = omega (arith, (here (goal.at.agrees-requires c).In-Some).roomy)

pub overflow_add-agreed : goal.overflow_add-agreed
overflow_add-agreed c = omega (arith, c.loop-call.invariant.index, (here (goal.at.overflow_add-agreed c).In-Some).below)

pub loop-call-preserved : goal.loop-call-preserved
loop-call-preserved c =
    let k = c.agrees.ensures in
    rw length_push (agreeing_turn c.loop-call.invariant (here (goal.at.loop-call-preserved c).In-Some) k.value k.strip_after c.if-not-agrees.false)

pub returns-then-not-agrees : goal.returns-then-not-agrees
returns-then-not-agrees c =
    let k = c.agrees.ensures in
    let d = agreeing_differs c.loop-call.invariant (here (goal.at.returns-then-not-agrees c).In-Some) k.value k.strip_after c.if-not-agrees.true in
    record { value = d.0; strip_after = d.1 }

pub returns : goal.returns
returns c =
    let e = calling_end _ _ c.into_iter-call-iterator.ensures.into_iter_gives c.new-call-items.ensures _ _ c.next.new.self c.loop-call.yielded_by c.in-None.is c.next.ensures.steps in
    let d = agreeing_end c.loop-call.invariant e in
    record { value = d.0; strip_after = d.1 }
