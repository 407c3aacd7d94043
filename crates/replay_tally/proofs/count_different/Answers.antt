use Rattle.std.proofs.Common.{length, arith}
use Rattle.std.proofs.lemmas.List.{length_push}
use Rattle.replay_tally.specs.Calls.{calls, differs}
use Rattle.replay_tally.proofs.Turns.{Calling, calling_turn, calling_end, calls_most, count_most, counting_begin, counting_yes, counting_no, counting_end}
use Rattle.replay_tally.proofs.count_different.Goals as goal
use Rattle.replay_tally.proofs.count_different.Goals.{In-Some}

pub loop-call-init : goal.loop-call-init
loop-call-init c = counting_begin _ _ _

here : (c : In-Some) → Calling (length c.args.strip.now) c.args.file.now (length c.loop-call.yielded) c.in-Some.call.file.now c.in-Some.call.at
here c = calling_turn _ _ c.into_iter-call-iterator.ensures.into_iter_gives c.new-call-items.ensures _ _ c.next.new.self c.loop-call.yielded_by c.in-Some.is c.next.ensures.steps

pub agrees-requires : goal.agrees-requires
agrees-requires c = let t = here (goal.at.agrees-requires c).In-Some in omega (arith, t.roomy)

pub overflow_add-different : goal.overflow_add-different
overflow_add-different c =
    let b = c.args.file.now in
    let most = length c.args.strip.now in
    let k = c.agrees.ensures in
    let g = counting_yes c.loop-call.invariant (here (goal.at.overflow_add-different c).In-Some) k.value k.strip_after c.if-not-agrees.true in
    omega (arith, g.count, count_most (differs b) (calls most b), calls_most most b)

pub loop-call-preserved : goal.loop-call-preserved
loop-call-preserved c =
    let k = c.agrees.ensures in
    rw length_push (counting_no c.loop-call.invariant (here (goal.at.loop-call-preserved c).In-Some) k.value k.strip_after c.if-not-agrees.false)

pub loop-call-preserved-then-not-agrees : goal.loop-call-preserved-then-not-agrees
loop-call-preserved-then-not-agrees c =
    let k = c.agrees.ensures in
    rw length_push (counting_yes c.loop-call.invariant (here (goal.at.loop-call-preserved-then-not-agrees c).In-Some) k.value k.strip_after c.if-not-agrees.true)

pub returns : goal.returns
returns c =
    let e = calling_end _ _ c.into_iter-call-iterator.ensures.into_iter_gives c.new-call-items.ensures _ _ c.next.new.self c.loop-call.yielded_by c.in-None.is c.next.ensures.steps in
    let d = counting_end c.loop-call.invariant e in
    record { value = d.0; strip_after = d.1 }
