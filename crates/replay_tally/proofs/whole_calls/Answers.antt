use Rattle.std.proofs.Common.{◌∙◌, length, arith, refl, ap}
use lib.Seq.{take_all}
use Rattle.std.proofs.lemmas.List.{length_push}
use Rattle.format.specs.Cut.{after}
use Rattle.replay_tally.specs.Calls.{calls}
use Rattle.replay_tally.proofs.Turns.{Calling, calling_turn, calling_end}
use Rattle.replay_tally.proofs.whole_calls.Goals as goal
use Rattle.replay_tally.proofs.whole_calls.Goals.{In-Some}

pub loop-call-init : goal.loop-call-init
unfolding after
loop-call-init c = (refl, refl)

here : (c : In-Some) → Calling c.args.most c.args.file.now (length c.loop-call.yielded) c.in-Some.call.file.now c.in-Some.call.at
here c = calling_turn _ _ c.into_iter-call-iterator.ensures.into_iter_gives c.new-call-items.ensures _ _ c.next.new.self c.loop-call.yielded_by c.in-Some.is c.next.ensures.steps

pub overflow_add-whole : goal.overflow_add-whole
overflow_add-whole c = omega (arith, (here (goal.at.overflow_add-whole c).In-Some).below)

pub loop-call-preserved : goal.loop-call-preserved
loop-call-preserved c =
    let t = here (goal.at.loop-call-preserved c).In-Some in
    rw (length_push, c.end.ensures, t.same_file, t.end) (omega arith, refl)

pub returns : goal.returns
returns c =
    let e = calling_end _ _ c.into_iter-call-iterator.ensures.into_iter_gives c.new-call-items.ensures _ _ c.next.new.self c.loop-call.yielded_by c.in-None.is c.next.ensures.steps in
    let i = c.loop-call.invariant in
    let all = calls c.args.most c.args.file.now in
    record { calls_value = i.0 ∙ e; end_value = i.1 ∙ rw e (ap (after 0) (take_all (length all) all (omega arith))) }
