use Rattle.std.proofs.Common.{rules, length, ap, refl, arith}
use Rattle.format.specs.Book.{take_all}
use Rattle.book.specs.declared.take.Change.TheVariants.{Left, Replaced, Added}
use Rattle.book.proofs.Turns.{left_most, one_taken}
use Rattle.book.proofs.take_all.take_all.Goals as goal

pub loop-row-init : goal.loop-row-init
loop-row-init c = rw c.into_iter-row-iterator.ensures.into_iter_gives (refl, omega arith)

pub loop-row-preserved-in-Left : goal.loop-row-preserved-in-Left
loop-row-preserved-in-Left c =
    one_taken Left _ _ _ _ _ _ _ _ c.in-Left.ensures (rw c.in-Some.ensures.steps at c.loop-row.invariant)

pub loop-row-preserved-in-Replaced : goal.loop-row-preserved-in-Replaced
loop-row-preserved-in-Replaced c =
    one_taken Replaced _ _ _ _ _ _ _ _ c.in-Replaced.ensures (rw c.in-Some.ensures.steps at c.loop-row.invariant)

pub loop-row-preserved : goal.loop-row-preserved
loop-row-preserved c =
    one_taken Added _ _ _ _ _ _ _ _ c.in-Added.ensures (rw c.in-Some.ensures.steps at c.loop-row.invariant)

pub overflow_add-counts : goal.overflow_add-counts
overflow_add-counts c =
    let i = c.loop-row.invariant.1 in
    let n = ap length c.in-Some.ensures.steps in
    let m = left_most c.args.lsas in
    search rules

pub overflow_add-counts-in-Added : goal.overflow_add-counts-in-Added
overflow_add-counts-in-Added c =
    let i = c.loop-row.invariant.1 in
    let n = ap length c.in-Some.ensures.steps in
    let m = left_most c.args.lsas in
    search rules

pub returns : goal.returns
unfolding take_all
returns c =
    let i = c.loop-row.invariant in
    let s = c.in-None.ensures.steps.0 in
    record { value = rw s at i.0; most = omega (arith, i.1, ap length s) }
