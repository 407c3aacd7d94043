use Rattle.std.proofs.Common.{rules, length, refl, sym, ap, ◌∙◌, arith}
use Rattle.format.specs.Book.{any}
use Rattle.book.proofs.Turns.{left_most}
use Rattle.book.proofs.ages.count_lsas.Goals as goal

pub loop-lsa-init : goal.loop-lsa-init
loop-lsa-init c = rw c.into_iter-lsa-iterator.ensures.into_iter_gives (refl, omega arith)

pub returns-then-is_old : goal.returns-then-is_old
unfolding any
returns-then-is_old c = sym c.loop-lsa.invariant.0 ∙ rw (c.in-Some.ensures.steps, sym c.is_old.ensures, c.if-is_old.true) refl

pub overflow_add-count : goal.overflow_add-count
overflow_add-count c =
    let z = c.loop-lsa.invariant.1 in
    let n = ap length c.in-Some.ensures.steps in
    let m = left_most c.args.lsas in
    search rules

pub loop-lsa-preserved : goal.loop-lsa-preserved
unfolding any
loop-lsa-preserved c =
    let i = c.loop-lsa.invariant in
    (rw (c.in-Some.ensures.steps, sym c.is_old.ensures, c.if-is_old.false) at i.0, omega (arith, i.1, ap length c.in-Some.ensures.steps))

pub returns : goal.returns
unfolding any
returns c =
    let i = c.loop-lsa.invariant in
    let s = c.in-None.ensures.steps.0 in
    (sym (rw s at i.0), omega (arith, i.1, ap length s))
