use Rattle.std.proofs.Common.{rules, lt-ltb, le-ltb, sym, ◌∙◌, arith}
use Rattle.book.proofs.Turns.{left_most}
use Rattle.book.proofs.CountsNew.{none_yet, before_end, used_before, met_before, new_here, none_more, at_least}
use Rattle.book.proofs.identities.more_new_than.Goals.{then-not-is_used+then-not-is_met+else-new-most, else-not-is_used, else-not-is_used-via-then-not-is_used+else-not-is_met, else-not-is_used-via-else-not-is_used}
use Rattle.book.proofs.identities.more_new_than.Goals as goal

pub loop-lsa-init : goal.loop-lsa-init
loop-lsa-init c = (rw c.into_iter-lsa-iterator.ensures.into_iter_gives (none_yet _ _), omega arith)

pub first-requires : goal.first-requires
first-requires c =
    let a = rw c.in-Some.ensures.steps at c.loop-lsa.invariant.0 in
    omega (arith, before_end _ _ _ _ _ _ a, left_most c.args.lsas)

pub returns-then-new-most : goal.returns-then-new-most
returns-then-new-most c =
    let a = rw c.in-Some.ensures.steps at c.loop-lsa.invariant.0 in
    let n = at_least _ _ _ _ _ (new_here _ _ _ _ _ _ a _ c.first.ensures (sym c.is_used.ensures ∙ c.if-not-is_used.true) (sym c.is_met.ensures ∙ c.if-not-is_met.true)) in
    sym (lt-ltb _ _ (omega (arith, n, c.if-new-most.true)))

pub overflow_add-earlier : goal.overflow_add-earlier
overflow_add-earlier c =
    let h = before_end _ _ _ _ _ _ (rw c.in-Some.ensures.steps at c.loop-lsa.invariant.0) in
    let m = left_most c.args.lsas in
    search rules

pub loop-lsa-preserved : goal.loop-lsa-preserved
loop-lsa-preserved c =
    let a = rw c.in-Some.ensures.steps at c.loop-lsa.invariant.0 in
    let m = c.loop-lsa.invariant.1 in
    elim c.if-not-is_used.branch [
      | then-not-is_used+then-not-is_met+else-new-most w ↦
          rw w.new-is (
            new_here _ _ _ _ _ _ a _ w.first.ensures (sym c.is_used.ensures ∙ w.if-not-is_used.true) (sym w.is_met.ensures ∙ w.if-not-is_met.true),
            omega (arith, m, w.if-new-most.false),
          )
      | else-not-is_used w ↦
          elim w.else-not-is_used.branch [
            | else-not-is_used-via-then-not-is_used+else-not-is_met x ↦ rw w.new-is (met_before _ _ _ _ _ _ a _ x.first.ensures (sym x.is_met.ensures ∙ x.if-not-is_met.false), m)
            | else-not-is_used-via-else-not-is_used x ↦ rw w.new-is (used_before _ _ _ _ _ _ a (sym c.is_used.ensures ∙ x.if-not-is_used.false), m)
          ]
    ]

pub returns : goal.returns
returns c =
    let i = c.loop-lsa.invariant in
    let n = none_more _ _ _ _ (rw c.in-None.ensures.steps.0 at i.0) in
    sym (le-ltb _ _ (omega (arith, n, i.1)))
