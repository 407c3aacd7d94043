use Rattle.std.proofs.Common.{◌≡◌, length, map, refl, sym, ap, ◌∙◌, arith}
use Rattle.std.proofs.lemmas.List.{length-map}
use Rattle.format.proofs.Book.{failed}
use Rattle.format.proofs.Decided.{equal}
use Rattle.book.specs.Rows.{meaning}
use Rattle.book.specs.Filter.{is_set}
use Rattle.book.proofs.Twice.{met_none, met_all, twice_at, next_free, next_unset, next_alone}
use Rattle.book.proofs.identities.any_twice.Goals.{else-not-is_free-via-then-not-is_free+then-set_bit+else-is_used, else-not-is_free-via-then-not-is_free+else-set_bit, else-not-is_free-via-else-not-is_free}
use Rattle.book.proofs.identities.any_twice.Goals as goal

pub loop-i-init : goal.loop-i-init
loop-i-init c = (refl, met_none _ _)

pub returns-then-is_used : goal.returns-then-is_used
returns-then-is_used c =
    sym (twice_at c.args.rows.now c.loop-i.i _ c.loop-i-test.true (failed (equal _ 0) (sym c.is_free.ensures ∙ c.if-not-is_free.true)) (sym c.is_used.ensures ∙ c.if-is_used.true))

pub loop-i-preserved : goal.loop-i-preserved
loop-i-preserved c =
    let m = c.loop-i.invariant.1 in
    elim c.else-not-is_free.branch [
      | else-not-is_free-via-then-not-is_free+then-set_bit+else-is_used w ↦
          rw w.words-is (w.set_bit.array_long, next_alone c.args.rows.now c.loop-i.i _ c.loop-i-test.true c.loop-i.words m w.set_bit.new.words w.set_bit.ensures.kept (ap (is_set w.set_bit.new.words) (sym w.bit.ensures.value) ∙ w.set_bit.ensures.now) (sym w.is_used.ensures ∙ w.if-is_used.false))
      | else-not-is_free-via-then-not-is_free+else-set_bit w ↦
          rw w.words-is (w.set_bit.array_long, next_unset c.args.rows.now c.loop-i.i _ c.loop-i-test.true c.loop-i.words m w.set_bit.new.words w.set_bit.ensures.kept (ap (is_set w.set_bit.new.words) (sym w.bit.ensures.value) ∙ w.set_bit.ensures.now) (ap (is_set c.loop-i.words) (sym w.bit.ensures.value) ∙ sym w.set_bit.ensures.before ∙ w.if-set_bit.false))
      | else-not-is_free-via-else-not-is_free w ↦ rw w.words-is (c.loop-i.invariant.0, next_free c.args.rows.now c.loop-i.i _ c.loop-i-test.true c.loop-i.words m (sym c.is_free.ensures ∙ w.if-not-is_free.false))
    ]

pub returns : goal.returns
returns c =
    let z : c.loop-i.i ≡ length (map meaning c.args.rows.now) = omega (arith, c.loop-i-test.false, c.loop-i.auto.i-end, length-map c.args.rows.now meaning) in
    sym (met_all c.loop-i.words (map meaning c.args.rows.now) (rw z at c.loop-i.invariant.1))
