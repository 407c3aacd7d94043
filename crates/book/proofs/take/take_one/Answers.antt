use Rattle.std.proofs.Common.{sym, ◌∙◌}
use Rattle.book.proofs.Takes.{takes_left, takes_replaced, takes_added, takes_none}
use Rattle.book.proofs.take.take_one.Goals as goal

pub returns-then-not-is_newer : goal.returns-then-not-is_newer
returns-then-not-is_newer c =
    takes_left c.args.row c.args.rows.now c.in-Some.i (sym c.in-Some.is ∙ c.place_of.ensures.value) c.in-Some.ensures.within _ (sym c.is_newer.ensures ∙ c.if-not-is_newer.true)

pub returns-in-Some : goal.returns-in-Some
returns-in-Some c =
    takes_replaced c.args.row c.args.rows.now c.in-Some.i (sym c.in-Some.is ∙ c.place_of.ensures.value) c.in-Some.ensures.within _ (sym c.is_newer.ensures ∙ c.if-not-is_newer.false)

pub returns-in-Some-free_place : goal.returns-in-Some-free_place
returns-in-Some-free_place c =
    takes_added c.args.row c.args.rows.now (sym c.in_default.is ∙ c.place_of.ensures.value) c.in-Some-free_place.i (sym c.in-Some-free_place.is ∙ c.free_place.ensures.value)

pub returns-in-None : goal.returns-in-None
returns-in-None c =
    takes_none c.args.row c.args.rows.now (sym c.in_default.is ∙ c.place_of.ensures.value) (sym c.in-None.is ∙ c.free_place.ensures.value)
