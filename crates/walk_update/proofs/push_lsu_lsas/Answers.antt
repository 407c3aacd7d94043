use mathlib.Core.Path.{◌≡◌, sym}
use Rattle.std.proofs.lemmas.Result.{err_from_is_err_and}
use Rattle.format.specs.Walks.{update_of, lsa_object}
use Rattle.walk_list.specs.Object.{object}
use Rattle.walk_answer.proofs.Ends.{ends_refused, goes_on, version_3}
use Rattle.walk_update.proofs.push_lsu_lsas.Goals as goal

pub returns-in_err-check_call : goal.returns-in_err-check_call
unfolding update_of
returns-in_err-check_call c =
    let p = err_from_is_err_and c.from_residual.result c.from_residual.ensures.1 in
    rw (p.1, p.2) (ends_refused _ _ _ _ c.in_err-check_call.ensures.number c.in_err-check_call.ensures.needs_nothing)

pub returns-then-version-eq2 : goal.returns-then-version-eq2
unfolding update_of lsa_object object
returns-then-version-eq2 c =
    let v : c.args.version ≡ 2 = c.if-version-eq2.true in
    let w = rw (c.new-data.ensures.0, c.new-data.ensures.1) at c.walk_list.ensures in
    goes_on _ _ (sym c.in_ok-check_call.ensures.number) (rw v w)

pub returns-else-version-eq2 : goal.returns-else-version-eq2
unfolding update_of lsa_object object
returns-else-version-eq2 c =
    let v : c.args.version ≡ 3 = version_3 c.args.version c.args.data.now c.args.offset 4 (sym c.in_ok-check_call.ensures.number) c.if-version-eq2.false in
    let w = rw (c.new-data.ensures.0, c.new-data.ensures.1) at c.walk_list-else-version-eq2.ensures in
    goes_on _ _ (sym c.in_ok-check_call.ensures.number) (rw v w)
