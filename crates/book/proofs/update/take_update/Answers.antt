use Rattle.std.proofs.lemmas.Result.{err_from_is_err_and}
use Rattle.book.proofs.Ends.{walk_refuses, rows_refuse, takes}
use Rattle.book.proofs.update.take_update.Goals as goal

pub returns-in_err-check_call : goal.returns-in_err-check_call
returns-in_err-check_call c =
    let p = err_from_is_err_and c.from_residual.result c.from_residual.ensures.1 in
    rw (p.1, p.2) (walk_refuses _ _ _ _ _ _ c.in_err-check_call.ensures.number)

pub returns-in_err-check_rows : goal.returns-in_err-check_rows
returns-in_err-check_rows c =
    let p = err_from_is_err_and c.from_residual-in_err-check_rows.result c.from_residual-in_err-check_rows.ensures.1 in
    rw (p.1, p.2) (rows_refuse _ _ _ _ _ c.in_ok-check_call.ensures.number _ (rw c.new-lsas.ensures at c.in_err-check_rows.ensures))

pub returns : goal.returns
returns c =
    let l = c.new-lsas.ensures in
    takes _ _ _ _ _ c.in_ok-check_call.ensures.number _ _ (rw l at c.in_ok-check_rows.ensures) (rw l at c.take_all.ensures.value) (rw l at c.take_all.ensures.most)
