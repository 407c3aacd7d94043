use Rattle.std.proofs.Common.{rules}
use mathlib.Core.Path.{refl}
use Rattle.std.proofs.lemmas.Result.{err_from_is_err_and}
use Rattle.format.specs.Walks.{named_of, answer_of, strip_of}
use Rattle.walk.proofs.walk_by_number.Goals as goal

pub returns-in_err-try_from : goal.returns-in_err-try_from
unfolding named_of answer_of strip_of
returns-in_err-try_from c =
    let p = err_from_is_err_and c.from_residual.result c.from_residual.ensures.1 in
    let e = c.in_err-try_from.ensures in
    rw (p.1, p.2, e.0, named_of, e.1) (record { value = refl; strip_after = refl; length_bound = search rules })

pub returns : goal.returns
unfolding named_of
returns c = rw (named_of, c.in_ok-try_from.ensures) c.walk.ensures
