use native.Mathlib.Omega.{arith}
use mathlib.Core.Path.{sym}
use Rattle.std.proofs.Common.{rules}
use Rattle.std.proofs.lemmas.Result.{err_from_is_err_and}
use Rattle.format.specs.Walks.{lsa_of}
use Rattle.format.proofs.Refusals.{limits}
use Rattle.walk_answer.proofs.Ends.{ends_refused, goes_on, ends_full, ends_done}
use Rattle.walk_lsa.proofs.push_lsa.Goals as goal

pub returns-in_err-check_call : goal.returns-in_err-check_call
unfolding lsa_of
returns-in_err-check_call c =
    let p = err_from_is_err_and c.from_residual.result c.from_residual.ensures.1 in
    rw (p.1, p.2) (ends_refused _ _ _ _ c.in_err-check_call.ensures.number c.in_err-check_call.ensures.needs_nothing)

pub returns-in_err-check_room : goal.returns-in_err-check_room
unfolding lsa_of
returns-in_err-check_room c =
    let a = c.args in
    let n = sym c.in_ok-check_call.ensures.number in
    let k = limits a.version a.data.now a.offset 20 n in
    let p = err_from_is_err_and c.from_residual-in_err-check_room.result c.from_residual-in_err-check_room.ensures.1 in
    let e = c.in_err-check_room.ensures.err in
    let m = rw (c.new-lsa.ensures, c.new.ensures.0) at c.measure_lsa-measured.ensures in
    rw (p.1, p.2, e.0) (goes_on _ _ n (ends_full _ _ _ _ (m.by_index a.offset) (omega (arith, m.upper_bound, k.data_fits)) e.1))

pub returns : goal.returns
unfolding lsa_of
returns c =
    let a = c.args in
    let n = sym c.in_ok-check_call.ensures.number in
    let k = limits a.version a.data.now a.offset 20 n in
    let m = rw (c.new-lsa.ensures, c.new.ensures.0) at c.measure_lsa-measured.ensures in
    rw m.tail_value (goes_on _ _ n (ends_done _ _ _ _ (m.by_index a.offset) (omega (arith, m.upper_bound, k.data_fits)) c.in_ok-check_room.ensures.ok (search rules)))
