use native.Mathlib.Omega.{arith}
use Rattle.std.proofs.Common.{rules}
use Rattle.std.proofs.lemmas.Result.{err_from_is_err_and}
use Rattle.format.proofs.Trailer.{within}
use Rattle.util.proofs.Laws.{some_of, none_of}
use Rattle.trailer.proofs.Ends.{refuses, none_there, has_no_room, is_written}
use Rattle.trailer.proofs.push_block.Goals as goal

pub returns-in_err-check_limits : goal.returns-in_err-check_limits
returns-in_err-check_limits g c =
    let p = err_from_is_err_and c.from_residual.result c.from_residual.ensures.1 in
    let e = c.in_err-check_limits.ensures in
    rw (p.1, p.2) (refuses _ _ _ _ _ e.number e.needs_nothing)

pub returns-in_default : goal.returns-in_default
returns-in_default g c = none_there _ _ _ _ c.in_ok-check_limits.ensures.number (none_of _ _ c.len.ensures c.in_default.is)

pub returns-in_err-check_room : goal.returns-in_err-check_room
returns-in_err-check_room g c =
    let p = err_from_is_err_and c.from_residual-in_err-check_room.result c.from_residual-in_err-check_room.ensures.1 in
    let e = rw c.STRIP.ensures at c.in_err-check_room.ensures.err in
    let m = g.met.T.Trailing in
    rw (p.1, p.2, e.0) (has_no_room _ _ _ _ c.in_ok-check_limits.ensures.number (some_of _ _ _ c.len.ensures c.in-Some.is) (m.strip_length _ _ _) m.strip_fits e.1)

pub returns : goal.returns
returns g c =
    let a = c.args in
    let m = g.met.T.Trailing in
    let z = c.in_ok-check_limits.ensures.number in
    let k = (within a.data.now a.offset (omega (arith, z))).0 in
    let e = some_of _ _ _ c.len.ensures c.in-Some.is in
    let i = (m.stands _ _ e).1 in
    let r = rw c.STRIP.ensures at c.in_ok-check_room.ensures.ok in
    rw c.STRIP-2.ensures (is_written _ _ _ _ z e (m.strip_length _ _ _) m.strip_fits (omega (arith, i, k)) r (search rules))
