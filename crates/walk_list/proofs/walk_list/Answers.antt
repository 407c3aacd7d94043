use Prim.Native.Nat.{◌-◌}
use native.Mathlib.Omega.{arith}
use mathlib.Core.Path.{◌≡◌, refl}
use lib.ListN.{length}
use Rattle.std.proofs.Common.{rules}
use Rattle.std.proofs.lemmas.Result.{err_from_is_err_and}
use Rattle.format.specs.Cut.{cut, after}
use Rattle.format.specs.Walks.{unparsed_id}
use Rattle.walk_answer.proofs.Ends.{ends_full, ends_done}
use Rattle.walk_list.specs.Object.{object}
use Rattle.walk_list.proofs.Outer.{outer_measured}
use Rattle.walk_list.proofs.walk_list.Goals as goal

pub returns-in_err-check_room : goal.returns-in_err-check_room
returns-in_err-check_room g c =
    let a = c.args in
    let d = a.data.bytes.now in
    let o = a.data.offset in
    let p = err_from_is_err_and c.from_residual.result c.from_residual.ensures.1 in
    let m = c.measure_list-list.ensures in
    let u = c.measure_unparsed.ensures in
    let e = c.in_err-check_room.ensures.err in
    let l = outer_measured a.version (object g.O.Object.ID g.O.Object.inside d o) d o a.first (cut g.O.Object.rule d a.count a.first) (m.by_index 114 o) m.end_value (u.by_index (unparsed_id a.version) o) in
    rw (p.1, p.2, e.0) (ends_full _ _ _ _ l (omega (arith, m.length_bound, u.upper_bound)) e.1)

pub push_outer-requires-clause-room : goal.push_outer-requires-clause-room
push_outer-requires-clause-room g c =
    let a = c.args in
    let d = a.data.bytes.now in
    let o = a.data.offset in
    let m = c.measure_list-list.ensures in
    let l = outer_measured a.version (object g.O.Object.ID g.O.Object.inside d o) d o a.first (cut g.O.Object.rule d a.count a.first) (m.by_index 114 o) m.end_value (c.measure_unparsed.ensures.by_index (unparsed_id a.version) o) in
    rw (c.new.ensures.contents, c.new.ensures.place) (omega (arith, l, c.in_ok-check_room.ensures.ok))

pub returns : goal.returns
returns g c =
    let a = c.args in
    let d = a.data.bytes.now in
    let o = a.data.offset in
    let m = c.measure_list-list.ensures in
    let u = c.measure_unparsed.ensures in
    let l = outer_measured a.version (object g.O.Object.ID g.O.Object.inside d o) d o a.first (cut g.O.Object.rule d a.count a.first) (m.by_index 114 o) m.end_value (u.by_index (unparsed_id a.version) o) in
    let t : c.len.result - c.measure_list-list.result.end ≡ length d - after a.first (cut g.O.Object.rule d a.count a.first) = rw (c.len.ensures, m.end_value) refl in
    rw (m.count_value, t) (ends_done _ _ _ _ l (omega (arith, m.length_bound, u.upper_bound)) c.in_ok-check_room.ensures.ok (search rules))
