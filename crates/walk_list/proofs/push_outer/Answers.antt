use native.Mathlib.Omega.{arith}
use mathlib.Core.Path.{refl}
use Rattle.format.specs.Cut.{cut}
use Rattle.walk_list.proofs.Outer.{outer_measured, outer_writes}
use Rattle.walk_list.proofs.push_outer.Goals as goal

pub push_list-end-requires-clause-room : goal.push_list-end-requires-clause-room
push_list-end-requires-clause-room g c =
    let a = c.args in
    let d = a.data.bytes.now in
    let o = a.data.offset in
    omega (arith, outer_measured a.version (g.R.Record.entries d o) d o a.first (cut g.R.Record.rule d a.count a.first) refl refl refl)

pub push_unparsed-requires : goal.push_unparsed-requires
push_unparsed-requires g c =
    let a = c.args in
    let d = a.data.bytes.now in
    let o = a.data.offset in
    let e = c.push_list-end.ensures in
    let l = outer_measured a.version (g.R.Record.entries d o) d o a.first (cut g.R.Record.rule d a.count a.first) refl refl refl in
    rw (c.unparsed_id.ensures, e.end_value) (omega (arith, l, e.wrote.place, e.wrote.same_length))

pub returns : goal.returns
returns g c =
    let a = c.args in
    let d = a.data.bytes.now in
    let o = a.data.offset in
    let b = rw (c.unparsed_id.ensures, c.push_list-end.ensures.end_value) at c.push_unparsed.ensures in
    outer_writes a.version (g.R.Record.entries d o) d o a.first (cut g.R.Record.rule d a.count a.first) c.push_list-end.ensures.wrote b.wrote
