use native.Mathlib.Omega.{arith}
use mathlib.Core.Path.{◌≡◌, refl}
use Rattle.format.specs.Cut.{cut, after}
use Rattle.format.specs.Strip.{encode}
use Rattle.body.proofs.Loops.{not_opened, opened}
use Rattle.body.proofs.list.measure_array_if_any.Goals as goal

pub returns-then-count-eq0-clause-by_index : goal.returns-then-count-eq0-clause-by_index
unfolding encode
returns-then-count-eq0-clause-by_index g c id o =
    let e : c.args.count ≡ 0 = c.if-count-eq0.true in
    rw (not_opened id g.I.Item.SIZE (g.I.Item.entries c.args.body.bytes.now o) c.args.body.bytes.now o c.args.first c.args.count e) refl

pub returns-then-count-eq0-clause-end_value : goal.returns-then-count-eq0-clause-end_value
unfolding cut after
returns-then-count-eq0-clause-end_value g c =
    let e : c.args.count ≡ 0 = c.if-count-eq0.true in
    rw e refl

pub returns-clause-by_index : goal.returns-clause-by_index
returns-clause-by_index g c id o =
    rw (opened id g.I.Item.SIZE (g.I.Item.entries c.args.body.bytes.now o) c.args.body.bytes.now o c.args.first c.args.count (omega arith) c.requires) (c.measure_array.ensures.by_index id o)
