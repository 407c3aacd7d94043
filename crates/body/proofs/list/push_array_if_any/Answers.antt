use native.Mathlib.Omega.{arith}
use mathlib.Core.Path.{◌≡◌, refl}
use Rattle.format.specs.Cut.{cut, after}
use Rattle.format.specs.Strip.{encode}
use Rattle.strip_put.proofs.Laws.{nothing}
use Rattle.body.proofs.Loops.{not_opened, opened}
use Rattle.body.proofs.list.push_array_if_any.Goals as goal

pub returns-then-count-eq0-clause-wrote : goal.returns-then-count-eq0-clause-wrote
unfolding encode
returns-then-count-eq0-clause-wrote g c =
    let e : c.args.count ≡ 0 = c.if-count-eq0.true in
    let b = c.args.body in
    rw (not_opened c.args.id g.I.Item.SIZE (g.I.Item.entries b.bytes.now b.offset) b.bytes.now b.offset c.args.first c.args.count e) (nothing _)

pub returns-then-count-eq0-clause-end_value : goal.returns-then-count-eq0-clause-end_value
unfolding cut after
returns-then-count-eq0-clause-end_value g c =
    let e : c.args.count ≡ 0 = c.if-count-eq0.true in
    rw e refl

pub push_array-requires-clause-room : goal.push_array-requires-clause-room
push_array-requires-clause-room g c =
    let b = c.args.body in
    rw (opened c.args.id g.I.Item.SIZE (g.I.Item.entries b.bytes.now b.offset) b.bytes.now b.offset c.args.first c.args.count (omega arith) c.requires.in_bounds) at c.requires.room

pub returns-clause-wrote : goal.returns-clause-wrote
returns-clause-wrote g c =
    let b = c.args.body in
    rw (opened c.args.id g.I.Item.SIZE (g.I.Item.entries b.bytes.now b.offset) b.bytes.now b.offset c.args.first c.args.count (omega arith) c.requires.in_bounds) c.push_array.ensures.wrote
