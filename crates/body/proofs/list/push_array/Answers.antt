use native.Mathlib.Omega.{arith}
use mathlib.Core.Path.{sym}
use Rattle.format.specs.Strip.{code}
use Rattle.format.specs.Cut.{cut, fixed_rule}
use Rattle.format.proofs.Lists.{fixed_cut, length-listing}
use Rattle.format.proofs.Loop.{spread}
use Rattle.body.proofs.Loops.{listed}
use Rattle.body.proofs.list.push_array.Goals as goal

pub begin_container-requires : goal.begin_container-requires
unfolding spread
begin_container-requires g c = omega (arith, length-listing c.args.id (g.I.Item.entries c.args.body.bytes.now c.args.body.offset) c.args.body.offset c.args.first (cut (fixed_rule g.I.Item.SIZE) c.args.body.bytes.now c.args.count c.args.first))

pub push_items-requires-clause-room : goal.push_items-requires-clause-room
unfolding spread code
push_items-requires-clause-room g c = omega (arith, length-listing c.args.id (g.I.Item.entries c.args.body.bytes.now c.args.body.offset) c.args.body.offset c.args.first (cut (fixed_rule g.I.Item.SIZE) c.args.body.bytes.now c.args.count c.args.first))

pub end_container-requires : goal.end_container-requires
unfolding spread code
end_container-requires g c = omega (arith, length-listing c.args.id (g.I.Item.entries c.args.body.bytes.now c.args.body.offset) c.args.body.offset c.args.first (cut (fixed_rule g.I.Item.SIZE) c.args.body.bytes.now c.args.count c.args.first))

pub returns-clause-wrote : goal.returns-clause-wrote
unfolding spread
returns-clause-wrote g c =
    let b = c.args.body in
    let e = rw c.SIZE.ensures at c.range.ensures in
    let q = fixed_cut g.I.Item.SIZE b.bytes.now c.args.count c.args.first c.requires.in_bounds in
    let h = rw e.0 at c.begin_container.ensures in
    listed c.args.id (g.I.Item.entries b.bytes.now b.offset) b.offset c.args.first (cut (fixed_rule g.I.Item.SIZE) c.args.body.bytes.now c.args.count c.args.first) (g.met.I.Item.one b.bytes.now b.offset) (sym q.0) (omega (arith, e.1, q.1)) h c.push_items.ensures c.end_container.ensures

pub returns-clause-end_value : goal.returns-clause-end_value
returns-clause-end_value g c = rw c.SIZE.ensures (sym (fixed_cut _ _ _ _ c.requires.in_bounds).1)
