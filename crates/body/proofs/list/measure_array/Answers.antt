use native.Mathlib.Omega.{arith}
use mathlib.Core.Path.{sym}
use Rattle.format.specs.Cut.{cut, fixed_rule}
use Rattle.format.proofs.Lists.{fixed_cut, length-listing}
use Rattle.format.proofs.Loop.{spread}
use Rattle.body.proofs.list.measure_array.Goals as goal

pub returns-clause-by_index : goal.returns-clause-by_index
unfolding spread
returns-clause-by_index g c id o = omega (arith, c.measure_items.ensures.by_index o, length-listing id (g.I.Item.entries c.args.body.bytes.now o) o c.args.first (cut (fixed_rule g.I.Item.SIZE) c.args.body.bytes.now c.args.count c.args.first))

pub returns-clause-end_value : goal.returns-clause-end_value
returns-clause-end_value g c = rw c.SIZE.ensures (sym (fixed_cut _ _ _ _ c.requires).1)
