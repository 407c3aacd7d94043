use native.Mathlib.Omega.{arith}
use Rattle.format.specs.Cut.{cut}
use Rattle.format.proofs.Lists.{length-listing}
use Rattle.format.proofs.Loop.{spread}
use Rattle.body.proofs.list.measure_list.Goals as goal

pub returns-clause-by_index : goal.returns-clause-by_index
unfolding spread
returns-clause-by_index g c id o = omega (arith, c.measure_records-list.ensures.by_index o, length-listing id (g.R.Record.entries c.args.body.bytes.now o) o c.args.first (cut g.R.Record.rule c.args.body.bytes.now c.args.count c.args.first))
