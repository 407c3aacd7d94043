use native.Mathlib.Omega.{arith}
use Rattle.format.specs.Layout.{entries_at}
use Rattle.format.specs.Strip.{code}
use Rattle.format.specs.V2.{summary_lsa, summary_rows}
use Rattle.format.proofs.Lengths.{length_entries}
use Rattle.v2_routes.specs.Route.{route}
use Rattle.v2_routes.proofs.measure.measure_summary_lsa.Goals as goal

pub returns : goal.returns
unfolding summary_lsa route code
returns c o =
    let es = entries_at summary_rows c.args.body.bytes.now o 0 in
    c.measure_route.ensures o es (omega (arith, length_entries es))
