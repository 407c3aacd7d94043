use native.Mathlib.Omega.{arith}
use Rattle.format.specs.Strip.{code}
use Rattle.format.specs.V2.{external_lsa2, external_fields}
use Rattle.format.proofs.Lengths.{length_entries}
use Rattle.v2_routes.specs.Route.{route}
use Rattle.v2_routes.proofs.measure.measure_external_lsa.Goals as goal

pub returns : goal.returns
unfolding external_lsa2 route code
returns c o =
    let es = external_fields c.args.body.bytes.now o in
    c.measure_route.ensures o es (omega (arith, length_entries es))
