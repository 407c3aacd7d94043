use Prim.Native.Nat.{◌+◌, ◌*◌, ◌≤◌}
use lib.ListN.{length, drop}
use mathlib.Core.Path.{sym, ◌∙◌}
use native.Mathlib.Omega.{arith}
use Rattle.body.proofs.Laws.{length_decoded, length_raw, measured_is_decoded, measured_is_raw}
use Rattle.lsa.specs.Whole.{tail, whole}
use Rattle.lsa.proofs.measure_lsa.Given.{Over}
use Rattle.lsa.proofs.measure_lsa.Goals as goal
use Rattle.lsa.proofs.measure_lsa.Goals.{After-measure_unparsed, After-measure_unparsed-in-Raw}

-- The lengths that are added are no more than the version's bound.
decoded : (g : Over) (c : After-measure_unparsed g) → c.measure_header-header.result + (c.in-Decoded.length + c.measure_unparsed.result) ≤ 19 * length c.args.lsa.part.bytes.now
unfolding whole
decoded g c =
    let v = g.V.Version in
    let d = c.args.lsa.part.bytes.now in
    let u = rw c.rest-body.ensures.0 at (c.measure_unparsed.ensures.by_index v.UNPARSED 20) in
    omega (arith, c.measure_header-header.ensures 0, u, length_decoded (v.header d 0) v.BODY v.UNPARSED (v.body d 0) (drop 20 d) 20 _ _ _ (c.measure_body.ensures 0) c.in-Decoded.is, g.met.V.Version.bound d 0 c.args.lsa.has_header)

undecoded : (g : Over) (c : After-measure_unparsed-in-Raw g) → c.measure_header-header.result + c.measure_unparsed-in-Raw.result ≤ 19 * length c.args.lsa.part.bytes.now
unfolding whole
undecoded g c =
    let v = g.V.Version in
    let d = c.args.lsa.part.bytes.now in
    let u = rw c.rest-body.ensures.0 at (c.measure_unparsed-in-Raw.ensures.by_index v.BODY 20) in
    omega (arith, c.measure_header-header.ensures 0, u, length_raw (v.header d 0) v.BODY v.UNPARSED (v.body d 0) (drop 20 d) 20 _ (c.measure_body.ensures 0) c.in-Raw.is, g.met.V.Version.bound d 0 c.args.lsa.has_header)

pub overflow_add-result : goal.overflow_add-result
overflow_add-result g c = omega (arith, decoded g (goal.at.overflow_add-result g c).After-measure_unparsed)

pub overflow_add-result-in-Decoded : goal.overflow_add-result-in-Decoded
overflow_add-result-in-Decoded g c = omega (arith, decoded g (goal.at.overflow_add-result-in-Decoded g c).After-measure_unparsed)

pub overflow_add-result-in-Raw : goal.overflow_add-result-in-Raw
overflow_add-result-in-Raw g c = omega (arith, undecoded g (goal.at.overflow_add-result-in-Raw g c).After-measure_unparsed-in-Raw)

pub returns-in-Decoded-clause-tail_value : goal.returns-in-Decoded-clause-tail_value
unfolding tail
returns-in-Decoded-clause-tail_value g c =
    let d = c.args.lsa.part.bytes.now in
    rw c.rest-body.ensures.0 at c.bytes_from.ensures ∙ sym ((measured_is_decoded (g.V.Version.body d 0) _ _ _ (c.measure_body.ensures 0) c.in-Decoded.is).1 (drop 20 d))

pub returns-in-Decoded-clause-upper_bound : goal.returns-in-Decoded-clause-upper_bound
returns-in-Decoded-clause-upper_bound g c = decoded g (goal.at.returns-in-Decoded-clause-upper_bound g c).After-measure_unparsed

pub returns-in-Raw-clause-tail_value : goal.returns-in-Raw-clause-tail_value
unfolding tail
returns-in-Raw-clause-tail_value g c =
    let d = c.args.lsa.part.bytes.now in
    sym ((measured_is_raw (g.V.Version.body d 0) _ (c.measure_body.ensures 0) c.in-Raw.is).1 (drop 20 d))

pub returns-in-Raw-clause-upper_bound : goal.returns-in-Raw-clause-upper_bound
returns-in-Raw-clause-upper_bound g c = undecoded g (goal.at.returns-in-Raw-clause-upper_bound g c).After-measure_unparsed-in-Raw
