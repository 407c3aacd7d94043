use native.Mathlib.Omega.{arith}
use Rattle.format.proofs.Lengths.{length-link}
use Rattle.format.proofs.Sizes.{link_bound}
use Rattle.format.proofs.Unique.{span}
use Rattle.v2_router.proofs.LinkRecord.measure.Goals as goal

pub returns-clause-upper_bound : goal.returns-clause-upper_bound
returns-clause-upper_bound c =
    let b = c.args.body.bytes.now in
    let m = rw c.from-num_tos.ensures at (c.measure_array_if_any-metrics.ensures.by_index 69 0) in
    omega (arith, length-link b 0 (span c.args.p c.args._n), link_bound b 0 c.args.p c.args._n c.requires)
