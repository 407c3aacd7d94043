use native.Mathlib.Omega.{arith}
use borrow.Author.Tests.{le-ltb}
use lib.ListN.{length}
use mathlib.Core.Path.{sym}
use Rattle.format.proofs.Direct.{direct_whole_if, one_external_tos}
use Rattle.format.specs.V2.{external_lsa2, external_rows, external_tos}
use Rattle.format.proofs.Wrote.{encode-append}
use Rattle.body.proofs.Laws.{pushed_decoded}
use Rattle.strip_put.proofs.Laws.{then}
use Rattle.v2_routes.proofs.push_external_lsa.Goals as goal

pub returns : goal.returns
unfolding external_lsa2
returns c =
    let metrics = c.push_tos_metrics-consumed.ensures in
    let b = c.args.body in
    let n = direct_whole_if b.bytes.now b.offset external_rows 0 20 (external_tos b.bytes.now b.offset) 12 16 (one_external_tos b.bytes.now b.offset) (omega arith) (omega arith) in
    let k = rw (← metrics.end_value) at n in
    rw (le-ltb (length b.bytes.now) 16 (omega arith), c.decoded.ensures) (pushed_decoded _ _ _ _ (sym k) metrics.end_value (rw encode-append (then c.push_external_fields.ensures metrics.wrote)))
