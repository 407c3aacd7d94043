use native.Mathlib.Omega.{arith}
use borrow.Author.Tests.{le-ltb}
use lib.ListN.{length}
use mathlib.Core.Path.{sym}
use Rattle.format.proofs.Direct.{direct_whole_if, one_summary_tos}
use Rattle.format.specs.Strip.{code, encode}
use Rattle.format.specs.V2.{summary_lsa, summary_rows, summary_tos}
use Rattle.body.proofs.Laws.{pushed_decoded}
use Rattle.strip_put.proofs.Laws.{then}
use Rattle.v2_routes.proofs.push_summary_lsa.Goals as goal

pub returns : goal.returns
unfolding summary_lsa code encode
returns c =
    let metrics = c.push_tos_metrics-consumed.ensures in
    let b = c.args.body in
    let n = direct_whole_if b.bytes.now b.offset summary_rows 0 20 (summary_tos b.bytes.now b.offset) 4 8 (one_summary_tos b.bytes.now b.offset) (omega arith) (omega arith) in
    let k = rw (← metrics.end_value) at n in
    rw (le-ltb (length b.bytes.now) 8 (omega arith), c.decoded.ensures) (pushed_decoded _ _ _ _ (sym k) metrics.end_value (then c.push_at.ensures (then c.push_metric24_at.ensures metrics.wrote)))
