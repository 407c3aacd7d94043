use native.Mathlib.Omega.{arith}
use borrow.Author.Tests.{le-ltb}
use lib.ListN.{length}
use mathlib.Core.Path.{sym}
use Rattle.format.specs.Strip.{code, encode}
use Rattle.format.specs.V2.{network_lsa2, network_rows}
use Rattle.format.specs.Body.{attached_router, whole}
use Rattle.format.proofs.Direct.{direct_listed, one_attached_router}
use Rattle.body.proofs.Laws.{pushed_decoded}
use Rattle.strip_put.proofs.Laws.{then}
use Rattle.v2_lsa.proofs.push_network_lsa.Goals as goal

pub returns : goal.returns
unfolding network_lsa2 code encode
returns c =
    let b = c.args.body in
    let routers = c.push_attached_routers.ensures in
    let n = direct_listed b.bytes.now b.offset network_rows 0 18 (attached_router b.bytes.now b.offset) 4 (one_attached_router b.bytes.now b.offset) (whole 4 b.bytes.now 4) in
    rw (le-ltb (length c.args.body.bytes.now) 4 (omega arith)) (pushed_decoded _ _ _ _ (sym n) routers.end_value (then c.push_at.ensures routers.wrote))
