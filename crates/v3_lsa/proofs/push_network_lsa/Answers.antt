use native.Mathlib.Omega.{arith}
use mathlib.Core.Path.{sym}
use Rattle.std.proofs.Common.{rules}
use borrow.Author.Tests.{le-ltb}
use lib.ListN.{length}
use Rattle.format.specs.Body.{attached_router, whole}
use Rattle.format.specs.Strip.{code, encode}
use Rattle.format.specs.V3.{network_lsa3, network_rows}
use Rattle.format.proofs.Direct.{direct_listed, one_attached_router}
use Rattle.body.proofs.Laws.{answered}
use Rattle.v3_lsa.proofs.push_network_lsa.Goals as goal

pub returns : goal.returns
unfolding code encode network_lsa3
returns c =
    let b = c.args.body in
    let n = direct_listed b.bytes.now b.offset network_rows 0 16 (attached_router b.bytes.now b.offset) 4 (one_attached_router b.bytes.now b.offset) (whole 4 b.bytes.now 4) in
    rw (le-ltb (length b.bytes.now) 4 (omega arith)) (record { answer = answered _ _ _ _ (sym n) c.push_attached_routers-consumed.ensures.end_value; wrote = search rules })
