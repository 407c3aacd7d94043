use native.Mathlib.Omega.{arith}
use mathlib.Core.Path.{sym}
use Rattle.std.proofs.Common.{rules}
use borrow.Author.Tests.{le-ltb}
use lib.ListN.{length}
use Rattle.format.specs.Body.{whole}
use Rattle.format.specs.Strip.{code, encode}
use Rattle.format.specs.V3.{router_lsa3, router_rows, link}
use Rattle.format.proofs.Direct.{direct_listed, one_link3}
use Rattle.body.proofs.Laws.{answered}
use Rattle.v3_lsa.proofs.push_router_lsa.Goals as goal

pub returns : goal.returns
unfolding code encode router_lsa3 whole
returns c =
    let b = c.args.body in
    let n = direct_listed b.bytes.now b.offset router_rows 0 15 (link b.bytes.now b.offset) 4 (one_link3 b.bytes.now b.offset) (whole 16 b.bytes.now 4) in
    rw (le-ltb (length b.bytes.now) 4 (omega arith)) (record { answer = answered _ _ _ _ (sym n) (rw c.len-2.ensures at c.push_array-consumed.ensures.end_value); wrote = search rules })
