use native.Mathlib.Omega.{arith}
use Rattle.std.proofs.Common.{rules}
use mathlib.Core.Path.{sym}
use borrow.Author.Tests.{le-ltb}
use lib.ListN.{length}
use Rattle.format.specs.Strip.{code, encode}
use Rattle.format.specs.V2.{router_lsa2, link, first_link, router_rows, links}
use Rattle.format.proofs.Direct.{one_link2, direct_listed}
use Rattle.body.proofs.Laws.{answered}
use Rattle.v2_router.proofs.push_router_lsa.Goals as goal

pub returns : goal.returns
unfolding code encode router_lsa2
returns c =
    let b = c.args.body in
    let e = rw (c.from-count.ensures, c.read_be_u16.ensures) at c.push_list-consumed.ensures.end_value in
    let n = direct_listed b.bytes.now b.offset router_rows 0 16 (link b.bytes.now b.offset) first_link (one_link2 b.bytes.now b.offset) (links b.bytes.now) in
    rw (le-ltb (length b.bytes.now) 4 (omega arith))
    (record { answer = answered _ _ _ _ (sym n) e; wrote = search rules })
