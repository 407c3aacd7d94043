use native.Mathlib.Omega.{arith}
use mathlib.Core.Path.{sym, refl}
use Rattle.strip_put.proofs.Laws.{then}
use borrow.Author.Tests.{le-ltb}
use lib.ListN.{length}
use Rattle.format.specs.Strip.{code, encode}
use Rattle.format.specs.V3.{inter_area_router_lsa, inter_area_router_rows}
use Rattle.format.proofs.Direct.{direct_rows}
use Rattle.body.proofs.Laws.{answered}
use Rattle.v3_lsa.proofs.push_inter_area_router_lsa.Goals as goal

pub returns : goal.returns
unfolding code encode inter_area_router_lsa
returns c =
    let b = c.args.body in
    let n = direct_rows b.bytes.now b.offset inter_area_router_rows 0 in
    rw (le-ltb (length b.bytes.now) 12 (omega arith)) (record { answer = answered _ _ _ _ (sym n) refl; wrote = then c.push_options.ensures (then c.push_metric24_at.ensures c.push_at.ensures) })
