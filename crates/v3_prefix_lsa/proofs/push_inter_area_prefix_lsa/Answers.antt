use mathlib.Core.Path.{sym, refl}
use Rattle.format.specs.Strip.{code, encode}
use Rattle.format.specs.V3.{inter_area_prefix_lsa, inter_area_prefix_rows}
use Rattle.format.proofs.Direct.{direct_rows}
use Rattle.body.proofs.Laws.{answered}
use Rattle.strip_put.proofs.Laws.{then}
use Rattle.util.proofs.Laws.{some_of}
use Rattle.v3_prefix_lsa.proofs.push_inter_area_prefix_lsa.Goals as goal

pub returns : goal.returns
unfolding code encode inter_area_prefix_lsa
returns c =
    let b = c.args.body in
    let f = some_of _ _ _ c.fixed_prefix_fits.ensures.octets c.in-Some.is in
    rw (f, inter_area_prefix_lsa) (record { answer = answered _ _ _ _ (sym (direct_rows b.bytes.now b.offset (inter_area_prefix_rows c.in-Some.n) 0)) refl; wrote = then c.push_metric24_at.ensures (then c.push_at.ensures (then c.push_at-2.ensures c.push_ipv6_at.ensures)) })
