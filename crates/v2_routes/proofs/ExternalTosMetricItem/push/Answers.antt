use Prim.Native.Nat.{◌+◌}
use Rattle.format.specs.Strip.{code, encode}
use Rattle.format.specs.V2.{external_tos, external_tos_rows, external_tos_fields}
use Rattle.format.proofs.Direct.{direct_rows}
use Rattle.strip_put.proofs.Laws.{contained, then}
use Rattle.v2_routes.proofs.ExternalTosMetricItem.push.Goals as goal

pub returns : goal.returns
unfolding external_tos code encode
returns c =
    let b = c.args.body in
    let p = b.offset + c.args.p in
    let opening = rw (c.range.ensures.0, c.range.ensures.1) at c.begin_container.ensures in
    let fields = then c.push_bit_at.ensures (then c.push_low_bits_at.ensures (then c.push_metric24_at.ensures (then c.push_at.ensures c.push_at-2.ensures))) in
    contained 97 p (p + 12) (external_tos_fields b.bytes.now b.offset c.args.p) (rw (direct_rows b.bytes.now b.offset external_tos_rows c.args.p) opening) fields c.end_container.ensures
