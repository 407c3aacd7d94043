use Rattle.format.specs.Strip.{code, encode}
use Rattle.strip_put.proofs.Laws.{then}
use Rattle.v3_external.proofs.External.push_prefix.Goals as goal

pub returns : goal.returns
unfolding code encode
returns c = then c.push_metric24_at.ensures (then c.push_at.ensures (then c.push_at-2.ensures (then c.push_at-3.ensures c.push_ipv6_at.ensures)))
