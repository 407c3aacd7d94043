use Rattle.strip_put.proofs.Laws.{then}
use Rattle.print_lines.proofs.put_ipv6.Goals as goal

pub returns : goal.returns
returns c = then c.put_field.ensures (then c.put_u8.ensures (then c.put_hex.ensures c.put_hex-2.ensures))
