use Rattle.strip_put.proofs.Laws.{then}
use Rattle.print_lines.proofs.put_ipv4.Goals as goal

pub returns : goal.returns
returns c = then c.put_field.ensures (then c.put_u8.ensures c.put_dotted.ensures)
