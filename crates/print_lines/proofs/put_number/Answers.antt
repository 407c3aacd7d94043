use Rattle.strip_put.proofs.Laws.{then}
use Rattle.print_lines.proofs.put_number.Goals as goal

pub returns : goal.returns
returns c = then c.put_field.ensures c.put_spaced.ensures
