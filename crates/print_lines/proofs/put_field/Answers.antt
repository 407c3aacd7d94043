use Rattle.strip_put.proofs.Laws.{then}
use Rattle.print_lines.proofs.put_field.Goals as goal

pub returns : goal.returns
returns c = then c.put.ensures c.put_place.ensures
