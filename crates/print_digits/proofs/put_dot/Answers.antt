use Rattle.strip_put.proofs.Laws.{then}
use Rattle.print_digits.proofs.put_dot.Goals as goal

pub returns : goal.returns
returns c = then c.put_digits.ensures c.put_u8.ensures
