use Rattle.strip_put.proofs.Laws.{then}
use Rattle.print_digits.proofs.put_place.Goals as goal

pub returns : goal.returns
returns c = then c.put_spaced.ensures (then c.put_spaced-2.ensures c.put_spaced-3.ensures)
