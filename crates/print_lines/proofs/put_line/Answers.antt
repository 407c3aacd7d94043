use Rattle.strip_put.proofs.Laws.{then}
use Rattle.format.specs.Print.{line}
use Rattle.print_lines.proofs.put_line.Goals as goal

pub returns : goal.returns
unfolding line
returns c = then c.put_text.ensures c.put_u8.ensures
