use Rattle.std.proofs.Common.{◌≡◌, ◌/◌, ◌%◌, arith}
use Rattle.strip_put.proofs.Laws.{then}
use Rattle.print_digits.proofs.put_dotted.Goals as goal

pub returns : goal.returns
returns c =
    let first : c.args.address / 16777216 % 256 ≡ c.args.address / 16777216 = omega arith in
    let w = then c.put_dot.ensures (then c.put_dot-2.ensures (then c.put_dot-3.ensures c.put_digits.ensures)) in
    rw (← first) (rw c.to_be_bytes.ensures at w)
