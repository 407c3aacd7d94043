use Prim.Native.Nat.{◌+◌, ◌%◌}
use native.Mathlib.Omega.{arith}
use Rattle.print_digits.proofs.Numerals.{digits_one, digits_more, one_more, none_yet}
use Rattle.print_digits.proofs.+digits_from.Goals as goal
use Rattle.print_digits.proofs.+digits_from.Goals.{then-k-gt0+then-n-ge10, else-k-gt0}

pub returns : goal.returns
returns t c =
    let k = c.args.k in
    let n = c.args.n in
    elim c.if-k-gt0.branch [
      | then-k-gt0+then-n-ge10 w ↦ rw (digits_more k n (omega arith) (omega arith)) (one_more (48 + n % 10) (rw (← w.out-is, ← w.end-is) at w.digits_from-end.ensures))
      | else-k-gt0 w ↦ rw (digits_one k n (grind arith)) (one_more (48 + n % 10) (none_yet w.out-is w.end-is))
    ]
