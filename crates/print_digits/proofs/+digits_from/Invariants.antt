use Rattle.print_digits.proofs.+digits_from.Given as goal

abbrev pub decreases-digits_from : goal.decreases-digits_from
decreases-digits_from l = l.k
