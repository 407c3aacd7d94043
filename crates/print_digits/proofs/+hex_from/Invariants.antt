use Rattle.print_digits.proofs.+hex_from.Given as goal

abbrev pub decreases-hex_from : goal.decreases-hex_from
decreases-hex_from l = l.k
