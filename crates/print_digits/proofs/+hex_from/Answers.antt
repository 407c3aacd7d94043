use native.Mathlib.Omega.{arith}
use mathlib.Core.Path.{◌≡◌, refl}
use Rattle.format.specs.Print.{hex}
use Rattle.print_digits.proofs.Numerals.{hex_more, one_more, none_yet}
use Rattle.print_digits.proofs.+hex_from.Goals as goal

pub hex_from-end-requires : goal.hex_from-end-requires
hex_from-end-requires t c = omega (arith, c.requires)

pub returns-then-k-eq0 : goal.returns-then-k-eq0
unfolding hex
returns-then-k-eq0 t c = let e : c.args.k ≡ 0 = omega arith in rw e (none_yet refl refl)

pub returns : goal.returns
returns t c = rw (hex_more c.args.k c.args.n (omega arith), ← c.hex_digit.ensures) (one_more c.hex_digit.result c.hex_from-end.ensures)
