-- What the code's answers say, in the definitions' words. A refusal has the number that the requirements give it.
use Rattle.std.specs.Prelude.{ℕ, ◌/◌, ◌%◌, Bool, true, false, Result, Ok, Err}
use Rattle.format.specs.Checksum as format
use Rattle.refusal.specs.Numbers.{number_of}
use Rattle.refusal.specs.declared.Refusal.{Refusal}

abbrev pub check_meaning : Result Bool Refusal → format.Check
check_meaning (Ok true) = format.Check.good
check_meaning (Ok false) = format.Check.bad
check_meaning (Err r) = format.Check.refused (number_of r)

-- A number of 16 bits as its two bytes.
abbrev pub making_meaning : Result ℕ Refusal → format.Making
making_meaning (Ok n) = format.Making.made (n / 256) (n % 256)
making_meaning (Err r) = format.Making.refused (number_of r)
