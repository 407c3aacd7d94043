-- What the code's comparison says, in the definitions' words. A refusal has the number that the requirements give it.
use Rattle.std.specs.Prelude.{Bool, true, false, Result, Ok, Err}
use Rattle.format.specs.Prefix.{Comparison}
use Rattle.format.specs.Prefix.Comparison.{same, different, refused}
use Rattle.refusal.specs.Numbers.{number_of}
use Rattle.refusal.specs.declared.Refusal.{Refusal}

abbrev pub comparison_meaning : Result Bool Refusal → Comparison
comparison_meaning (Ok true) = same
comparison_meaning (Ok false) = different
comparison_meaning (Err r) = refused (number_of r)
