-- What the code's header and answers say, in the definitions' words. A refusal has the number that the requirements give it.
use Rattle.std.specs.Prelude.{Result, Ok, Err}
use Rattle.format.specs.Header as format
use Rattle.refusal.specs.Numbers.{number_of}
use Rattle.refusal.specs.declared.Refusal.{Refusal}
use Rattle.header.specs.declared.LsaHeader.{LsaHeader}
use Rattle.header.specs.declared.Newness.{Newness}
use Rattle.header.specs.declared.Newness.TheVariants.{First, Second, Same}

abbrev pub meaning : LsaHeader → format.Header
meaning h = record {
  age = h.age;
  ls_type = h.ls_type;
  link_state_id = h.link_state_id;
  advertising_router = h.advertising_router;
  sequence_number = h.sequence_number;
  checksum = h.checksum;
  size = h.length;
}

abbrev pub reading_meaning : Result LsaHeader Refusal → format.Reading
reading_meaning (Ok h) = format.Reading.header (meaning h)
reading_meaning (Err r) = format.Reading.refused (number_of r)

abbrev pub newness_meaning : Result Newness Refusal → format.Newness
newness_meaning (Ok First) = format.Newness.first
newness_meaning (Ok Second) = format.Newness.second
newness_meaning (Ok Same) = format.Newness.same
newness_meaning (Err r) = format.Newness.refused (number_of r)
