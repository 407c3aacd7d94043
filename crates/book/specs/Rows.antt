-- What the code's rows say, in the definitions' words.
use Rattle.format.specs.Book as book
use Rattle.book.specs.declared.row.Row.{Row}

abbrev pub meaning : Row → book.Row
meaning r = record {
  version = r.version;
  used = r.used;
  ls_type = r.ls_type;
  link_state_id = r.link_state_id;
  advertising_router = r.advertising_router;
  sequence_number = r.sequence_number;
  checksum = r.checksum;
  age = r.age;
}
