-- What an iterator over LSAs has left, in the definitions' words.
use Rattle.std.specs.Prelude.{List}
use Rattle.format.specs.Book as book
use Rattle.book.specs.declared.lsas.Lsas.{Lsas}

abbrev pub left_of : Lsas → List book.Row
left_of s = book.rows_from s.version s.body.now s.count s.place
