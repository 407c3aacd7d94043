-- A table and what was counted, in the definitions' words.
use Rattle.std.specs.Prelude.{List, map}
use Rattle.format.specs.Book.{Book}
use Rattle.book.specs.Rows.{meaning}
use Rattle.book.specs.declared.row.Row.{Row}
use Rattle.book.specs.declared.take_all.Counts.{Counts}

abbrev pub book_of : List Row → Counts → Book
book_of t c = record { rows = map meaning t; replaced = c.replaced; added = c.added }

-- Before any was taken.
abbrev pub fresh : List Row → Book
fresh t = record { rows = map meaning t; replaced = 0; added = 0 }
