-- What taking a whole update says, in the definitions' words.
use Rattle.std.specs.Prelude.{ℕ, ◌+◌, ◌≤◌, ◌≡◌, List, Result, Ok, Err, map}
use Rattle.format.specs.Book as book
use Rattle.refusal.specs.Numbers.{number_of}
use Rattle.refusal.specs.declared.Refusal.{Refusal}
use Rattle.book.specs.Rows.{meaning}
use Rattle.book.specs.Counts.{book_of, fresh}
use Rattle.book.specs.declared.row.Row.{Row}
use Rattle.book.specs.declared.take_all.Counts.{Counts}

abbrev pub taken_of : Result Counts Refusal → List Row → book.Taken
taken_of (Ok c) t = record { number = 0; book = book_of t c }
taken_of (Err r) t = record { number = number_of r; book = fresh t }

-- Of an update taken against a table, before and after.
pub record Updates (v : ℕ) (d : List ℕ) (count o : ℕ) (before : List Row) (r : Result Counts Refusal) (after : List Row) : Type 0 where
  pub value : taken_of r after ≡ book.book_update v d count o (map meaning before)
  -- the counts fit in an export's number
  pub most : (taken_of r after).book.replaced + (taken_of r after).book.added ≤ 3276
