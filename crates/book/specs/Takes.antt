-- What the code's taking says, in the definitions' words.
use Rattle.std.specs.Prelude.{ℕ, ◌+◌, ◌≡◌, List}
use Rattle.format.specs.Book as book
use Rattle.book.specs.declared.take.Change.{Change}
use Rattle.book.specs.declared.take.Change.TheVariants.{Left, Replaced, Added}

-- The table, and what is counted, after one LSA was taken so.
abbrev pub after : Change → List book.Row → ℕ → ℕ → book.Book
after Left u n m = record { rows = u; replaced = n; added = m }
after Replaced u n m = record { rows = u; replaced = n + 1; added = m }
after Added u n m = record { rows = u; replaced = n; added = m + 1 }

-- One LSA taken against a table, whatever was counted before.
abbrev pub Takes : book.Row → List book.Row → Change → List book.Row → Type 0
Takes r t e u = (n m : ℕ) → book.take_one r (record { rows = t; replaced = n; added = m }) ≡ after e u n m
