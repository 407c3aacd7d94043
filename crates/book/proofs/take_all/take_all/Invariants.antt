use Rattle.std.proofs.Common.{◌≡◌, ◌≤◌, ◌+◌, length}
use Rattle.format.specs.Book.{take_all}
use Rattle.book.specs.Lsas.{left_of}
use Rattle.book.specs.Counts.{book_of, fresh}
use Rattle.book.proofs.take_all.take_all.Given as goal

abbrev pub invariant-loop-row : goal.invariant-loop-row
invariant-loop-row l =
    (take_all (left_of l.row-iterator) (book_of l.rows l.counts) ≡ take_all (left_of l.fn.lsas) (fresh l.initial.rows))
    × (l.counts.replaced + l.counts.added + length (left_of l.row-iterator) ≤ length (left_of l.fn.lsas))
