use Rattle.std.proofs.Common.{◌≡◌, ◌+◌, ◌≤◌, map, drop}
use Rattle.format.specs.Book.{any, free_rows}
use Rattle.book.specs.Rows.{meaning}
use Rattle.book.specs.Ages.{is_used_old}
use Rattle.book.proofs.ages.count_free.Given as goal

abbrev pub invariant-loop-row : goal.invariant-loop-row
invariant-loop-row l =
    (any is_used_old (map meaning (drop l.row-index l.rows)) ≡ any is_used_old (map meaning l.rows))
    × (l.count + free_rows (map meaning (drop l.row-index l.rows)) ≡ free_rows (map meaning l.rows))
    × (l.count ≤ l.row-index)
