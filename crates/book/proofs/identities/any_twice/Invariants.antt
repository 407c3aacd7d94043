use Rattle.std.proofs.Common.{◌≡◌, length, map}
use Rattle.book.specs.Rows.{meaning}
use Rattle.book.proofs.Twice.{Met}
use Rattle.book.proofs.identities.any_twice.Given as goal

abbrev pub invariant-loop-i : goal.invariant-loop-i
invariant-loop-i l = (length l.words ≡ 2048) × Met l.words (map meaning l.rows) l.i
