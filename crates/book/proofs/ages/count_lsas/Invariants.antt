use Rattle.std.proofs.Common.{◌≡◌, ◌+◌, length}
use Rattle.format.specs.Book.{any, is_old}
use Rattle.book.specs.Lsas.{left_of}
use Rattle.book.proofs.ages.count_lsas.Given as goal

abbrev pub invariant-loop-lsa : goal.invariant-loop-lsa
invariant-loop-lsa l = (any is_old (left_of l.lsa-iterator) ≡ any is_old (left_of l.fn.lsas)) × (l.count + length (left_of l.lsa-iterator) ≡ length (left_of l.fn.lsas))
