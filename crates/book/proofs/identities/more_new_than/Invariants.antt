use Rattle.std.proofs.Common.{◌≤◌, map}
use Rattle.book.specs.Rows.{meaning}
use Rattle.book.specs.Lsas.{left_of}
use Rattle.book.proofs.CountsNew.{CountsNew}
use Rattle.book.proofs.identities.more_new_than.Given as goal

abbrev pub invariant-loop-lsa : goal.invariant-loop-lsa
invariant-loop-lsa l = CountsNew (map meaning l.rows) (left_of l.fn.lsas) l.earlier l.new (left_of l.lsa-iterator) × (l.new ≤ l.most)
