use Rattle.std.proofs.Common.{◌≡◌, map, ltb, false, refl, sym, ◌∙◌, arith, le-ltb}
use Rattle.format.specs.Book.{new_identities}
use Rattle.book.specs.Rows.{meaning}
use Rattle.book.specs.Lsas.{left_of}
use Rattle.book.proofs.Ends.{new_most}
use Rattle.book.proofs.update.check_rows.Goals.{else-free-all-via-then-free-all+else-more_new_than, else-free-all-via-else-free-all}
use Rattle.book.proofs.update.check_rows.Goals as goal

pub returns : goal.returns
returns c =
    let l = c.in-Some.ensures in
    let f = c.in-Some-count_free.ensures in
    let room : ltb c.in-Some-count_free.free (new_identities (map meaning c.args.rows.now) (left_of c.args.lsas)) ≡ false = elim c.else-free-all.branch [
      | else-free-all-via-then-free-all+else-more_new_than w ↦ sym w.more_new_than.ensures ∙ w.if-more_new_than.false
      | else-free-all-via-else-free-all w ↦ le-ltb _ _ (omega (arith, new_most (map meaning c.args.rows.now) (left_of c.args.lsas), l.1, w.if-free-all.false))
    ] in
    rw (l.0, f.0, sym c.any_twice.ensures, c.if-any_twice.false, sym f.1, room) refl
