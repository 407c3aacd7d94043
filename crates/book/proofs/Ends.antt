-- The ways in which an update ends: turned down by its walk, by what it meets, or taken.
use Prim.Native.Nat.{ℕ, suc, ◌+◌, ◌≤◌}
use native.Mathlib.Omega.{arith}
use mathlib.Core.Path.{◌≡◌, refl, sym, ap}
use mathlib.Core.Bool.{Bool, true, false, cond}
use mathlib.Core.List.{List, [], ◌∷◌, map}
use lib.ListN.{length}
use borrow.Author.Tests.{ne_eqb}
use Rattle.std.proofs.Common.{Ok, Err}
use Rattle.format.specs.Walks.{refusal}
use Rattle.format.specs.Book.{Row, any, is_of, new_identities, row_refusal, rows_of, take_all, book_refusal, book_update}
use Rattle.format.proofs.Refusals.{limits}
use Rattle.format.proofs.LsaRows.{rows_fit}
use Rattle.refusal.specs.Numbers.{number_of}
use Rattle.refusal.specs.declared.Refusal.{Refusal}
use Rattle.refusal.proofs.Numbers.{number_positive}
use Rattle.book.specs.Rows.{meaning}
use Rattle.book.specs.Counts.{book_of, fresh}
use Rattle.book.specs.Updates.{Updates}
use Rattle.book.specs.declared.row.Row as code
use Rattle.book.specs.declared.take_all.Counts.{Counts}

-- No more identities are new than there are LSAs.
pub new_most : (known rs : List Row) → new_identities known rs ≤ length rs
unfolding new_identities
new_most known [] = omega arith
new_most known (r ∷ rs) = go (any (is_of r) known) (new_most known rs) (new_most (r ∷ known) rs)
  where
    go : (b : Bool) → new_identities known rs ≤ length rs → new_identities (r ∷ known) rs ≤ length rs → cond b (new_identities known rs) (suc (new_identities (r ∷ known) rs)) ≤ suc (length rs)
    go true h k = omega arith
    go false h k = omega arith

module _ (v : ℕ) (d : List ℕ) (count o : ℕ) (t : List code.Row) where
  pub walk_refuses : (r : Refusal) → number_of r ≡ refusal v d o 4 → Updates v d count o t (Err r) t
  unfolding book_update book_refusal
  walk_refuses r e =
      let h = number_positive r in
      record { value = rw (sym e, ne_eqb (number_of r) 0 (omega arith), ne_eqb (number_of r) 0 (omega arith)) refl; most = omega arith }

  module _ (e : 0 ≡ refusal v d o 4) where
    pub rows_refuse : (r : Refusal) → number_of r ≡ row_refusal (rows_of v d count) (map meaning t) → Updates v d count o t (Err r) t
    unfolding book_update book_refusal
    rows_refuse r f =
        let h = number_positive r in
        record { value = rw (sym e, sym f, ne_eqb (number_of r) 0 (omega arith)) refl; most = omega arith }

    pub takes : (u : List code.Row) (c : Counts) → 0 ≡ row_refusal (rows_of v d count) (map meaning t) → book_of u c ≡ take_all (rows_of v d count) (fresh t)
        → c.replaced + c.added ≤ length (rows_of v d count) → Updates v d count o t (Ok c) u
    unfolding book_update book_refusal
    takes u c f g h =
        let k = limits v d o 4 (sym e) in
        let s = k.data_fits in
        let m = rows_fit v d count k.enough in
        record { value = rw (sym e, sym f) (ap (λ b. record { number = 0; book = b }) g); most = omega arith }
