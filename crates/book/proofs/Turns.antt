-- What is left of LSAs, and of a table's rows from a place on.
use Prim.Native.Nat.{ℕ, suc, ◌+◌, ◌≤◌, ◌<◌}
use native.Mathlib.Omega.{arith}
use lib.ListN.{length, get_or, drop, drop_of_length-le}
use lib.Seq.{drop-cons}
use mathlib.Core.List.{List, [], ◌∷◌, map}
use mathlib.Core.Path.{◌≡◌, sym, ap}
use Rattle.std.proofs.lemmas.List.{length-map}
use Rattle.format.specs.Cut.{record_rule}
use Rattle.format.specs.Book as book
use Rattle.format.proofs.Unique.{is_cut}
use Rattle.book.specs.Rows.{meaning}
use Rattle.book.specs.Lsas.{left_of}
use Rattle.book.specs.Takes.{Takes, after}
use Rattle.book.specs.declared.row.Row.{Row}
use Rattle.book.specs.declared.take.Change.{Change}
use Rattle.book.specs.declared.take.Change.TheVariants.{Left, Replaced, Added}
use Rattle.book.specs.declared.lsas.Lsas.{Lsas}

-- No more are left than the count says.
pub left_most : (s : Lsas) → length (left_of s) ≤ s.count
unfolding book.rows_from
left_most s = rw length-map (is_cut record_rule s.body.now s.count s.place).most

abbrev blank : Row
blank = record { version = 0; used = 0; ls_type = 0; link_state_id = 0; advertising_router = 0; sequence_number = 0; checksum = 0; age = 0 }

pub rows_left : (xs : List Row) (i : ℕ) → i < length xs → map meaning (drop i xs) ≡ meaning (get_or xs i blank) ∷ map meaning (drop (i + 1) xs)
rows_left xs i h = let z : suc i ≡ i + 1 = omega arith in rw (sym z) (ap (map meaning) (drop-cons xs i blank h))

pub rows_end : (xs : List Row) (i : ℕ) → length xs ≤ i → map meaning (drop i xs) ≡ []
rows_end xs i h = ap (map meaning) (drop_of_length-le xs h)

-- One LSA more is taken, and counted by what became of it.
pub one_taken : (e : Change) (r : book.Row) (ls t u : List book.Row) (n m k : ℕ) (b : book.Book) → Takes r t e u
    → (book.take_all (r ∷ ls) (record { rows = t; replaced = n; added = m }) ≡ b) × (n + m + length (r ∷ ls) ≤ k)
    → (book.take_all ls (after e u n m) ≡ b) × ((after e u n m).replaced + (after e u n m).added + length ls ≤ k)
unfolding book.take_all
one_taken e r ls t u n m k b s i = (rw (s n m) at i.0, most e)
  where
    most : (e : Change) → (after e u n m).replaced + (after e u n m).added + length ls ≤ k
    most Left = omega (arith, i.1)
    most Replaced = omega (arith, i.1)
    most Added = omega (arith, i.1)
