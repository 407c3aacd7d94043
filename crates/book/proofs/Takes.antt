-- Taking one LSA by the places that the library finds.
use Rattle.std.proofs.Common.{◌≡◌, ℕ, ◌<◌, true, false, List, length, map, get_or, set, Some, None, refl, sym, ◌∙◌, ap}
use Rattle.std.proofs.Math.Option.{some, none}
use Rattle.std.proofs.lemmas.List.{get_or-map, get_or_default, map-set}
use Rattle.std.specs.List.{position_from}
use Rattle.format.specs.Book as book
use Rattle.book.specs.Rows.{meaning}
use Rattle.book.specs.Takes.{Takes}
use Rattle.book.specs.declared.row.Row.{Row}
use Rattle.book.specs.declared.take.Change.TheVariants.{Left, Replaced, Added}
use Rattle.format.proofs.Book.{take_found, take_new}
use Rattle.book.proofs.Places.{place_meaning, placed}

module _ (r : Row) (xs : List Row) where
  module _ (i : ℕ) (e : Some i ≡ position_from (λ s. book.is_of (meaning r) (meaning s)) 0 xs) (h : i < length xs) (d : Row) where
    own : book.place_of (book.is_of (meaning r)) (map meaning xs) ≡ some i
    own = sym (placed (book.is_of (meaning r)) xs) ∙ ap place_meaning (sym e)

    there : get_or (map meaning xs) i (meaning r) ≡ meaning (get_or xs i d)
    there = get_or-map meaning xs i r (meaning r) h ∙ ap meaning (get_or_default xs i r d h)

    pub takes_left : book.is_newer (meaning r) (meaning (get_or xs i d)) ≡ false → Takes (meaning r) (map meaning xs) Left (map meaning xs)
    takes_left n a b = take_found (meaning r) _ i own ∙ rw (there, n) refl

    pub takes_replaced : book.is_newer (meaning r) (meaning (get_or xs i d)) ≡ true → Takes (meaning r) (map meaning xs) Replaced (map meaning (set xs i r))
    takes_replaced n a b = take_found (meaning r) _ i own ∙ rw (there, n, map-set) refl

  module _ (e : None ≡ position_from (λ s. book.is_of (meaning r) (meaning s)) 0 xs) where
    nowhere : book.place_of (book.is_of (meaning r)) (map meaning xs) ≡ none
    nowhere = sym (placed (book.is_of (meaning r)) xs) ∙ ap place_meaning (sym e)

    pub takes_added : (i : ℕ) → Some i ≡ position_from (λ s. book.is_free (meaning s)) 0 xs → Takes (meaning r) (map meaning xs) Added (map meaning (set xs i r))
    takes_added i f a b =
        let free : book.place_of book.is_free (map meaning xs) ≡ some i = sym (placed book.is_free xs) ∙ ap place_meaning (sym f) in
        take_new (meaning r) _ (some i) nowhere free ∙ rw map-set refl

    pub takes_none : None ≡ position_from (λ s. book.is_free (meaning s)) 0 xs → Takes (meaning r) (map meaning xs) Left (map meaning xs)
    takes_none f a b =
        let free : book.place_of book.is_free (map meaning xs) ≡ none = sym (placed book.is_free xs) ∙ ap place_meaning (sym f) in
        take_new (meaning r) _ none nowhere free
