-- Where the library's `position` finds a row, the definitions do.
use Rattle.std.proofs.Common.{◌≡◌, ℕ, suc, ◌+◌, ◌<◌, Bool, true, false, cond, List, [], ◌∷◌, length, map, Option, Some, None, IfSome, ◌||◌, refl, ◌∙◌, ap, arith}
use Rattle.std.proofs.Math.Option.{Option as Maybe, some, none}
use Rattle.std.proofs.lemmas.List.{length-map}
use Rattle.std.specs.List.{position_from, list_any}
use Rattle.format.specs.Book as book
use Rattle.format.specs.Takes.{no_row}
use Rattle.format.proofs.Book.{Found, found}
use Rattle.format.proofs.Book.Found.{there, nowhere}
use Rattle.book.specs.Rows.{meaning}
use Rattle.book.specs.declared.row.Row.{Row}

-- A place that may not be there, as the definitions have it.
abbrev pub place_meaning : Option ℕ → Maybe ℕ
place_meaning (Some i) = some i
place_meaning None = none

shift : ℕ → Maybe ℕ → Maybe ℕ
shift n none = none
shift n (some i) = some (n + i)

from : (g : book.Row → Bool) (xs : List Row) (n : ℕ) → place_meaning (position_from (λ s. g (meaning s)) n xs) ≡ shift n (book.place_of g (map meaning xs))
unfolding book.place_of shift
from g [] n = refl
from g (x ∷ xs) n = go (g (meaning x)) (book.place_of g (map meaning xs)) (from g xs (n + 1))
  where
    go : (t : Bool) (o : Maybe ℕ) → place_meaning (position_from (λ s. g (meaning s)) (n + 1) xs) ≡ shift (n + 1) o
        → place_meaning (cond t (Some n) (position_from (λ s. g (meaning s)) (n + 1) xs)) ≡ shift n (cond t (some 0) (elim o [ none ↦ none | some i ↦ some (suc i) ]))
    go true o e = let z : n ≡ n + 0 = omega arith in ap some z
    go false none e = e
    go false (some i) e = let z : n + 1 + i ≡ n + suc i = omega arith in e ∙ ap some z

pub placed : (g : book.Row → Bool) (xs : List Row) → place_meaning (position_from (λ s. g (meaning s)) 0 xs) ≡ book.place_of g (map meaning xs)
unfolding shift
placed g xs = from g xs 0 ∙ go (book.place_of g (map meaning xs))
  where
    go : (o : Maybe ℕ) → shift 0 o ≡ o
    go none = refl
    go (some i) = let z : 0 + i ≡ i = omega arith in ap some z

pub within : (g : book.Row → Bool) (xs : List Row) (r : Option ℕ) → r ≡ position_from (λ s. g (meaning s)) 0 xs → IfSome r (λ i. i < length xs)
within g xs (Some i) e = go (book.place_of g (map meaning xs)) (ap place_meaning e ∙ placed g xs) (found g (map meaning xs) no_row)
  where
    go : (o : Maybe ℕ) → some i ≡ o → Found g (map meaning xs) no_row o → i < length xs
    go o f (there j h k l) =
        let z : i ≡ j = cc in
        let m : i < length (map meaning xs) = rw z h in
        rw length-map at m
    go o f (nowhere k) = absurd (let z : ◌≡◌ {A = ℕ} 0 1 = cc in omega arith)
within g xs None e = _

-- Whether a test holds for some row is what the library's `any` says.
pub any_list : (g : book.Row → Bool) (rs : List book.Row) → list_any g rs ≡ book.any g rs
unfolding book.any
any_list g [] = refl
any_list g (r ∷ rs) = go (g r) (any_list g rs)
  where
    go : (t : Bool) → list_any g rs ≡ book.any g rs → (t || list_any g rs) ≡ cond t true (book.any g rs)
    go true e = refl
    go false e = e

pub any_rows : (g : book.Row → Bool) (xs : List Row) → list_any (λ s. g (meaning s)) xs ≡ book.any g (map meaning xs)
unfolding book.any
any_rows g [] = refl
any_rows g (x ∷ xs) = go (g (meaning x)) (any_rows g xs)
  where
    go : (t : Bool) → list_any (λ s. g (meaning s)) xs ≡ book.any g (map meaning xs) → (t || list_any (λ s. g (meaning s)) xs) ≡ cond t true (book.any g (map meaning xs))
    go true e = refl
    go false e = e
