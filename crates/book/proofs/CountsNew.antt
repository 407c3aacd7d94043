-- LSAs gone through in their order, and how many of them had a new identity: one that no used row of the table has, and no LSA before.
use Prim.Native.Nat.{ℕ, suc, ◌+◌, ◌-◌, ◌≤◌, ◌<◌}
use native.Mathlib.Omega.{arith}
use mathlib.Core.Path.{◌≡◌, refl, sym, ap, ◌∙◌}
use mathlib.Core.Bool.{Bool, true, false, cond}
use mathlib.Core.List.{List, [], ◌∷◌, ◌++◌, map}
use lib.ListN.{length, get_or, take, drop, length-drop}
use lib.Seq.{drop-cons, take-suc}
use Rattle.std.specs.List.{list_any}
use Rattle.format.specs.Book.{Row, is_of, any, new_identities}
use Rattle.format.specs.Takes.{Used, Same}
use Rattle.format.proofs.Book.{same_swap, same_trans, of_lem}
use Rattle.format.proofs.Decided.{Decided, alike}
use Rattle.format.proofs.Decided.Decided.{holds, fails}
use Rattle.book.specs.Rows.{meaning}
use Rattle.book.specs.declared.row.Row as code
use Rattle.book.proofs.Places.{any_list, any_rows}

pub record CountsNew (t rs : List Row) (earlier new : ℕ) (ls : List Row) : Type 0 where
  pub known : List Row
  pub left : ls ≡ drop earlier rs
  pub knows : (x : Row) → any (is_of x) known ≡ any (is_of x) (take earlier rs ++ t)
  pub sum : new + new_identities known ls ≡ new_identities t rs

pub none_yet : (t rs : List Row) → CountsNew t rs 0 0 rs
none_yet t rs = record { known = t; left = refl; knows = λ x. refl; sum = omega arith }

-- Rows of one identity are known alike.
any_alike : {x r : Row} → Same x r → (l : List Row) → any (is_of x) l ≡ any (is_of r) l
unfolding any
any_alike h [] = refl
any_alike {x} {r} h (y ∷ ys) = rw (any_alike h ys, alike (of_lem x y) (of_lem r y) (λ k. (k.0, same_trans (same_swap h) k.1), λ k. (k.0, same_trans h k.1))) refl

-- A test of two lists one after the other, and of one more between them.
any_append : (f : Row → Bool) (bs t : List Row) → any f (bs ++ t) ≡ cond (any f bs) true (any f t)
unfolding any
any_append f [] t = refl
any_append f (b ∷ bs) t = rw (any_append f bs t) (go (f b))
  where
    go : (s : Bool) → cond s true (cond (any f bs) true (any f t)) ≡ cond (cond s true (any f bs)) true (any f t)
    go true = refl
    go false = refl

any_more : (f : Row → Bool) (bs : List Row) (r : Row) (t : List Row) → any f ((bs ++ r ∷ []) ++ t) ≡ cond (f r) true (any f (bs ++ t))
unfolding any
any_more f bs r t = rw (any_append f (bs ++ r ∷ []) t, any_append f bs (r ∷ []), any_append f bs t) (go (any f bs) (f r))
  where
    go : (a b : Bool) → cond (cond a true (cond b true false)) true (any f t) ≡ cond b true (cond a true (any f t))
    go true true = refl
    go true false = refl
    go false true = refl
    go false false = refl

or_true : (b : Bool) → cond b true true ≡ true
or_true true = refl
or_true false = refl

module _ (t rs : List Row) (e n : ℕ) (r : Row) (ls : List Row) (a : CountsNew t rs e n (r ∷ ls)) where
  pub before_end : e < length rs
  before_end = let z : suc (length ls) ≡ length rs - e = ap length a.left ∙ length-drop e rs in omega arith

  split : r ∷ ls ≡ get_or rs e r ∷ drop (e + 1) rs
  split = let z : suc e ≡ e + 1 = omega arith in rw (sym z) (a.left ∙ drop-cons rs e r before_end)

  abbrev first_of : List Row → Row
  first_of [] = r
  first_of (x ∷ xs) = x

  abbrev rest_of : List Row → List Row
  rest_of [] = []
  rest_of (x ∷ xs) = xs

  here : r ≡ get_or rs e r
  here = ap first_of split

  after_it : ls ≡ drop (e + 1) rs
  after_it = ap rest_of split

  more : take (e + 1) rs ≡ take e rs ++ r ∷ []
  more = let z : suc e ≡ e + 1 = omega arith in rw (sym z) (take-suc rs e r before_end ∙ ap (λ x. take e rs ++ x ∷ []) (sym here))

  known_one : any (is_of r) (take e rs ++ t) ≡ true → CountsNew t rs (e + 1) n ls
  unfolding new_identities
  known_one h =
      let g : any (is_of r) a.known ≡ true = a.knows r ∙ h in
      record {
        known = a.known;
        left = after_it;
        knows = λ x. a.knows x ∙ sym (ap (λ (bs : List Row). any (is_of x) (bs ++ t)) more ∙ any_more (is_of x) (take e rs) r t ∙ told x (of_lem x r));
        sum = rw g at a.sum;
      }
    where
      told : (x : Row) {b : Bool} → Decided (Used r × Same x r) b → cond b true (any (is_of x) (take e rs ++ t)) ≡ any (is_of x) (take e rs ++ t)
      told x (holds k) = sym (any_alike k.1 (take e rs ++ t) ∙ h)
      told x (fails f) = refl

  new_one : any (is_of r) (take e rs ++ t) ≡ false → CountsNew t rs (e + 1) (n + 1) ls
  unfolding new_identities any
  new_one h =
      let g : any (is_of r) a.known ≡ false = a.knows r ∙ h in
      let s = rw g at a.sum in
      record {
        known = r ∷ a.known;
        left = after_it;
        knows = λ x. ap (λ (b : Bool). cond (is_of x r) true b) (a.knows x) ∙ sym (ap (λ (bs : List Row). any (is_of x) (bs ++ t)) more ∙ any_more (is_of x) (take e rs) r t);
        sum = omega arith;
      }

-- By what the code's two looks say: at the table's rows, and at the LSAs before this one.
module _ (xs : List code.Row) (rs : List Row) (e n : ℕ) (r : Row) (ls : List Row) (a : CountsNew (map meaning xs) rs e n (r ∷ ls)) where
  looked : {u m : Bool} (bs : List Row) → bs ≡ take e rs → list_any (λ s. is_of r (meaning s)) xs ≡ u → list_any (is_of r) bs ≡ m → any (is_of r) (take e rs ++ map meaning xs) ≡ cond m true u
  looked bs b g h = rw (any_append (is_of r) (take e rs) (map meaning xs), sym b, sym (any_list (is_of r) bs), sym (any_rows (is_of r) xs), g, h) refl

  pub used_before : list_any (λ s. is_of r (meaning s)) xs ≡ true → CountsNew (map meaning xs) rs (e + 1) n ls
  used_before g = known_one (map meaning xs) rs e n r ls a (looked (take e rs) refl g refl ∙ or_true _)

  module _ (bs : List Row) (b : bs ≡ take e rs) where
    pub met_before : list_any (is_of r) bs ≡ true → CountsNew (map meaning xs) rs (e + 1) n ls
    met_before h = known_one (map meaning xs) rs e n r ls a (looked bs b refl h)

    pub new_here : list_any (λ s. is_of r (meaning s)) xs ≡ false → list_any (is_of r) bs ≡ false → CountsNew (map meaning xs) rs (e + 1) (n + 1) ls
    new_here g h = new_one (map meaning xs) rs e n r ls a (looked bs b g h)

-- All of them.
pub none_more : (t rs : List Row) (e n : ℕ) → CountsNew t rs e n [] → new_identities t rs ≡ n
unfolding new_identities
none_more t rs e n a = omega (arith, a.sum)

-- And no fewer are new than were met so far.
pub at_least : (t rs : List Row) (e n : ℕ) (ls : List Row) → CountsNew t rs e n ls → n ≤ new_identities t rs
at_least t rs e n ls a = omega (arith, a.sum)
