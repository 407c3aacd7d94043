-- Bytes that are the same: what it means, and how they are compared one by one or part by part.
use Prim.Native.Nat.{ℕ}
use native.Mathlib.Omega.{arith}
use mathlib.Core.Path.{◌≡◌, refl, sym}
use mathlib.Core.Bool.{Bool, true, false, cond, ◌&&◌}
use mathlib.Core.List.{List, [], ◌∷◌, ◌++◌}
use lib.ListN.{length, take, drop}
use lib.Dec.{eqb}
use lib.Pointwise.{pointwise}
use borrow.Author.Tests.{eq-eqb, eqb-true}
use Rattle.std.specs.Prelude.{IsTrue, ◌↔◌}
use Rattle.format.specs.Bytes.{same_bytes}

pub same_bytes_lem : (xs ys : List ℕ) → same_bytes xs ys ≡ true → xs ≡ ys
unfolding same_bytes
same_bytes_lem [] [] h = refl
same_bytes_lem [] (y ∷ ys) h = let z : ◌≡◌ {A = ℕ} 0 1 = cc in absurd (omega arith)
same_bytes_lem (x ∷ xs) [] h = let z : ◌≡◌ {A = ℕ} 0 1 = cc in absurd (omega arith)
same_bytes_lem (x ∷ xs) (y ∷ ys) h = go (eqb x y) refl h (same_bytes_lem xs ys)
  where
    go : (s : Bool) → eqb x y ≡ s → cond s (same_bytes xs ys) false ≡ true → (same_bytes xs ys ≡ true → xs ≡ ys) → x ∷ xs ≡ y ∷ ys
    go true e h ih = let p = eqb-true x y e in let q = ih h in cc
    go false e h ih = let z : ◌≡◌ {A = ℕ} 0 1 = cc in absurd (omega arith)

pub same_bytes_self : (xs : List ℕ) → same_bytes xs xs ≡ true
unfolding same_bytes
same_bytes_self [] = refl
same_bytes_self (x ∷ xs) = rw (eq-eqb x x refl) (same_bytes_self xs)

-- two parts after each other, the first as long as x
pub same_parts : (s x y : List ℕ) → same_bytes s (x ++ y) ≡ cond (same_bytes (take (length x) s) x) (same_bytes (drop (length x) s) y) false
unfolding same_bytes
same_parts s [] y = refl
same_parts [] (u ∷ x) y = refl
same_parts (v ∷ s) (u ∷ x) y = go (eqb v u) (same_parts s x y)
  where
    go : (t : Bool) → same_bytes s (x ++ y) ≡ cond (same_bytes (take (length x) s) x) (same_bytes (drop (length x) s) y) false
        → cond t (same_bytes s (x ++ y)) false ≡ cond (cond t (same_bytes (take (length x) s) x) false) (same_bytes (drop (length x) s) y) false
    go true e = e
    go false e = refl

-- what `==` of the code answers
pub pointwise_same : (xs ys : List ℕ) → pointwise eqb xs ys ≡ same_bytes xs ys
unfolding same_bytes
pointwise_same [] [] = refl
pointwise_same [] (y ∷ ys) = refl
pointwise_same (x ∷ xs) [] = refl
pointwise_same (x ∷ xs) (y ∷ ys) = go (eqb x y) (pointwise_same xs ys)
  where
    go : (t : Bool) → pointwise eqb xs ys ≡ same_bytes xs ys → (t && pointwise eqb xs ys) ≡ cond t (same_bytes xs ys) false
    go true e = e
    go false e = refl

-- a test that tells whether they are the same
pub same_told : (t : Bool) (xs ys : List ℕ) → IsTrue t ↔ (xs ≡ ys) → t ≡ same_bytes xs ys
same_told true xs ys h = rw (h.0 refl) (sym (same_bytes_self ys))
same_told false xs ys h = go (same_bytes xs ys) refl
  where
    go : (t : Bool) → same_bytes xs ys ≡ t → false ≡ t
    go true e = h.1 (same_bytes_lem xs ys e)
    go false e = refl
