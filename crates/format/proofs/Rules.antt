-- What a rule's answer says: the entry lies in the body, and is no shorter than the rule's least length.
use Prim.Native.Nat.{ℕ, ◌+◌, ◌*◌, ◌≤◌}
use native.Mathlib.Omega.{arith}
use mathlib.Core.Path.{◌≡◌, refl, sym}
use mathlib.Core.Bool.{Bool, true, false, cond}
use mathlib.Core.List.{List}
use mathlib.Core.Option.{Option, none, some}
use lib.ListN.{length, get_or}
use lib.Dec.{leb}
use borrow.Author.Tests.{leb-true}
use Rattle.format.specs.Cut.{Rule, standing, fitting, link_rule}

pub record Inside (least : ℕ) (declared : Rule) (b : List ℕ) (p n : ℕ) : Type 0 where
  pub within : p + n ≤ length b
  pub enough : least ≤ n
  pub length_declared : declared b p ≡ some n

pub inside : (least : ℕ) (declared : Rule) (b : List ℕ) (p n : ℕ) → standing least declared b p ≡ some n → Inside least declared b p n
unfolding standing
inside least declared b p n e = go (leb (p + least) (length b)) (declared b p) refl e
  where
    fits : (m : ℕ) (s t : Bool) → leb least m ≡ s → leb (p + m) (length b) ≡ t → declared b p ≡ some m → cond s (cond t (some m) none) none ≡ some n → Inside least declared b p n
    fits m true true h i d q =
        let z : m ≡ n = cc in
        record { within = omega (arith, leb-true (p + m) (length b) i); enough = omega (arith, leb-true least m h); length_declared = cc }
    fits m true false h i d q = let z : ◌≡◌ {A = ℕ} 0 1 = cc in absurd (omega arith)
    fits m false t h i d q = let z : ◌≡◌ {A = ℕ} 0 1 = cc in absurd (omega arith)

    go : (s : Bool) (d : Option ℕ) → declared b p ≡ d → cond s (elim d [ none ↦ none | some m ↦ fitting least b p m ]) none ≡ some n → Inside least declared b p n
    go true (some m) d q = fits m (leb least m) (leb (p + m) (length b)) refl refl d q
    go true none d q = let z : ◌≡◌ {A = ℕ} 0 1 = cc in absurd (omega arith)
    go false d f q = let z : ◌≡◌ {A = ℕ} 0 1 = cc in absurd (omega arith)

-- A link that stands lies in the body, and is as long as its TOS metrics make it.
pub link_inside_lem : (b : List ℕ) (p n : ℕ) → link_rule b p ≡ some n → (p + n ≤ length b) × (n ≡ 12 + get_or b (p + 9) 0 * 4)
link_inside_lem b p n e =
    let h = inside 12 (λ b p. some (12 + get_or b (p + 9) 0 * 4)) b p n e in
    let z : 12 + get_or b (p + 9) 0 * 4 ≡ n = cc h.length_declared in
    (h.within, sym z)
