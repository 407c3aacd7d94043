-- Propositions that a test decides: a comparison, either of two, and that a version is known; and tests that decide the same.
use Prim.Native.Nat.{ℕ, ◌<◌}
use native.Mathlib.Omega.{arith}
use mathlib.Core.Path.{◌≡◌, refl}
use mathlib.Core.Logic.{◌↔◌, ◌⊎◌, inl, inr, ⊎_elim}
use mathlib.Core.Bool.{Bool, true, false, cond}
use lib.Dec.{ltb, eqb}
use borrow.Author.Tests.{ltb-true, ltb-false, eqb-true, eqb-false}
use Rattle.format.specs.Header.{is_known}

pub data Decided (p : Type 0) : Bool → Type 0 where
  holds : p → Decided p true
  fails : (p → ⊥) → Decided p false

pub less : (a b : ℕ) → Decided (a < b) (ltb a b)
less a b = go (ltb a b) refl
  where
    go : (t : Bool) → ltb a b ≡ t → Decided (a < b) t
    go true e = holds (ltb-true a b e)
    go false e = fails (λ h. let q = ltb-false a b e in omega arith)

pub equal : (a b : ℕ) → Decided (a ≡ b) (eqb a b)
equal a b = go (eqb a b) refl
  where
    go : (t : Bool) → eqb a b ≡ t → Decided (a ≡ b) t
    go true e = holds (eqb-true a b e)
    go false e = fails (eqb-false a b e)

pub either : {p q : Type 0} {s t : Bool} → Decided p s → Decided q t → Decided (p ⊎ q) (cond s true t)
either (holds h) d = holds (inl h)
either (fails f) (holds h) = holds (inr h)
either (fails f) (fails g) = fails (λ h. ⊎_elim f g h)

pub alike : {p q : Type 0} {s t : Bool} → Decided p s → Decided q t → p ↔ q → s ≡ t
alike (holds h) (holds i) e = refl
alike (holds h) (fails g) e = absurd (g (e.0 h))
alike (fails f) (holds i) e = absurd (f (e.1 i))
alike (fails f) (fails g) e = refl

pub version : (v : ℕ) → Decided ((v ≡ 2) ⊎ (v ≡ 3)) (is_known v)
version v = either (equal v 2) (equal v 3)
