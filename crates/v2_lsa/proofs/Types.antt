-- The cases of an LS type, as the code tells them apart.
use Prim.Native.Nat.{ℕ, suc, ◌≤◌, ◌<◌}
use native.Mathlib.Omega.{arith}
use mathlib.Core.Path.{◌≡◌, refl}
use mathlib.Core.Bool.{Bool, true, false}
use mathlib.Core.Logic.{◌⊎◌, inl, inr, ⊎_elim}
use mathlib.Core.List.{List}
use lib.Dec.{leb}
use borrow.Author.Tests.{leb-true, leb-false, ne_eqb}
use Rattle.format.specs.Body.Body.{raw}
use Rattle.format.specs.V2.{body2, router_lsa2, network_lsa2, summary_lsa, external_lsa2, opaque_lsa}

-- One of two numbers that follow one another.
pub either : (n t : ℕ) → n ≤ t → t < suc (suc n) → (t ≡ n) ⊎ (t ≡ suc n)
either n t h l = go (leb t n) refl
  where
    go : (s : Bool) → leb t n ≡ s → (t ≡ n) ⊎ (t ≡ suc n)
    go true e = inl (omega (arith, leb-true t n e))
    go false e = inr (omega (arith, leb-false t n e))

module _ (t u : ℕ) (b : List ℕ) (o : ℕ) where
  pub is_router : t ≡ 1 → body2 t u b o ≡ router_lsa2 b o
  unfolding body2
  is_router e = rw e

  pub is_network : t ≡ 2 → body2 t u b o ≡ network_lsa2 b o
  unfolding body2
  is_network e = rw e

  pub is_summary : 3 ≤ t → t < 5 → body2 t u b o ≡ summary_lsa b o
  unfolding body2
  is_summary h l = ⊎_elim (λ e. rw e) (λ e. rw e) (either 3 t h l)

  pub is_external : (t ≡ 5) ⊎ (t ≡ 7) → body2 t u b o ≡ external_lsa2 b o
  unfolding body2
  is_external w = ⊎_elim (λ e. rw e) (λ e. rw e) w

  pub is_opaque_lem : 9 ≤ t → t < 12 → body2 t u b o ≡ opaque_lsa u b o
  unfolding body2
  is_opaque_lem h l = go (leb t 10) refl
    where
      go : (s : Bool) → leb t 10 ≡ s → body2 t u b o ≡ opaque_lsa u b o
      go true e = ⊎_elim (λ e. rw e) (λ e. rw e) (either 9 t h (omega (arith, leb-true t 10 e)))
      go false e = let z : t ≡ 11 = omega (arith, leb-false t 10 e) in rw z

  -- any other type
  pub is_raw_lem : (t ≡ 1 → ⊥) → (t ≡ 2 → ⊥) → ((t ≡ 5) ⊎ (t ≡ 7) → ⊥) → (3 ≤ t → t < 5 → ⊥) → (9 ≤ t → t < 12 → ⊥) → body2 t u b o ≡ raw
  unfolding body2
  is_raw_lem router network external summary opaque =
      rw (
        ne_eqb t 1 router,
        ne_eqb t 2 network,
        ne_eqb t 3 (λ e. summary (omega arith) (omega arith)),
        ne_eqb t 4 (λ e. summary (omega arith) (omega arith)),
        ne_eqb t 5 (λ e. external (inl e)),
        ne_eqb t 7 (λ e. external (inr e)),
        ne_eqb t 9 (λ e. opaque (omega arith) (omega arith)),
        ne_eqb t 10 (λ e. opaque (omega arith) (omega arith)),
        ne_eqb t 11 (λ e. opaque (omega arith) (omega arith)),
      )
