-- The body that a function code has, as `body3` says.
use Prim.Native.Nat.{ℕ, ◌≤◌, ◌<◌}
use native.Mathlib.Nat.{eq-or-lt_of_le}
use native.Mathlib.Omega.{arith}
use mathlib.Core.Bool.{Bool, true, false}
use mathlib.Core.List.{List, []}
use mathlib.Core.Logic.{◌⊎◌, inl, inr, ⊎_elim}
use mathlib.Core.Path.{◌≡◌, refl, sym}
use lib.Dec.{eqb}
use lib.ListN.{length}
use borrow.Author.Tests.{ne_eqb, le-ltb, eqb-true, eqb-false}
use Rattle.format.specs.Body.Body.{decoded, raw}
use Rattle.format.specs.V3.{router_lsa3, network_lsa3, inter_area_prefix_lsa, inter_area_router_lsa, external_lsa3, link_lsa, intra_area_prefix_lsa}
use Rattle.format.specs.V3.{tlvs, tlv_lsa, body3, e_router_lsa, e_network_lsa, e_link_lsa, e_intra_area_prefix_lsa}

module _ (f : ℕ) (b : List ℕ) (o : ℕ) where
  pub router_body : f ≡ 1 → body3 f b o ≡ router_lsa3 b o
  unfolding body3
  router_body e = rw e

  pub network_body : f ≡ 2 → body3 f b o ≡ network_lsa3 b o
  unfolding body3
  network_body e = rw e

  pub inter_area_prefix_body : f ≡ 3 → body3 f b o ≡ inter_area_prefix_lsa b o
  unfolding body3
  inter_area_prefix_body e = rw e

  pub inter_area_router_body : f ≡ 4 → body3 f b o ≡ inter_area_router_lsa b o
  unfolding body3
  inter_area_router_body e = rw e

  pub external_body : (f ≡ 5) ⊎ (f ≡ 7) → body3 f b o ≡ external_lsa3 b o
  unfolding body3
  external_body = ⊎_elim (λ e. rw e) (λ e. rw e)

  pub link_body : f ≡ 8 → body3 f b o ≡ link_lsa b o
  unfolding body3
  link_body e = rw e

  pub intra_area_prefix_body : f ≡ 9 → body3 f b o ≡ intra_area_prefix_lsa b o
  unfolding body3
  intra_area_prefix_body e = rw e

  pub e_router_body : f ≡ 33 → body3 f b o ≡ e_router_lsa b o
  unfolding body3
  e_router_body e = rw e

  pub e_network_body : f ≡ 34 → body3 f b o ≡ e_network_lsa b o
  unfolding body3
  e_network_body e = rw e

  pub e_link_body : f ≡ 40 → body3 f b o ≡ e_link_lsa b o
  unfolding body3
  e_link_body e = rw e

  pub e_intra_area_prefix_body : f ≡ 41 → body3 f b o ≡ e_intra_area_prefix_lsa b o
  unfolding body3
  e_intra_area_prefix_body e = rw e

  -- bodies that are TLVs alone
  pub tlv_body : (f ≡ 12) ⊎ ((f ≡ 39) ⊎ (f ≡ 42)) → body3 f b o ≡ tlv_lsa 0 [] b o
  unfolding body3
  tlv_body = ⊎_elim (λ e. rw e) (⊎_elim (λ e. rw e) (λ e. rw e))

  -- the same, by what the number is not
  pub tlv_body_else : ((f ≡ 12 → ⊥) → (f ≡ 39 → ⊥) → (f ≡ 42 → ⊥) → ⊥) → body3 f b o ≡ tlv_lsa 0 [] b o
  tlv_body_else h = go (eqb f 12) refl (eqb f 39) refl (eqb f 42) refl
    where
      go : (s : Bool) → eqb f 12 ≡ s → (t : Bool) → eqb f 39 ≡ t → (u : Bool) → eqb f 42 ≡ u → body3 f b o ≡ tlv_lsa 0 [] b o
      go true e t k u l = tlv_body (inl (eqb-true f 12 e))
      go false e true k u l = tlv_body (inr (inl (eqb-true f 39 k)))
      go false e false k true l = tlv_body (inr (inr (eqb-true f 42 l)))
      go false e false k false l = absurd (h (eqb-false f 12 e) (eqb-false f 39 k) (eqb-false f 42 l))

  pub tlv_body_between : 33 ≤ f → (f ≡ 33 → ⊥) → (f ≡ 34 → ⊥) → f < 38 → body3 f b o ≡ tlv_lsa 0 [] b o
  unfolding body3
  tlv_body_between g x y h =
      let k : 35 ≤ f = omega arith in
      ⊎_elim
      (λ i. let e : f ≡ 35 = sym i in rw e)
      (λ i. ⊎_elim (λ j. let e : f ≡ 36 = sym j in rw e) (λ j. let e : f ≡ 37 = omega arith in rw e) (eq-or-lt_of_le i))
      (eq-or-lt_of_le k)

  pub tlvs_alone : tlv_lsa 0 [] b o ≡ decoded (tlvs b o 0) (length b)
  unfolding tlv_lsa
  tlvs_alone = rw (le-ltb (length b) 0 (omega arith))

  -- no function
  pub no_body : (f ≡ 1 → ⊥) → (f ≡ 2 → ⊥) → (f ≡ 3 → ⊥) → (f ≡ 4 → ⊥) → ((f ≡ 5) ⊎ (f ≡ 7) → ⊥) → (f ≡ 8 → ⊥) → (f ≡ 9 → ⊥)
      → ((f ≡ 12) ⊎ ((f ≡ 39) ⊎ (f ≡ 42)) → ⊥) → (f ≡ 33 → ⊥) → (f ≡ 34 → ⊥) → (f ≡ 40 → ⊥) → (f ≡ 41 → ⊥) → (35 ≤ f → f < 38 → ⊥)
      → body3 f b o ≡ raw
  unfolding body3
  no_body h1 h2 h3 h4 h5 h8 h9 h12 h33 h34 h40 h41 h35 =
      rw (
        ne_eqb f 1 h1,
        ne_eqb f 2 h2,
        ne_eqb f 3 h3,
        ne_eqb f 4 h4,
        ne_eqb f 5 (λ e. h5 (inl e)),
        ne_eqb f 7 (λ e. h5 (inr e)),
        ne_eqb f 8 h8,
        ne_eqb f 9 h9,
        ne_eqb f 12 (λ e. h12 (inl e)),
        ne_eqb f 33 h33,
        ne_eqb f 34 h34,
        ne_eqb f 35 (λ e. h35 (omega arith) (omega arith)),
        ne_eqb f 36 (λ e. h35 (omega arith) (omega arith)),
        ne_eqb f 37 (λ e. h35 (omega arith) (omega arith)),
        ne_eqb f 39 (λ e. h12 (inr (inl e))),
        ne_eqb f 40 h40,
        ne_eqb f 41 h41,
        ne_eqb f 42 (λ e. h12 (inr (inr e))),
      )
