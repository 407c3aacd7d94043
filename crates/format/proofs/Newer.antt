-- Newness answers by the rules of RFC 2328 13.1.
use Prim.Native.Nat.{ℕ, ◌+◌, ◌≤◌, ◌<◌}
use native.Mathlib.Numerals.{lt_of_le_of_ne}
use native.Mathlib.Omega.{arith}
use mathlib.Core.Path.{◌≡◌, refl, sym, ap, ◌∙◌}
use mathlib.Core.Logic.{◌↔◌, ◌⊎◌, inl, inr, ⊎_elim}
use mathlib.Core.Bool.{Bool, true, false, cond}
use lib.Dec.{ltb, eqb}
use borrow.Author.Tests.{ltb-true, ltb-false, lt-ltb, le-ltb, eqb-true, eqb-false, eq-eqb, ne_eqb}
use Rattle.format.specs.Header.{Header, Newness, newness, signed_rank, larger, aged, younger}
use Rattle.format.specs.Header.Newness.{first, second, same, refused}
use Rattle.format.specs.Newer.{SignedBelow, Newer, NewnessIs}
use Rattle.format.specs.Newer.SignedBelow.{negative, both_negative, neither_negative}
use Rattle.format.proofs.Newness.{swapped, newness_swap}
use Rattle.format.specs.Newer.Newer.{by_sequence, by_checksum, by_max_age, by_age}

-- The rank of a number is its place in the signed order.
below_rank : {x y : ℕ} → x < 4294967296 → y < 4294967296 → SignedBelow x y → signed_rank x < signed_rank y
below_rank h k (negative a b) = omega arith
below_rank h k (both_negative a b c) = omega arith
below_rank h k (neither_negative a b c) = omega arith

rank_below : (x y : ℕ) → x < 4294967296 → y < 4294967296 → signed_rank x < signed_rank y → SignedBelow x y
rank_below x y h k l = go (ltb x 2147483648) refl (ltb y 2147483648) refl
  where
    go : (s : Bool) → ltb x 2147483648 ≡ s → (t : Bool) → ltb y 2147483648 ≡ t → SignedBelow x y
    go true e true f = let a = ltb-true x 2147483648 e in let b = ltb-true y 2147483648 f in neither_negative a b (omega arith)
    go true e false f = let a = ltb-true x 2147483648 e in let b = ltb-false y 2147483648 f in absurd (omega arith)
    go false e true f = negative (ltb-false x 2147483648 e) (ltb-true y 2147483648 f)
    go false e false f = let a = ltb-false x 2147483648 e in let b = ltb-false y 2147483648 f in both_negative a b (omega arith)

rank_equal : (x y : ℕ) → x < 4294967296 → y < 4294967296 → signed_rank x ≡ signed_rank y → x ≡ y
rank_equal x y h k e = omega arith

-- What is compared where neither age is refused.
abbrev ranked : Header → Header → Newness
ranked x y = larger (signed_rank x.sequence_number) (signed_rank y.sequence_number) (larger x.checksum y.checksum (aged x.age y.age (younger x.age y.age)))

-- Each comparison, for whatever holds of its answer.
module _ (P : Newness → Type 0) where
  larger-says : (a b : ℕ) (n : Newness) → (b < a → P first) → (a < b → P second) → (a ≡ b → P n) → P (larger a b n)
  larger-says a b n f s e = go (ltb b a) refl (ltb a b) refl
    where
      go : (u : Bool) → ltb b a ≡ u → (w : Bool) → ltb a b ≡ w → P (cond u first (cond w second n))
      go true p w q = f (ltb-true b a p)
      go false p true q = s (ltb-true a b q)
      go false p false q = let l = ltb-false b a p in let m = ltb-false a b q in e (omega arith)

  aged-says : (a b : ℕ) (n : Newness) → (a ≡ 3600 → (b ≡ 3600 → ⊥) → P first) → ((a ≡ 3600 → ⊥) → b ≡ 3600 → P second) → ((a ≡ 3600) ↔ (b ≡ 3600) → P n) → P (aged a b n)
  aged-says a b n f s e = go (eqb a 3600) refl (eqb b 3600) refl
    where
      go : (u : Bool) → eqb a 3600 ≡ u → (w : Bool) → eqb b 3600 ≡ w → P (cond u (cond w n first) (cond w second n))
      go true p true q = e (λ z. eqb-true b 3600 q, λ z. eqb-true a 3600 p)
      go true p false q = f (eqb-true a 3600 p) (eqb-false b 3600 q)
      go false p true q = s (eqb-false a 3600 p) (eqb-true b 3600 q)
      go false p false q = e (λ z. absurd (eqb-false a 3600 p z), λ z. absurd (eqb-false b 3600 q z))

  younger-says : (a b : ℕ) → (a + 900 < b → P first) → (b + 900 < a → P second) → P same → P (younger a b)
  younger-says a b f s e = go (ltb (a + 900) b) refl (ltb (b + 900) a) refl
    where
      go : (u : Bool) → ltb (a + 900) b ≡ u → (w : Bool) → ltb (b + 900) a ≡ w → P (cond u first (cond w second same))
      go true p w q = f (ltb-true (a + 900) b p)
      go false p true q = s (ltb-true (b + 900) a q)
      go false p false q = e

module _ (x y : Header) (h : x.sequence_number < 4294967296) (k : y.sequence_number < 4294967296) where
  -- What each answer says.
  abbrev Says : Newness → Type 0
  Says first = (x.age ≤ 3600) × (y.age ≤ 3600) × Newer x y
  Says second = (x.age ≤ 3600) × (y.age ≤ 3600) × Newer y x
  Says same = (x.age ≤ 3600) × (y.age ≤ 3600)
  Says (refused n) = (n ≡ 11) × ((3600 < x.age) ⊎ (3600 < y.age))

  says : Says (newness x y)
  unfolding newness
  says = go (ltb 3600 x.age) refl (ltb 3600 y.age) refl
    where
      by_numbers : x.age ≤ 3600 → y.age ≤ 3600 → Says (ranked x y)
      by_numbers a b =
          larger-says Says _ _ _ (λ l. (a, b, by_sequence (rank_below _ _ k h l))) (λ l. (a, b, by_sequence (rank_below _ _ h k l))) (λ r.
          let e = rank_equal _ _ h k r in
          larger-says Says _ _ _ (λ l. (a, b, by_checksum e l)) (λ l. (a, b, by_checksum (sym e) l)) (λ c.
          aged-says Says _ _ _ (λ m n. (a, b, by_max_age e c m (lt_of_le_of_ne b n))) (λ n m. (a, b, by_max_age (sym e) (sym c) m (lt_of_le_of_ne a n))) (λ w.
          younger-says Says _ _
          (λ l. (a, b, by_age e c (lt_of_le_of_ne b (λ z. let q = w.1 z in omega arith)) l))
          (λ l. (a, b, by_age (sym e) (sym c) (lt_of_le_of_ne a (λ z. let q = w.0 z in omega arith)) l)) (a, b))))

      go : (s : Bool) → ltb 3600 x.age ≡ s → (t : Bool) → ltb 3600 y.age ≡ t
          → Says (cond s (refused 11) (cond t (refused 11) (ranked x y)))
      go true p t q = (refl, inl (ltb-true 3600 x.age p))
      go false p true q = (refl, inr (ltb-true 3600 y.age q))
      go false p false q = by_numbers (ltb-false 3600 x.age p) (ltb-false 3600 y.age q)

-- A header that is newer by a rule is answered.
newer_first : (x y : Header) → x.sequence_number < 4294967296 → y.sequence_number < 4294967296 → x.age ≤ 3600 → y.age ≤ 3600 → Newer x y → newness x y ≡ first
unfolding newness
newer_first x y h k a b n = rw (le-ltb 3600 x.age a, le-ltb 3600 y.age b) (go n)
  where
    alike : (p q : ℕ) (m : Newness) → p ≡ q → larger p q m ≡ m
    alike p q m e = rw (le-ltb q p (omega arith), le-ltb p q (omega arith))

    go : Newer x y → ranked x y ≡ first
    go (by_sequence s) = rw (lt-ltb _ _ (below_rank k h s))
    go (by_checksum e c) = rw (alike _ _ _ (ap signed_rank e), lt-ltb _ _ c)
    go (by_max_age e c m l) = rw (alike _ _ _ (ap signed_rank e), alike _ _ _ c, eq-eqb _ 3600 m, ne_eqb y.age 3600 (λ z. omega arith))
    go (by_age e c m l) = rw (alike _ _ _ (ap signed_rank e), alike _ _ _ c, ne_eqb x.age 3600 (λ z. omega arith), ne_eqb y.age 3600 (λ z. omega arith), lt-ltb _ _ l)

pub newness_is : (x y : Header) → x.sequence_number < 4294967296 → y.sequence_number < 4294967296 → NewnessIs x y
newness_is x y h k = record {
  eleven = (λ e. (rw e at (says x y h k)).1, λ p. old (newness x y) refl (says x y h k) p);
  first_is = (λ e. rw e at (says x y h k), λ p. newer_first x y h k p.0 p.1 p.2);
  second_is = (λ e. rw e at (says x y h k), λ p. newer_second p.0 p.1 p.2);
  same_is = (
    λ e. let p = rw e at (says x y h k) in (p.0, p.1, λ n. differ (sym (newer_first x y h k p.0 p.1 n) ∙ e), λ n. differ' (sym (newer_second p.0 p.1 n) ∙ e)),
    λ p. neither (newness x y) refl (says x y h k) p,
  );
  no_other = λ n e. (rw e at (says x y h k)).0;
}
  where
    newer_second : x.age ≤ 3600 → y.age ≤ 3600 → Newer y x → newness x y ≡ second
    newer_second a b n = newness_swap y x ∙ ap swapped (newer_first y x k h b a n)

    differ : first ≡ same → ⊥
    differ e = let z : ◌≡◌ {A = ℕ} 0 1 = cc in omega arith

    differ' : second ≡ same → ⊥
    differ' e = let z : ◌≡◌ {A = ℕ} 0 1 = cc in omega arith

    old : (n : Newness) → newness x y ≡ n → Says x y h k n → (3600 < x.age) ⊎ (3600 < y.age) → newness x y ≡ refused 11
    old first e s p = absurd (let a = s.0 in let b = s.1 in ⊎_elim (λ z. omega arith) (λ z. omega arith) p)
    old second e s p = absurd (let a = s.0 in let b = s.1 in ⊎_elim (λ z. omega arith) (λ z. omega arith) p)
    old same e s p = absurd (let a = s.0 in let b = s.1 in ⊎_elim (λ z. omega arith) (λ z. omega arith) p)
    old (refused n) e s p = e ∙ ap refused s.0

    neither : (n : Newness) → newness x y ≡ n → Says x y h k n → (x.age ≤ 3600) × (y.age ≤ 3600) × (Newer x y → ⊥) × (Newer y x → ⊥) → newness x y ≡ same
    neither first e s p = absurd (p.2 s.2)
    neither second e s p = absurd (p.3 s.2)
    neither same e s p = e
    neither (refused n) e s p = absurd (let a = p.0 in let b = p.1 in ⊎_elim (λ z. omega arith) (λ z. omega arith) s.1)
