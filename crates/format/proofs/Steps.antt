-- The strip reader's step, case by case: what it answers, exactly when.
use Prim.Native.Nat.{ℕ, zero, suc, ◌+◌, ◌-◌, ◌≤◌, ◌<◌}
use native.Mathlib.Omega.{arith}
use mathlib.Core.Path.{◌≡◌, refl, ◌∙◌}
use mathlib.Core.Logic.{◌⊎◌, inl, inr, ⊎_elim}
use mathlib.Core.Bool.{Bool, true, false}
use mathlib.Core.List.{List, [], ◌∷◌}
use mathlib.Core.Option.{none, some}
use lib.ListN.{length, get_or}
use lib.Dec.{ltb, leb}
use borrow.Author.Tests.{ltb-true, ltb-false, leb-true, leb-false, lt-ltb, le-ltb, le-leb, lt-leb, eq-eqb, ne_eqb}
use Rattle.format.specs.Strip.{Step, length_in, body_length, entry_at, body_at, step_at}
use Rattle.format.specs.Strip.Step.{entry, end, refused}
use Rattle.format.specs.Refusals.{body_bytes, Kind, entry_end, Steps}

-- Bodies of these lengths, for the kinds from j on.
abbrev rows : ℕ → List ℕ → List (ℕ × ℕ)
rows j [] = []
rows j (l ∷ ls) = (j, l) ∷ rows (suc j) ls

-- A kind among them has its length, and no other has one.
found : (ls : List ℕ) (j n k : ℕ) → n < length ls → k ≡ j + n → length_in (rows j ls) k ≡ some (get_or ls n 0)
found [] j n k h e = absurd (omega arith)
found (l ∷ ls) j zero k h e = rw (eq-eqb k j (omega arith))
found (l ∷ ls) j (suc n) k h e = rw (ne_eqb k j (λ z. omega arith)) (found ls (suc j) n k (omega arith) (omega arith))

lost : (ls : List ℕ) (j k : ℕ) → (j ≤ k → k < j + length ls → ⊥) → length_in (rows j ls) k ≡ none
lost [] j k h = refl
lost (l ∷ ls) j k h = rw (ne_eqb k j (λ z. h (omega arith) (omega arith))) (lost ls (suc j) k (λ a b. h (omega arith) (omega arith)))

-- `bodies` is the rows of the kinds from 1 on: these are the kinds and no other, and their bodies have these lengths.
pub kind_length : (k : ℕ) → Kind k → body_length k ≡ some (get_or body_bytes (k - 1) 0)
kind_length k h = found body_bytes 1 (k - 1) k (omega (arith, h.0, h.1)) (omega (arith, h.0))

pub no_kind : (k : ℕ) → (Kind k → ⊥) → body_length k ≡ none
no_kind k h = lost body_bytes 1 k (λ a b. h (a, omega arith))

-- A number is a kind or it is none.
decided : (k : ℕ) → Kind k ⊎ (Kind k → ⊥)
decided k = go (leb 1 k) refl (leb k 10) refl
  where
    go : (a : Bool) → leb 1 k ≡ a → (b : Bool) → leb k 10 ≡ b → Kind k ⊎ (Kind k → ⊥)
    go false f b g = inr (λ z. omega (arith, leb-false 1 k f, z.0))
    go true f false g = inr (λ z. omega (arith, leb-false k 10 g, z.1))
    go true f true g = inl (leb-true 1 k f, leb-true k 10 g)

-- What each answer says of the strip and the place.
abbrev Says : List ℕ → ℕ → Step → Type 0
Says s p (entry x q) = (p < length s) × Kind (get_or s p 0) × (entry_end s p ≤ length s) × (x ≡ entry_at (get_or s p 0) s (p + 1)) × (q ≡ entry_end s p)
Says s p end = p ≡ length s
Says s p (refused n) =
    ((n ≡ 6) × (length s < p)) ⊎ ((n ≡ 7) × (p < length s) × (Kind (get_or s p 0) → ⊥)) ⊎ ((n ≡ 8) × (p < length s) × Kind (get_or s p 0) × (length s < entry_end s p))

module _ (s : List ℕ) (p : ℕ) where
  -- The answers, from what is known of the place.
  beyond : length s < p → step_at s p ≡ refused 6
  unfolding step_at
  beyond h = rw (lt-ltb (length s) p h)

  ended : p ≡ length s → step_at s p ≡ end
  unfolding step_at
  ended h = rw (le-ltb (length s) p (omega arith), eq-eqb p (length s) h)

  unknown : p < length s → (Kind (get_or s p 0) → ⊥) → step_at s p ≡ refused 7
  unfolding step_at
  unknown h k = rw (le-ltb (length s) p (omega arith), ne_eqb p (length s) (λ e. omega arith), body_at, no_kind (get_or s p 0) k)

  cut_off : p < length s → Kind (get_or s p 0) → length s < entry_end s p → step_at s p ≡ refused 8
  unfolding step_at
  cut_off h k l = rw (le-ltb (length s) p (omega arith), ne_eqb p (length s) (λ e. omega arith), body_at, kind_length (get_or s p 0) k, lt-leb (entry_end s p) (length s) l)

  whole : p < length s → Kind (get_or s p 0) → entry_end s p ≤ length s → step_at s p ≡ entry (entry_at (get_or s p 0) s (p + 1)) (entry_end s p)
  unfolding step_at
  whole h k l = rw (le-ltb (length s) p (omega arith), ne_eqb p (length s) (λ e. omega arith), body_at, kind_length (get_or s p 0) k, le-leb (entry_end s p) (length s) l)

  -- One of these holds.
  says : Says s p (step_at s p)
  says = go (ltb (length s) p) refl (ltb p (length s)) refl (leb (entry_end s p) (length s)) refl (decided (get_or s p 0))
    where
      go : (a : Bool) → ltb (length s) p ≡ a → (b : Bool) → ltb p (length s) ≡ b → (e : Bool) → leb (entry_end s p) (length s) ≡ e
          → Kind (get_or s p 0) ⊎ (Kind (get_or s p 0) → ⊥) → Says s p (step_at s p)
      go true h b i e l k = let z = ltb-true (length s) p h in rw (beyond z) (inl (refl, z))
      go false h false i e l k = let z : p ≡ length s = omega (arith, ltb-false (length s) p h, ltb-false p (length s) i) in rw (ended z) z
      go false h true i e l (inr n) = let z = ltb-true p (length s) i in rw (unknown z n) (inr (inl (refl, z, n)))
      go false h true i false l (inl n) =
          let z = ltb-true p (length s) i in
          let m = leb-false (entry_end s p) (length s) l in
          rw (cut_off z n m) (inr (inr (refl, z, n, m)))
      go false h true i true l (inl n) =
          let z = ltb-true p (length s) i in
          let m = leb-true (entry_end s p) (length s) l in
          rw (whole z n m) (z, n, m, refl, refl)

  -- Every step answers by the table.
  pub steps : Steps s p
  steps = record {
    six = (λ e. ⊎_elim (λ z. z.1) (λ z. absurd (⊎_elim (λ y. let n = y.0 in omega arith) (λ y. let n = y.0 in omega arith) z)) (rw e at says), beyond);
    ends = (λ e. rw e at says, ended);
    seven = (
      λ e. ⊎_elim (λ z. absurd (let n = z.0 in omega arith)) (λ z. ⊎_elim (λ y. (y.1, y.2)) (λ y. absurd (let n = y.0 in omega arith)) z) (rw e at says),
      λ h. unknown h.0 h.1,
    );
    eight = (
      λ e. ⊎_elim (λ z. absurd (let n = z.0 in omega arith)) (λ z. ⊎_elim (λ y. absurd (let n = y.0 in omega arith)) (λ y. (y.1, y.2, y.3)) z) (rw e at says),
      λ h. cut_off h.0 h.1 h.2,
    );
    gives = λ x q. (λ e. rw e at says, λ h. whole h.0 h.1 h.2 ∙ rw (h.3, h.4));
    no_other = λ n e. ⊎_elim (λ z. inl z.0) (λ z. inr (⊎_elim (λ y. inl y.0) (λ y. inr y.0) z)) (rw e at says);
  }
