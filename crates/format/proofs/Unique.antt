-- Each body and count has exactly one cut, whatever the rule.
use Prim.Native.Nat.{ℕ, zero, suc, ◌+◌, ◌-◌, ◌<◌, zero-le, suc-le-suc}
use native.Mathlib.Nat.{le_of_suc-le-suc, not-suc-le-zero}
use native.Mathlib.Omega.{arith}
use mathlib.Core.Path.{◌≡◌, refl, sym}
use mathlib.Core.List.{List, [], ◌∷◌}
use mathlib.Core.Option.{Option, none, some}
use Rattle.format.specs.Cut.{Span, Rule, cut, after, Stands, IsCut}
use Rattle.format.specs.Cut.Stands.{done, next}

abbrev pub span : ℕ → ℕ → Span
span p n = record { at = p; len = n }

module _ (r : Rule) (b : List ℕ) where
  -- nothing stands at p: the cut ends there
  pub cut_none : (k p : ℕ) → r b p ≡ none → cut r b k p ≡ []
  unfolding cut
  cut_none zero p e = refl
  cut_none (suc k) p e = rw (cut, e)

  -- an entry stands at p: the cut goes on after it
  pub cut_some : (k p n : ℕ) → r b p ≡ some n → cut r b (suc k) p ≡ span p n ∷ cut r b k (p + n)
  unfolding cut
  cut_some k p n e = rw (cut, e)

  -- the same of a count that is not used up
  pub cut_next : (k p n : ℕ) → 0 < k → r b p ≡ some n → cut r b k p ≡ span p n ∷ cut r b (k - 1) (p + n)
  cut_next zero p n h e = absurd (not-suc-le-zero h)
  cut_next (suc k) p n h e = let q : suc k - 1 ≡ k = omega arith in rw q (cut_some k p n e)

  -- what `cut` gives is a cut
  pub is_cut : (k p : ℕ) → IsCut r b k p (cut r b k p)
  unfolding cut after
  is_cut zero p = record { most = zero-le; stands = done; full = λ h. absurd (not-suc-le-zero h) }
  is_cut (suc k) p = go (r b p) refl (is_cut k)
    where
      go : (o : Option ℕ) → r b p ≡ o → ((q : ℕ) → IsCut r b k q (cut r b k q)) → IsCut r b (suc k) p (cut r b (suc k) p)
      go none e ih = rw (cut_none (suc k) p e) (record { most = zero-le; stands = done; full = λ h. e })
      go (some n) e ih = rw (cut_some k p n e) (record { most = suc-le-suc (ih (p + n)).most; stands = next refl e (ih (p + n)).stands; full = λ h. (ih (p + n)).full (le_of_suc-le-suc h) })

  -- and there is no other
  pub only : (k p : ℕ) (ss : List Span) → IsCut r b k p ss → ss ≡ cut r b k p
  unfolding cut after
  only zero p [] c = refl
  only zero p (s ∷ ss) c = absurd (not-suc-le-zero c.most)
  only (suc k) p [] c = sym (cut_none (suc k) p (c.full (suc-le-suc zero-le)))
  only (suc k) p (s ∷ ss) c = go c.stands (only k)
    where
      go : Stands r b p (s ∷ ss) → ((q : ℕ) (ts : List Span) → IsCut r b k q ts → ts ≡ cut r b k q) → s ∷ ss ≡ cut r b (suc k) p
      go (next e f t) ih =
          let i : IsCut r b k (p + s.len) ss = record { most = le_of_suc-le-suc c.most; stands = t; full = λ h. c.full (suc-le-suc h) } in
          let h : ss ≡ cut r b k (p + s.len) = ih (p + s.len) ss i in
          rw (cut_some k p s.len f) (rw (← h, ← e))
