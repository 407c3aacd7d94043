-- The calls of a file one after another: what is left of them at a place.
use Prim.Native.Nat.{ℕ, zero, suc, ◌+◌, ◌-◌, ◌≤◌}
use native.Mathlib.Omega.{arith}
use mathlib.Core.Path.{◌≡◌, refl, sym, ap, ◌∙◌}
use mathlib.Core.List.{List, [], ◌∷◌}
use mathlib.Core.Option.{Option, none, some}
use lib.ListN.{length}
use Rattle.format.specs.Cut.{Span, cut}
use Rattle.format.proofs.Unique.{span, cut_none, cut_some, cut_next}
use Rattle.replay_call.specs.Stored.{call_rule, call_size}
use Rattle.replay_call.specs.Calls.{places_from}
use Rattle.replay_call.proofs.Rule.{beyond, standing_call}

module _ (most : ℕ) (b : List ℕ) where
  -- No more calls stand than there are bytes, so any count of that many or more gives all.
  enough : (k j p : ℕ) → length b ≤ k + p → length b ≤ j + p → cut (call_rule most) b k p ≡ cut (call_rule most) b j p
  unfolding cut
  enough zero zero p h i = refl
  enough zero (suc j) p h i = sym (cut_none (call_rule most) b (suc j) p (beyond most b p (omega arith)))
  enough (suc k) zero p h i = cut_none (call_rule most) b (suc k) p (beyond most b p (omega arith))
  enough (suc k) (suc j) p h i = go (call_rule most b p) refl (enough k j)
    where
      go : (o : Option ℕ) → call_rule most b p ≡ o → ((q : ℕ) → length b ≤ k + q → length b ≤ j + q → cut (call_rule most) b k q ≡ cut (call_rule most) b j q)
          → cut (call_rule most) b (suc k) p ≡ cut (call_rule most) b (suc j) p
      go none e ih = cut_none (call_rule most) b (suc k) p e ∙ sym (cut_none (call_rule most) b (suc j) p e)
      go (some n) e ih =
          let s = standing_call most b p n e in
          cut_some (call_rule most) b k p n e
          ∙ ap (λ (ss : List Span). span p n ∷ ss) (ih (p + n) (omega (arith, s.long)) (omega (arith, s.long)))
          ∙ sym (cut_some (call_rule most) b j p n e)

  -- the call at a place, and those from its end on
  pub turn : (p n : ℕ) → call_rule most b p ≡ some n → cut (call_rule most) b (length b) p ≡ span p n ∷ cut (call_rule most) b (length b) (p + n)
  turn p n e =
      let s = standing_call most b p n e in
      cut_next (call_rule most) b (length b) p n (omega (arith, s.within)) e
      ∙ ap (λ (ss : List Span). span p n ∷ ss) (enough (length b - 1) (length b) (p + n) (omega (arith, s.long)) (omega arith))

-- None is left where no call stands; else the one that stands is the first.
pub none_left : (most : ℕ) (b : List ℕ) (p : ℕ) → call_rule most b p ≡ none → places_from most b p ≡ []
none_left most b p e = rw (cut_none (call_rule most) b (length b) p e)

pub first_left : (most : ℕ) (b c : List ℕ) (p q r : ℕ) → (c ≡ b) × (q ≡ p) × (call_rule most b p ≡ some (call_size b p)) → r ≡ q + call_size c q
    → places_from most b p ≡ (c, q) ∷ places_from most b r
first_left most b c p q r h e = rw (turn most b p (call_size b p) h.2, e, h.0, h.1)
