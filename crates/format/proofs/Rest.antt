-- A cut taken some entries at a time, and what a cut depends on. Begun again where its first entries end, with the count
-- still due, it goes on as it would have; it is the same for two bodies of which its rule says the same at the places that
-- it comes to; and what is lent from a place on has the cut of the body there.
use Prim.Native.Nat.{ℕ, zero, suc, ◌+◌, ◌-◌, ◌≤◌, ◌<◌, suc-le-suc}
use native.Mathlib.Nat.{zero-add, suc-add, add_assoc, le_of_suc-le-suc, not-suc-le-zero}
use native.Mathlib.Omega.{arith}
use mathlib.Core.Path.{◌≡◌, refl, sym, ap, ◌∙◌}
use mathlib.Core.Logic.{◌⊎◌, inl, inr, ⊎_elim}
use mathlib.Core.List.Memᴰ
use mathlib.Core.List.{List, ◌∷◌, ◌++◌, map, Memᴰ}
use mathlib.Core.Bool.{Bool, true, false, cond}
use mathlib.Core.Option.{Option, none, some}
use lib.ListN.{length, get_or, take, drop, length-drop}
use lib.Seq.{get_or-drop}
use lib.Dec.{leb}
use borrow.Author.Tests.{leb-true, leb-false, le-leb, lt-leb}
use Rattle.format.specs.Bytes.{be16_at}
use Rattle.format.specs.Cut.{Span, Rule, cut, after, Stands, standing, fitting, record_rule}
use Rattle.format.specs.Cut.Stands.{done, next}
use Rattle.format.proofs.CutInto.{record_stands}
use Rattle.format.proofs.Laid.{after-from}
use Rattle.format.proofs.Loop.{after-append}
use Rattle.format.proofs.Unique.{span, cut_none, cut_some, is_cut}

module _ (r : Rule) (b : List ℕ) where
  -- A count in two parts: the entries of the first, then those of the second from where they end. Where nothing stands
  -- before the first is used up, the second adds nothing.
  pub cut_sum : (j k p : ℕ) → cut r b (j + k) p ≡ cut r b j p ++ cut r b k (after p (cut r b j p))
  unfolding cut after
  cut_sum zero k p = rw zero-add
  cut_sum (suc j) k p = go (r b p) refl (cut_sum j k)
    where
      go : (o : Option ℕ) → r b p ≡ o → ((q : ℕ) → cut r b (j + k) q ≡ cut r b j q ++ cut r b k (after q (cut r b j q)))
          → cut r b (suc j + k) p ≡ cut r b (suc j) p ++ cut r b k (after p (cut r b (suc j) p))
      go none e ih = rw (cut_none r b (suc j + k) p e, cut_none r b (suc j) p e) (sym (cut_none r b k p e))
      go (some n) e ih = rw (suc-add, cut_some r b (j + k) p n e, cut_some r b j p n e) (ap (λ (ss : List Span). span p n ∷ ss) (ih (p + n)))

  -- The first k entries of a cut are the cut under a count of k.
  pub cut_first : (k count p : ℕ) → k ≤ count → take k (cut r b count p) ≡ cut r b k p
  unfolding cut
  cut_first zero count p h = refl
  cut_first (suc k) zero p h = absurd (not-suc-le-zero h)
  cut_first (suc k) (suc count) p h = go (r b p) refl (λ q. cut_first k count q (le_of_suc-le-suc h))
    where
      go : (o : Option ℕ) → r b p ≡ o → ((q : ℕ) → take k (cut r b count q) ≡ cut r b k q) → take (suc k) (cut r b (suc count) p) ≡ cut r b (suc k) p
      go none e ih = rw (cut_none r b (suc count) p e, cut_none r b (suc k) p e) refl
      go (some n) e ih = rw (cut_some r b count p n e, cut_some r b k p n e) (ap (λ (ss : List Span). span p n ∷ ss) (ih (p + n)))

  -- What is left of a cut after its first k entries is the cut from where they end, with the count still due.
  module _ (k count p : ℕ) (h : k ≤ count) where
    pub cut_rest : cut r b count p ≡ take k (cut r b count p) ++ cut r b (count - k) (after p (take k (cut r b count p)))
    cut_rest =
        let q : k + (count - k) ≡ count = omega arith in
        rw (cut_first k count p h) (rw q at (cut_sum k (count - k) p))

    -- both end at one place
    pub cut_rest_after : after p (cut r b count p) ≡ after (after p (take k (cut r b count p))) (cut r b (count - k) (after p (take k (cut r b count p))))
    cut_rest_after = ap (after p) cut_rest ∙ after-append p (take k (cut r b count p)) (cut r b (count - k) (after p (take k (cut r b count p))))

  -- A second body, of which the rule says the same at each entry of the cut, and at its end if it is short of the count.
  pub cut_same : (c : List ℕ) (count p : ℕ) → ((s : Span) → Memᴰ s (cut r b count p) → r c s.at ≡ r b s.at)
      → (length (cut r b count p) < count → r c (after p (cut r b count p)) ≡ r b (after p (cut r b count p))) → cut r c count p ≡ cut r b count p
  unfolding cut after
  cut_same c zero p each end = refl
  cut_same c (suc k) p each end = go (r b p) refl (cut_same c k)
    where
      go : (o : Option ℕ) → r b p ≡ o
          → ((q : ℕ) → ((s : Span) → Memᴰ s (cut r b k q) → r c s.at ≡ r b s.at) → (length (cut r b k q) < k → r c (after q (cut r b k q)) ≡ r b (after q (cut r b k q)))
          → cut r c k q ≡ cut r b k q)
          → cut r c (suc k) p ≡ cut r b (suc k) p
      go none e ih =
          let f = rw (cut_none r b (suc k) p e) at end in
          cut_none r c (suc k) p (f (omega arith) ∙ e) ∙ sym (cut_none r b (suc k) p e)
      go (some n) e ih =
          let i = rw (cut_some r b k p n e) at each in
          let f = rw (cut_some r b k p n e) at end in
          rw (cut_some r c k p n (i (span p n) (Memᴰ.head refl) ∙ e), cut_some r b k p n e)
          (ap (λ (ss : List Span). span p n ∷ ss) (ih (p + n) (λ s m. i s (Memᴰ.tail m)) (λ l. f (suc-le-suc l))))

-- The two bytes that hold the declared length of a record at p are the same in both bodies.
pub record SameLengthAt (b c : List ℕ) (p : ℕ) : Type 0 where
  pub high : get_or c (p + 18) 0 ≡ get_or b (p + 18) 0
  pub low : get_or c (p + 19) 0 ≡ get_or b (p + 19) 0

module _ (b c : List ℕ) (same : length c ≡ length b) where
  record_same : (p : ℕ) → SameLengthAt b c p → record_rule c p ≡ record_rule b p
  unfolding standing
  record_same p h =
      let q : p + 18 + 1 ≡ p + 19 = omega arith in
      rw (same, q, h.high, h.low) refl

  -- Two updates of one length are cut alike where each record of the first has the same declared length in the second,
  -- and so what stands after them if the count is not reached.
  pub records_same : (count p : ℕ) → ((s : Span) → Memᴰ s (cut record_rule b count p) → SameLengthAt b c s.at)
      → (length (cut record_rule b count p) < count → SameLengthAt b c (after p (cut record_rule b count p))) → cut record_rule c count p ≡ cut record_rule b count p
  records_same count p each end = cut_same record_rule b c count p (λ s m. record_same s.at (each s m)) (λ l. record_same (after p (cut record_rule b count p)) (end l))

-- An entry of a cut: the rule's answer there, and where it lies.
module _ {r : Rule} {b : List ℕ} where
  placed_in : {p : ℕ} {ss : List Span} → Stands r b p ss → (s : Span) → Memᴰ s ss → (p ≤ s.at) × (s.at + s.len ≤ after p ss) × (r b s.at ≡ some s.len)
  unfolding after
  placed_in done s m = absurd (Memᴰ.not-nil m)
  placed_in {p} (next {s = x} {ss} e f t) s m = ⊎_elim
      (λ q. let l = after-from ss (p + x.len) in rw q (omega (arith, e), omega (arith, e), rw e f))
      (λ k. let i = placed_in t s k in (omega (arith, i.0), i.1, i.2))
      (Memᴰ.cases_cons m)

  -- two entries of one cut are the same, or the one ends before the other begins
  apart : {p : ℕ} {ss : List Span} → Stands r b p ss → (s t : Span) → Memᴰ s ss → Memᴰ t ss → (t ≡ s) ⊎ ((t.at + t.len ≤ s.at) ⊎ (s.at + s.len ≤ t.at))
  apart done s t m k = absurd (Memᴰ.not-nil m)
  apart {p} (next {s = x} {ss} e f u) s t m k = ⊎_elim
      (λ q. ⊎_elim (λ q'. inl (q' ∙ sym q)) (λ k'. inr (inr (rw q (omega (arith, e, (placed_in u t k').0))))) (Memᴰ.cases_cons k))
      (λ m'. ⊎_elim (λ q'. inr (inl (rw q' (omega (arith, e, (placed_in u s m').0))))) (λ k'. apart u s t m' k') (Memᴰ.cases_cons k))
      (Memᴰ.cases_cons m)

-- One record of an update is edited, its declared length left as it is, and no byte outside it: the cut is as before.
pub record_edited : (b c : List ℕ) (count p : ℕ) (s : Span) → Memᴰ s (cut record_rule b count p) → length c ≡ length b → SameLengthAt b c s.at
    → ((i : ℕ) → i < s.at → get_or c i 0 ≡ get_or b i 0) → ((i : ℕ) → s.at + s.len ≤ i → get_or c i 0 ≡ get_or b i 0)
    → cut record_rule c count p ≡ cut record_rule b count p
record_edited b c count p s m same here before past = records_same b c same count p others (λ l. let i = placed_in stands s m in beyond (after p (cut record_rule b count p)) i.1)
  where
    stands : Stands record_rule b p (cut record_rule b count p)
    stands = (is_cut record_rule b count p).stands

    beyond : (q : ℕ) → s.at + s.len ≤ q → SameLengthAt b c q
    beyond q h = record { high = past (q + 18) (omega arith); low = past (q + 19) (omega arith) }

    others : (t : Span) → Memᴰ t (cut record_rule b count p) → SameLengthAt b c t.at
    others t k = ⊎_elim
        (λ q. rw q here)
        (⊎_elim
        (λ h.
        let n = ((record_stands b t.at t.len).0 (placed_in stands t k).2).least in
        record { high = before (t.at + 18) (omega arith); low = before (t.at + 19) (omega arith) })
        (beyond t.at))
        (apart stands s t m k)

-- A rule asks the same of what is lent from the place q on as it asks of the body there.
module _ (b : List ℕ) (q : ℕ) (h : q ≤ length b) where
  lent_test : (m : ℕ) → leb m (length (drop q b)) ≡ leb (q + m) (length b)
  lent_test m = go (leb (q + m) (length b)) refl
    where
      go : (t : Bool) → leb (q + m) (length b) ≡ t → leb m (length (drop q b)) ≡ t
      go true e = le-leb m (length (drop q b)) (let l = leb-true (q + m) (length b) e in let d = length-drop q b in omega arith)
      go false e = lt-leb m (length (drop q b)) (let l = leb-false (q + m) (length b) e in let d = length-drop q b in omega arith)

  pub lent_stands : (least : ℕ) (declared : Rule) (p : ℕ) → declared (drop q b) p ≡ declared b (q + p) → standing least declared (drop q b) p ≡ standing least declared b (q + p)
  unfolding standing
  lent_stands least declared p e = rw (e, lent_test (p + least), add_assoc q p least) (go (leb (q + (p + least)) (length b)) (declared b (q + p)))
    where
      go : (t : Bool) (o : Option ℕ) → cond {A = Option ℕ} t (elim o [ none ↦ none | some n ↦ fitting least (drop q b) p n ]) none
          ≡ cond {A = Option ℕ} t (elim o [ none ↦ none | some n ↦ fitting least b (q + p) n ]) none
      go t none = refl
      go t (some n) = rw (lent_test (p + n), add_assoc q p n) refl

  pub record_lent : (p : ℕ) → record_rule (drop q b) p ≡ record_rule b (q + p)
  record_lent p = lent_stands 20 (λ b p. some (be16_at b (p + 18))) p (simp (get_or-drop, add_assoc))

-- Each place of a span is q further on.
abbrev pub further : ℕ → Span → Span
further q s = span (q + s.at) s.len

-- What is lent from the place q on has the cut of the body there.
pub cut-lent : (r : Rule) (b c : List ℕ) (q : ℕ) → ((p : ℕ) → r c p ≡ r b (q + p)) → (k p : ℕ) → cut r b k (q + p) ≡ map (further q) (cut r c k p)
unfolding cut
cut-lent r b c q h zero p = refl
cut-lent r b c q h (suc k) p = go (r c p) refl (cut-lent r b c q h k)
  where
    go : (o : Option ℕ) → r c p ≡ o → ((p : ℕ) → cut r b k (q + p) ≡ map (further q) (cut r c k p)) → cut r b (suc k) (q + p) ≡ map (further q) (cut r c (suc k) p)
    go none e ih = rw (cut_none r b (suc k) (q + p) (sym (h p) ∙ e), cut_none r c (suc k) p e) refl
    go (some n) e ih = rw (cut_some r b k (q + p) n (sym (h p) ∙ e), cut_some r c k p n e, add_assoc q p n) (ap (λ (ss : List Span). span (q + p) n ∷ ss) (ih (p + n)))
