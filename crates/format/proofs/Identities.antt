-- The new identities of an update's LSAs, and the unused rows of a table, are as many as the definitions count. Any two lists of the
-- new identities are equally long.
use Prim.Native.Nat.{ℕ, zero, suc, ◌≤◌, ◌<◌}
use native.Mathlib.Omega.{arith}
use mathlib.Core.Path.{◌≡◌, refl, sym, ap, subst, ◌∙◌}
use mathlib.Core.Logic.{◌⊎◌, inl, inr, ⊎_elim}
use mathlib.Core.Bool.{Bool, true, false, cond}
use mathlib.Core.List.Memᴰ
use mathlib.Core.List.{List, [], ◌∷◌, Memᴰ}
use lib.ListN.{length}
use lib.Dec.{ltb}
use Rattle.format.specs.Book.{Row, is_of, any, free_rows, new_identities}
use Rattle.format.specs.Takes.{Used, Same, HasAt, Distinct, NewIdentities, FreeRows, Outnumbered}
use Rattle.format.specs.Takes.Distinct.{none as distinct_none, one_more as distinct_more}
use Rattle.format.specs.Takes.FreeRows.{none as free_none, free as free_more, used as used_more}
use Rattle.format.proofs.Decided.{Decided, equal, less}
use Rattle.format.proofs.Decided.Decided.{holds, fails}
use Rattle.format.proofs.Book.{All, same_self, same_swap, same_trans, of_lem, of_is, passed, failed, truth}
use Rattle.format.proofs.Book.All.{none_left, one_more}

-- Whether a table has a used row of an identity.
pub has : (t : List Row) (r : Row) → Decided ((i : ℕ) × HasAt t r i) (any (is_of r) t)
unfolding any
has [] r = fails (λ w. w.1.0 refl)
has (x ∷ xs) r = go (of_lem r x) (has xs r)
  where
    go : {a b : Bool} → Decided (Used x × Same r x) a → Decided ((i : ℕ) × HasAt xs r i) b → Decided ((i : ℕ) × HasAt (x ∷ xs) r i) (cond a true b)
    go (holds h) d = holds (0, h)
    go (fails f) (holds w) = holds (suc w.0, w.1)
    go (fails f) (fails g) = fails (λ w. apart w.0 w.1)
      where
        apart : (i : ℕ) → HasAt (x ∷ xs) r i → ⊥
        apart zero h = f h
        apart (suc i) h = g (i, h)

-- The rows of the new identities, where those of `known` are not new.
abbrev pub news : (known rs : List Row) → List Row
news known [] = []
news known (r ∷ rs) = cond (any (is_of r) known) (news known rs) (r ∷ news (r ∷ known) rs)

news_counted : (known rs : List Row) → length (news known rs) ≡ new_identities known rs
unfolding new_identities
news_counted known [] = refl
news_counted known (r ∷ rs) = go (any (is_of r) known) (λ k. news_counted k rs)
  where
    go : (b : Bool) → ((k : List Row) → length (news k rs) ≡ new_identities k rs)
        → length (cond b (news known rs) (r ∷ news (r ∷ known) rs)) ≡ cond b (new_identities known rs) (suc (new_identities (r ∷ known) rs))
    go true h = h known
    go false h = ap suc (h (r ∷ known))

record Fresh (known rs ns : List Row) : Type 0 where
  pub distinct : Distinct ns
  pub from : (n : Row) → Memᴰ n ns → Memᴰ n rs
  pub new : (n : Row) → Memᴰ n ns → any (is_of n) known ≡ false
  pub every : (r : Row) → Memᴰ r rs → (any (is_of r) known ≡ true) ⊎ ((n : Row) × Memᴰ n ns × Same r n)

neither : {a b : Bool} → cond a true b ≡ false → (a ≡ false) × (b ≡ false)
neither {a} {b} e = go a e
  where
    go : (a : Bool) → cond a true b ≡ false → (a ≡ false) × (b ≡ false)
    go true e = absurd (truth e)
    go false e = (refl, e)

fresh : (known rs : List Row) → All Used rs → Fresh known rs (news known rs)
unfolding any
fresh known [] none_left = record { distinct = distinct_none; from = λ n m. m; new = λ n m. absurd (Memᴰ.not-nil m); every = λ r m. absurd (Memᴰ.not-nil m) }
fresh known (r ∷ rs) (one_more u a) = go (any (is_of r) known) refl (λ k. fresh k rs a)
  where
    go : (b : Bool) → any (is_of r) known ≡ b → ((k : List Row) → Fresh k rs (news k rs)) → Fresh known (r ∷ rs) (cond b (news known rs) (r ∷ news (r ∷ known) rs))
    go true e ih = record {
      distinct = (ih known).distinct;
      from = λ n m. Memᴰ.tail ((ih known).from n m);
      new = (ih known).new;
      every = λ x m. ⊎_elim (λ q. inl (rw q e)) (λ k. (ih known).every x k) (Memᴰ.cases_cons m);
    }
    go false e ih = record {
      distinct = distinct_more (λ s m h. truth (sym (of_is s r (u, same_swap h)) ∙ (apart s m).0)) f.distinct;
      from = λ n m. ⊎_elim (λ q. Memᴰ.head q) (λ k. Memᴰ.tail (f.from n k)) (Memᴰ.cases_cons m);
      new = λ n m. ⊎_elim (λ q. rw q e) (λ k. (apart n k).1) (Memᴰ.cases_cons m);
      every = λ x m. ⊎_elim (λ q. inr (r, Memᴰ.head refl, rw q (same_self r))) (λ k. ⊎_elim (λ p. met x (of_lem x r) p) (λ w. inr (w.0, Memᴰ.tail w.1, w.2)) (f.every x k)) (Memᴰ.cases_cons m);
    }
      where
        f : Fresh (r ∷ known) rs (news (r ∷ known) rs)
        f = ih (r ∷ known)

        apart : (n : Row) → Memᴰ n (news (r ∷ known) rs) → (is_of n r ≡ false) × (any (is_of n) known ≡ false)
        apart n m = neither (f.new n m)

        met : (x : Row) → {b : Bool} → Decided (Used r × Same x r) b → cond b true (any (is_of x) known) ≡ true → (any (is_of x) known ≡ true) ⊎ ((n : Row) × Memᴰ n (r ∷ news (r ∷ known) rs) × Same x n)
        met x (holds h) p = inr (r, Memᴰ.head refl, h.1)
        met x (fails g) p = inl p

-- There is a list of the new identities.
pub identities : (t rs : List Row) → All Used rs → NewIdentities t rs (news t rs)
identities t rs a =
    let f = fresh t rs a in
    record { distinct = f.distinct; from = f.from; new = λ n m i h. failed (has t n) (f.new n m) (i, h); every = λ r m. ⊎_elim (λ e. inl (passed (has t r) e)) inr (f.every r m) }

-- A list without one of its rows.
record Without (m : Row) (ms : List Row) : Type 0 where
  pub rest : List Row
  pub one_less : length ms ≡ suc (length rest)
  pub others : (x : Row) → Memᴰ x ms → (x ≡ m) ⊎ Memᴰ x rest

without : (ms : List Row) (m : Row) → Memᴰ m ms → Without m ms
without [] m k = absurd (Memᴰ.not-nil k)
without (x ∷ xs) m k = ⊎_elim {C = Without m (x ∷ xs)} here (λ l. there (without xs m l)) (Memᴰ.cases_cons k)
  where
    here : m ≡ x → Without m (x ∷ xs)
    here q = record { rest = xs; one_less = refl; others = λ y n. ⊎_elim (λ p. inl (p ∙ sym q)) inr (Memᴰ.cases_cons n) }

    there : Without m xs → Without m (x ∷ xs)
    there w = record {
      rest = x ∷ w.rest;
      one_less = ap suc w.one_less;
      others = λ y n. ⊎_elim (λ p. inr (Memᴰ.head p)) (λ l. ⊎_elim inl (λ z. inr (Memᴰ.tail z)) (w.others y l)) (Memᴰ.cases_cons n);
    }

-- Rows of distinct identities are no more than the rows among which each has one of its own.
no_more : {ns : List Row} → Distinct ns → (ms : List Row) → ((n : Row) → Memᴰ n ns → (m : Row) × Memᴰ m ms × Same n m) → length ns ≤ length ms
no_more distinct_none ms h = omega arith
no_more (distinct_more {r = r} f d) ms h =
    let w = h r (Memᴰ.head refl) in
    let o = without ms w.0 w.1 in
    let i = no_more d o.rest (λ n k. let v = h n (Memᴰ.tail k) in ⊎_elim (λ q. absurd (f n k (same_trans w.2 (same_swap (subst (Same n) q v.2))))) (λ l. (v.0, l, v.2)) (o.others v.0 v.1)) in
    omega (arith, o.one_less)

covered : (t rs ns ms : List Row) → NewIdentities t rs ns → NewIdentities t rs ms → length ns ≤ length ms
covered t rs ns ms a b = no_more a.distinct ms (λ n k. ⊎_elim (λ w. absurd (a.new n k w.0 w.1)) (λ w. w) (b.every n (a.from n k)))

pub same_number : (t rs ns ms : List Row) → NewIdentities t rs ns → NewIdentities t rs ms → length ns ≡ length ms
same_number t rs ns ms a b = let h = covered t rs ns ms a b in let k = covered t rs ms ns b a in omega arith

pub identities_counted : (t rs ns : List Row) → All Used rs → NewIdentities t rs ns → length ns ≡ new_identities t rs
identities_counted t rs ns u a = same_number t rs ns (news t rs) a (identities t rs u) ∙ news_counted t rs

-- Unused rows.
free_are : (t : List Row) → FreeRows t (free_rows t)
unfolding free_rows
free_are [] = free_none
free_are (r ∷ t) = go (equal r.used 0) (free_are t)
  where
    go : {b : Bool} → Decided (r.used ≡ 0) b → FreeRows t (free_rows t) → FreeRows (r ∷ t) (cond b (suc (free_rows t)) (free_rows t))
    go (holds h) f = free_more h f
    go (fails g) f = used_more g f

free_counted : {t : List Row} {n : ℕ} → FreeRows t n → n ≡ free_rows t
unfolding free_rows
free_counted free_none = refl
free_counted (free_more {r = r} {t = t} h f) = go (equal r.used 0) (free_counted f)
  where
    go : {b : Bool} {n : ℕ} → Decided (r.used ≡ 0) b → n ≡ free_rows t → suc n ≡ cond b (suc (free_rows t)) (free_rows t)
    go (holds k) e = ap suc e
    go (fails g) e = absurd (g h)
free_counted (used_more {r = r} {t = t} u f) = go (equal r.used 0) (free_counted f)
  where
    go : {b : Bool} {n : ℕ} → Decided (r.used ≡ 0) b → n ≡ free_rows t → n ≡ cond b (suc (free_rows t)) (free_rows t)
    go (holds k) e = absurd (u k)
    go (fails g) e = e

-- Whether the new identities outnumber the unused rows.
pub outnumbered : (rs t : List Row) → All Used rs → Decided (Outnumbered rs t) (ltb (free_rows t) (new_identities t rs))
outnumbered rs t u = go (less (free_rows t) (new_identities t rs))
  where
    go : {b : Bool} → Decided (free_rows t < new_identities t rs) b → Decided (Outnumbered rs t) b
    go (holds h) = holds (news t rs, free_rows t, identities t rs u, free_are t, rw (news_counted t rs) h)
    go (fails f) = fails (λ w. f (omega (arith, identities_counted t rs w.0 u w.2, free_counted w.3, w.4)))
