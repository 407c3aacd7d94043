-- Each number of an update that is taken against a table is answered exactly when its condition holds and none before it does.
use Prim.Native.Nat.{ℕ, zero, suc, ◌<◌}
use native.Mathlib.Omega.{arith}
use mathlib.Core.Path.{◌≡◌, refl, subst}
use mathlib.Core.Logic.{◌↔◌, ◌⊎◌, inl, inr, ⊎_elim}
use mathlib.Core.Bool.{Bool, true, false, cond}
use mathlib.Core.List.Memᴰ
use mathlib.Core.List.{List, [], ◌∷◌, Memᴰ}
use lib.ListN.{length}
use lib.Dec.{eqb}
use Rattle.format.specs.Walks.{refusal, max_data, max_offset}
use Rattle.format.specs.Refusals.{Numbers, Walked, TooOld, BookNumbers}
use Rattle.format.specs.Book.{Row, is_free, is_old, is_twice, any, row_refusal, book_refusal, book_update, rows_of}
use Rattle.format.specs.Takes.{row_at, Used, HasAt, Twice, Outnumbered}
use Rattle.format.proofs.Decided.{Decided, less, equal, version}
use Rattle.format.proofs.Decided.Decided.{holds, fails}
use Rattle.format.proofs.Refusals.{no_version, table, most_refusal}
use Rattle.format.proofs.Book.{All}
use Rattle.format.proofs.Identities.{has, outnumbered}
use Rattle.format.proofs.LsaRows.{rows_used}

-- Whether some row of a list has a property.
some_row : (P : Row → Type 0) (f : Row → Bool) → ((r : Row) → Decided (P r) (f r)) → (t : List Row) → Decided ((r : Row) × Memᴰ r t × P r) (any f t)
unfolding any
some_row P f h [] = fails (λ w. Memᴰ.not-nil w.1)
some_row P f h (x ∷ xs) = go (h x) (some_row P f h xs)
  where
    go : {a b : Bool} → Decided (P x) a → Decided ((r : Row) × Memᴰ r xs × P r) b → Decided ((r : Row) × Memᴰ r (x ∷ xs) × P r) (cond a true b)
    go (holds p) d = holds (x, Memᴰ.head refl, p)
    go (fails f) (holds w) = holds (w.0, Memᴰ.tail w.1, w.2)
    go (fails f) (fails g) = fails (λ w. ⊎_elim (λ q. f (subst P q w.2)) (λ m. g (w.0, m, w.2)) (Memᴰ.cases_cons w.1))

old_lsa : (rs : List Row) → Decided ((r : Row) × Memᴰ r rs × (3600 < r.age)) (any is_old rs)
old_lsa rs = some_row (λ r. 3600 < r.age) is_old (λ r. less 3600 r.age) rs

old_used : (t : List Row) → Decided ((r : Row) × Memᴰ r t × Used r × (3600 < r.age)) (any (λ r. cond (is_free r) false (is_old r)) t)
old_used t = regroup (some_row (λ r. Used r × (3600 < r.age)) (λ r. cond (is_free r) false (is_old r)) (λ r. both r (equal r.used 0) (less 3600 r.age)) t)
  where
    both : (r : Row) → {a b : Bool} → Decided (r.used ≡ 0) a → Decided (3600 < r.age) b → Decided (Used r × (3600 < r.age)) (cond a false b)
    both r (holds z) d = fails (λ w. w.0 z)
    both r (fails u) (holds h) = holds (u, h)
    both r (fails u) (fails f) = fails (λ w. f w.1)

    regroup : {b : Bool} → Decided ((r : Row) × Memᴰ r t × (Used r × (3600 < r.age))) b → Decided ((r : Row) × Memᴰ r t × Used r × (3600 < r.age)) b
    regroup (holds w) = holds (w.0, w.1, w.2.0, w.2.1)
    regroup (fails f) = fails (λ w. f (w.0, w.1, (w.2, w.3)))

-- Whether two used rows share an identity.
pub twice : (t : List Row) → Decided (Twice t) (is_twice t)
unfolding is_twice
twice [] = fails (λ w. w.3 refl)
twice (x ∷ xs) = go (equal x.used 0) (has xs x) (twice xs)
  where
    later : Twice xs → Twice (x ∷ xs)
    later w = let l = w.2 in (suc w.0, suc w.1, omega arith, w.3, w.4)

    apart : (Used x → (i : ℕ) × HasAt xs x i → ⊥) → (Twice xs → ⊥) → (i j : ℕ) → i < j → Used (row_at (x ∷ xs) i) → HasAt (x ∷ xs) (row_at (x ∷ xs) i) j → ⊥
    apart f g i zero l u h = omega arith
    apart f g zero (suc j) l u h = f u (j, h)
    apart f g (suc i) (suc j) l u h = g (i, j, omega arith, u, h)

    go : {a b c : Bool} → Decided (x.used ≡ 0) a → Decided ((i : ℕ) × HasAt xs x i) b → Decided (Twice xs) c → Decided (Twice (x ∷ xs)) (cond (cond a false b) true c)
    go (holds z) e (holds w) = holds (later w)
    go (holds z) e (fails g) = fails (λ w. apart (λ u. absurd (u z)) g w.0 w.1 w.2 w.3 w.4)
    go (fails u) (holds w) d = holds (0, suc w.0, omega arith, u, w.1)
    go (fails u) (fails f) (holds w) = holds (later w)
    go (fails u) (fails f) (fails g) = fails (λ w. apart (λ v. f) g w.0 w.1 w.2 w.3 w.4)

-- The walk's own numbers.
pub walk_numbers : (v : ℕ) (d : List ℕ) (o : ℕ) → Numbers v d o 4 0 0 (refusal v d o 4)
walk_numbers v d o = table v d o 4 0 0 (no_version (version v)) (less max_data (length d)) (less max_offset o) (less (length d) 4) (less 0 0)

module _ (v : ℕ) (d : List ℕ) (o : ℕ) (rs t : List Row) where
  -- An update that the walk refuses.
  walk_refused : (refusal v d o 4 ≡ 0 → ⊥) → BookNumbers v d o rs t (refusal v d o 4)
  walk_refused f =
      let n = walk_numbers v d o in
      let m = most_refusal v d o 4 in
      let never : Walked v d o → ⊥ = λ w. f (n.zero.1 (w.0, w.1, w.2, w.3, omega arith)) in
      record {
        one = n.one;
        two = n.two;
        three = n.three;
        four = n.four;
        eleven = (λ e. absurd (omega arith), λ p. absurd (never p.0));
        fourteen = (λ e. absurd (omega arith), λ p. absurd (never p.0));
        fifteen = (λ e. absurd (omega arith), λ p. absurd (never p.0));
        zero = (λ e. absurd (f e), λ p. absurd (never p.0));
        no_other = inl m;
      }

  -- One that it does not refuse, by the number that the rows give.
  module _ (w : Walked v d o) where
    walked : {n : ℕ} → (n ≡ 11) ↔ TooOld rs t → (n ≡ 14) ↔ ((TooOld rs t → ⊥) × Twice t) → (n ≡ 15) ↔ ((TooOld rs t → ⊥) × (Twice t → ⊥) × Outnumbered rs t)
        → (n ≡ 0) ↔ ((TooOld rs t → ⊥) × (Twice t → ⊥) × (Outnumbered rs t → ⊥)) → (n ≡ 0) ⊎ (n ≡ 11) ⊎ (n ≡ 14) ⊎ (n ≡ 15) → BookNumbers v d o rs t n
    walked {n} a b c e k = record {
      one = (λ z. absurd (far (omega arith) (omega arith)), λ p. absurd (w.0 p));
      two = (λ z. absurd (far (omega arith) (omega arith)), λ p. absurd (w.1 p.1));
      three = (λ z. absurd (far (omega arith) (omega arith)), λ p. absurd (w.2 p.2));
      four = (λ z. absurd (far (omega arith) (omega arith)), λ p. absurd (w.3 p.3));
      eleven = (λ z. (w, a.0 z), λ p. a.1 p.1);
      fourteen = (λ z. let q = b.0 z in (w, q.0, q.1), λ p. b.1 (p.1, p.2));
      fifteen = (λ z. let q = c.0 z in (w, q.0, q.1, q.2), λ p. c.1 (p.1, p.2, p.3));
      zero = (λ z. let q = e.0 z in (w, q.0, q.1, q.2), λ p. e.1 (p.1, p.2, p.3));
      no_other = ⊎_elim (λ z. inl (omega arith)) inr k;
    }
      where
        far : 0 < n → n < 5 → ⊥
        far l m = ⊎_elim (λ z. omega arith) (⊎_elim (λ z. omega arith) (⊎_elim (λ z. omega arith) (λ z. omega arith))) k

    yes : {P Q : Type 0} → P → Q → P ↔ Q
    yes p q = (λ h. q, λ h. p)

    no : {P Q : Type 0} → (P → ⊥) → (Q → ⊥) → P ↔ Q
    no p q = (λ h. absurd (p h), λ h. absurd (q h))

    by_rows : {a b c e : Bool} → Decided ((r : Row) × Memᴰ r rs × (3600 < r.age)) a → Decided ((r : Row) × Memᴰ r t × Used r × (3600 < r.age)) b → Decided (Twice t) c → Decided (Outnumbered rs t) e
        → BookNumbers v d o rs t (cond a 11 (cond b 11 (cond c 14 (cond e 15 0))))
    by_rows (holds p) b c e = walked (yes refl (inl p)) (no (λ z. omega arith) (λ q. q.0 (inl p))) (no (λ z. omega arith) (λ q. q.0 (inl p))) (no (λ z. omega arith) (λ q. q.0 (inl p))) (inr (inl refl))
    by_rows (fails f) (holds p) c e = walked (yes refl (inr p)) (no (λ z. omega arith) (λ q. q.0 (inr p))) (no (λ z. omega arith) (λ q. q.0 (inr p))) (no (λ z. omega arith) (λ q. q.0 (inr p))) (inr (inl refl))
    by_rows (fails f) (fails g) (holds p) e = walked (no (λ z. omega arith) (⊎_elim f g)) (yes refl (⊎_elim f g, p)) (no (λ z. omega arith) (λ q. q.1 p)) (no (λ z. omega arith) (λ q. q.1 p)) (inr (inr (inl refl)))
    by_rows (fails f) (fails g) (fails h) (holds p) = walked (no (λ z. omega arith) (⊎_elim f g)) (no (λ z. omega arith) (λ q. h q.1)) (yes refl (⊎_elim f g, h, p)) (no (λ z. omega arith) (λ q. q.2 p)) (inr (inr (inr refl)))
    by_rows (fails f) (fails g) (fails h) (fails k) = walked (no (λ z. omega arith) (⊎_elim f g)) (no (λ z. omega arith) (λ q. h q.1)) (no (λ z. omega arith) (λ q. k q.2)) (yes refl (⊎_elim f g, h, k)) (inl refl)

  numbers : All Used rs → BookNumbers v d o rs t (cond (eqb (refusal v d o 4) 0) (row_refusal rs t) (refusal v d o 4))
  numbers u = go (equal (refusal v d o 4) 0)
    where
      go : {b : Bool} → Decided (refusal v d o 4 ≡ 0) b → BookNumbers v d o rs t (cond b (row_refusal rs t) (refusal v d o 4))
      go (holds z) = let w = (walk_numbers v d o).zero.0 z in by_rows (w.0, w.1, w.2, w.3) (old_lsa rs) (old_used t) (twice t) (outnumbered rs t u)
      go (fails f) = walk_refused f

pub book_numbers : (v : ℕ) (d : List ℕ) (count o : ℕ) (t : List Row) → BookNumbers v d o (rows_of v d count) t (book_update v d count o t).number
unfolding book_update book_refusal
book_numbers v d count o t = numbers v d o (rows_of v d count) t (rows_used v d count)
