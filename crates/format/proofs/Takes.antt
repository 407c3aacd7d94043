-- An update that is not refused takes its LSAs one after another as specs/Takes.antt says, whatever the functions.
use Prim.Native.Nat.{ℕ, zero, suc, ◌+◌, ◌≤◌, ◌<◌}
use native.Mathlib.Nat.{zero-add, add_assoc}
use native.Mathlib.Omega.{arith}
use mathlib.Core.Path.{◌≡◌, refl, sym, ap, subst, ◌∙◌}
use mathlib.Core.Logic.{◌⊎◌, inl, inr, ⊎_elim}
use mathlib.Core.Bool.{Bool, false}
use mathlib.Core.List.{List, [], ◌∷◌, ◌++◌, Memᴰ}
use lib.ListN.{length, get_or, set}
use lib.Seq.{get_or-set_same, get_or-set_other}
use Rattle.format.specs.Book.{Row, Book, is_free, is_of, free_rows, new_identities, take_one, take_all}
use Rattle.format.specs.Takes.{no_row, row_at, Used, Twice, HasAt, TakesOne, TakesAll}
use Rattle.format.specs.Takes.TakesOne.{left as leaves, replaced as replaces, added as adds}
use Rattle.format.specs.Takes.TakesAll.{none, one_more as then}
use Rattle.format.proofs.Decided.{Decided, equal, less}
use Rattle.format.proofs.Decided.Decided.{holds, fails}
use Rattle.format.proofs.Book.{Took, took, All, Unique, same_swap, same_trans, of_lem, passed, failed, truth, keeps_one, unique_written}
use Rattle.format.proofs.Book.Took.{left, replaced, added, full}
use Rattle.format.proofs.Book.All.{none_left, one_more}
use Rattle.format.proofs.Counted.{Knows, has_room, turn}
use Rattle.format.proofs.Settled.{newer_is, is_newer_lem}

-- Past the end of a table no row is used.
pub within : (t : List Row) (i : ℕ) → Used (row_at t i) → i < length t
within [] i u = absurd (u refl)
within (x ∷ xs) zero u = omega arith
within (x ∷ xs) (suc i) u = let h = within xs i u in omega arith

-- No two used rows share an identity, in two forms.
pub unique_twice : (t : List Row) → Unique no_row t → Twice t → ⊥
unique_twice t q w = let l = w.2 in let e = q w.0 w.1 (within t w.0 w.3) (within t w.1 w.4.0) w.3 w.4.0 w.4.1 in omega arith

pub twice_unique : (t : List Row) → (Twice t → ⊥) → Unique no_row t
twice_unique t f i j h k u v s = go (less i j) (less j i)
  where
    go : {a b : Bool} → Decided (i < j) a → Decided (j < i) b → i ≡ j
    go (holds l) d = absurd (f (i, j, l, u, (v, s)))
    go (fails g) (holds l) = absurd (f (j, i, l, v, (u, same_swap s)))
    go (fails g) (fails k) = omega (arith, g, k)

-- Each row is as it was, or that of an LSA.
each_one : (r d : Row) (b : Book) (i : ℕ) → (get_or (take_one r b).rows i d ≡ get_or b.rows i d) ⊎ (get_or (take_one r b).rows i d ≡ r)
each_one r d b i = go (take_one r b) (took r d b)
  where
    put : (j : ℕ) → j < length b.rows → {t : Bool} → Decided (i ≡ j) t → (get_or (set b.rows j r) i d ≡ get_or b.rows i d) ⊎ (get_or (set b.rows j r) i d ≡ r)
    put j h (holds e) = inr (rw (e, get_or-set_same b.rows j r d h) refl)
    put j h (fails f) = inl (get_or-set_other b.rows j i r d f)

    go : (c : Book) → Took r b d c → (get_or c.rows i d ≡ get_or b.rows i d) ⊎ (get_or c.rows i d ≡ r)
    go c (left j h k n) = inl refl
    go c (replaced j h k n) = put j h (equal i j)
    go c (added j h k g p) = put j h (equal i j)
    go c (full f g) = inl refl

pub each_row : (rs : List Row) (d : Row) (b : Book) (i : ℕ) → (get_or (take_all rs b).rows i d ≡ get_or b.rows i d) ⊎ Memᴰ (get_or (take_all rs b).rows i d) rs
unfolding take_all
each_row [] d b i = inl refl
each_row (r ∷ rs) d b i = ⊎_elim (λ e. ⊎_elim (λ p. inl (e ∙ p)) (λ q. inr (Memᴰ.head (e ∙ q))) (each_one r d b i)) (λ m. inr (Memᴰ.tail m)) (each_row rs d (take_one r b) i)

-- Rows that newness does not refuse, with sequence numbers of 32 bits.
pub record Fit (r : Row) : Type 0 where
  pub used : Used r
  pub small : r.sequence_number < 4294967296
  pub young : r.age ≤ 3600

pub record FitTable (t : List Row) : Type 0 where
  pub small : (i : ℕ) → i < length t → (row_at t i).sequence_number < 4294967296
  pub young : (i : ℕ) → Used (row_at t i) → (row_at t i).age ≤ 3600

fit_one : (r : Row) (b : Book) → Fit r → FitTable b.rows → FitTable (take_one r b).rows
fit_one r b f t = record {
  small = λ i l. ⊎_elim (λ e. rw e (t.small i (rw (keeps_one r no_row b f.used).0.size at l))) (λ q. rw q f.small) (each_one r no_row b i);
  young = λ i u. ⊎_elim (λ e. rw e (t.young i (rw e at u))) (λ q. rw q f.young) (each_one r no_row b i);
}

pub fit_all : (rs : List Row) (b : Book) → All Fit rs → FitTable b.rows → FitTable (take_all rs b).rows
unfolding take_all
fit_all [] b none_left t = t
fit_all (r ∷ rs) b (one_more f a) t = fit_all rs (take_one r b) a (fit_one r b f t)

-- What taking one LSA makes of a table and its counts,
record OneTaken (r : Row) (b c : Book) : Type 0 where
  pub replaced : ℕ
  pub added : ℕ
  pub takes : TakesOne r b.rows c.rows replaced added
  pub replaced_more : c.replaced ≡ b.replaced + replaced
  pub added_more : c.added ≡ b.added + added

one_taken : (r : Row) (b : Book) → Fit r → FitTable b.rows
    → (((j : ℕ) → j < length b.rows → is_free (row_at b.rows j) ≡ false) → ((j : ℕ) → j < length b.rows → is_of r (row_at b.rows j) ≡ false) → ⊥) → OneTaken r b (take_one r b)
one_taken r b f t room = go (take_one r b) (took r no_row b)
  where
    go : (c : Book) → Took r b no_row c → OneTaken r b c
    go c (left i h k n) = record {
      replaced = 0;
      added = 0;
      takes = leaves i k (λ z. truth (sym (is_newer_lem r (row_at b.rows i) f.small (t.small i h) f.young (t.young i k.0) z) ∙ n));
      replaced_more = omega arith;
      added_more = omega arith;
    }
    go c (replaced i h k n) = record {
      replaced = 1;
      added = 0;
      takes = replaces i k (newer_is r (row_at b.rows i) f.small (t.small i h) n).2;
      replaced_more = refl;
      added_more = omega arith;
    }
    go c (added i h k g p) = record {
      replaced = 0;
      added = 1;
      takes = adds i h (passed (equal _ 0) k) (λ j l. failed (equal _ 0) (p j l)) (λ j w. failed (of_lem r _) (g j (within b.rows j w.0)) w);
      replaced_more = omega arith;
      added_more = refl;
    }
    go c (full g k) = absurd (room g k)

-- and taking all of an update's, where the table has an unused row for each new identity.
pub record AllTaken (rs : List Row) (b c : Book) : Type 0 where
  pub replaced : ℕ
  pub added : ℕ
  pub takes : TakesAll rs b.rows c.rows replaced added
  pub replaced_more : c.replaced ≡ b.replaced + replaced
  pub added_more : c.added ≡ b.added + added

pub all_taken : (rs known : List Row) (b : Book) → All Fit rs → FitTable b.rows → Knows known b.rows → new_identities known rs ≤ free_rows b.rows → AllTaken rs b (take_all rs b)
unfolding take_all
all_taken [] known b none_left t k h = record { replaced = 0; added = 0; takes = none; replaced_more = omega arith; added_more = omega arith }
all_taken (r ∷ rs) known b (one_more f a) t k h =
    let n = turn r rs known b f.used k h in
    let x = one_taken r b f t (has_room r rs known b f.used k h no_row) in
    let y = all_taken rs n.next (take_one r b) a (fit_one r b f t) n.knows n.fits in
    record {
      replaced = x.replaced + y.replaced;
      added = x.added + y.added;
      takes = then x.takes y.takes;
      replaced_more = omega (arith, x.replaced_more, y.replaced_more);
      added_more = omega (arith, x.added_more, y.added_more);
    }

-- LSAs of two updates, taken one update after the other, are taken as one.
pub both_taken : {rs ss t u w : List Row} {m n k l : ℕ} → TakesAll rs t u m n → TakesAll ss u w k l → TakesAll (rs ++ ss) t w (m + k) (n + l)
both_taken none y = rw (zero-add, zero-add) y
both_taken (then {m = m} {n = n} {k = k} {l = l} x xs) y = rw (add_assoc m k, add_assoc n l) (then x (both_taken xs y))

-- There is one table, and one pair of counts, that taking comes to, where no two used rows share an identity.
same_place : (t : List Row) (r : Row) (i j : ℕ) → Unique no_row t → HasAt t r i → HasAt t r j → i ≡ j
same_place t r i j q h k = q i j (within t i h.0) (within t j k.0) h.0 k.0 (same_trans (same_swap h.1) k.1)

only_one : {r : Row} {t u w : List Row} {m n k l : ℕ} → Unique no_row t → TakesOne r t u m n → TakesOne r t w k l → (u ≡ w) × (m ≡ k) × (n ≡ l)
only_one q (leaves i h f) (leaves j k g) = (refl, refl, refl)
only_one {r} {t} q (leaves i h f) (replaces j k g) = absurd (f (rw (same_place t r i j q h k) g))
only_one q (leaves i h f) (adds j l z p g) = absurd (g i h)
only_one {r} {t} q (replaces i h f) (leaves j k g) = absurd (g (rw (same_place t r j i q k h) f))
only_one {r} {t} q (replaces i h f) (replaces j k g) = (ap (λ (p : ℕ). set t p r) (same_place t r i j q h k), refl, refl)
only_one q (replaces i h f) (adds j l z p g) = absurd (g i h)
only_one q (adds i l z p f) (leaves j k g) = absurd (f j k)
only_one q (adds i l z p f) (replaces j k g) = absurd (f j k)
only_one {r} {t} q (adds i l z p f) (adds j m y o g) = (ap (λ (x : ℕ). set t x r) (first (less i j) (less j i)), refl, refl)
  where
    first : {a b : Bool} → Decided (i < j) a → Decided (j < i) b → i ≡ j
    first (holds h) d = absurd (o i h z)
    first (fails e) (holds h) = absurd (p j h y)
    first (fails e) (fails h) = omega (arith, e, h)

keeps_unique : {r : Row} {t u : List Row} {m n : ℕ} → Used r → Unique no_row t → TakesOne r t u m n → Unique no_row u
keeps_unique v q (leaves i h f) = q
keeps_unique {r} {t} v q (replaces i h f) = unique_written r no_row t i q (within t i h.0) (λ j l e u w. e (same_place t r j i q (u, w) h))
keeps_unique {r} {t} v q (adds i l z p f) = unique_written r no_row t i q l (λ j k e u w. f j (u, w))

pub only_taken : {rs t u w : List Row} {m n k l : ℕ} → All Used rs → (Twice t → ⊥) → TakesAll rs t u m n → TakesAll rs t w k l → (u ≡ w) × (m ≡ k) × (n ≡ l)
only_taken {t = t} a f x y = go a (twice_unique t f) x y
  where
    go : {rs t u w : List Row} {m n k l : ℕ} → All Used rs → Unique no_row t → TakesAll rs t u m n → TakesAll rs t w k l → (u ≡ w) × (m ≡ k) × (n ≡ l)
    go none_left q none none = (refl, refl, refl)
    go (one_more v a) q (then {rs = rs} x xs) (then {w = w} {k = k} {l = l} y ys) =
        let e = only_one q x y in
        let f = go a (keeps_unique v q x) xs (subst (λ (z : List Row). TakesAll rs z w k l) (sym e.0) ys) in
        (f.0, cc (e.1, f.1), cc (e.2, f.2))
