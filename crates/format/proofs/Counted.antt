-- Rows that are added are the new identities: a table that has an unused row for each of them has one at each turn.
use Prim.Native.Nat.{ℕ, zero, suc, ◌+◌, ◌≤◌, ◌<◌}
use native.Mathlib.Omega.{arith}
use mathlib.Core.Path.{◌≡◌, refl, sym, ap, ◌∙◌}
use mathlib.Core.Bool.{Bool, true, false, cond}
use mathlib.Core.List.{List, [], ◌∷◌}
use lib.ListN.{length, get_or, set}
use Rattle.format.specs.Book.{Row, Book, is_free, is_of, any, free_rows, new_identities, take_one, take_all}
use Rattle.format.specs.Takes.{Used, Same}
use Rattle.format.proofs.Book.{Took, took, All, of_same, used_is, of_is, truth}
use Rattle.format.proofs.Book.Took.{left, replaced, added, full}
use Rattle.format.proofs.Book.All.{none_left, one_more}

-- A test of the rows after one was written.
swap_or : (s t b : Bool) → cond s true (cond t true b) ≡ cond t true (cond s true b)
swap_or true true b = refl
swap_or true false b = refl
swap_or false true b = refl
swap_or false false b = refl

any_set : (f : Row → Bool) (t : List Row) (i : ℕ) (r d : Row) → i < length t → f (get_or t i d) ≡ false → any f (set t i r) ≡ cond (f r) true (any f t)
unfolding any
any_set f [] i r d h e = absurd (omega arith)
any_set f (x ∷ xs) zero r d h e = rw e refl
any_set f (x ∷ xs) (suc i) r d h e = rw (any_set f xs i r d (omega arith) e) (swap_or (f x) (f r) (any f xs))

any_kept : (f : Row → Bool) (t : List Row) (i : ℕ) (r d : Row) → i < length t → f (get_or t i d) ≡ f r → any f (set t i r) ≡ any f t
unfolding any
any_kept f [] i r d h e = absurd (omega arith)
any_kept f (x ∷ xs) zero r d h e = rw e refl
any_kept f (x ∷ xs) (suc i) r d h e = rw (any_kept f xs i r d (omega arith) e) refl

any_nowhere : (f : Row → Bool) (t : List Row) (d : Row) → ((j : ℕ) → j < length t → f (get_or t j d) ≡ false) → any f t ≡ false
unfolding any
any_nowhere f [] d g = refl
any_nowhere f (x ∷ xs) d g = rw (g 0 (omega arith)) (any_nowhere f xs d (λ j h. g (suc j) (omega arith)))

any_there : (f : Row → Bool) (t : List Row) (d : Row) (i : ℕ) → i < length t → f (get_or t i d) ≡ true → any f t ≡ true
unfolding any
any_there f [] d i h e = absurd (omega arith)
any_there f (x ∷ xs) d zero h e = rw e refl
any_there f (x ∷ xs) d (suc i) h e = rw (any_there f xs d i (omega arith) e) (go (f x))
  where
    go : (b : Bool) → cond b true true ≡ true
    go true = refl
    go false = refl

-- The number of unused rows after one was written.
free_set : (t : List Row) (i : ℕ) (r d : Row) → i < length t → is_free (get_or t i d) ≡ true → is_free r ≡ false → free_rows t ≡ suc (free_rows (set t i r))
unfolding free_rows
free_set [] i r d h e f = absurd (omega arith)
free_set (x ∷ xs) zero r d h e f = rw (e, f) refl
free_set (x ∷ xs) (suc i) r d h e f = rw (free_set xs i r d (omega arith) e f) (go (is_free x) (free_rows (set xs i r)))
  where
    go : (b : Bool) (n : ℕ) → cond b (suc (suc n)) (suc n) ≡ suc (cond b (suc n) n)
    go true n = refl
    go false n = refl

free_kept : (t : List Row) (i : ℕ) (r d : Row) → i < length t → is_free (get_or t i d) ≡ is_free r → free_rows (set t i r) ≡ free_rows t
unfolding free_rows
free_kept [] i r d h e = absurd (omega arith)
free_kept (x ∷ xs) zero r d h e = rw e refl
free_kept (x ∷ xs) (suc i) r d h e = rw (free_kept xs i r d (omega arith) e) refl

free_none : (t : List Row) (d : Row) → ((j : ℕ) → j < length t → is_free (get_or t j d) ≡ false) → free_rows t ≡ 0
unfolding free_rows
free_none [] d g = refl
free_none (x ∷ xs) d g = rw (g 0 (omega arith)) (free_none xs d (λ j h. g (suc j) (omega arith)))

-- Rows whose identities are those of the table's used rows.
abbrev pub Knows : List Row → List Row → Type 0
Knows known t = (x : Row) → any (is_of x) known ≡ any (is_of x) t

-- One turn of a table that has a row for each new identity: it finds its row, and has one for each that is left.
module _ (r : Row) (rs known : List Row) (b : Book) (u : Used r) (k : Knows known b.rows) (h : new_identities known (r ∷ rs) ≤ free_rows b.rows) where
  there_is : (i : ℕ) → i < length b.rows → Used (get_or b.rows i r) × Same r (get_or b.rows i r) → any (is_of r) b.rows ≡ true
  there_is i l m = any_there (is_of r) b.rows r i l (of_is r _ m)

  none_is : (d : Row) → ((j : ℕ) → j < length b.rows → is_of r (get_or b.rows j d) ≡ false) → any (is_of r) b.rows ≡ false
  none_is d g = any_nowhere (is_of r) b.rows d g

  pub has_room : (d : Row) → ((j : ℕ) → j < length b.rows → is_free (get_or b.rows j d) ≡ false) → ((j : ℕ) → j < length b.rows → is_of r (get_or b.rows j d) ≡ false) → ⊥
  unfolding new_identities
  has_room d f g =
      let e : any (is_of r) known ≡ false = k r ∙ none_is d g in
      let z = free_none b.rows d f in
      let n : suc (new_identities (r ∷ known) rs) ≤ free_rows b.rows = rw e at h in
      omega arith

  pub record Turn (c : Book) : Type 0 where
    pub next : List Row
    pub knows : Knows next c.rows
    pub fits : new_identities next rs ≤ free_rows c.rows
    pub sum : c.added + new_identities next rs ≡ b.added + new_identities known (r ∷ rs)

  pub turn : Turn (take_one r b)
  unfolding new_identities any
  turn = go (any (is_of r) known) refl (take_one r b) (took r r b)
    where
      go : (t : Bool) → any (is_of r) known ≡ t → (c : Book) → Took r b r c → Turn c
      go true e c (left i l m n) = record { next = known; knows = k; fits = rw e at h; sum = rw e refl }
      go true e c (replaced i l m n) = record {
        next = known;
        knows = λ x. k x ∙ sym (any_kept (is_of x) b.rows i r r l (of_same x u m.0 m.1));
        fits = rw (free_kept b.rows i r r l (used_is (get_or b.rows i r) m.0 ∙ sym (used_is r u))) (rw e at h);
        sum = rw e refl;
      }
      go true e c (added i l m g p) = absurd (truth (sym e ∙ k r ∙ none_is r g))
      go true e c (full f g) = absurd (has_room r f g)
      go false e c (left i l m n) = absurd (truth (sym (there_is i l m) ∙ sym (k r) ∙ e))
      go false e c (replaced i l m n) = absurd (truth (sym (there_is i l m) ∙ sym (k r) ∙ e))
      go false e c (added i l m g p) =
          let f = free_set b.rows i r r l m (used_is r u) in
          let n : suc (new_identities (r ∷ known) rs) ≤ free_rows b.rows = rw e at h in
          record {
            next = r ∷ known;
            knows = λ x. ap (λ (t : Bool). cond (is_of x r) true t) (k x) ∙ sym (any_set (is_of x) b.rows i r r l (rw m refl));
            fits = omega arith;
            sum = rw e (omega arith);
          }
      go false e c (full f g) = absurd (has_room r f g)

-- So the LSAs that are added are counted.
pub counted : (rs known : List Row) (b : Book) → All Used rs → Knows known b.rows → new_identities known rs ≤ free_rows b.rows
    → (take_all rs b).added ≡ b.added + new_identities known rs
unfolding take_all new_identities
counted [] known b none_left k h = omega arith
counted (r ∷ rs) known b (one_more u a) k h =
    let t = turn r rs known b u k h in
    counted rs t.next (take_one r b) a t.knows t.fits ∙ t.sum
