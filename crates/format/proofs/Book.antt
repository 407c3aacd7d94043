-- What taking one LSA, and all of an update, does to a table of rows.
use Prim.Native.Nat.{ℕ, zero, suc, ◌+◌, ◌≤◌, ◌<◌}
use native.Mathlib.Omega.{arith}
use mathlib.Core.Path.{◌≡◌, refl, sym, ◌∙◌}
use mathlib.Core.Bool.{Bool, true, false, cond}
use mathlib.Core.List.{List, [], ◌∷◌, ◌++◌}
use mathlib.Core.Option.{Option, none, some}
use lib.ListN.{length, get_or, set, length-set}
use lib.Seq.{get_or-set_same, get_or-set_other}
use Rattle.std.proofs.lemmas.List.{get_or_default}
use Rattle.format.specs.Book.{Row, Book, is_free, same_identity, is_of, is_newer, place_of, take_one, take_all}
use Rattle.format.specs.Takes.{Used, Same}
use Rattle.format.proofs.Decided.{Decided, equal, alike}
use Rattle.format.proofs.Decided.Decided.{holds, fails}

-- Sharing an identity is an equivalence.
pub same_self : (r : Row) → Same r r
same_self r = record { version = refl; ls_type = refl; link_state_id = refl; advertising_router = refl }

pub same_swap : {r s : Row} → Same r s → Same s r
same_swap h = record { version = sym h.version; ls_type = sym h.ls_type; link_state_id = sym h.link_state_id; advertising_router = sym h.advertising_router }

pub same_trans : {r s t : Row} → Same r s → Same s t → Same r t
same_trans h k = record { version = h.version ∙ k.version; ls_type = h.ls_type ∙ k.ls_type; link_state_id = h.link_state_id ∙ k.link_state_id; advertising_router = h.advertising_router ∙ k.advertising_router }

same_lem : (r s : Row) → Decided (Same r s) (same_identity r s)
unfolding same_identity
same_lem r s = go (equal _ _) (equal _ _) (equal _ _) (equal _ _)
  where
    go : {t u v w : Bool} → Decided (r.version ≡ s.version) t → Decided (r.ls_type ≡ s.ls_type) u → Decided (r.link_state_id ≡ s.link_state_id) v
        → Decided (r.advertising_router ≡ s.advertising_router) w → Decided (Same r s) (cond t (cond u (cond v w false) false) false)
    go (holds a) (holds b) (holds c) (holds d) = holds (record { version = a; ls_type = b; link_state_id = c; advertising_router = d })
    go (holds a) (holds b) (holds c) (fails f) = fails (λ h. f h.advertising_router)
    go (holds a) (holds b) (fails f) d = fails (λ h. f h.link_state_id)
    go (holds a) (fails f) c d = fails (λ h. f h.ls_type)
    go (fails f) b c d = fails (λ h. f h.version)

pub of_lem : (r s : Row) → Decided (Used s × Same r s) (is_of r s)
of_lem r s = go (equal s.used 0) (same_lem r s)
  where
    go : {t u : Bool} → Decided (s.used ≡ 0) t → Decided (Same r s) u → Decided (Used s × Same r s) (cond t false u)
    go (holds h) d = fails (λ j. j.0 h)
    go (fails f) (holds i) = holds (f, i)
    go (fails f) (fails g) = fails (λ j. g j.1)

-- Where the first row for which a test holds stands.
pub data Found (f : Row → Bool) (t : List Row) (d : Row) : Option ℕ → Type 0 where
  there : (i : ℕ) → i < length t → f (get_or t i d) ≡ true → ((j : ℕ) → j < i → f (get_or t j d) ≡ false) → Found f t d (some i)
  nowhere : ((j : ℕ) → j < length t → f (get_or t j d) ≡ false) → Found f t d none

pub found : (f : Row → Bool) (t : List Row) (d : Row) → Found f t d (place_of f t)
unfolding place_of
found f [] d = nowhere (λ j h. absurd (omega arith))
found f (r ∷ rs) d = go (f r) refl (place_of f rs) (found f rs d)
  where
    before : (i : ℕ) → f r ≡ false → ((j : ℕ) → j < i → f (get_or rs j d) ≡ false) → (j : ℕ) → j < suc i → f (get_or (r ∷ rs) j d) ≡ false
    before i e g zero h = e
    before i e g (suc j) h = g j (omega arith)

    go : (b : Bool) → f r ≡ b → (o : Option ℕ) → Found f rs d o → Found f (r ∷ rs) d (cond b (some 0) (elim o [ none ↦ none | some i ↦ some (suc i) ]))
    go true e o p = there 0 (omega arith) e (λ j h. absurd (omega arith))
    go false e o (there i h k g) = there (suc i) (omega arith) k (before i e g)
    go false e o (nowhere g) = nowhere (before (length rs) e g)

-- What taking one LSA comes to.
pub data Took (r : Row) (b : Book) (d : Row) : Book → Type 0 where
  left : (i : ℕ) → i < length b.rows → Used (get_or b.rows i d) × Same r (get_or b.rows i d) → is_newer r (get_or b.rows i d) ≡ false → Took r b d b
  replaced : (i : ℕ) → i < length b.rows → Used (get_or b.rows i d) × Same r (get_or b.rows i d) → is_newer r (get_or b.rows i d) ≡ true
      → Took r b d (record { rows = set b.rows i r; replaced = b.replaced + 1; added = b.added })
  added : (i : ℕ) → i < length b.rows → is_free (get_or b.rows i d) ≡ true → ((j : ℕ) → j < length b.rows → is_of r (get_or b.rows j d) ≡ false) → ((j : ℕ) → j < i → is_free (get_or b.rows j d) ≡ false)
      → Took r b d (record { rows = set b.rows i r; replaced = b.replaced; added = b.added + 1 })
  full : ((j : ℕ) → j < length b.rows → is_free (get_or b.rows j d) ≡ false) → ((j : ℕ) → j < length b.rows → is_of r (get_or b.rows j d) ≡ false) → Took r b d b

-- What a test that passes decides.
pub passed : {p : Type 0} {t : Bool} → Decided p t → t ≡ true → p
passed (holds h) e = h
passed (fails f) e = absurd (let z : ◌≡◌ {A = ℕ} 0 1 = cc in omega arith)

pub failed : {p : Type 0} {t : Bool} → Decided p t → t ≡ false → p → ⊥
failed (holds h) e = absurd (let z : ◌≡◌ {A = ℕ} 0 1 = cc in omega arith)
failed (fails f) e = f

pub took : (r d : Row) (b : Book) → Took r b d (take_one r b)
unfolding take_one
took r d b = go (place_of (is_of r) b.rows) (found (is_of r) b.rows d)
  where
    add : ((j : ℕ) → j < length b.rows → is_of r (get_or b.rows j d) ≡ false) → (o : Option ℕ) → Found is_free b.rows d o
        → Took r b d (elim o [ none ↦ b | some i ↦ record { rows = set b.rows i r; replaced = b.replaced; added = b.added + 1 } ])
    add g o (there i h k f) = added i h k g f
    add g o (nowhere f) = full f g

    choose : (i : ℕ) → i < length b.rows → Used (get_or b.rows i d) × Same r (get_or b.rows i d) → (t : Bool) → is_newer r (get_or b.rows i d) ≡ t
        → Took r b d (cond t (record { rows = set b.rows i r; replaced = b.replaced + 1; added = b.added }) b)
    choose i h k true e = replaced i h k e
    choose i h k false e = left i h k e

    go : (o : Option ℕ) → Found (is_of r) b.rows d o
        → Took r b d (elim o [
          | some i ↦ cond (is_newer r (get_or b.rows i r)) (record { rows = set b.rows i r; replaced = b.replaced + 1; added = b.added }) b
          | none ↦ elim (place_of is_free b.rows) [ none ↦ b | some i ↦ record { rows = set b.rows i r; replaced = b.replaced; added = b.added + 1 } ]
        ])
    go o (there i h k g) = rw (get_or_default b.rows i r d h) (choose i h (passed (of_lem r (get_or b.rows i d)) k) (is_newer r (get_or b.rows i d)) refl)
    go o (nowhere g) = add g (place_of is_free b.rows) (found is_free b.rows d)

-- By the places that are found.
pub take_found : (r : Row) (b : Book) (i : ℕ) → place_of (is_of r) b.rows ≡ some i
    → take_one r b ≡ cond (is_newer r (get_or b.rows i r)) (record { rows = set b.rows i r; replaced = b.replaced + 1; added = b.added }) b
unfolding take_one
take_found r b i e = rw (take_one, e) refl

pub take_new : (r : Row) (b : Book) (o : Option ℕ) → place_of (is_of r) b.rows ≡ none → place_of is_free b.rows ≡ o
    → take_one r b ≡ elim o [ none ↦ b | some i ↦ record { rows = set b.rows i r; replaced = b.replaced; added = b.added + 1 } ]
unfolding take_one
take_new r b o e f = rw (take_one, e, f) refl

-- Tables as long as each other, in which no used row became unused or another LSA's.
pub record Grown (d : Row) (t u : List Row) : Type 0 where
  pub size : length u ≡ length t
  pub stays : (i : ℕ) → i < length t → Used (get_or t i d) → Used (get_or u i d) × Same (get_or t i d) (get_or u i d)

grown_self : (d : Row) (t : List Row) → Grown d t t
grown_self d t = record { size = refl; stays = λ i h k. (k, same_self _) }

grown_trans : {d : Row} {t u v : List Row} → Grown d t u → Grown d u v → Grown d t v
grown_trans {d} {t} {u} {v} g h = record {
  size = h.size ∙ g.size;
  stays = λ i k l.
      let a = g.stays i k l in
      let b = h.stays i (rw g.size k) a.0 in
      (b.0, same_trans a.1 b.1);
}

-- A row written where none was used, or one of the same LSA.
written : {r d : Row} {t : List Row} {i : ℕ} → Used r → i < length t → (Used (get_or t i d) → Same r (get_or t i d)) → Grown d t (set t i r)
written {r} {d} {t} {i} u h f = record { size = length-set t i r; stays = λ j k l. each j k l (equal j i) }
  where
    each : (j : ℕ) → j < length t → Used (get_or t j d) → {b : Bool} → Decided (j ≡ i) b → Used (get_or (set t i r) j d) × Same (get_or t j d) (get_or (set t i r) j d)
    each j k l (holds e) = rw (e, get_or-set_same t i r d h) (u, same_swap (f (rw e at l)))
    each j k l (fails g) = rw (get_or-set_other t i j r d g) (l, same_self _)

-- No two used rows share an identity.
abbrev pub Unique : Row → List Row → Type 0
Unique d t = (i j : ℕ) → i < length t → j < length t → Used (get_or t i d) → Used (get_or t j d) → Same (get_or t i d) (get_or t j d) → i ≡ j

-- A row written where no other used row has its identity.
pub unique_written : (r d : Row) (t : List Row) (i : ℕ) → Unique d t → i < length t → ((j : ℕ) → j < length t → (j ≡ i → ⊥) → Used (get_or t j d) → Same r (get_or t j d) → ⊥) → Unique d (set t i r)
unique_written r d t i q h f j k l m = go (equal j i) (equal k i)
  where
    l' : j < length t
    l' = rw (length-set t i r) at l

    m' : k < length t
    m' = rw (length-set t i r) at m

    go : {a b : Bool} → Decided (j ≡ i) a → Decided (k ≡ i) b → Used (get_or (set t i r) j d) → Used (get_or (set t i r) k d) → Same (get_or (set t i r) j d) (get_or (set t i r) k d) → j ≡ k
    go (holds e) (holds g) u v w = e ∙ sym g
    go (holds e) (fails g) u v w =
        absurd (f k m' g (rw (get_or-set_other t i k r d g) at v) (rw (e, get_or-set_same t i r d h, get_or-set_other t i k r d g) at w))
    go (fails e) (holds g) u v w =
        absurd (f j l' e (rw (get_or-set_other t i j r d e) at u) (same_swap (rw (g, get_or-set_same t i r d h, get_or-set_other t i j r d e) at w)))
    go (fails e) (fails g) u v w =
        q j k l' m' (rw (get_or-set_other t i j r d e) at u) (rw (get_or-set_other t i k r d g) at v) (rw (get_or-set_other t i j r d e, get_or-set_other t i k r d g) at w)

-- So it is of each LSA, and of all of an update.
abbrev Keeps : Row → List Row → List Row → Type 0
Keeps d t u = Grown d t u × (Unique d t → Unique d u)

pub keeps_one : (r d : Row) (b : Book) → Used r → Keeps d b.rows (take_one r b).rows
keeps_one r d b u = go (take_one r b) (took r d b)
  where
    go : (c : Book) → Took r b d c → Keeps d b.rows c.rows
    go c (left i h k n) = (grown_self d b.rows, λ q. q)
    go c (replaced i h k n) = (written u h (λ l. k.1), λ q. unique_written r d b.rows i q h (λ j l e v w. e (q j i l h v k.0 (same_trans (same_swap w) k.1))))
    go c (added i h k g p) = (
      written u h (λ l. absurd (l (passed (equal _ 0) k))),
      λ q. unique_written r d b.rows i q h (λ j l e v w. failed (of_lem r _) (g j l) (v, w)),
    )
    go c (full f g) = (grown_self d b.rows, λ q. q)

-- Each row of a list is used, as those of an update's LSAs are.
pub data All (p : Row → Type 0) : List Row → Type 0 where
  none_left : All p []
  one_more : {r : Row} {rs : List Row} → p r → All p rs → All p (r ∷ rs)

pub keeps_all : (d : Row) (rs : List Row) (b : Book) → All Used rs → Keeps d b.rows (take_all rs b).rows
unfolding take_all
keeps_all d [] b none_left = (grown_self d b.rows, λ q. q)
keeps_all d (r ∷ rs) b (one_more u a) =
    let k = keeps_one r d b u in
    let l = keeps_all d rs (take_one r b) a in
    (grown_trans k.0 l.0, λ q. l.1 (k.1 q))

-- Rows of the same LSA are told alike.
pub of_same : (x : Row) {r s : Row} → Used r → Used s → Same r s → is_of x s ≡ is_of x r
of_same x u v h = alike (of_lem x _) (of_lem x _) (λ k. (u, same_trans k.1 (same_swap h)), λ k. (v, same_trans k.1 h))

pub used_is : (r : Row) → Used r → is_free r ≡ false
used_is r u = go (equal r.used 0)
  where
    go : {t : Bool} → Decided (r.used ≡ 0) t → t ≡ false
    go (holds h) = absurd (u h)
    go (fails f) = refl

pub of_is : (r s : Row) → Used s × Same r s → is_of r s ≡ true
of_is r s h = go (of_lem r s)
  where
    go : {t : Bool} → Decided (Used s × Same r s) t → t ≡ true
    go (holds k) = refl
    go (fails f) = absurd (f h)

pub truth : true ≡ false → ⊥
truth e = let z : ◌≡◌ {A = ℕ} 0 1 = cc in omega arith

-- Two updates one after the other are their LSAs in one.
pub appended : (rs ss : List Row) (b : Book) → take_all (rs ++ ss) b ≡ take_all ss (take_all rs b)
unfolding take_all
appended [] ss b = refl
appended (r ∷ rs) ss b = appended rs ss (take_one r b)

-- A used row that no LSA names stays as it was.
untouched_one : (r d : Row) (b : Book) (i : ℕ) → Used (get_or b.rows i d) → (Same r (get_or b.rows i d) → ⊥) → get_or (take_one r b).rows i d ≡ get_or b.rows i d
untouched_one r d b i v f = go (take_one r b) (took r d b)
  where
    other : (j : ℕ) → ((j ≡ i) → ⊥) → get_or (set b.rows j r) i d ≡ get_or b.rows i d
    other j g = get_or-set_other b.rows j i r d (λ e. g (sym e))

    go : (c : Book) → Took r b d c → get_or c.rows i d ≡ get_or b.rows i d
    go c (left j h k n) = refl
    go c (replaced j h k n) = other j (λ e. f (rw e at k.1))
    go c (added j h k g p) = other j (λ e. v (rw e at (passed (equal _ 0) k)))
    go c (full g k) = refl

pub untouched : (rs : List Row) (d : Row) (b : Book) (i : ℕ) → Used (get_or b.rows i d) → All (λ r. Same r (get_or b.rows i d) → ⊥) rs → get_or (take_all rs b).rows i d ≡ get_or b.rows i d
unfolding take_all
untouched [] d b i v none_left = refl
untouched (r ∷ rs) d b i v (one_more f a) =
    let e = untouched_one r d b i v f in
    untouched rs d (take_one r b) i (rw e v) (rw e a) ∙ e

-- Replacements and additions together are at most the LSAs.
at_most_one : (r : Row) (b : Book) → (take_one r b).replaced + (take_one r b).added ≤ b.replaced + b.added + 1
at_most_one r b = go (take_one r b) (took r r b)
  where
    go : (c : Book) → Took r b r c → c.replaced + c.added ≤ b.replaced + b.added + 1
    go c (left i h k n) = omega arith
    go c (replaced i h k n) = omega arith
    go c (added i h k g p) = omega arith
    go c (full f g) = omega arith

pub at_most : (rs : List Row) (b : Book) → (take_all rs b).replaced + (take_all rs b).added ≤ b.replaced + b.added + length rs
unfolding take_all
at_most [] b = omega arith
at_most (r ∷ rs) b = let h = at_most_one r b in let k = at_most rs (take_one r b) in omega arith
