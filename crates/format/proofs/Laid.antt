-- Laws of entries that are laid out in a range: one list after another, containers, and the entries of a cut; and what
-- follows for each entry and for the nesting.
use Prim.Native.Nat.{ℕ, zero, suc, ◌+◌, ◌*◌, ◌≤◌}
use native.Mathlib.Nat.{suc-mul, zero-mul}
use native.Mathlib.Omega.{arith}
use mathlib.Core.Path.{◌≡◌, refl}
use mathlib.Core.Logic.{⊎_elim}
use mathlib.Core.Bool.{Bool, true, false, cond}
use mathlib.Core.List.Memᴰ
use mathlib.Core.List.{List, [], ◌∷◌, ◌++◌, flat_map, append_assoc, Memᴰ}
use mathlib.Core.Option.{Option, none as nothing, some}
use lib.ListN.{length}
use lib.Dec.{ltb, eqb}
use borrow.Author.Tests.{ltb-true, eqb-true}
use Rattle.format.specs.Strip.{Entry, Shape, content, direct, container}
use Rattle.format.specs.Strip.Entry.{opens, closes, bytes}
use Rattle.format.specs.Strip.Shape.{opening, closing, valued, numbered, ranged, costless}
use Rattle.format.specs.Cut.{Span, Rule, cut, after, standing, fixed_rule}
use Rattle.format.specs.Body.{listing, listing_if_any, leftover}
use Rattle.format.proofs.Nested.{Nested, any}
use Rattle.format.proofs.Nested.Nested.{none as nested_none, field as nested_field, group as nested_group}
use Rattle.format.specs.Laid.{start, end, Laid, among, passes, only}
use Rattle.format.specs.Laid.Laid.{none, field, group}
use Rattle.format.specs.Inside.{Counts}
use Rattle.format.proofs.Inside.{counts_nested, closed}
use Rattle.format.proofs.Unique.{span, cut_none, cut_some}
use Rattle.format.proofs.Rules.{inside}

-- A cut ends no earlier than it begins; in the body, where it begins there; and after as many entries as its count at
-- most.
pub after-from : (ss : List Span) (p : ℕ) → p ≤ after p ss
unfolding after
after-from [] p = omega arith
after-from (s ∷ ss) p = let h = after-from ss (p + s.len) in omega arith

pub cut_inside : (least : ℕ) (declared : Rule) (b : List ℕ) (k p : ℕ) → p ≤ length b → after p (cut (standing least declared) b k p) ≤ length b
unfolding cut after
cut_inside least declared b zero p h = h
cut_inside least declared b (suc k) p h = go (standing least declared b p) refl (cut_inside least declared b k)
  where
    go : (x : Option ℕ) → standing least declared b p ≡ x → ((q : ℕ) → q ≤ length b → after q (cut (standing least declared) b k q) ≤ length b)
        → after p (cut (standing least declared) b (suc k) p) ≤ length b
    go nothing e ih = rw (cut_none (standing least declared) b (suc k) p e) h
    go (some n) e ih = rw (cut_some (standing least declared) b k p n e) (ih (p + n) (inside least declared b p n e).within)

pub fixed_length : (n : ℕ) (b : List ℕ) (p m : ℕ) → fixed_rule n b p ≡ some m → m ≡ n
fixed_length n b p m e = let d = (inside n (λ (c : List ℕ) (q : ℕ). some n) b p m e).length_declared in cc

pub fixed_end : (n : ℕ) (b : List ℕ) (k p : ℕ) → after p (cut (fixed_rule n) b k p) ≤ p + k * n
unfolding cut after
fixed_end n b zero p = rw zero-mul (omega arith)
fixed_end n b (suc k) p = go (fixed_rule n b p) refl (fixed_end n b k)
  where
    go : (x : Option ℕ) → fixed_rule n b p ≡ x → ((q : ℕ) → after q (cut (fixed_rule n) b k q) ≤ q + k * n) → after p (cut (fixed_rule n) b (suc k) p) ≤ p + suc k * n
    go nothing e ih = rw (cut_none (fixed_rule n) b (suc k) p e) (omega arith)
    go (some m) e ih =
        let h = ih (p + m) in
        let q = fixed_length n b p m e in
        rw (cut_some (fixed_rule n) b k p m e, suc-mul) (omega arith)

pub widen : {has : Entry → Bool} {lo hi lo' hi' : ℕ} {es : List Entry} → lo' ≤ lo → hi ≤ hi' → Laid has lo hi es → Laid has lo' hi' es
widen h k none = none
widen {lo' = lo'} {hi' = hi'} h k (field f t a b c l) = field {lo = lo'} {hi = hi'} f t (omega arith) b (omega arith) (widen h k l)
widen {lo' = lo'} {hi' = hi'} h k (group i s e n t q a b c m l) = group {lo = lo'} {hi = hi'} i s e n t q (omega arith) b (omega arith) m (widen h k l)

-- What passes a test passes one that asks no more.
pub weaken : {has has' : Entry → Bool} {lo hi : ℕ} {es : List Entry} → ((x : Entry) → has x ≡ true → has' x ≡ true) → Laid has lo hi es → Laid has' lo hi es
weaken w none = none
weaken w (field {x = x} f t a b c l) = field f (w x t) a b c (weaken w l)
weaken w (group i s e n t q a b c m l) = group i s e n (w (opens i s e n) t) q a b c (weaken w m) (weaken w l)

-- What is laid out is well nested, by any test that the ids of its containers pass.
pub nested_of : {has : Entry → Bool} {ok : ℕ → Bool} {lo hi : ℕ} {es : List Entry} → ((i s e n : ℕ) → has (opens i s e n) ≡ true → ok i ≡ true) → Laid has lo hi es → Nested ok es
nested_of w none = nested_none
nested_of w (field f t a b d l) = nested_field f (nested_of w l)
nested_of w (group i s e n t q a b d k l) = nested_group i s e n (w i s e n t) (nested_of w k) (nested_of w l)

-- So it has as many direct entries as are counted.
pub laid_counts : {has : Entry → Bool} {lo hi : ℕ} {es : List Entry} → Laid has lo hi es → Counts (direct 0 es) es
laid_counts l = counts_nested (nested_of {ok = any} (λ i s e n h. refl) l)

-- A test of ids asks no more where it passes all that another does.
pub only_more : (c c' ms r r' : List ℕ) → ((i : ℕ) → among c i ≡ true → among c' i ≡ true) → ((i : ℕ) → among r i ≡ true → among r' i ≡ true)
    → (x : Entry) → only c ms r x ≡ true → only c' ms r' x ≡ true
only_more c c' ms r r' f g x = go (content x).shape
  where
    go : (t : Shape) → passes c ms r t (content x).id ≡ true → passes c' ms r' t (content x).id ≡ true
    go opening h = f (content x).id h
    go closing h = h
    go valued h = h
    go (numbered v) h = h
    go ranged h = g (content x).id h
    go costless h = h

module _ {has : Entry → Bool} where
  pub laid_append : {lo hi : ℕ} {xs ys : List Entry} → Laid has lo hi xs → Laid has lo hi ys → Laid has lo hi (xs ++ ys)
  laid_append none m = m
  laid_append (field f t a b c l) m = field f t a b c (laid_append l m)
  laid_append (group i s e n t q a b c k l) m = rw append_assoc (group i s e n t q a b c k (laid_append l m))

  pub laid_container : {lo hi : ℕ} (i s e : ℕ) {inner : List Entry} → has (opens i s e (direct 0 inner)) ≡ true → lo ≤ s → s ≤ e → e ≤ hi → Laid has s e inner → Laid has lo hi (container i s e inner)
  unfolding container
  laid_container i s e t a b c l = group i s e _ t (closed (laid_counts l)) a b c l none

  -- a choice between two lists
  pub laid_cond : {lo hi : ℕ} (t : Bool) {xs ys : List Entry} → Laid has lo hi xs → Laid has lo hi ys → Laid has lo hi (cond t xs ys)
  laid_cond true l m = l
  laid_cond false l m = m

  -- the entries of a cut, each of which lies where its span stands
  pub laid_cut : (r : Rule) (b : List ℕ) (f : Span → List Entry) (o : ℕ) → ((p n : ℕ) → r b p ≡ some n → Laid has (o + p) (o + p + n) (f (span p n)))
      → (k p : ℕ) → Laid has (o + p) (o + after p (cut r b k p)) (flat_map f (cut r b k p))
  unfolding flat_map cut after
  laid_cut r b f o h zero p = none
  laid_cut r b f o h (suc k) p = go (r b p) refl (laid_cut r b f o h k)
    where
      go : (x : Option ℕ) → r b p ≡ x → ((q : ℕ) → Laid has (o + q) (o + after q (cut r b k q)) (flat_map f (cut r b k q)))
          → Laid has (o + p) (o + after p (cut r b (suc k) p)) (flat_map f (cut r b (suc k) p))
      go nothing e ih = rw (cut_none r b (suc k) p e) none
      go (some n) e ih =
          let l = after-from (cut r b k (p + n)) (p + n) in
          rw (cut_some r b k p n e) (laid_append (widen (omega arith) (omega arith) (h p n e)) (widen (omega arith) (omega arith) (ih (p + n))))

  -- their array
  module _ {lo hi : ℕ} (i o p : ℕ) (f : Span → List Entry) (r : Rule) (b : List ℕ) (k : ℕ) (t : (s e n : ℕ) → has (opens i s e n) ≡ true)
      (from : lo ≤ o + p) (to : o + after p (cut r b k p) ≤ hi) (h : (q n : ℕ) → r b q ≡ some n → Laid has (o + q) (o + q + n) (f (span q n))) where
    pub laid_listing : Laid has lo hi (listing i f o p (cut r b k p))
    unfolding listing
    laid_listing = let a = after-from (cut r b k p) p in laid_container i _ _ (t _ _ _) from (omega arith) to (laid_cut r b f o h k p)

    pub laid_listing_if : Laid has lo hi (listing_if_any i f o p (cut r b k p))
    unfolding listing_if_any
    laid_listing_if = go (cut r b k p) laid_listing
      where
        go : (ss : List Span) → Laid has lo hi (listing i f o p ss) → Laid has lo hi (listing_if_any i f o p ss)
        go [] l = none
        go (s ∷ ss) l = l

  pub laid_leftover : {lo hi : ℕ} (i : ℕ) (b : List ℕ) (o p : ℕ) → ((s e : ℕ) → has (bytes i s e) ≡ true) → lo ≤ o + p → o + length b ≤ hi → Laid has lo hi (leftover i b o p)
  unfolding leftover
  laid_leftover {lo} {hi} i b o p t h k = go (ltb p (length b)) refl
    where
      go : (x : Bool) → ltb p (length b) ≡ x → Laid has lo hi (cond x (bytes i (o + p) (o + length b) ∷ []) [])
      go true e = let l = ltb-true p (length b) e in field refl (t (o + p) (o + length b)) h (omega arith) k none
      go false e = none

-- What is said of one entry that is laid out: it passes the test, and lies in the range.
pub record Lying (has : Entry → Bool) (lo hi : ℕ) (x : Entry) : Type 0 where
  pub passes : has x ≡ true
  pub from : lo ≤ start x
  pub ordered : start x ≤ end x
  pub to : end x ≤ hi

further : {has : Entry → Bool} {lo hi lo' hi' : ℕ} {x : Entry} → lo' ≤ lo → hi ≤ hi' → Lying has lo hi x → Lying has lo' hi' x
further h k l = record { passes = l.passes; from = omega arith; ordered = l.ordered; to = omega arith }

-- Every entry but a close.
pub laid_member : {has : Entry → Bool} {lo hi : ℕ} {es : List Entry} (x : Entry) → (x ≡ closes → ⊥) → Laid has lo hi es → Memᴰ x es → Lying has lo hi x
laid_member x n none m = absurd (Memᴰ.not-nil m)
laid_member {has} {lo} {hi} x n (field f t a b c l) m =
    ⊎_elim {C = Lying has lo hi x} (λ q. rw q (record { passes = t; from = a; ordered = b; to = c })) (λ m. laid_member x n l m) (Memᴰ.cases_cons m)
laid_member {has} {lo} {hi} x n (group {inside = within} {es = es} i s e j t z a b c k l) m =
    ⊎_elim {C = Lying has lo hi x} (λ q. rw q (record { passes = t; from = a; ordered = b; to = c })) (λ m.
    ⊎_elim {C = Lying has lo hi x} (λ m. further a c (laid_member x n k m)) (λ m.
    ⊎_elim {C = Lying has lo hi x} (λ q. absurd (n q)) (λ m. laid_member x n l m) (Memᴰ.cases_cons m)) (Memᴰ.append_cases within m)) (Memᴰ.cases_cons m)

-- Whether all ids of a list pass a test; then each one of them does.
abbrev pub all : (ℕ → Bool) → List ℕ → Bool
all ok [] = true
all ok (x ∷ xs) = cond (ok x) (all ok xs) false

pub all_among : (ok : ℕ → Bool) (ids : List ℕ) (i : ℕ) → all ok ids ≡ true → among ids i ≡ true → ok i ≡ true
all_among ok [] i h k = let z : ◌≡◌ {A = ℕ} 0 1 = cc in absurd (omega arith)
all_among ok (x ∷ xs) i h k = go (eqb i x) refl (ok x) refl h k (all_among ok xs i)
  where
    go : (s : Bool) → eqb i x ≡ s → (t : Bool) → ok x ≡ t → cond t (all ok xs) false ≡ true → cond s true (among xs i) ≡ true → (all ok xs ≡ true → among xs i ≡ true → ok i ≡ true) → ok i ≡ true
    go true e true f h k ih = rw (eqb-true i x e) f
    go false e true f h k ih = ih h k
    go true e false f h k ih = let z : ◌≡◌ {A = ℕ} 0 1 = cc in absurd (omega arith)
    go false e false f h k ih = let z : ◌≡◌ {A = ℕ} 0 1 = cc in absurd (omega arith)

-- Tests of one of two lists, and of two that agree.
pub all_cond : (ok : ℕ → Bool) (t : Bool) (x y : List ℕ) → all ok (cond t x y) ≡ cond t (all ok x) (all ok y)
all_cond ok true x y = refl
all_cond ok false x y = refl

pub among_cond : (t : Bool) (x y : List ℕ) (i : ℕ) → among (cond t x y) i ≡ cond t (among x i) (among y i)
among_cond true x y i = refl
among_cond false x y i = refl

pub cond_same : (t x : Bool) → cond t x x ≡ x
cond_same true x = refl
cond_same false x = refl

-- The same by the ids of a test.
pub laid_nested : (c ms r : List ℕ) {ok : ℕ → Bool} {lo hi : ℕ} {es : List Entry} → ((i : ℕ) → among c i ≡ true → ok i ≡ true) → Laid (only c ms r) lo hi es → Nested ok es
laid_nested c ms r w l = nested_of (λ i s e n h. w i h) l
