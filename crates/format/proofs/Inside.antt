-- How many entries stand directly in a list, counted by `direct` and found by scanning forward: laws of both, for entries that
-- are well nested.
use Prim.Native.Nat.{ℕ, suc, ◌+◌, ◌-◌}
use native.Mathlib.Nat.{add-zero, zero-add}
use native.Mathlib.Omega.{arith}
use mathlib.Core.Path.{◌≡◌, refl, sym, ap, ◌∙◌}
use mathlib.Core.Bool.{Bool, true, false, cond}
use mathlib.Core.List.{List, [], ◌∷◌, ◌++◌, flat_map, append-nil, append_assoc}
use mathlib.Core.Option.{some}
use lib.ListN.{length}
use lib.Dec.{eqb}
use borrow.Author.Tests.{ne_eqb}
use Rattle.format.specs.Strip.{Entry, content, depth_after, direct, container}
use Rattle.format.specs.Strip.Entry.{opens, closes, u8, u16, u32, ip4, ip6, bytes, unreachable, u64}
use Rattle.format.specs.Cut.{Span}
use Rattle.format.specs.Body.{listing, listing_if_any}
use Rattle.format.specs.Inside.{scan, Counts}
use Rattle.format.specs.Laid.{is_field}
use Rattle.format.proofs.Nested.{Nested}
use Rattle.format.proofs.Nested.Nested.{none, field, group}

pub direct_of : {n : ℕ} {es : List Entry} → Counts n es → direct 0 es ≡ n
unfolding direct
direct_of {n} {es} c = rw append-nil at (c.counted 0 []) ∙ add-zero n

-- A choice between two numbers, where both are added to.
add_choice : (t : Bool) (m n k : ℕ) → cond t m 0 + (cond t n 0 + k) ≡ cond t (m + n) 0 + k
add_choice true m n k = omega arith
add_choice false m n k = omega arith

on_choice : (t : Bool) (m n k : ℕ) → cond t (cond t (k + m) k + n) (cond t (k + m) k) ≡ cond t (k + (m + n)) k
on_choice true m n k = omega arith
on_choice false m n k = refl

no_choice : (t : Bool) (k : ℕ) → k ≡ cond t 0 0 + k
no_choice true k = sym (zero-add k)
no_choice false k = sym (zero-add k)

stays : (t : Bool) (k : ℕ) → k ≡ cond t (k + 0) k
stays true k = sym (add-zero k)
stays false k = refl

pub counts_none : Counts 0 []
counts_none = record { counted = λ d xs. no_choice (eqb d 0) (direct d xs); scanned = λ d m xs. ap (λ (k : ℕ). scan d k xs) (stays (eqb d 0) m) }

pub counts_append : {m n : ℕ} {xs ys : List Entry} → Counts m xs → Counts n ys → Counts (m + n) (xs ++ ys)
counts_append {m} {n} {xs} {ys} c e = record {
  counted = λ d zs. rw (append_assoc, c.counted, e.counted) (add_choice (eqb d 0) m n (direct d zs));
  scanned = λ d k zs. rw (append_assoc, c.scanned, e.scanned) (ap (λ (j : ℕ). scan d j zs) (on_choice (eqb d 0) m n k));
}

-- A field opens and closes nothing: the depth stays.
record FieldIs (x : Entry) : Type 0 where
  depth : (d : ℕ) → depth_after (content x).shape d ≡ d
  no_opening : eqb (content x).kind 1 ≡ false
  no_close : eqb (content x).kind 2 ≡ false

field_is : (x : Entry) → is_field x ≡ true → FieldIs x
field_is (opens i s e n) h = let z : ◌≡◌ {A = ℕ} 0 1 = cc in absurd (omega arith)
field_is closes h = let z : ◌≡◌ {A = ℕ} 0 1 = cc in absurd (omega arith)
field_is (u8 i s e v) h = record { depth = λ d. refl; no_opening = refl; no_close = refl }
field_is (u16 i s e v) h = record { depth = λ d. refl; no_opening = refl; no_close = refl }
field_is (u32 i s e v) h = record { depth = λ d. refl; no_opening = refl; no_close = refl }
field_is (ip4 i s e a) h = record { depth = λ d. refl; no_opening = refl; no_close = refl }
field_is (ip6 i s e a l) h = record { depth = λ d. refl; no_opening = refl; no_close = refl }
field_is (bytes i s e) h = record { depth = λ d. refl; no_opening = refl; no_close = refl }
field_is (unreachable i s e) h = record { depth = λ d. refl; no_opening = refl; no_close = refl }
field_is (u64 i s e v) h = record { depth = λ d. refl; no_opening = refl; no_close = refl }

pub counts_field : {n : ℕ} {x : Entry} {es : List Entry} → is_field x ≡ true → Counts n es → Counts (1 + n) (x ∷ es)
unfolding direct scan
counts_field {n} {x} {es} h c =
    let f = field_is x h in
    record {
      counted = λ d xs. rw (f.depth d, c.counted) (add_choice (eqb d 0) 1 n (direct d xs));
      scanned = λ d m xs. rw (f.no_opening, f.no_close, c.scanned) (ap (λ (k : ℕ). scan d k xs) (on_choice (eqb d 0) 1 n m));
    }

pub counts_group : {m n : ℕ} {inside es : List Entry} (i s e k : ℕ) → Counts m inside → Counts n es → Counts (1 + n) (opens i s e k ∷ (inside ++ (closes ∷ es)))
unfolding direct scan
counts_group {m} {n} {inside} {es} i s e k c f = record {
  counted = λ d xs. ap (direct d) (tail xs) ∙ rw (c.counted, deep d, back d, f.counted, zero-add, zero-add) (add_choice (eqb d 0) 1 n (direct d xs));
  scanned = λ d j xs. ap (scan d j) (tail xs) ∙ rw (c.scanned, deep d, back d, f.scanned) (ap (λ (k : ℕ). scan d k xs) (on_choice (eqb d 0) 1 n j));
}
  where
    tail : (xs : List Entry) → (opens i s e k ∷ (inside ++ (closes ∷ es))) ++ xs ≡ opens i s e k ∷ (inside ++ (closes ∷ (es ++ xs)))
    tail xs = ap (λ (ys : List Entry). opens i s e k ∷ ys) (append_assoc inside (closes ∷ es) xs)

    deep : (d : ℕ) → eqb (suc d) 0 ≡ false
    deep d = ne_eqb (suc d) 0 (λ z. omega arith)

    back : (d : ℕ) → suc d - 1 ≡ d
    back d = omega arith

-- A container is one entry.
pub counts_container : {n : ℕ} {inside : List Entry} (i s e : ℕ) → Counts n inside → Counts 1 (container i s e inside)
unfolding container
counts_container i s e c = counts_group i s e _ c counts_none

-- As many spans, each of which is shown by one entry.
pub counts_each : (f : Span → List Entry) → ((s : Span) → Counts 1 (f s)) → (ss : List Span) → Counts (length ss) (flat_map f ss)
unfolding flat_map
counts_each f h [] = counts_none
counts_each f h (s ∷ ss) = let l : 1 + length ss ≡ suc (length ss) = omega arith in rw (← l) (counts_append (h s) (counts_each f h ss))

-- An array of such spans is one entry; one that is not opened where there is none is none.
module _ (i : ℕ) (f : Span → List Entry) (o p : ℕ) (h : (s : Span) → Counts 1 (f s)) where
  pub counts_listing : (ss : List Span) → Counts 1 (listing i f o p ss)
  unfolding listing
  counts_listing ss = counts_container i _ _ (counts_each f h ss)

  pub counts_listing_if : (ss : List Span) → Counts (cond (eqb (length ss) 0) 0 1) (listing_if_any i f o p ss)
  unfolding listing_if_any
  counts_listing_if [] = counts_none
  counts_listing_if (s ∷ ss) = rw (ne_eqb (suc (length ss)) 0 (λ z. omega arith)) (counts_listing (s ∷ ss))

-- A list that is well nested counts as many as `direct` says.
pub counts_nested : {ok : ℕ → Bool} {es : List Entry} → Nested ok es → Counts (direct 0 es) es
counts_nested n = let c = go n in rw (direct_of c.1) c.1
  where
    go : {ok : ℕ → Bool} {es : List Entry} → Nested ok es → (n : ℕ) × Counts n es
    go none = (0, counts_none)
    go (field h n) = let c = go n in (1 + c.0, counts_field h c.1)
    go (group i s e k h m n) = let a = go m in let b = go n in (1 + b.0, counts_group i s e k a.1 b.1)

-- Scanning what is inside a container finds its close, and as many entries as are counted.
pub closed : {n : ℕ} {es : List Entry} → Counts n es → scan 0 0 (es ++ (closes ∷ [])) ≡ some (n, [])
unfolding scan
closed {n} c = rw (c.scanned, zero-add n) refl

-- The number of direct entries of two lists one after another.
pub direct_append : {ok : ℕ → Bool} {xs : List Entry} (ys : List Entry) → Nested ok xs → direct 0 (xs ++ ys) ≡ direct 0 xs + direct 0 ys
direct_append ys n = (counts_nested n).counted 0 ys
