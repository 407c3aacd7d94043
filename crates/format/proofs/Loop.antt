-- The law of a loop that takes the entries of a cut one by one: what it has visited, and the cut of what is left, are the
-- whole cut. What it makes of the entries that it visits is free; to write and to sum up their bytes are two cases.
use Prim.Native.Nat.{ℕ, ◌+◌, ◌-◌, ◌≤◌, ◌<◌}
use native.Mathlib.Nat.{add-zero}
use native.Mathlib.Omega.{arith}
use mathlib.Core.Path.{◌≡◌, refl, sym, ◌∙◌}
use mathlib.Core.List.{List, [], ◌∷◌, ◌++◌, append-nil, append_assoc, flat_map}
use mathlib.Core.Option.{some}
use lib.ListN.{length, length-append}
use Rattle.format.specs.Strip.{Entry, encode}
use Rattle.format.specs.Wrote.{Wrote}
use Rattle.format.specs.Cut.{Span, Rule, cut, after}
use Rattle.format.proofs.Wrote.{then, kept, encode-append}
use Rattle.format.proofs.Unique.{span, cut_next}

pub after-append : (p : ℕ) (xs ys : List Span) → after p (xs ++ ys) ≡ after (after p xs) ys
unfolding after
after-append p [] ys = refl
after-append p (x ∷ xs) ys = after-append (p + x.len) xs ys

-- A loop over the cut of b from `from` has visited some entries and stands at pos with `left` still due.
pub record At (r : Rule) (b : List ℕ) (count from : ℕ) (visited : List Span) (pos left : ℕ) : Type 0 where
  pub rest : visited ++ cut r b left pos ≡ cut r b count from
  pub place : pos ≡ after from visited
  pub taken : length visited + left ≡ count

-- Such a loop, and what holds of the entries that it has visited.
pub record Going (r : Rule) (b : List ℕ) (count from : ℕ) (holds : List Span → Type 0) (pos left : ℕ) : Type 0 where
  pub visited : List Span
  pub now_at : At r b count from visited pos left
  pub so_far : holds visited

module _ (r : Rule) (b : List ℕ) (count from : ℕ) where
  pub going_begin : {holds : List Span → Type 0} → holds [] → Going r b count from holds from count
  unfolding after
  going_begin h = record { visited = []; now_at = record { rest = refl; place = refl; taken = omega arith }; so_far = h }

  -- the next entry stands at the front of the rest
  pub going_next : {holds : List Span → Type 0} {pos left : ℕ} (n : ℕ) (g : Going r b count from holds pos left) → 0 < left → r b pos ≡ some n
      → g.visited ++ (span pos n ∷ cut r b (left - 1) (pos + n)) ≡ cut r b count from
  going_next {pos = pos} {left} n g h e = rw (← cut_next r b left pos n h e) g.now_at.rest

  -- a turn: the entry at pos is visited
  pub going_turn : {holds holds' : List Span → Type 0} {pos left : ℕ} (n : ℕ) (g : Going r b count from holds pos left) → 0 < left → r b pos ≡ some n
      → (holds g.visited → holds' (g.visited ++ (span pos n ∷ []))) → Going r b count from holds' (pos + n) (left - 1)
  unfolding after
  going_turn {pos = pos} {left} n g h e t = record {
    visited = g.visited ++ (span pos n ∷ []);
    now_at = record {
      rest = append_assoc g.visited (span pos n ∷ []) (cut r b (left - 1) (pos + n)) ∙ going_next n g h e;
      place = rw (after-append, ← g.now_at.place) refl;
      taken = rw length-append (omega (arith, g.now_at.taken));
    };
    so_far = t g.so_far;
  }

  -- where nothing more is due or stands, all has been visited
  pub going_finish : {holds : List Span → Type 0} {pos left : ℕ} → Going r b count from holds pos left → cut r b left pos ≡ []
      → holds (cut r b count from) × (pos ≡ after from (cut r b count from)) × (length (cut r b count from) ≡ count - left)
  going_finish g e =
      let all : g.visited ≡ cut r b count from = sym (append-nil g.visited) ∙ rw e at g.now_at.rest in
      (rw all at g.so_far, rw all at g.now_at.place, rw (← all) (omega (arith, g.now_at.taken)))

-- The bytes of the entries that f gives for each span.
unfoldable pub spread : (Span → List Entry) → List Span → List ℕ
spread f ss = encode (flat_map f ss)

pub spread_cons : (f : Span → List Entry) (s : Span) (ss : List Span) → spread f (s ∷ ss) ≡ encode (f s) ++ spread f ss
unfolding spread flat_map
spread_cons f s ss = encode-append (f s) (flat_map f ss)

pub spread_append : (f : Span → List Entry) (xs ys : List Span) → spread f (xs ++ ys) ≡ spread f xs ++ spread f ys
unfolding spread flat_map encode
spread_append f [] ys = refl
spread_append f (x ∷ xs) ys = rw (spread_cons f x (xs ++ ys), spread_cons f x xs, spread_append f xs ys, append_assoc)

pub spread_one : (f : Span → List Entry) (s : Span) → spread f (s ∷ []) ≡ encode (f s)
unfolding spread flat_map
spread_one f s = rw append-nil

-- The loop writes the entries to a strip from `at` on; the next goes to a.
abbrev pub Writing : (r : Rule) (f : Span → List Entry) (b : List ℕ) (count from : ℕ) (strip₀ : List ℕ) (at : ℕ) (strip : List ℕ) (a pos left : ℕ) → Type 0
Writing r f b count from strip₀ at strip a pos left = Going r b count from (λ ss. Wrote strip₀ at (spread f ss) strip a) pos left

-- The loop sums the lengths of the entries' bytes.
abbrev pub Measuring : (r : Rule) (f : Span → List Entry) (b : List ℕ) (count from total pos left : ℕ) → Type 0
Measuring r f b count from total pos left = Going r b count from (λ ss. total ≡ length (spread f ss)) pos left

module _ (r : Rule) (f : Span → List Entry) (b : List ℕ) (count from : ℕ) where
  -- the bytes of the entries before the next, and its own, are no more than those of all
  pub ahead : {holds : List Span → Type 0} {pos left : ℕ} (n : ℕ) (g : Going r b count from holds pos left) → 0 < left → r b pos ≡ some n
      → length (spread f g.visited) + length (encode (f (span pos n))) ≤ length (spread f (cut r b count from))
  ahead {pos = pos} {left} n g h e =
      rw (← going_next r b count from n g h e, spread_append, spread_cons)
      (simp length-append (omega arith))

  module _ (strip₀ : List ℕ) (at : ℕ) where
    pub begin : (strip : List ℕ) (a : ℕ) → strip ≡ strip₀ → a ≡ at → Writing r f b count from strip₀ at strip a from count
    unfolding spread flat_map encode
    begin strip a e h = going_begin r b count from (record { place = rw add-zero h; contents = e })

    -- a turn: the entry at pos is written
    pub turn : {strip strip' : List ℕ} {a a' pos left : ℕ} (n : ℕ) → Writing r f b count from strip₀ at strip a pos left → 0 < left → r b pos ≡ some n
        → Wrote strip a (encode (f (span pos n))) strip' a' → Writing r f b count from strip₀ at strip' a' (pos + n) (left - 1)
    turn {pos = pos} n g h e w = going_turn r b count from n g h e (λ v. rw (spread_append, spread_one) (then v w))

    -- the room that the next entry has
    pub room : {strip : List ℕ} {a pos left : ℕ} (n : ℕ) → Writing r f b count from strip₀ at strip a pos left → 0 < left → r b pos ≡ some n
        → at + length (spread f (cut r b count from)) ≤ length strip₀ → a + length (encode (f (span pos n))) ≤ length strip
    room n g h e l = let u = kept g.so_far in omega (arith, ahead n g h e, g.so_far.place)

    -- the end of the loop: all is written, and the loop stands at the end of the list
    pub finish : {strip : List ℕ} {a pos left : ℕ} → Writing r f b count from strip₀ at strip a pos left → cut r b left pos ≡ []
        → Wrote strip₀ at (spread f (cut r b count from)) strip a × (pos ≡ after from (cut r b count from)) × (length (cut r b count from) ≡ count - left)
    finish g e = going_finish r b count from g e

  pub measure_begin : Measuring r f b count from 0 from count
  unfolding spread flat_map encode
  measure_begin = going_begin r b count from refl

  pub measure_turn : {total pos left : ℕ} (n : ℕ) → Measuring r f b count from total pos left → 0 < left → r b pos ≡ some n
      → Measuring r f b count from (total + length (encode (f (span pos n)))) (pos + n) (left - 1)
  measure_turn n g h e = going_turn r b count from n g h e (λ v. rw (spread_append, spread_one, length-append, ← v) refl)

  -- the sum with the next entry is no more than that of all
  pub measure_room : {total pos left : ℕ} (n : ℕ) → Measuring r f b count from total pos left → 0 < left → r b pos ≡ some n
      → total + length (encode (f (span pos n))) ≤ length (spread f (cut r b count from))
  measure_room n g h e = omega (arith, ahead n g h e, g.so_far)

  pub measure_finish : {total pos left : ℕ} → Measuring r f b count from total pos left → cut r b left pos ≡ []
      → (total ≡ length (spread f (cut r b count from))) × (pos ≡ after from (cut r b count from)) × (length (cut r b count from) ≡ count - left)
  measure_finish g e = going_finish r b count from g e
