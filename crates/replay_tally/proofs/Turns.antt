-- What a loop over the calls of a file knows: of the call at which it is, of those that are left, and of what replaying
-- them leaves.
use Prim.Native.Nat.{ℕ, zero, suc, ◌+◌, ◌≤◌, ◌<◌}
use native.Mathlib.Omega.{arith}
use native.Mathlib.Nat.{suc-add}
use native.Mathlib.Numerals.{add-one}
use mathlib.Core.Path.{◌≡◌, refl, sym, ap, ◌∙◌}
use mathlib.Core.Bool.{Bool, true, false, cond}
use mathlib.Core.List.{List, [], ◌∷◌, ◌++◌, map}
use mathlib.Core.Option.{some}
use lib.ListN.{length, get_or, take, drop, drop_of_length-le}
use lib.Seq.{drop-cons}
use Rattle.std.specs.declared.option.Option.{Option as Item}
use Rattle.std.proofs.Common.{None, Some}
use Rattle.std.specs.List.{filter}
use Rattle.std.specs.Iterator.{Yields, YieldsFirstBy}
use Rattle.std.proofs.lemmas.List.{get_or-map, length-map}
use Rattle.std.proofs.lemmas.Iterator.{YieldsList}
use Rattle.std.proofs.lemmas.Iterator.Consumers.{YieldsList-from_first, YieldsList-turn, YieldsList-end}
use Rattle.format.specs.Cut.{Span, Rule, Stands, after}
use Rattle.format.specs.Cut.Stands.{next}
use Rattle.format.proofs.Unique.{span, is_cut}
use Rattle.replay_call.specs.Stored.{call_rule, call_size, room_at}
use Rattle.replay_call.specs.Calls.{left_of, place_of, places_from}
use Rattle.replay_call.specs.declared.Call.{Call}
use Rattle.replay_call.specs.declared.Calls.{Calls}
use Rattle.replay_agreement.specs.Agree.{agrees_at, left_at}
use Rattle.replay_call.proofs.Rule.{standing_call}
use Rattle.replay_tally.specs.Calls.{calls, count_of, first_of, differs, replayed, up_to_first}

-- The entry s of index n of a cut stands where it says, and ends where the first n + 1 end.
record Standing (r : Rule) (b : List ℕ) (p n : ℕ) (ss : List Span) (s : Span) : Type 0 where
  stands : r b s.at ≡ some s.len
  end : after p (take (n + 1) ss) ≡ s.at + s.len

standing_at : (r : Rule) (b : List ℕ) (p n : ℕ) (ss : List Span) → Stands r b p ss → n < length ss → Standing r b p n ss (get_or ss n (span 0 0))
unfolding after
standing_at r b p n [] t h = absurd (omega arith)
standing_at r b p zero (s ∷ ss) (next e f t) h = record { stands = rw e f; end = rw e refl }
standing_at r b p (suc n) (s ∷ ss) (next e f t) h =
    let i = standing_at r b (p + s.len) n ss t (omega arith) in
    record { stands = i.stands; end = rw suc-add i.end }

pub calls_most : (most : ℕ) (b : List ℕ) → length (calls most b) ≤ length b
calls_most most b = (is_cut (call_rule most) b (length b) 0).most

-- A loop over the calls of a file is at the one of index n, which stands at a place of a file.
pub record Calling (most : ℕ) (b : List ℕ) (n : ℕ) (file : List ℕ) (at : ℕ) : Type 0 where
  pub same_file : file ≡ b
  pub len : ℕ
  pub left : drop n (calls most b) ≡ span at len ∷ drop (n + 1) (calls most b)
  pub end : after 0 (take (n + 1) (calls most b)) ≡ at + call_size b at
  pub roomy : room_at file at ≤ most
  pub below : n < length b

module _ (most : ℕ) (b : List ℕ) (n : ℕ) (c : Call) where
  calling_at : (s : Span) → n < length (calls most b) → drop n (calls most b) ≡ s ∷ drop (n + 1) (calls most b) → Standing (call_rule most) b 0 n (calls most b) s
      → place_of c ≡ (b, s.at) → Calling most b n c.file.now c.at
  calling_at s h d i e =
      let same : c.file.now ≡ b = ap (λ (x : List ℕ × ℕ). x.0) e in
      let at : c.at ≡ s.at = ap (λ (x : List ℕ × ℕ). x.1) e in
      let g = standing_call most b s.at s.len i.stands in
      record {
        same_file = same;
        len = s.len;
        left = rw at d;
        end = rw at (i.end ∙ rw g.long refl);
        roomy = rw (same, at) g.roomy;
        below = omega (arith, calls_most most b);
      }

  calling : n < length (places_from most b 0) → place_of c ≡ get_or (places_from most b 0) n (place_of c) → Calling most b n c.file.now c.at
  calling h e =
      let l : n < length (calls most b) = rw length-map at h in
      calling_at (get_or (calls most b) n (span 0 0)) l (rw add-one (drop-cons (calls most b) n (span 0 0) l))
      (standing_at (call_rule most) b 0 n (calls most b) (is_cut (call_rule most) b (length b) 0).stands l)
      (e ∙ get_or-map (λ (x : Span). (b, x.at)) (calls most b) n (span 0 0) (place_of c) l)

-- Its iterator was i, and gave xs so far: in a turn the next call is the one of that index, and at the end it gave all.
module _ (most : ℕ) (b : List ℕ) {i s : Calls} (gives : i ≡ s) (begun : left_of s ≡ places_from most b 0) where
  all : YieldsList (YieldsFirstBy place_of left_of) place_of i (places_from most b 0)
  all = YieldsList-from_first place_of left_of (places_from most b 0) (rw gives begun)

  pub calling_turn : (xs : List Call) (t u : Calls) {r : Item Call} {c : Call} → Yields (YieldsFirstBy place_of left_of) i xs t → r ≡ Some c → YieldsFirstBy place_of left_of t r u
      → Calling most b (length xs) c.file.now c.at
  calling_turn xs t u {r} {c} y e g = let w = YieldsList-turn all xs t y r u c e g in calling most b (length xs) c w.0 w.1

  pub calling_end : (xs : List Call) (t u : Calls) {r : Item Call} → Yields (YieldsFirstBy place_of left_of) i xs t → r ≡ None → YieldsFirstBy place_of left_of t r u
      → length xs ≡ length (calls most b)
  calling_end xs t u {r} y e g = rw length-map at (YieldsList-end all xs t y r u e g).1

-- One call more is replayed.
replayed_last : (b : List ℕ) (ss : List Span) (s : Span) (before : List ℕ) → replayed b (ss ++ (s ∷ [])) before ≡ left_at b s.at (replayed b ss before)
unfolding replayed
replayed_last b [] s before = refl
replayed_last b (x ∷ ss) s before = replayed_last b ss s (left_at b x.at before)

pub count_most : (f : ℕ → Bool) (ss : List Span) → count_of f ss ≤ length ss
unfolding count_of
count_most f [] = omega arith
count_most f (x ∷ ss) = go (f x.at) (count_most f ss)
  where
    go : (t : Bool) {m n : ℕ} → m ≤ n → cond t (suc m) m ≤ suc n
    go true h = omega arith
    go false h = omega arith

-- The calls of index n on are left, and with those that are counted, and in the buffer as it is, they are all.
pub record Counting (most : ℕ) (b before : List ℕ) (n different : ℕ) (strip : List ℕ) : Type 0 where
  pub count : different + count_of (differs b) (drop n (calls most b)) ≡ count_of (differs b) (calls most b)
  pub replay : replayed b (drop n (calls most b)) strip ≡ replayed b (calls most b) before

pub counting_begin : (most : ℕ) (b before : List ℕ) → Counting most b before 0 0 before
counting_begin most b before = record { count = omega arith; replay = refl }

module _ {most n at different : ℕ} {b before file strip strip' : List ℕ} {agrees : Bool} (g : Counting most b before n different strip) (t : Calling most b n file at)
    (told : agrees ≡ agrees_at file at) (after : strip' ≡ left_at file at strip) where
  pub counting_no : agrees ≡ true → Counting most b before (n + 1) different strip'
  unfolding count_of differs replayed
  counting_no h =
      let e : agrees_at b at ≡ true = rw t.same_file at (sym told ∙ h) in record {
        count = rw (t.left, e) at g.count;
        replay = rw (after, t.same_file) (rw t.left at g.replay);
      }

  pub counting_yes : agrees ≡ false → Counting most b before (n + 1) (different + 1) strip'
  unfolding count_of differs replayed
  counting_yes h =
      let e : agrees_at b at ≡ false = rw t.same_file at (sym told ∙ h) in record {
        count = omega (arith, rw (t.left, e) at g.count);
        replay = rw (after, t.same_file) (rw t.left at g.replay);
      }

pub counting_end : {most n different : ℕ} {b before strip : List ℕ} → Counting most b before n different strip → n ≡ length (calls most b)
    → (different ≡ count_of (differs b) (calls most b)) × (strip ≡ replayed b (calls most b) before)
unfolding count_of replayed
counting_end {most} {b = b} g e =
    let none : drop (length (calls most b)) (calls most b) ≡ [] = drop_of_length-le (calls most b) (omega arith) in
    (omega (arith, rw (e, none) at g.count), rw (e, none) at g.replay)

-- The first n calls agree, and with them those that are left are all, to the first that differs.
pub record Agreeing (most : ℕ) (b before : List ℕ) (n agreed : ℕ) (strip : List ℕ) : Type 0 where
  pub index : agreed ≡ n
  pub first : agreed + first_of (differs b) (drop n (calls most b)) ≡ first_of (differs b) (calls most b)
  pub replay : replayed b (up_to_first b (drop n (calls most b))) strip ≡ replayed b (up_to_first b (calls most b)) before

pub agreeing_begin : (most : ℕ) (b before : List ℕ) → Agreeing most b before 0 0 before
agreeing_begin most b before = record { index = refl; first = omega arith; replay = refl }

module _ {most n at agreed : ℕ} {b before file strip strip' : List ℕ} {agrees : Bool} (g : Agreeing most b before n agreed strip) (t : Calling most b n file at)
    (told : agrees ≡ agrees_at file at) (after : strip' ≡ left_at file at strip) where
  pub agreeing_turn : agrees ≡ true → Agreeing most b before (n + 1) (agreed + 1) strip'
  unfolding first_of differs replayed
  agreeing_turn h =
      let e : agrees_at b at ≡ true = rw t.same_file at (sym told ∙ h) in record {
        index = omega (arith, g.index);
        first = omega (arith, rw (t.left, e) at g.first);
        replay = rw (after, t.same_file) (rw (t.left, e) at g.replay);
      }

  pub agreeing_differs : agrees ≡ false → (agreed ≡ first_of (differs b) (calls most b)) × (strip' ≡ replayed b (up_to_first b (calls most b)) before)
  unfolding first_of differs replayed
  agreeing_differs h =
      let e : agrees_at b at ≡ false = rw t.same_file at (sym told ∙ h) in
      (omega (arith, rw (t.left, e) at g.first), rw (after, t.same_file) (rw (t.left, e) at g.replay))

pub agreeing_end : {most n agreed : ℕ} {b before strip : List ℕ} → Agreeing most b before n agreed strip → n ≡ length (calls most b)
    → (agreed ≡ first_of (differs b) (calls most b)) × (strip ≡ replayed b (up_to_first b (calls most b)) before)
unfolding first_of replayed
agreeing_end {most} {b = b} g e =
    let none : drop (length (calls most b)) (calls most b) ≡ [] = drop_of_length-le (calls most b) (omega arith) in
    (omega (arith, rw (e, none) at g.first), rw (e, none) at g.replay)

-- The calls that pass a test of their place are as many as those that a filter by it keeps.
pub length_kept : (f : ℕ → Bool) (test : List ℕ × ℕ → Bool) (b : List ℕ) (ss : List Span) → ((p : ℕ) → test (b, p) ≡ f p)
    → length (filter test (map (λ x. (b, x.at)) ss)) ≡ count_of f ss
unfolding count_of
length_kept f test b [] e = refl
length_kept f test b (s ∷ ss) e = rw (e s.at) (go (f s.at) _ (length_kept f test b ss e))
  where
    go : (t : Bool) (xs : List (List ℕ × ℕ)) {n : ℕ} → length xs ≡ n → length (cond t ((b, s.at) ∷ xs) xs) ≡ cond t (suc n) n
    go true xs h = ap suc h
    go false xs h = h
