-- Each refusal's number is answered exactly when its condition holds and none before it does; a refused call leaves the
-- buffer as it was and answers zeros, but for the length needed where there is too little room; and what an answer of 0 says.
use Prim.Native.Nat.{ℕ, ◌<◌, ◌≤◌}
use native.Mathlib.Omega.{arith}
use mathlib.Core.Path.{◌≡◌, refl}
use mathlib.Core.Logic.{◌⊎◌, inl, inr, ⊎_elim}
use mathlib.Core.Bool.{Bool, true, false, cond}
use mathlib.Core.List.{List}
use lib.ListN.{length}
use lib.Seq.{sets}
use lib.Dec.{eqb, ltb}
use borrow.Author.Tests.{ltb-false, eqb-true, eqb-false, lt-ltb, le-ltb, eq-eqb, ne_eqb}
use Rattle.format.specs.Strip.{Entry, encode}
use Rattle.format.specs.Walks.{Outcome, answer, answer_of, strip_of, unless, is_known, refusal, max_data, max_offset}
use Rattle.format.specs.Walks.{headers_of, update_of, lsa_of, outer, header_object, lsa_object, headers, lsas, lsa_entries}
use Rattle.format.specs.Header.{header_size}
use Rattle.format.specs.Refusals.{NoVersion, TooMuch, TooFar, TooLittle, Numbers, Refusals}
use Rattle.format.specs.Walks.Outcome.{refused, accepted}
use Rattle.format.proofs.Decided.{Decided, less, version}
use Rattle.format.proofs.Decided.Decided.{holds, fails}

-- whether the version is neither 2 nor 3, by the test that it is one of them
pub no_version : {v : ℕ} {t : Bool} → Decided ((v ≡ 2) ⊎ (v ≡ 3)) t → Decided (NoVersion v → ⊥) t
no_version (holds k) = holds (λ n. ⊎_elim n.0 n.1 k)
no_version (fails f) = fails (λ n. n (λ e. f (inl e), λ e. f (inr e)))

-- The table, from the tests in their order.
pub table : (v : ℕ) (d : List ℕ) (o least room needed : ℕ) {a b c e f : Bool}
    → Decided (NoVersion v → ⊥) a → Decided (TooMuch d) b → Decided (TooFar o) c → Decided (TooLittle d least) e → Decided (room < needed) f
    → Numbers v d o least room needed (cond a (cond b 2 (cond c 3 (cond e 4 (cond f 5 0)))) 1)
table v d o least room needed (fails nn) m f l r = record {
  one = (λ h. (λ e. nn (λ n. n.0 e), λ e. nn (λ n. n.1 e)), λ p. refl);
  two = (λ h. absurd (omega arith), λ p. absurd (nn p.0));
  three = (λ h. absurd (omega arith), λ p. absurd (nn p.0));
  four = (λ h. absurd (omega arith), λ p. absurd (nn p.0));
  five = (λ h. absurd (omega arith), λ p. absurd (nn p.0));
  zero = (λ h. absurd (omega arith), λ p. absurd (nn p.0));
  no_other = omega arith;
}
table v d o least room needed (holds k) (holds c) f l r = record {
  one = (λ h. absurd (omega arith), λ p. absurd (k p));
  two = (λ h. (k, c), λ p. refl);
  three = (λ h. absurd (omega arith), λ p. absurd (p.1 c));
  four = (λ h. absurd (omega arith), λ p. absurd (p.1 c));
  five = (λ h. absurd (omega arith), λ p. absurd (p.1 c));
  zero = (λ h. absurd (omega arith), λ p. absurd (p.1 c));
  no_other = omega arith;
}
table v d o least room needed (holds k) (fails n2) (holds c) l r = record {
  one = (λ h. absurd (omega arith), λ p. absurd (k p));
  two = (λ h. absurd (omega arith), λ p. absurd (n2 p.1));
  three = (λ h. (k, n2, c), λ p. refl);
  four = (λ h. absurd (omega arith), λ p. absurd (p.2 c));
  five = (λ h. absurd (omega arith), λ p. absurd (p.2 c));
  zero = (λ h. absurd (omega arith), λ p. absurd (p.2 c));
  no_other = omega arith;
}
table v d o least room needed (holds k) (fails n2) (fails n3) (holds c) r = record {
  one = (λ h. absurd (omega arith), λ p. absurd (k p));
  two = (λ h. absurd (omega arith), λ p. absurd (n2 p.1));
  three = (λ h. absurd (omega arith), λ p. absurd (n3 p.2));
  four = (λ h. (k, n2, n3, c), λ p. refl);
  five = (λ h. absurd (omega arith), λ p. absurd (p.3 c));
  zero = (λ h. absurd (omega arith), λ p. absurd (p.3 c));
  no_other = omega arith;
}
table v d o least room needed (holds k) (fails n2) (fails n3) (fails n4) (holds c) = record {
  one = (λ h. absurd (omega arith), λ p. absurd (k p));
  two = (λ h. absurd (omega arith), λ p. absurd (n2 p.1));
  three = (λ h. absurd (omega arith), λ p. absurd (n3 p.2));
  four = (λ h. absurd (omega arith), λ p. absurd (n4 p.3));
  five = (λ h. (k, n2, n3, n4, c), λ p. refl);
  zero = (λ h. absurd (omega arith), λ p. absurd (omega (arith, c, p.4)));
  no_other = omega arith;
}
table v d o least room needed (holds k) (fails n2) (fails n3) (fails n4) (fails n5) = record {
  one = (λ h. absurd (omega arith), λ p. absurd (k p));
  two = (λ h. absurd (omega arith), λ p. absurd (n2 p.1));
  three = (λ h. absurd (omega arith), λ p. absurd (n3 p.2));
  four = (λ h. absurd (omega arith), λ p. absurd (n4 p.3));
  five = (λ h. absurd (omega arith), λ p. absurd (n5 p.4));
  zero = (λ h. (k, n2, n3, n4, omega arith), λ p. refl);
  no_other = omega arith;
}

-- The number that is answered is that of the first test that fails.
number_is : (v : ℕ) (d : List ℕ) (o least : ℕ) (es : List Entry) (r t room : ℕ)
    → (answer_of (unless (refusal v d o least) (accepted es r t)) room).number
    ≡ cond (is_known v) (cond (ltb max_data (length d)) 2 (cond (ltb max_offset o) 3 (cond (ltb (length d) least) 4 (cond (ltb room (length (encode es))) 5 0)))) 1
unfolding unless answer_of
number_is v d o least es r t room =
    go (is_known v) (ltb max_data (length d)) (ltb max_offset o) (ltb (length d) least) (ltb room (length (encode es))) refl
  where
    go : (a b c e f : Bool) → ltb room (length (encode es)) ≡ f
        → (answer_of (unless (cond a (cond b 2 (cond c 3 (cond e 4 0))) 1) (accepted es r t)) room).number ≡ cond a (cond b 2 (cond c 3 (cond e 4 (cond f 5 0)))) 1
    go false b c e f q = refl
    go true true c e f q = refl
    go true false true e f q = refl
    go true false false true f q = refl
    go true false false false true q = rw q
    go true false false false false q = rw q

pub most_refusal : (v : ℕ) (d : List ℕ) (o least : ℕ) → refusal v d o least ≤ 4
most_refusal v d o least = go (is_known v) (ltb max_data (length d)) (ltb max_offset o) (ltb (length d) least)
  where
    go : (a b c e : Bool) → cond a (cond b 2 (cond c 3 (cond e 4 0))) 1 ≤ 4
    go false b c e = omega arith
    go true true c e = omega arith
    go true false true e = omega arith
    go true false false true = omega arith
    go true false false false = omega arith

pub refusals : (v : ℕ) (d : List ℕ) (o least : ℕ) (es : List Entry) (r t room : ℕ)
    → Refusals v d o least room (length (encode es)) (answer_of (unless (refusal v d o least) (accepted es r t)) room)
unfolding unless answer_of
refusals v d o least es r t room =
    go (eqb (refusal v d o least) 0) refl (ltb room (length (encode es))) refl
    (rw (number_is v d o least es r t room)
    (table v d o least room (length (encode es)) (no_version (version v)) (less max_data (length d)) (less max_offset o) (less (length d) least) (less room (length (encode es)))))
  where
    go : (s : Bool) → eqb (refusal v d o least) 0 ≡ s → (f : Bool) → ltb room (length (encode es)) ≡ f
        → Numbers v d o least room (length (encode es)) (answer_of (unless (refusal v d o least) (accepted es r t)) room).number
        → Refusals v d o least room (length (encode es)) (answer_of (unless (refusal v d o least) (accepted es r t)) room)
    go true p true q n = record { numbers = n; length_of = λ h. rw (p, q); no_length = λ h k. absurd (k (rw (p, q))); no_records = λ h. rw (p, q) (refl, refl) }
    go true p false q n = record { numbers = n; length_of = λ h. rw (p, q); no_length = λ h k. absurd (h (rw (p, q))); no_records = λ h. absurd (h (rw (p, q))) }
    go false p f q n = record {
      numbers = n;
      length_of = λ h. absurd (⊎_elim (λ z. eqb-false (refusal v d o least) 0 p (rw p at z)) (λ z. let y = rw p at z in let m = most_refusal v d o least in omega arith) h);
      no_length = λ h k. rw p;
      no_records = λ h. rw p (refl, refl);
    }

-- A call that is not accepted leaves the buffer, and answers no record and no tail.
pub refused_leaves : (x : Outcome) (before : List ℕ) → ((answer_of x (length before)).number ≡ 0 → ⊥)
    → (strip_of x before ≡ before) × ((answer_of x (length before)).records ≡ 0) × ((answer_of x (length before)).tail ≡ 0)
unfolding answer_of strip_of
refused_leaves (refused n) before h = (refl, refl, refl)
refused_leaves (accepted es r t) before h = go (ltb (length before) (length (encode es))) refl h
  where
    go : (f : Bool) → ltb (length before) (length (encode es)) ≡ f → ((cond f (answer 5 (length (encode es)) 0 0) (answer 0 (length (encode es)) r t)).number ≡ 0 → ⊥)
        → (strip_of (accepted es r t) before ≡ before) × ((answer_of (accepted es r t) (length before)).records ≡ 0) × ((answer_of (accepted es r t) (length before)).tail ≡ 0)
    go true q h = (rw q, rw q, rw q)
    go false q h = absurd (h refl)

-- The table of each walk.
pub headers_refusals : (v : ℕ) (d : List ℕ) (o room : ℕ)
    → Refusals v d o 0 room (length (encode (outer v (header_object v d o) d o 0 (headers d)))) (answer_of (headers_of v d o) room)
unfolding headers_of
headers_refusals v d o room = refusals v d o 0 _ _ _ room

pub update_refusals : (v : ℕ) (d : List ℕ) (count o room : ℕ)
    → Refusals v d o 4 room (length (encode (outer v (lsa_object v d o) d o 4 (lsas d count)))) (answer_of (update_of v d count o) room)
unfolding update_of
update_refusals v d count o room = refusals v d o 4 _ _ _ room

pub lsa_refusals : (v : ℕ) (d : List ℕ) (o room : ℕ)
    → Refusals v d o 20 room (length (encode (lsa_entries v d o))) (answer_of (lsa_of v d o) room)
unfolding lsa_of
lsa_refusals v d o room = refusals v d o header_size _ _ _ room

-- The three ways that a walk ends.
module _ (n : ℕ) (es : List Entry) (r t : ℕ) (before : List ℕ) where
  pub walk_refused : (n ≡ 0 → ⊥) → (answer_of (unless n (accepted es r t)) (length before) ≡ answer n 0 0 0) × (strip_of (unless n (accepted es r t)) before ≡ before)
  unfolding unless answer_of strip_of
  walk_refused h = let e = ne_eqb n 0 h in (rw e, rw e)

  pub walk_full : n ≡ 0 → length before < length (encode es)
      → (answer_of (unless n (accepted es r t)) (length before) ≡ answer 5 (length (encode es)) 0 0) × (strip_of (unless n (accepted es r t)) before ≡ before)
  unfolding unless answer_of strip_of
  walk_full h l = let e = eq-eqb n 0 h in let f = lt-ltb (length before) (length (encode es)) l in (rw (e, f), rw (e, f))

  pub walk_done : n ≡ 0 → length (encode es) ≤ length before
      → (answer_of (unless n (accepted es r t)) (length before) ≡ answer 0 (length (encode es)) r t) × (strip_of (unless n (accepted es r t)) before ≡ sets before 0 (encode es))
  unfolding unless answer_of strip_of
  walk_done h l = let e = eq-eqb n 0 h in let f = le-ltb (length before) (length (encode es)) l in (rw (e, f), rw (e, f))

-- An answer of 0 is that of an accepted outcome whose strip has room.
pub record Taken (n : ℕ) (es : List Entry) (r t : ℕ) (before : List ℕ) : Type 0 where
  pub not_refused : n ≡ 0
  pub fits : length (encode es) ≤ length before
  pub answered : answer_of (unless n (accepted es r t)) (length before) ≡ answer 0 (length (encode es)) r t
  pub written : strip_of (unless n (accepted es r t)) before ≡ sets before 0 (encode es)

pub taken : (n : ℕ) (es : List Entry) (r t : ℕ) (before : List ℕ) → (answer_of (unless n (accepted es r t)) (length before)).number ≡ 0 → Taken n es r t before
unfolding unless answer_of strip_of
taken n es r t before h = go (eqb n 0) refl (ltb (length before) (length (encode es))) refl h
  where
    go : (s : Bool) → eqb n 0 ≡ s → (f : Bool) → ltb (length before) (length (encode es)) ≡ f
        → (answer_of (cond s (accepted es r t) (refused n)) (length before)).number ≡ 0 → Taken n es r t before
    go true p false q h = record { not_refused = eqb-true n 0 p; fits = ltb-false _ _ q; answered = rw (p, q); written = rw (p, q) }
    go true p true q h = let z = rw q at h in absurd (omega arith)
    go false p f q h = absurd (eqb-false n 0 p h)

-- The limits that a call without a refusal keeps.
pub record Limits (d : List ℕ) (o least : ℕ) : Type 0 where
  pub data_fits : length d ≤ max_data
  pub offset_fits : o ≤ max_offset
  pub enough : least ≤ length d

pub limits : (v : ℕ) (d : List ℕ) (o least : ℕ) → refusal v d o least ≡ 0 → Limits d o least
limits v d o least h = go (is_known v) (ltb max_data (length d)) refl (ltb max_offset o) refl (ltb (length d) least) refl h
  where
    go : (a b : Bool) → ltb max_data (length d) ≡ b → (c : Bool) → ltb max_offset o ≡ c → (e : Bool) → ltb (length d) least ≡ e
        → ◌≡◌ {A = ℕ} (cond a (cond b 2 (cond c 3 (cond e 4 0))) 1) 0 → Limits d o least
    go true false x false y false z h = record { data_fits = ltb-false _ _ x; offset_fits = ltb-false _ _ y; enough = ltb-false _ _ z }
    go true false x false y true z h = absurd (omega arith)
    go true false x true y e z h = absurd (omega arith)
    go true true x c y e z h = absurd (omega arith)
    go false b x c y e z h = absurd (omega arith)
