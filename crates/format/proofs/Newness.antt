-- What a reader expects of newness: swapping the headers swaps the answer, and a header is the same as itself. Being the
-- same is not transitive, because of MaxAgeDiff. And when a header is not read, and when two have no newness.
use Prim.Native.Nat.{ℕ, ◌+◌, ◌≤◌, ◌<◌}
use native.Mathlib.Omega.{arith}
use mathlib.Core.Path.{◌≡◌, refl}
use mathlib.Core.Logic.{◌⊎◌, inl, inr, ⊎_elim}
use mathlib.Core.Bool.{Bool, true, false, cond}
use mathlib.Core.List.{List, [], ◌∷◌}
use lib.ListN.{length}
use lib.Dec.{ltb, eqb}
use borrow.Author.Tests.{ltb-true, le-ltb}
use Rattle.format.specs.Bytes.{be16_at, be32_at}
use Rattle.format.specs.Header.{Header, Newness, newness, larger, aged, younger, signed_rank, max_age, max_age_diff}
use Rattle.format.specs.Header.{Reading, read_header, newness_at, newness_read, is_known, header2, header3, header_at}
use Rattle.format.specs.Refusals.{read_number, newness_number, ReadRefusals, NewnessRefusals}
use Rattle.format.specs.Header.Newness.{first, second, same, refused}
use Rattle.format.specs.Header.Reading.{header}
use Rattle.format.proofs.Decided.{Decided, less, either, version}
use Rattle.format.proofs.Decided.Decided.{holds, fails}

-- The answer for the headers the other way round.
abbrev pub swapped : Newness → Newness
swapped first = second
swapped second = first
swapped same = same
swapped (refused n) = refused n

-- two tests that exclude each other choose alike in either order
excluding : (s t : Bool) → (s ≡ true → t ≡ true → ⊥) → (n : Newness) → cond t first (cond s second (swapped n)) ≡ swapped (cond s first (cond t second n))
excluding true true h n = absurd (h refl refl)
excluding true false h n = refl
excluding false true h n = refl
excluding false false h n = refl

larger_swap : (x y : ℕ) (n : Newness) → larger y x (swapped n) ≡ swapped (larger x y n)
larger_swap x y n = excluding (ltb y x) (ltb x y) (λ h i. omega (arith, ltb-true y x h, ltb-true x y i)) n

younger_swap : (x y : ℕ) → younger y x ≡ swapped (younger x y)
younger_swap x y = excluding (ltb (x + max_age_diff) y) (ltb (y + max_age_diff) x) (λ h i. omega (arith, ltb-true (x + max_age_diff) y h, ltb-true (y + max_age_diff) x i)) same

aged_swap : (x y : ℕ) (n : Newness) → aged y x (swapped n) ≡ swapped (aged x y n)
aged_swap x y n = go (eqb x max_age) (eqb y max_age)
  where
    go : (s t : Bool) → cond t (cond s (swapped n) first) (cond s second (swapped n)) ≡ swapped (cond s (cond t n first) (cond t second n))
    go true true = refl
    go true false = refl
    go false true = refl
    go false false = refl

refused_swap : (s t : Bool) (m n : Newness) → m ≡ swapped n → cond t (refused 11) (cond s (refused 11) m) ≡ swapped (cond s (refused 11) (cond t (refused 11) n))
refused_swap true true m n e = refl
refused_swap true false m n e = refl
refused_swap false true m n e = refl
refused_swap false false m n e = e

pub newness_swap : (x y : Header) → newness y x ≡ swapped (newness x y)
unfolding newness
newness_swap x y =
    refused_swap (ltb max_age x.age) (ltb max_age y.age) _ _
    (rw (← larger_swap (signed_rank x.sequence_number) (signed_rank y.sequence_number), ← larger_swap x.checksum y.checksum, ← aged_swap x.age y.age, ← younger_swap x.age y.age))

larger_self : (x : ℕ) (n : Newness) → larger x x n ≡ n
larger_self x n = rw (le-ltb x x (omega arith))

aged_self : (x : ℕ) (n : Newness) → aged x x n ≡ n
aged_self x n = go (eqb x max_age)
  where
    go : (s : Bool) → cond s (cond s n first) (cond s second n) ≡ n
    go true = refl
    go false = refl

pub newness_self : (x : Header) → x.age ≤ max_age → newness x x ≡ same
unfolding newness
newness_self x h =
    rw (le-ltb max_age x.age h, larger_self (signed_rank x.sequence_number), larger_self x.checksum, aged_self x.age, le-ltb (x.age + max_age_diff) x.age (omega arith))

-- A header of this age, all else alike.
abbrev pub aging : ℕ → Header
aging n = record { age = n; ls_type = 1; link_state_id = 0; advertising_router = 0; sequence_number = 0; checksum = 0; size = 20 }

pub same_is_not_transitive : (newness (aging 0) (aging 900) ≡ same) × (newness (aging 900) (aging 1800) ≡ same) × (newness (aging 0) (aging 1800) ≡ first)
unfolding newness
same_is_not_transitive = (refl, refl, refl)

read_number_lem : (v : ℕ) (b : List ℕ) → read_number (read_header v b) ≡ cond (is_known v) (cond (ltb (length b) 20) 4 0) 1
unfolding read_header
read_number_lem v b = go (is_known v) (ltb (length b) 20) _
  where
    go : (s t : Bool) (h : Header) → read_number (cond s (cond t (Reading.refused 4) (header h)) (Reading.refused 1)) ≡ cond s (cond t 4 0) 1
    go true true h = refl
    go true false h = refl
    go false t h = refl

pub read_refusals : (v : ℕ) (b : List ℕ) → ReadRefusals v b (read_number (read_header v b))
read_refusals v b = rw (read_number_lem v b) (table (version v) (less (length b) 20))
  where
    table : {s t : Bool} → Decided ((v ≡ 2) ⊎ (v ≡ 3)) s → Decided (length b < 20) t → ReadRefusals v b (cond s (cond t 4 0) 1)
    table (fails n) d = record {
      one = (λ h. (λ e. n (inl e), λ e. n (inr e)), λ p. refl);
      four = (λ h. absurd (omega arith), λ p. absurd (n p.0));
      zero = (λ h. absurd (omega arith), λ p. absurd (n p.0));
    }
    table (holds k) (holds l) = record {
      one = (λ h. absurd (omega arith), λ p. absurd (⊎_elim p.0 p.1 k));
      four = (λ h. (k, l), λ p. refl);
      zero = (λ h. absurd (omega arith), λ p. absurd (p.1 l));
    }
    table (holds k) (fails l) = record {
      one = (λ h. absurd (omega arith), λ p. absurd (⊎_elim p.0 p.1 k));
      four = (λ h. absurd (omega arith), λ p. absurd (l p.1));
      zero = (λ h. (k, l), λ p. refl);
    }

-- whatever is compared, an answer without a refusal stays one
chosen : (s t : Bool) (n : Newness) → newness_number n ≡ 0 → newness_number (cond s first (cond t second n)) ≡ 0
chosen true t n e = refl
chosen false true n e = refl
chosen false false n e = e

aged_chosen : (s t : Bool) (n : Newness) → newness_number n ≡ 0 → newness_number (cond s (cond t n first) (cond t second n)) ≡ 0
aged_chosen true true n e = e
aged_chosen true false n e = refl
aged_chosen false true n e = refl
aged_chosen false false n e = e

header_number : (x y : Header) → newness_number (newness x y) ≡ cond (cond (ltb 3600 x.age) true (ltb 3600 y.age)) 11 0
unfolding newness
header_number x y = go (ltb 3600 x.age) (ltb 3600 y.age) _
    (chosen (ltb (signed_rank y.sequence_number) (signed_rank x.sequence_number)) (ltb (signed_rank x.sequence_number) (signed_rank y.sequence_number)) _
    (chosen (ltb y.checksum x.checksum) (ltb x.checksum y.checksum) _
    (aged_chosen (eqb x.age 3600) (eqb y.age 3600) _
    (chosen (ltb (x.age + 900) y.age) (ltb (y.age + 900) x.age) same refl))))
  where
    go : (s t : Bool) (n : Newness) → newness_number n ≡ 0 → newness_number (cond s (refused 11) (cond t (refused 11) n)) ≡ cond (cond s true t) 11 0
    go true t n e = refl
    go false true n e = refl
    go false false n e = e

-- What both versions' headers have at the same place: the age is the first two bytes, the sequence number the four at 12.
module _ (v : ℕ) (b : List ℕ) where
  pub in_both : (f : Header → ℕ) {n : ℕ} → f (header2 b) ≡ n → f (header3 b) ≡ n → f (header_at v b) ≡ n
  in_both f e g = go (eqb v 2) e g
    where
      go : {n : ℕ} (s : Bool) → f (header2 b) ≡ n → f (header3 b) ≡ n → f (cond s (header2 b) (header3 b)) ≡ n
      go true e g = e
      go false e g = g

  pub age_at : (header_at v b).age ≡ be16_at b 0
  age_at = in_both (λ (h : Header). h.age) refl refl

  pub sequence_at : (header_at v b).sequence_number ≡ be32_at b 12
  sequence_at = in_both (λ (h : Header). h.sequence_number) refl refl

number_at : (v : ℕ) (x y : List ℕ) → newness_number (newness_at v x y)
    ≡ cond (is_known v) (cond (cond (ltb (length x) 20) true (ltb (length y) 20)) 4 (cond (cond (ltb 3600 (be16_at x 0)) true (ltb 3600 (be16_at y 0))) 11 0)) 1
unfolding newness_at read_header
number_at v x y = go (is_known v) (ltb (length x) 20) (ltb (length y) 20) (header_at v x) (header_at v y) (age_at v x) (age_at v y)
  where
    go : (s t u : Bool) (g h : Header) {m n : ℕ} → g.age ≡ m → h.age ≡ n
        → newness_number (newness_read (cond s (cond t (Reading.refused 4) (header g)) (Reading.refused 1)) (cond s (cond u (Reading.refused 4) (header h)) (Reading.refused 1)))
        ≡ cond s (cond (cond t true u) 4 (cond (cond (ltb 3600 m) true (ltb 3600 n)) 11 0)) 1
    go false t u g h e f = refl
    go true true u g h e f = refl
    go true false true g h e f = refl
    go true false false g h e f = rw (← e, ← f) (header_number g h)

pub newness_refusals : (v : ℕ) (x y : List ℕ) → NewnessRefusals v x y (newness_number (newness_at v x y))
newness_refusals v x y =
    rw (number_at v x y)
    (table (version v) (either (less (length x) 20) (less (length y) 20)) (either (less 3600 (be16_at x 0)) (less 3600 (be16_at y 0))))
  where
    table : {s t a : Bool} → Decided ((v ≡ 2) ⊎ (v ≡ 3)) s → Decided ((length x < 20) ⊎ (length y < 20)) t → Decided ((3600 < be16_at x 0) ⊎ (3600 < be16_at y 0)) a
        → NewnessRefusals v x y (cond s (cond t 4 (cond a 11 0)) 1)
    table (fails n) d e = record {
      one = (λ h. (λ z. n (inl z), λ z. n (inr z)), λ p. refl);
      four = (λ h. absurd (omega arith), λ p. absurd (n p.0));
      eleven = (λ h. absurd (omega arith), λ p. absurd (n p.0));
      zero = (λ h. absurd (omega arith), λ p. absurd (n p.0));
    }
    table (holds k) (holds l) e = record {
      one = (λ h. absurd (omega arith), λ p. absurd (⊎_elim p.0 p.1 k));
      four = (λ h. (k, l), λ p. refl);
      eleven = (λ h. absurd (omega arith), λ p. absurd (⊎_elim p.1 p.2 l));
      zero = (λ h. absurd (omega arith), λ p. absurd (⊎_elim p.1 p.2 l));
    }
    table (holds k) (fails l) (holds m) = record {
      one = (λ h. absurd (omega arith), λ p. absurd (⊎_elim p.0 p.1 k));
      four = (λ h. absurd (omega arith), λ p. absurd (l p.1));
      eleven = (λ h. (k, λ z. l (inl z), λ z. l (inr z), m), λ p. refl);
      zero = (λ h. absurd (omega arith), λ p. absurd (⊎_elim p.3 p.4 m));
    }
    table (holds k) (fails l) (fails m) = record {
      one = (λ h. absurd (omega arith), λ p. absurd (⊎_elim p.0 p.1 k));
      four = (λ h. absurd (omega arith), λ p. absurd (l p.1));
      eleven = (λ h. absurd (omega arith), λ p. absurd (m p.3));
      zero = (λ h. (k, λ z. l (inl z), λ z. l (inr z), λ z. m (inl z), λ z. m (inr z)), λ p. refl);
    }

-- The number fits in the 8 bits that it has in a host's answer.
pub newness_number_lem : (v : ℕ) (x y : List ℕ) → newness_number (newness_at v x y) ≤ 11
newness_number_lem v x y = rw (number_at v x y) (go (is_known v) (cond (ltb (length x) 20) true (ltb (length y) 20)) (cond (ltb 3600 (be16_at x 0)) true (ltb 3600 (be16_at y 0))))
  where
    go : (s t a : Bool) → cond s (cond t 4 (cond a 11 0)) 1 ≤ 11
    go false t a = omega arith
    go true true a = omega arith
    go true false true = omega arith
    go true false false = omega arith

-- Two LSAs that are read have the newness of their headers.
pub newness_read_lem : (v : ℕ) (x y : List ℕ) → (v ≡ 2) ⊎ (v ≡ 3) → (length x < 20 → ⊥) → (length y < 20 → ⊥) → newness_at v x y ≡ newness (header_at v x) (header_at v y)
unfolding newness_at read_header
newness_read_lem v x y k p q = go (version v) (less (length x) 20) (less (length y) 20) (header_at v x) (header_at v y)
  where
    go : {s t u : Bool} → Decided ((v ≡ 2) ⊎ (v ≡ 3)) s → Decided (length x < 20) t → Decided (length y < 20) u → (g h : Header)
        → newness_read (cond s (cond t (Reading.refused 4) (header g)) (Reading.refused 1)) (cond s (cond u (Reading.refused 4) (header h)) (Reading.refused 1)) ≡ newness g h
    go (fails n) d e g h = absurd (n k)
    go (holds z) (holds l) e g h = absurd (p l)
    go (holds z) (fails l) (holds m) g h = absurd (q m)
    go (holds z) (fails l) (fails m) g h = refl

-- The bytes of a header with this last byte of its LS sequence number, 0x80000000 and that.
abbrev instance : ℕ → List ℕ
instance n = 14 ∷ 16 ∷ 34 ∷ 10 ∷ 1 ∷ 0 ∷ 0 ∷ 5 ∷ 192 ∷ 168 ∷ 0 ∷ 1 ∷ 128 ∷ 0 ∷ 0 ∷ n ∷ 18 ∷ 52 ∷ 0 ∷ 24 ∷ []

abbrev reads : ℕ → Reading
reads t = header (record { age = 3600; ls_type = t; link_state_id = 16777221; advertising_router = 3232235521; sequence_number = 2147483650; checksum = 4660; size = 24 })

-- Read in both versions, a header differs in its LS type alone.
pub worked_header : (read_header 2 (instance 2) ≡ reads 10) × (read_header 3 (instance 2) ≡ reads 8714)
unfolding read_header
worked_header = (refl, refl)

-- The instance of the larger LS sequence number is newer, whichever it is.
pub worked_newness : (newness_at 2 (instance 3) (instance 2) ≡ first) × (newness_at 3 (instance 2) (instance 3) ≡ second) × (newness_at 3 (instance 2) (instance 2) ≡ same)
unfolding newness_at read_header newness
worked_newness = (refl, refl, refl)
