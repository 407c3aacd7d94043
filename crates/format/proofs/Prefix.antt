-- Prefixes: their octets and addresses are of the right length; when each answer of the comparison is given, and what a reader
-- expects of being the same.
use Prim.Native.Nat.{ℕ, ◌+◌, ◌*◌, ◌/◌, ◌%◌, ◌^◌, ◌-◌, ◌≤◌, ◌<◌}
use native.Mathlib.Nat.{div-one}
use native.Mathlib.Omega.{arith}
use mathlib.Core.Path.{◌≡◌, refl, sym, ◌∙◌}
use mathlib.Core.Logic.{◌↔◌, ◌⊎◌, inl, inr, ⊎_elim}
use mathlib.Core.Bool.{Bool, true, false, cond}
use mathlib.Core.List.{List, ◌∷◌, ◌++◌, append_assoc}
use mathlib.Core.Option.{Option, none, some}
use lib.ListN.{length, get_or, take, replicate, length-append, length-replicate, replicate-append-replicate, get_or-replicate, get_or-append, get_or-eq_default}
use lib.Seq.{ext_get_or, get_or-take, get_or-append_right, length-take-le, take-append-le, take_at}
use lib.Pow.{shr-shr}
use lib.Dec.{leb}
use borrow.Author.Tests.{leb-true}
use Rattle.format.specs.Prefix.{octets, address, same_bits, Comparison, comparison}
use Rattle.format.specs.Prefix.Comparison.{same, different, refused}
use Rattle.format.specs.Refusals.{bit, Agree, Compares}
use Rattle.format.specs.V3.{prefix_fits}
use Rattle.format.proofs.Bits.{same_bits_lem, byte_word, same_front}
use Rattle.format.proofs.Decided.{Decided, less, equal, alike}
use Rattle.format.proofs.Decided.Decided.{holds, fails}

-- A prefix has at most 16 octets, in whole words of 32 bits.
pub octets_bound : (l n : ℕ) → octets l ≡ some n → (l ≤ 128) × (n ≤ 16)
unfolding octets
octets_bound l n e = go (leb l 128) refl e
  where
    go : (s : Bool) → leb l 128 ≡ s → cond s (some ((l + 31) / 32 * 4)) none ≡ some n → (l ≤ 128) × (n ≤ 16)
    go true h q = let z : (l + 31) / 32 * 4 ≡ n = cc in omega (arith, leb-true l 128 h)
    go false h q = let z : ◌≡◌ {A = ℕ} 0 1 = cc in absurd (omega arith)

-- Octets that fit are at most 16, and lie in the body.
pub fits_inside : (b : List ℕ) (l p n : ℕ) → prefix_fits b l p ≡ some n → (p + n ≤ length b) × (n ≤ 16)
unfolding prefix_fits
fits_inside b l p n e = go (octets l) refl e
  where
    within : (m : ℕ) (s : Bool) → leb (p + m) (length b) ≡ s → octets l ≡ some m → cond s (some m) none ≡ some n → (p + n ≤ length b) × (n ≤ 16)
    within m true h q f =
        let z : m ≡ n = cc in
        let k = octets_bound l m q in
        omega (arith, leb-true (p + m) (length b) h)
    within m false h q f = let z : ◌≡◌ {A = ℕ} 0 1 = cc in absurd (omega arith)

    go : (x : Option ℕ) → octets l ≡ x → elim x [ none ↦ none | some m ↦ cond (leb (p + m) (length b)) (some m) none ] ≡ some n → (p + n ≤ length b) × (n ≤ 16)
    go (some m) q f = within m (leb (p + m) (length b)) refl q f
    go none q f = let z : ◌≡◌ {A = ℕ} 0 1 = cc in absurd (omega arith)

pub length-address : (bs : List ℕ) → length (address bs) ≡ 16
unfolding address
length-address bs = length-take-le 16 (bs ++ replicate 16 0) (rw (length-append, length-replicate {A = ℕ} 16 0) (omega arith))

-- The octets come first, and then zeros to 16; more than 16 octets are cut.
pub address_is : (bs : List ℕ) → length bs ≤ 16 → address bs ≡ bs ++ replicate (16 - length bs) 0
unfolding address
address_is bs h =
    let n = 16 - length bs in
    let sum : n + length bs ≡ 16 = omega arith in
    let zeros : replicate {A = ℕ} 16 0 ≡ replicate n 0 ++ replicate (length bs) 0 = rw (replicate-append-replicate, sum) in
    let fits : length (bs ++ replicate n 0) ≡ 16 = rw (length-append, length-replicate) (omega arith) in
    rw (zeros, ← append_assoc) (take_at (bs ++ replicate n 0) (replicate (length bs) 0) 16 fits)

pub address-cut : (bs : List ℕ) → 16 ≤ length bs → address bs ≡ take 16 bs
unfolding address
address-cut bs h = take-append-le 16 bs (replicate 16 0) h

-- So a byte of the address is the octet there, or the zero that stands for none; and addresses are compared as their octets are.
address_at : (bs : List ℕ) (k : ℕ) → k < 16 → get_or (address bs) k 0 ≡ get_or bs k 0
unfolding address
address_at bs k h = get_or-take 16 (bs ++ replicate 16 0) k 0 h ∙ go (less k (length bs))
  where
    go : {t : Bool} → Decided (k < length bs) t → get_or (bs ++ replicate 16 0) k 0 ≡ get_or bs k 0
    go (holds i) = get_or-append bs (replicate 16 0) 0 k i
    go (fails i) =
        get_or-append_right bs (replicate 16 0) k 0 (omega arith) ∙ get_or-replicate {A = ℕ} 16 (k - length bs) 0 0 (omega arith) ∙ sym (get_or-eq_default bs 0 (omega arith))

pub same_octets : (l : ℕ) (a b : List ℕ) → l ≤ 128 → same_bits l (address a) (address b) ≡ same_bits l a b
same_octets l a b h = alike (same_bits_lem l (address a) (address b)) (same_bits_lem l a b) (
  λ f i k. rw (address_at a (i / 8) (omega arith), address_at b (i / 8) (omega arith)) at (f i k),
  λ f i k. rw (address_at a (i / 8) (omega arith), address_at b (i / 8) (omega arith)) (f i k),
)

module _ (l : ℕ) (a : List ℕ) (m : ℕ) (b : List ℕ) where
  -- What each answer of the comparison says.
  abbrev Says : Comparison → Type 0
  Says same = (l ≤ 128) × (m ≤ 128) × (l ≡ m) × Agree l a b
  Says different = (l ≤ 128) × (m ≤ 128) × (l ≡ m → Agree l a b → ⊥)
  Says (refused n) = (n ≡ 10) × ((128 < l) ⊎ (128 < m))

  says : Says (comparison l a m b)
  unfolding comparison
  says = go (less 128 l) (less 128 m) (equal l m) (same_bits_lem l a b)
    where
      go : {s t u w : Bool} → Decided (128 < l) s → Decided (128 < m) t → Decided (l ≡ m) u → Decided (Agree l a b) w
          → Says (cond s (refused 10) (cond t (refused 10) (cond u (cond w same different) different)))
      go (holds h) i j k = (refl, inl h)
      go (fails h) (holds i) j k = (refl, inr i)
      go (fails h) (fails i) (holds j) (holds k) = (omega arith, omega arith, j, k)
      go (fails h) (fails i) (holds j) (fails k) = (omega arith, omega arith, λ e f. k f)
      go (fails h) (fails i) (fails j) k = (omega arith, omega arith, λ e f. j e)

  in_range : (l ≤ 128) → (m ≤ 128) → (128 < l) ⊎ (128 < m) → ⊥
  in_range h i = ⊎_elim (λ j. omega arith) (λ j. omega arith)

  -- No two answers say what holds at once.
  only : (c d : Comparison) → Says c → Says d → c ≡ d
  only same same h k = refl
  only same different h k = absurd (k.2 h.2 h.3)
  only same (refused n) h k = absurd (in_range h.0 h.1 k.1)
  only different same h k = absurd (h.2 k.2 k.3)
  only different different h k = refl
  only different (refused n) h k = absurd (in_range h.0 h.1 k.1)
  only (refused n) same h k = absurd (in_range k.0 k.1 h.1)
  only (refused n) different h k = absurd (in_range k.0 k.1 h.1)
  only (refused n) (refused o) h k = cc

  -- Each answer, exactly when.
  pub compares : Compares l a m b
  compares = record {
    ten = (λ e. (rw e at says).1, λ h. only _ (refused 10) says (refl, h));
    are_same = (λ e. rw e at says, λ h. only _ same says h);
    are_different = (λ e. rw e at says, λ h. only _ different says h);
    no_other = λ n e. (rw e at says).0;
  }

-- Being the same is an equivalence. A prefix is the same as itself, and which of two comes first does not matter, for refusals too.
pub same_self : (l : ℕ) (a : List ℕ) → l ≤ 128 → comparison l a l a ≡ same
same_self l a h = (compares l a l a).are_same.1 (h, h, refl, λ i k. refl)

pub same_swap : (l : ℕ) (a : List ℕ) (m : ℕ) (b : List ℕ) → comparison m b l a ≡ comparison l a m b
same_swap l a m b = only m b l a _ _ (says m b l a) (swapped (comparison l a m b) (says l a m b))
  where
    swapped : (c : Comparison) → Says l a m b c → Says m b l a c
    swapped same h = (h.1, h.0, sym h.2, λ i k. sym (h.3 i (rw h.2 k)))
    swapped different h = (h.1, h.0, λ e f. h.2 (sym e) (λ i k. sym (f i (rw e k))))
    swapped (refused n) h = (h.0, ⊎_elim inr inl h.1)

pub same_trans : (l : ℕ) (a : List ℕ) (m : ℕ) (b : List ℕ) (n : ℕ) (c : List ℕ)
    → comparison l a m b ≡ same → comparison m b n c ≡ same → comparison l a n c ≡ same
same_trans l a m b n c e f =
    let x = (compares l a m b).are_same.0 e in
    let y = (compares m b n c).are_same.0 f in
    (compares l a n c).are_same.1 (x.0, y.1, x.2 ∙ y.2, λ i k. x.3 i k ∙ y.3 i (rw (← x.2) k))

-- Prefixes of one length whose addresses are equal are the same.
pub equal_same : (l : ℕ) (a : List ℕ) (m : ℕ) (b : List ℕ) → l ≤ 128 → l ≡ m → a ≡ b → comparison l a m b ≡ same
equal_same l a m b h e f = rw (← e, f) (same_self l b h)

-- What stands past the length does not matter: the whole bytes before it agree, and of the next byte the first bits.
pub padding : (l : ℕ) (a b : List ℕ) → l ≤ 128 → ((k : ℕ) → k < l / 8 → get_or a k 0 ≡ get_or b k 0)
    → get_or a (l / 8) 0 / 2 ^ (8 - l % 8) ≡ get_or b (l / 8) 0 / 2 ^ (8 - l % 8) → comparison l a l b ≡ same
padding l a b h whole e = (compares l a l b).are_same.1 (h, h, refl, λ i k. each i k (less (i / 8) (l / 8)))
  where
    each : (i : ℕ) → i < l → {t : Bool} → Decided (i / 8 < l / 8) t → bit a i ≡ bit b i
    each i k (holds f) = rw (whole (i / 8) f)
    each i k (fails f) =
        let q : i / 8 ≡ l / 8 = omega arith in
        let r : 7 - i % 8 ≡ 8 - l % 8 + (l % 8 - 1 - i % 8) = omega arith in
        rw (q, r, ← shr-shr, ← shr-shr, e)

-- A length of 0 makes all the same.
pub same_at_0 : (a b : List ℕ) → comparison 0 a 0 b ≡ same
same_at_0 a b = (compares 0 a 0 b).are_same.1 (omega arith, omega arith, refl, λ i k. absurd (omega arith))

-- One of 128 compares all 16 bytes.
pub same_at_128 : (a b : List ℕ) → length a ≡ 16 → length b ≡ 16 → ((k : ℕ) → get_or a k 0 < 256) → ((k : ℕ) → get_or b k 0 < 256)
    → (comparison 128 a 128 b ≡ same) ↔ (a ≡ b)
same_at_128 a b la lb bytes_a bytes_b = (λ e. ext_get_or 0 a b (la ∙ sym lb) (λ k h. byte ((compares 128 a 128 b).are_same.0 e).3 k (omega arith)), λ e. equal_same 128 a 128 b (omega arith) refl e)
  where
    byte : Agree 128 a b → (k : ℕ) → k < 16 → get_or a k 0 ≡ get_or b k 0
    byte f k h = rw (div-one, div-one) at (same_front (byte_word a bytes_a k) (byte_word b bytes_b k) 8 (omega arith) (λ i j. f (k * 8 + i) (omega arith)))

-- A network of 36 bits with zeros after them and with ones; under a length of 37 they are two.
abbrev zeros_after : List ℕ
zeros_after = 0x20 ∷ 0x01 ∷ 0x0d ∷ 0xb8 ∷ 0x50 ∷ replicate 11 0

abbrev ones_after : List ℕ
ones_after = 0x20 ∷ 0x01 ∷ 0x0d ∷ 0xb8 ∷ 0x5f ∷ replicate 11 0xff

pub worked_prefixes : (comparison 36 zeros_after 36 ones_after ≡ same) × (comparison 37 zeros_after 37 ones_after ≡ different)
unfolding comparison same_bits
worked_prefixes = (refl, refl)
