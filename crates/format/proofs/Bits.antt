-- Bits of addresses: what it is for the first n to agree, and how they are compared number by number.
use Prim.Native.Nat.{ℕ, zero, suc, ◌+◌, ◌-◌, ◌*◌, ◌/◌, ◌%◌, ◌^◌, ◌≤◌, ◌<◌}
use native.Mathlib.Omega.{arith}
use native.Mathlib.Nat.{div-eq_of_lt, div-one}
use mathlib.Core.Path.{◌≡◌, refl, sym, ap, ◌∙◌}
use mathlib.Core.Bool.{Bool, true, false, cond}
use mathlib.Core.List.{List}
use lib.ListN.{get_or}
use lib.Dec.{eqb}
use lib.Arith.{digits_lt}
use lib.Pow.{pow-add, shr-shr}
use borrow.Author.Count.{below_more}
use Rattle.std.proofs.lemmas.Nat.Bits.{bit_at_cat_low, bit_at_cat_high}
use Rattle.format.specs.Bytes.{be16_at, be32_at}
use Rattle.format.specs.Prefix.{weights, address_bit, same_bits}
use Rattle.format.specs.Refusals.{bit, Agree}
use Rattle.format.proofs.Decided.{Decided, less, equal, alike}
use Rattle.format.proofs.Decided.Decided.{holds, fails}

weight_is : (r : ℕ) → r < 8 → get_or weights r 0 ≡ 2 ^ (7 - r)
weight_is zero h = refl
weight_is (suc zero) h = refl
weight_is (suc (suc zero)) h = refl
weight_is (suc (suc (suc zero))) h = refl
weight_is (suc (suc (suc (suc zero)))) h = refl
weight_is (suc (suc (suc (suc (suc zero))))) h = refl
weight_is (suc (suc (suc (suc (suc (suc zero)))))) h = refl
weight_is (suc (suc (suc (suc (suc (suc (suc zero))))))) h = refl
weight_is (suc (suc (suc (suc (suc (suc (suc (suc r)))))))) h = absurd (omega arith)

bit_is : (a : List ℕ) (i : ℕ) → address_bit a i ≡ bit a i
bit_is a i = ap (λ (w : ℕ). get_or a (i / 8) 0 / w % 2) (weight_is (i % 8) (omega arith))

-- `same_bits` decides whether the first n bits agree.
pub same_bits_lem : (n : ℕ) (a b : List ℕ) → Decided (Agree n a b) (same_bits n a b)
unfolding same_bits
same_bits_lem zero a b = holds (λ i h. absurd (omega arith))
same_bits_lem (suc n) a b = go (equal (address_bit a n) (address_bit b n)) (same_bits_lem n a b)
  where
    go : {s t : Bool} → Decided (address_bit a n ≡ address_bit b n) s → Decided (Agree n a b) t → Decided (Agree (suc n) a b) (cond s t false)
    go (holds e) (holds f) = holds (λ i h. below_more (λ (k : ℕ). bit a k ≡ bit b k) n f (sym (bit_is a n) ∙ e ∙ bit_is b n) i (omega arith))
    go (holds e) (fails f) = fails (λ g. f (λ i h. g i (omega arith)))
    go (fails e) d = fails (λ g. e (bit_is a n ∙ g n (omega arith) ∙ sym (bit_is b n)))

pub agreed : (n : ℕ) (a b : List ℕ) → Agree n a b → same_bits n a b ≡ true
agreed n a b f = alike (same_bits_lem n a b) (holds f) (λ g. g, λ g. g)

-- x is the number of the w bits of an address from the bit p on.
pub record Word (w x : ℕ) (a : List ℕ) (p : ℕ) : Type 0 where
  pub small : x < 2 ^ w
  pub bits : (i : ℕ) → i < w → x / 2 ^ (w - 1 - i) % 2 ≡ bit a (p + i)

-- Two numbers, one after the other, are one of both widths.
joined : {v w x y p q : ℕ} {a : List ℕ} → q ≡ p + v → Word v x a p → Word w y a q → Word (v + w) (x * 2 ^ w + y) a p
joined {v} {w} {x} {y} {p} {q} {a} e u t = record {
  small = rw (pow-add 2 v w) (digits_lt u.small t.small);
  bits = λ i h. each i h (less i v);
}
  where
    each : (i : ℕ) → i < v + w → {s : Bool} → Decided (i < v) s → (x * 2 ^ w + y) / 2 ^ (v + w - 1 - i) % 2 ≡ bit a (p + i)
    each i h (holds f) =
        let k : v + w - 1 - i - w ≡ v - 1 - i = omega arith in
        bit_at_cat_high x w y (v + w - 1 - i) t.small (omega arith) ∙ rw k (u.bits i f)
    each i h (fails f) =
        let k : v + w - 1 - i ≡ w - 1 - (i - v) = omega arith in
        let g : p + i ≡ q + (i - v) = omega arith in
        bit_at_cat_low x w y (v + w - 1 - i) (omega arith) ∙ rw (k, g) (t.bits (i - v) (omega arith))

module _ (a : List ℕ) (byte : (k : ℕ) → get_or a k 0 < 256) where
  pub byte_word : (k : ℕ) → Word 8 (get_or a k 0) a (k * 8)
  byte_word k = record {
    small = byte k;
    bits = λ i h.
        let q : (k * 8 + i) / 8 ≡ k = omega arith in
        let r : (k * 8 + i) % 8 ≡ i = omega arith in
        rw (q, r);
  }

  word16 : (k : ℕ) → Word 16 (be16_at a k) a (k * 8)
  word16 k = joined (omega arith) (byte_word k) (byte_word (k + 1))

  pub word32 : (k : ℕ) → Word 32 (be32_at a k) a (k * 8)
  word32 k = joined (omega arith) (word16 k) (word16 (k + 2))

-- One bit more of a number of w bits.
one_more : (w x n : ℕ) → n < w → x / 2 ^ (w - suc n) ≡ x / 2 ^ (w - n) * 2 + x / 2 ^ (w - 1 - n) % 2
one_more w x n h =
    let e : w - n ≡ w - 1 - n + 1 = omega arith in
    let f : w - suc n ≡ w - 1 - n = omega arith in
    let g = shr-shr x (w - 1 - n) 1 in
    rw (e, f, ← g) (omega arith)

-- The n bits of two addresses from the bit p on agree.
abbrev pub AgreeFrom : ℕ → ℕ → List ℕ → List ℕ → Type 0
AgreeFrom p n a b = (i : ℕ) → i < n → bit a (p + i) ≡ bit b (p + i)

-- The first n bits of two numbers agree exactly where the numbers without the other bits do.
module _ {w x y p : ℕ} {a b : List ℕ} (u : Word w x a p) (v : Word w y b p) where
  pub same_front : (n : ℕ) → n ≤ w → AgreeFrom p n a b → x / 2 ^ (w - n) ≡ y / 2 ^ (w - n)
  same_front zero h f =
      let e : w - 0 ≡ w = omega arith in
      rw (e, div-eq_of_lt u.small, div-eq_of_lt v.small)
  same_front (suc n) h f =
      let k = same_front n (omega arith) (λ i l. f i (omega arith)) in
      let l = u.bits n (omega arith) ∙ f n (omega arith) ∙ sym (v.bits n (omega arith)) in
      rw (one_more w x n, one_more w y n, k, l)

  front_agrees : (n : ℕ) → n ≤ w → x / 2 ^ (w - n) ≡ y / 2 ^ (w - n) → AgreeFrom p n a b
  front_agrees zero h e i l = absurd (omega arith)
  front_agrees (suc n) h e i l =
      let f : x / 2 ^ (w - n) * 2 + x / 2 ^ (w - 1 - n) % 2 ≡ y / 2 ^ (w - n) * 2 + y / 2 ^ (w - 1 - n) % 2 = sym (one_more w x n h) ∙ e ∙ one_more w y n h in
      let g : x / 2 ^ (w - n) ≡ y / 2 ^ (w - n) = omega arith in
      let k : x / 2 ^ (w - 1 - n) % 2 ≡ y / 2 ^ (w - 1 - n) % 2 = omega arith in
      below_more (λ (j : ℕ). bit a (p + j) ≡ bit b (p + j)) n (front_agrees n (omega arith) g) (sym (u.bits n h) ∙ k ∙ v.bits n h) i (omega arith)

  -- Where the first p bits of the addresses agree, the numbers decide of the next n, and of all w if they are equal.
  agree_more : (n : ℕ) → Agree p a b → AgreeFrom p n a b → Agree (p + n) a b
  agree_more n f g i h = each (less i p)
    where
      each : {t : Bool} → Decided (i < p) t → bit a i ≡ bit b i
      each (holds k) = f i k
      each (fails k) = let e : p + (i - p) ≡ i = omega arith in rw e at (g (i - p) (omega arith))

  pub whole_agrees : x ≡ y → Agree p a b → Agree (p + w) a b
  whole_agrees e f = agree_more w f (front_agrees w (omega arith) (ap (λ (z : ℕ). z / 2 ^ (w - w)) e))

  pub whole_differs : (x ≡ y → ⊥) → (l : ℕ) → p + w ≤ l → same_bits l a b ≡ false
  whole_differs d l h = alike (same_bits_lem l a b) (fails (λ f. differ f)) (λ f. f, λ f. f)
    where
      differ : Agree l a b → ⊥
      differ f =
          let e : w - w ≡ 0 = omega arith in
          d (rw (e, div-one, div-one) at (same_front w (omega arith) (λ i k. f (p + i) (omega arith))))

  pub last_decides : (n : ℕ) → n ≤ w → Agree p a b → same_bits (p + n) a b ≡ eqb (x / 2 ^ (w - n)) (y / 2 ^ (w - n))
  last_decides n h f = alike (same_bits_lem (p + n) a b) (equal _ _) (λ g. same_front n h (λ i k. g (p + i) (omega arith)), λ e. agree_more n f (front_agrees n h e))
