-- The two sums of the LS checksum without a division at every byte: whole numbers, whose residues modulo 255 are the sums.
use Prim.Native.Nat.{ℕ, zero, suc, ◌+◌, ◌*◌, ◌/◌, ◌%◌, ◌≤◌, ◌<◌}
use native.Mathlib.Omega.{arith}
use mathlib.Core.Path.{◌≡◌, refl, sym, ap, ◌∙◌}
use mathlib.Core.List.{List, [], ◌∷◌}
use lib.ListN.{length, get_or, drop, set, length-set, drop_of_length-le}
use lib.Seq.{drop-cons}
use Rattle.format.specs.Checksum.{Sums, residues, running, sums}
use Rattle.format.specs.Fletcher.{octet_sum, position_sum}

-- Sums of numbers that are the same modulo 255 are the same.
same_sums : {a b c d : ℕ} → a ≡ c → b ≡ d → ◌≡◌ {A = Sums} (record { c0 = a; c1 = b }) (record { c0 = c; c1 = d })
same_sums p q = cc

pub same_residues : {x x' y y' : ℕ} → x ≡ x' → y ≡ y' → residues x y ≡ residues x' y'
same_residues p q = cc

pub one_octet : (x y a : ℕ) (l : List ℕ) → running (residues x y) (a ∷ l) ≡ running (residues (x + a) (y + (x + a))) l
unfolding running
one_octet x y a l = ap (λ (s : Sums). running s l) (same_sums (omega arith) (omega arith))

multiple_more : (m n k : ℕ) → n ≡ m + 255 * k → m % 255 ≡ n % 255
multiple_more m n k e = omega arith

-- 256 is 1 modulo 255. So a word of four octets, the first as its lowest, is their sum, its quotient by 65,536 that of the last
-- two, and its second and fourth octet by themselves, 65,536 apart, are their sum. By these C1 gains less than four times the sum;
-- 254 is - 1.
pub one_word : (x y a b c d : ℕ) (l : List ℕ) → a < 256 → b < 256 → c < 256
    → let w = a + b * 256 + c * 65536 + d * 16777216 in
    running (residues x y) (a ∷ b ∷ c ∷ d ∷ l) ≡ running (residues (x + w) (y + 4 * (x + w) + 254 * (2 * (w / 65536) + (w / 256 % 256 + w / 16777216 * 65536)))) l
one_word x y a b c d l ha hb hc =
    let w = a + b * 256 + c * 65536 + d * 16777216 in
    let p : w / 256 % 256 ≡ b = omega arith in
    let q : w / 65536 ≡ c + d * 256 = omega arith in
    let r : w / 16777216 ≡ d = omega arith in
    one_octet x y a (b ∷ c ∷ d ∷ l)
    ∙ (one_octet (x + a) _ b (c ∷ d ∷ l) ∙ (one_octet (x + a + b) _ c (d ∷ l) ∙ (one_octet (x + a + b + c) _ d l ∙ ap (λ (s : Sums). running s l) (same_sums
    (multiple_more _ _ (b + 257 * c + 65793 * d) (omega arith))
    (multiple_more _ _ (5 * b + 1030 * c + 328961 * d) (omega arith))))))

-- The same at a place of an LSA, for the loops: by a byte, by a word, after the first two bytes, and at the end. C1 is held in
-- parts: y, the sum of C0 after each word; h, the words' last two octets; o, their second and fourth; and what it was before.
module _ (lsa : List ℕ) where
  one_more : (p q : ℕ) → q ≡ p + 1 → p < length lsa → drop p lsa ≡ get_or lsa p 0 ∷ drop q lsa
  one_more p q e h = let s : suc p ≡ q = omega arith in drop-cons lsa p 0 h ∙ ap (λ (n : ℕ). get_or lsa p 0 ∷ drop n lsa) s

  pub by_octet : (p x y : ℕ) → p < length lsa → running (residues (x + get_or lsa p 0) (y + (x + get_or lsa p 0))) (drop (p + 1) lsa) ≡ running (residues x y) (drop p lsa)
  by_octet p x y h = rw (one_more p (p + 1) refl h) (sym (one_octet x y (get_or lsa p 0) (drop (p + 1) lsa)))

  pub by_word : (p x y h o start : ℕ) → p + 4 ≤ length lsa → get_or lsa p 0 < 256 → get_or lsa (p + 1) 0 < 256 → get_or lsa (p + 2) 0 < 256
      → let w = get_or lsa p 0 + get_or lsa (p + 1) 0 * 256 + get_or lsa (p + 2) 0 * 65536 + get_or lsa (p + 3) 0 * 16777216 in
      running (residues (x + w) ((y + (x + w)) * 4 + ((h + w / 65536) * 2 + (o + (w / 256 % 256 + w / 16777216 * 65536))) * 254 + start)) (drop (p + 4) lsa)
      ≡ running (residues x (y * 4 + (h * 2 + o) * 254 + start)) (drop p lsa)
  by_word p x y h o start l i j k =
      rw (
        one_more p (p + 1) refl (omega arith),
        one_more (p + 1) (p + 2) (omega arith) (omega arith),
        one_more (p + 2) (p + 3) (omega arith) (omega arith),
        one_more (p + 3) (p + 4) (omega arith) (omega arith),
      )
      (sym (one_word x (y * 4 + (h * 2 + o) * 254 + start) _ _ _ _ (drop (p + 4) lsa) i j k ∙ ap (λ (s : Sums). running s (drop (p + 4) lsa)) (same_residues refl (omega arith))))

  pub begins : 4 ≤ length lsa → running (residues (get_or lsa 2 0 + get_or lsa 3 0) (0 * 4 + (0 * 2 + 0) * 254 + (get_or lsa 2 0 + (get_or lsa 2 0 + get_or lsa 3 0)))) (drop 4 lsa) ≡ sums lsa
  unfolding sums
  begins h =
      ap (λ (s : Sums). running s (drop 4 lsa)) (same_residues (omega arith) (omega arith))
      ∙ (by_octet 3 (0 + get_or lsa 2 0) (0 + (0 + get_or lsa 2 0)) (omega arith) ∙ by_octet 2 0 0 (omega arith))

  pub ends : (p : ℕ) (s : Sums) → length lsa ≤ p → running s (drop p lsa) ≡ s
  unfolding running
  ends p s h = rw (drop_of_length-le lsa h)

-- The second sum of a list, as a whole number: each octet as often as the sums are added after it.
unfoldable pub weighted : List ℕ → ℕ
weighted [] = 0
weighted (a ∷ l) = suc (length l) * a + weighted l

pub running_is : (x y : ℕ) (l : List ℕ) → running (residues x y) l ≡ residues (x + octet_sum l) (y + length l * x + weighted l)
unfolding running octet_sum weighted
running_is x y [] = same_sums (omega arith) (omega arith)
running_is x y (a ∷ l) = one_octet x y a l ∙ (running_is (x + a) (y + (x + a)) l ∙ same_sums (omega arith) (omega arith))

pub sums_are : (lsa : List ℕ) → sums lsa ≡ residues (octet_sum (drop 2 lsa)) (weighted (drop 2 lsa))
unfolding sums
sums_are lsa = running_is 0 0 (drop 2 lsa) ∙ same_sums (omega arith) (omega arith)

-- That sum and that of the octets by their positions.
pub both_ways : (i : ℕ) (l : List ℕ) → weighted l + position_sum i l ≡ (length l + i) * octet_sum l
unfolding octet_sum position_sum weighted
both_ways i [] = omega arith
both_ways i (a ∷ l) = omega (arith, both_ways (suc i) l)

-- One octet set: what each sum gains and loses.
pub octets-set : (l : List ℕ) (i b : ℕ) → i < length l → octet_sum (set l i b) + get_or l i 0 ≡ octet_sum l + b
unfolding octet_sum
octets-set [] i b h = absurd (omega arith)
octets-set (a ∷ l) zero b h = omega arith
octets-set (a ∷ l) (suc i) b h = omega (arith, octets-set l i b (omega arith))

pub weighted_set : (l : List ℕ) (i k b : ℕ) → i + suc k ≡ length l → weighted (set l i b) + suc k * get_or l i 0 ≡ weighted l + suc k * b
unfolding weighted
weighted_set [] i k b h = absurd (omega arith)
weighted_set (a ∷ l) zero k b h =
    let e : k ≡ length l = omega arith in
    rw e (omega arith)
weighted_set (a ∷ l) (suc i) k b h = omega (arith, weighted_set l i k b (omega arith), ap (λ (n : ℕ). n * a) (length-set l i b))
