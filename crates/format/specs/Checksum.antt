-- The LS checksum (RFC 2328 12.1.7), "the same that is used for ISO connectionless datagrams", as annex B of RFC 905 has it.
use Rattle.std.specs.Prelude.{ℕ, ◌+◌, ◌-◌, ◌*◌, ◌%◌, Bool, true, false, not, cond, List, [], ◌∷◌, length, get_or, drop, set, leb, eqb}
use Rattle.format.specs.Header.{header_size}

-- RFC 905 B.1: the two sums, modulo 255.
pub record Sums : Type 0 where
  pub c0 : ℕ
  pub c1 : ℕ

abbrev pub residues : ℕ → ℕ → Sums
residues x y = record { c0 = x % 255; c1 = y % 255 }

-- RFC 905 B.3: the value of the octet is added to C0, then the value of C0 to C1.
abbrev pub with_octet : Sums → ℕ → Sums
with_octet s a = residues (s.c0 + a) (s.c1 + (s.c0 + a) % 255)

unfoldable pub running : Sums → List ℕ → Sums
running s [] = s
running s (a ∷ l) = running (with_octet s a) l

-- "the complete contents of the LSA, excepting the LS age field", which are its first two bytes.
unfoldable pub sums : List ℕ → Sums
sums lsa = running (residues 0 0) (drop 2 lsa)

-- An LSA with other bytes in its field, which are 16 and 17 (RFC 2328 A.4.1).
abbrev pub with_checksum : List ℕ → (x y : ℕ) → List ℕ
with_checksum lsa x y = set (set lsa 16 x) 17 y

-- Both sums are zero, and the field is not: that section takes a field of zero for a failure.
unfoldable pub is_good : List ℕ → Bool
is_good lsa =
    cond (eqb (sums lsa).c0 0)
    (cond (eqb (sums lsa).c1 0)
    (cond (eqb (get_or lsa 16 0) 0) (not (eqb (get_or lsa 17 0) 0)) true)
    false)
    false

-- The bytes that are taken for an LSA: a header's, up to what 16 bits of length can say. It is the length of the bytes that
-- are given, whatever length the header declares.
abbrev pub max_length : ℕ
max_length = 65535

abbrev pub is_lsa : List ℕ → Bool
is_lsa lsa = cond (leb header_size (length lsa)) (leb (length lsa) max_length) false

-- The check. 13: too few bytes, or too many.
pub data Check : Type 0 where
  good : Check
  bad : Check
  refused : (number : ℕ) → Check

unfoldable pub check : List ℕ → Check
check lsa = cond (is_lsa lsa) (cond (is_good lsa) good bad) (refused 13)

-- An octet of the field: a residue modulo 255, zero as 255.
unfoldable pub octet_of : ℕ → ℕ
octet_of m = cond (eqb (m % 255) 0) 255 (m % 255)

-- RFC 905 B.3: the sums with a field of zeros, and from them X = - C1 + (L - k) C0 and Y = C1 - (L - k + 1) C0. Of the L octets
-- that are summed, two fewer than the LSA has, the field is the 15th and 16th, so k is 15. 255 - c stands for - c.
unfoldable pub sums_without : List ℕ → Sums
sums_without lsa = sums (with_checksum lsa 0 0)

abbrev pub first_octet : List ℕ → ℕ
first_octet lsa = octet_of ((length lsa - 17) * (sums_without lsa).c0 + (255 - (sums_without lsa).c1))

abbrev pub second_octet : List ℕ → ℕ
second_octet lsa = octet_of ((length lsa - 16) * (255 - (sums_without lsa).c0) + (sums_without lsa).c1)

-- The making: the two bytes, or a refusal. 13 as above.
pub data Making : Type 0 where
  made : (x y : ℕ) → Making
  refused : (number : ℕ) → Making

unfoldable pub making : List ℕ → Making
making lsa = cond (is_lsa lsa) (made (first_octet lsa) (second_octet lsa)) (refused 13)

-- The LSA afterwards.
abbrev pub made_lsa : Making → List ℕ → List ℕ
made_lsa (made x y) lsa = with_checksum lsa x y
made_lsa (refused n) lsa = lsa
