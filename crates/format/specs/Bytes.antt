-- Numbers and bytes. Every number of OSPF, and of the strip, has its most significant byte first (RFC 791, appendix B).
use Rattle.std.specs.Prelude.{ℕ, ◌+◌, ◌*◌, ◌/◌, ◌%◌, Bool, true, false, cond, List, [], ◌∷◌, ◌++◌, get_or, take, drop, eqb}

-- The number of 16, 24, 32 or 64 bits whose bytes stand in b from p on.
abbrev pub be16_at : List ℕ → ℕ → ℕ
be16_at b p = get_or b p 0 * 256 + get_or b (p + 1) 0

abbrev pub be24_at : List ℕ → ℕ → ℕ
be24_at b p = get_or b p 0 * 65536 + be16_at b (p + 1)

abbrev pub be32_at : List ℕ → ℕ → ℕ
be32_at b p = be16_at b p * 65536 + be16_at b (p + 2)

abbrev pub be64_at : List ℕ → ℕ → ℕ
be64_at b p = be32_at b p * 4294967296 + be32_at b (p + 4)

-- A number's bytes. Each width is twice the one before it: the quotient's bytes, then the remainder's.
abbrev pub be16 : ℕ → List ℕ
be16 n = n / 256 ∷ n % 256 ∷ []

abbrev pub be32 : ℕ → List ℕ
be32 n = be16 (n / 65536) ++ be16 (n % 65536)

abbrev pub be64 : ℕ → List ℕ
be64 n = be32 (n / 4294967296) ++ be32 (n % 4294967296)

-- The n bytes of b from p on.
abbrev pub part : List ℕ → ℕ → ℕ → List ℕ
part b p n = take n (drop p b)

-- Whether two lists of bytes are the same.
unfoldable pub same_bytes : List ℕ → List ℕ → Bool
same_bytes [] [] = true
same_bytes [] (y ∷ ys) = false
same_bytes (x ∷ xs) [] = false
same_bytes (x ∷ xs) (y ∷ ys) = cond (eqb x y) (same_bytes xs ys) false
