-- A number whose bytes stand in reverse, and the bytes of a number with the least significant first. Each width is twice the one
-- before it.
use Rattle.std.specs.Prelude.{ℕ, ◌+◌, ◌*◌, ◌/◌, ◌%◌, List, [], ◌∷◌, ◌++◌}

unfoldable pub swap16 : ℕ → ℕ
swap16 x = x % 256 * 256 + x / 256

unfoldable pub swap32 : ℕ → ℕ
swap32 x = swap16 (x % 65536) * 65536 + swap16 (x / 65536)

unfoldable pub swap64 : ℕ → ℕ
swap64 x = swap32 (x % 4294967296) * 4294967296 + swap32 (x / 4294967296)

abbrev pub le16 : ℕ → List ℕ
le16 x = x % 256 ∷ x / 256 ∷ []

abbrev pub le32 : ℕ → List ℕ
le32 x = le16 (x % 65536) ++ le16 (x / 65536)

abbrev pub le64 : ℕ → List ℕ
le64 x = le32 (x % 4294967296) ++ le32 (x / 4294967296)
