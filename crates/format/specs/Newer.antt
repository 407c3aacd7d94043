-- Which of two instances of an LSA is newer, rule by rule in the order of RFC 2328 13.1; and what newness answers by it.
use Rattle.std.specs.Prelude.{ℕ, ◌+◌, ◌≤◌, ◌<◌, ◌≡◌, ◌↔◌, ◌⊎◌}
use Rattle.format.specs.Header.{Header, newness}
use Rattle.format.specs.Header.Newness.{first, second, same, refused}

-- RFC 2328 12.1.6: sequence numbers are signed numbers of 32 bits. In two's complement those with the first bit set are
-- negative, below all others; among numbers of one sign the order is that of the bits.
pub data SignedBelow (x y : ℕ) : Type 0 where
  negative : 2147483648 ≤ x → y < 2147483648 → SignedBelow x y
  both_negative : 2147483648 ≤ x → 2147483648 ≤ y → x < y → SignedBelow x y
  neither_negative : x < 2147483648 → y < 2147483648 → x < y → SignedBelow x y

-- RFC 2328 13.1: the larger sequence number; then the larger checksum; then, if only one has it, the age MaxAge, 3,600; then,
-- if the ages differ by more than MaxAgeDiff, 900, the smaller age.
pub data Newer (x y : Header) : Type 0 where
  by_sequence : SignedBelow y.sequence_number x.sequence_number → Newer x y
  by_checksum : x.sequence_number ≡ y.sequence_number → y.checksum < x.checksum → Newer x y
  by_max_age : x.sequence_number ≡ y.sequence_number → x.checksum ≡ y.checksum → x.age ≡ 3600 → y.age < 3600 → Newer x y
  by_age : x.sequence_number ≡ y.sequence_number → x.checksum ≡ y.checksum → y.age < 3600 → x.age + 900 < y.age → Newer x y

-- 11: either age is above 3,600. Else the newer is answered, or that neither is.
pub record NewnessIs (x y : Header) : Type 0 where
  pub eleven : (newness x y ≡ refused 11) ↔ ((3600 < x.age) ⊎ (3600 < y.age))
  pub first_is : (newness x y ≡ first) ↔ ((x.age ≤ 3600) × (y.age ≤ 3600) × Newer x y)
  pub second_is : (newness x y ≡ second) ↔ ((x.age ≤ 3600) × (y.age ≤ 3600) × Newer y x)
  pub same_is : (newness x y ≡ same) ↔ ((x.age ≤ 3600) × (y.age ≤ 3600) × (Newer x y → ⊥) × (Newer y x → ⊥))
  pub no_other : (n : ℕ) → newness x y ≡ refused n → n ≡ 11
