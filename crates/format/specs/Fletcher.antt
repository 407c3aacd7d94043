-- What is claimed of the LS checksum: which LSAs are good, by the two formulas that RFC 905 6.17.3 asks for; what the making
-- changes; and which damage to a good LSA is found.
use Rattle.std.specs.Prelude.{ℕ, suc, ◌+◌, ◌*◌, ◌%◌, ◌≤◌, ◌<◌, ◌≡◌, ◌↔◌, ◌⊎◌, List, [], ◌∷◌, length, get_or, drop}
use Rattle.format.specs.Checksum.{Check, Making}
use Rattle.format.specs.Checksum.Check.{good, bad, refused}
use Rattle.format.specs.Checksum.Making.{made, refused as not_made}

-- The sum of the octets, and the sum of each octet times its position. The positions go on from one to the next.
unfoldable pub octet_sum : List ℕ → ℕ
octet_sum [] = 0
octet_sum (a ∷ l) = a + octet_sum l

unfoldable pub position_sum : (position : ℕ) → List ℕ → ℕ
position_sum i [] = 0
position_sum i (a ∷ l) = i * a + position_sum (suc i) l

-- An LSA whose checksum is right: of the bytes after the age, the first of which is at position 1, both sums are zero modulo
-- 255, and bytes 16 and 17 are not both zero.
pub record Good (lsa : List ℕ) : Type 0 where
  pub octets : octet_sum (drop 2 lsa) % 255 ≡ 0
  pub positions : position_sum 1 (drop 2 lsa) % 255 ≡ 0
  pub some_field : get_or lsa 16 0 ≡ 0 → get_or lsa 17 0 ≡ 0 → ⊥

-- 13: fewer than 20 bytes, or more than 65,535.
abbrev pub NoLsa : List ℕ → Type 0
NoLsa lsa = (length lsa < 20) ⊎ (65535 < length lsa)

abbrev pub Lsa : List ℕ → Type 0
Lsa lsa = (20 ≤ length lsa) × (length lsa ≤ 65535)

-- The check's answer.
pub record Checks (lsa : List ℕ) (answer : Check) : Type 0 where
  pub thirteen : (answer ≡ refused 13) ↔ NoLsa lsa
  pub is_good_lem : (answer ≡ good) ↔ (Lsa lsa × Good lsa)
  pub is_bad : (answer ≡ bad) ↔ (Lsa lsa × (Good lsa → ⊥))
  pub no_other : (n : ℕ) → answer ≡ refused n → n ≡ 13

-- Two LSAs that are the same but for the bytes 16 and 17; and a field's byte as the making writes it.
pub record SameElsewhere (x y : List ℕ) : Type 0 where
  pub as_long : length x ≡ length y
  pub elsewhere : (i : ℕ) → (i ≡ 16 → ⊥) → (i ≡ 17 → ⊥) → get_or x i 0 ≡ get_or y i 0

abbrev pub Octet : ℕ → Type 0
Octet x = (1 ≤ x) × (x ≤ 255)

-- The checksum of an LSA was made: no other byte changed, the LSA is good, and with no other two bytes from 1 to 255 it is.
pub record Made (before after : List ℕ) : Type 0 where
  pub same : SameElsewhere after before
  pub first : Octet (get_or after 16 0)
  pub second : Octet (get_or after 17 0)
  pub good : Good after
  pub only : (other : List ℕ) → SameElsewhere other before → Octet (get_or other 16 0) → Octet (get_or other 17 0) → Good other → other ≡ after

-- The making's answer is those two bytes; refused, it changes nothing.
pub record Makes (before after : List ℕ) (answer : Making) : Type 0 where
  pub thirteen : (answer ≡ not_made 13) ↔ NoLsa before
  pub makes : Lsa before → (answer ≡ made (get_or after 16 0) (get_or after 17 0)) × Made before after
  pub leaves : NoLsa before → after ≡ before
  pub no_other : (n : ℕ) → answer ≡ not_made n → n ≡ 13

-- One byte of an LSA changed, at a place that the checksum covers.
pub record Damaged (lsa : List ℕ) (i : ℕ) (damaged : List ℕ) : Type 0 where
  pub covered : 2 ≤ i
  pub within : i < length lsa
  pub as_long : length damaged ≡ length lsa
  pub elsewhere : (j : ℕ) → (j ≡ i → ⊥) → get_or damaged j 0 ≡ get_or lsa j 0
  pub was_byte : get_or lsa i 0 < 256
  pub is_byte : get_or damaged i 0 < 256
  pub changed : get_or damaged i 0 ≡ get_or lsa i 0 → ⊥

-- 0 for 255, or 255 for 0: the two bytes that are the same modulo 255.
abbrev pub Alike : (was is : ℕ) → Type 0
Alike was is = ((was ≡ 0) × (is ≡ 255)) ⊎ ((was ≡ 255) × (is ≡ 0))

-- Every change of a good LSA is found but those; and those are found exactly if they leave the field zero.
abbrev pub Found : Type 0
Found = (lsa : List ℕ) (i : ℕ) (damaged : List ℕ) → Good lsa → Damaged lsa i damaged
    → Good damaged ↔ (Alike (get_or lsa i 0) (get_or damaged i 0) × (get_or damaged 16 0 ≡ 0 → get_or damaged 17 0 ≡ 0 → ⊥))
