-- Address prefixes of version 3 (RFC 5340 A.4.1): "an even multiple of 32-bit words, padding with zero bits".
use Rattle.std.specs.Prelude.{ℕ, zero, suc, ◌+◌, ◌*◌, ◌/◌, ◌%◌, Bool, true, false, cond, List, [], ◌∷◌, ◌++◌, get_or, take, replicate, leb, ltb, eqb}
use Rattle.std.proofs.Math.Option.{Option, none, some}
use Rattle.format.specs.Bytes.{part, be64_at}
use Rattle.format.specs.Strip.{Entry}
use Rattle.format.specs.Strip.Entry.{ip6}

-- The most bits of a prefix.
abbrev pub max_prefix : ℕ
max_prefix = 128

-- The octets of a prefix of so many bits: four for each 32 bits begun, and none above 128 bits.
unfoldable pub octets : ℕ → Option ℕ
octets l = cond (leb l max_prefix) (some ((l + 31) / 32 * 4)) none

-- The address of a prefix: its octets, then zeros to 16. More than 16 octets are cut.
unfoldable pub address : List ℕ → List ℕ
address bs = take 16 (bs ++ replicate 16 0)

-- The n octets of b from p on, as a field whose value is the whole address.
abbrev pub ip6_at : ℕ → List ℕ → ℕ → ℕ → ℕ → Entry
ip6_at i b o p n = ip6 i (o + p) (o + p + n) (be64_at (address (part b p n)) 0) (be64_at (address (part b p n)) 8)

-- The bits of a byte by their weights, the first one first: the most significant (RFC 791, appendix B).
abbrev pub weights : List ℕ
weights = 0x80 ∷ 0x40 ∷ 0x20 ∷ 0x10 ∷ 0x08 ∷ 0x04 ∷ 0x02 ∷ 0x01 ∷ []

-- Bit i of an address, whose first is bit 0: the byte i / 8 has it, by its weight.
abbrev pub address_bit : List ℕ → ℕ → ℕ
address_bit a i = get_or a (i / 8) 0 / get_or weights (i % 8) 0 % 2

-- Whether the first n bits of two addresses agree, each with the bit at its place. Those past them are padding.
unfoldable pub same_bits : ℕ → List ℕ → List ℕ → Bool
same_bits zero a b = true
same_bits (suc n) a b = cond (eqb (address_bit a n) (address_bit b n)) (same_bits n a b) false

-- The prefix comparison's answer.
pub data Comparison : Type 0 where
  same : Comparison
  different : Comparison
  refused : (number : ℕ) → Comparison

-- Two prefixes, each a length in bits and an address of 16 bytes, are the same where the lengths agree and so do the first bits,
-- as many as the length says. 10: a length is above 128.
unfoldable pub comparison : ℕ → List ℕ → ℕ → List ℕ → Comparison
comparison l a m b =
    cond (ltb max_prefix l) (refused 10)
    (cond (ltb max_prefix m) (refused 10)
    (cond (eqb l m) (cond (same_bits l a b) same different) different))
