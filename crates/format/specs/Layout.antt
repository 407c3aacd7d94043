-- Records of fixed fields as tables, a row for each entry that a strip shows of the record.
use Rattle.std.specs.Prelude.{ℕ, zero, suc, ◌+◌, List, map}
use Rattle.format.specs.Strip.{Entry, u8_at, bit_at, low_bits_at, u16_at, wide16_at, u24_at, metric24_at, u32_at, u64_at, ip4_at}
use Rattle.format.specs.Prefix.{ip6_at}

-- What stands at a row's place, and so how it is shown. A weight names the one bit of a byte that has it, or, of
-- `low_bits`, all bits below it. A metric of 24 bits is apart from other numbers of 24 bits.
pub data Field : Type 0 where
  u8 : Field
  bit : (weight : ℕ) → Field
  low_bits : (weight : ℕ) → Field
  u16 : Field
  wide16 : Field
  u24 : Field
  metric24 : Field
  u32 : Field
  u64 : Field
  ip4 : Field
  ip6 : (octets : ℕ) → Field

-- A place in the record, what stands there, and the id of its entry.
pub data Row : Type 0 where
  row : (place : ℕ) → Field → (id : ℕ) → Row

abbrev pub Layout : Type 0
Layout = List Row

-- A place counted from p on. At 0 it is p itself: `p + 0` does not compute to p.
abbrev pub from : ℕ → ℕ → ℕ
from p zero = p
from p (suc k) = p + suc k

-- A row's entry, where the record stands in b from p on, and the first byte of b at the place o.
abbrev pub entry_of : List ℕ → ℕ → ℕ → Row → Entry
entry_of b o p (row k u8 i) = u8_at i b o (from p k)
entry_of b o p (row k (bit w) i) = bit_at i b o (from p k) w
entry_of b o p (row k (low_bits w) i) = low_bits_at i b o (from p k) w
entry_of b o p (row k u16 i) = u16_at i b o (from p k)
entry_of b o p (row k wide16 i) = wide16_at i b o (from p k)
entry_of b o p (row k u24 i) = u24_at i b o (from p k)
entry_of b o p (row k metric24 i) = metric24_at i b o (from p k)
entry_of b o p (row k u32 i) = u32_at i b o (from p k)
entry_of b o p (row k u64 i) = u64_at i b o (from p k)
entry_of b o p (row k ip4 i) = ip4_at i b o (from p k)
entry_of b o p (row k (ip6 n) i) = ip6_at i b o (from p k) n

-- The entries of a record, row by row.
abbrev pub entries_at : Layout → List ℕ → ℕ → ℕ → List Entry
entries_at t b o p = map (entry_of b o p) t
