-- A header's entries are those of an LSA's first bytes, whatever follows.
use Prim.Native.Nat.{ℕ, ◌+◌, ◌≤◌}
use native.Mathlib.Omega.{arith}
use mathlib.Core.Path.{◌≡◌}
use mathlib.Core.List.{List}
use lib.ListN.{get_or, take}
use lib.Seq.{get_or-take}
use Rattle.format.specs.Bytes.{be16_at, be32_at}
use Rattle.format.specs.Header.{header_size, header_entries2, header_entries3}

module _ (d : List ℕ) where
  byte : (p : ℕ) → p + 1 ≤ header_size → get_or (take header_size d) p 0 ≡ get_or d p 0
  byte p h = get_or-take header_size d p 0 (omega arith)

  two : (p : ℕ) → p + 2 ≤ header_size → be16_at (take header_size d) p ≡ be16_at d p
  two p h = rw (byte p (omega arith), byte (p + 1) (omega arith))

  four : (p : ℕ) → p + 4 ≤ header_size → be32_at (take header_size d) p ≡ be32_at d p
  four p h = rw (two p (omega arith), two (p + 2) (omega arith))

  pub front2 : (o : ℕ) → header_entries2 (take header_size d) o ≡ header_entries2 d o
  unfolding header_entries2
  front2 o = rw (
    two 0 (omega arith),
    byte 2 (omega arith),
    byte 3 (omega arith),
    four 4 (omega arith),
    four 8 (omega arith),
    four 12 (omega arith),
    two 16 (omega arith),
    two 18 (omega arith),
    byte 4 (omega arith),
    byte 5 (omega arith),
    two 6 (omega arith),
  )

  pub front3 : (o : ℕ) → header_entries3 (take header_size d) o ≡ header_entries3 d o
  unfolding header_entries3
  front3 o = rw (
    two 0 (omega arith),
    two 2 (omega arith),
    four 4 (omega arith),
    four 8 (omega arith),
    four 12 (omega arith),
    two 16 (omega arith),
    two 18 (omega arith),
  )
