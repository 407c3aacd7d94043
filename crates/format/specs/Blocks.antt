-- Blocks after a packet, in the requirements' words and numbers: when one stands at the front of the data, and its entries, byte
-- by byte.
use Rattle.std.specs.Prelude.{ℕ, ◌+◌, ◌*◌, ◌≤◌, ◌≡◌, List, [], ◌∷◌, length, get_or}
use Rattle.format.specs.Strip.{Entry}
use Rattle.format.specs.Strip.Entry.{opens, closes, u16, u64, bytes}

-- A block of n bytes: its header is there, n is what the header counts, n has room for the header, and the block lies in the
-- data.
pub record BlockAt (header counted : ℕ) (d : List ℕ) (n : ℕ) : Type 0 where
  pub header_there : header ≤ length d
  pub as_counted : n ≡ counted
  pub covers : header ≤ n
  pub inside : n ≤ length d

-- The header of an LLS block has four bytes, of which 2 and 3 count words of four bytes; that of an authentication trailer has 16,
-- of which 2 and 3 count bytes.
abbrev pub LlsAt : List ℕ → ℕ → Type 0
LlsAt d n = BlockAt 4 (4 * (256 * get_or d 2 0 + get_or d 3 0)) d n

abbrev pub AuthTrailerAt : List ℕ → ℕ → Type 0
AuthTrailerAt d n = BlockAt 16 (256 * get_or d 2 0 + get_or d 3 0) d n

-- The number of the bytes k and k + 1, and of the eight from k on.
abbrev two : List ℕ → ℕ → ℕ
two d k = 256 * get_or d k 0 + get_or d (k + 1) 0

abbrev eight : List ℕ → ℕ → ℕ
eight d k =
    72057594037927936 * get_or d k 0
    + 281474976710656 * get_or d (k + 1) 0
    + 1099511627776 * get_or d (k + 2) 0
    + 4294967296 * get_or d (k + 3) 0
    + 16777216 * get_or d (k + 4) 0
    + 65536 * get_or d (k + 5) 0
    + 256 * get_or d (k + 6) 0
    + get_or d (k + 7) 0

-- The entries of a block of n bytes whose first byte is at the place o.
abbrev pub lls_shown : List ℕ → (o n : ℕ) → List Entry
lls_shown d o n =
    opens 136 o (o + n) 3 ∷
    u16 128 o (o + 2) (two d 0) ∷
    u16 129 (o + 2) (o + 4) (two d 2) ∷
    bytes 130 (o + 4) (o + n) ∷
    closes ∷
    []

abbrev pub auth_trailer_shown : List ℕ → (o n : ℕ) → List Entry
auth_trailer_shown d o n =
    opens 152 o (o + n) 5 ∷
    u16 144 o (o + 2) (two d 0) ∷
    u16 145 (o + 2) (o + 4) (two d 2) ∷
    u16 146 (o + 6) (o + 8) (two d 6) ∷
    u64 147 (o + 8) (o + 16) (eight d 8) ∷
    bytes 148 (o + 16) (o + n) ∷
    closes ∷
    []
