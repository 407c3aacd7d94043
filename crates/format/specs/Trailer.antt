-- Blocks that stand after an OSPF packet: the LLS data block (RFC 5613) and the authentication trailer of OSPFv3 (RFC 7166).
-- Each stands at the front of the data given, under the rule of the entries of a list, or is absent; what follows it is not
-- looked at.
use Rattle.std.specs.Prelude.{ℕ, ◌+◌, ◌*◌, cond, List, [], ◌∷◌, ◌++◌, length, ltb, eqb}
use Rattle.std.proofs.Math.Option.{Option, none, some}
use Rattle.std.proofs.lemmas.List.Edits.{sets}
use Rattle.format.specs.Bytes.{be16_at}
use Rattle.format.specs.Strip.{Entry, encode, container}
use Rattle.format.specs.Strip.Entry.{bytes}
use Rattle.format.specs.Layout.{Layout, entries_at}
use Rattle.format.specs.Layout.Field.{u16, u64}
use Rattle.format.specs.Layout.Row.{row}
use Rattle.format.specs.Cut.{Rule, standing}
use Rattle.format.specs.Walks.{max_data, max_offset}

-- A block of n bytes, whose first byte is at the place o, as an object: the fields of its fixed part, then the rest as one
-- range, empty or not.
abbrev block_object : (object : ℕ) → Layout → (rest fixed : ℕ) → List ℕ → (o n : ℕ) → List Entry
block_object i t r fixed d o n = container i o (o + n) (entries_at t d o 0 ++ (bytes r (o + fixed) (o + n) ∷ []))

-- RFC 5613 2.2:
--
--     0                   1                   2                   3
--     0 1 2 3 4 5 6 7 8 9 0 1 2 3 4 5 6 7 8 9 0 1 2 3 4 5 6 7 8 9 0 1
--    |            Checksum           |       LLS Data Length         |
--    |                           LLS TLVs                            |
abbrev pub lls_header : ℕ
lls_header = 4

abbrev pub lls_rows : Layout
lls_rows =
    row 0 u16 128 ∷  -- Checksum
    row 2 u16 129 ∷  -- LLS Data Length
    []

-- "The 16-bit LLS Data Length field contains the length (in 32-bit words) of the LLS block including the header and payload."
abbrev pub lls_size : List ℕ → ℕ → ℕ
lls_size b p = be16_at b (p + 2) * 4

abbrev pub lls_rule : Rule
lls_rule = standing lls_header (λ b p. some (lls_size b p))

unfoldable pub lls_entries : List ℕ → (o n : ℕ) → List Entry
lls_entries d o n = block_object 136 lls_rows 130 lls_header d o n

-- RFC 7166 4.1:
--
--     0                   1                   2                   3
--     0 1 2 3 4 5 6 7 8 9 0 1 2 3 4 5 6 7 8 9 0 1 2 3 4 5 6 7 8 9 0 1
--    |      Authentication Type      |        Auth Data Len          |
--    |           Reserved            |   Security Association ID     |
--    |           Cryptographic Sequence Number (High-Order 32 Bits)  |
--    |           Cryptographic Sequence Number (Low-Order 32 Bits)   |
--    |                Authentication Data (Variable)                 |
abbrev pub auth_trailer_header : ℕ
auth_trailer_header = 16

abbrev pub auth_trailer_rows : Layout
auth_trailer_rows =
    row 0 u16 144 ∷  -- Authentication Type
    row 2 u16 145 ∷  -- Auth Data Len
    row 6 u16 146 ∷  -- Security Association ID
    row 8 u64 147 ∷  -- Cryptographic Sequence Number
    []

-- Auth Data Len: "The length in octets of the Authentication Trailer (AT) including both the 16-octet fixed header and the
-- variable-length message digest."
abbrev pub auth_trailer_size : List ℕ → ℕ → ℕ
auth_trailer_size b p = be16_at b (p + 2)

abbrev pub auth_trailer_rule : Rule
auth_trailer_rule = standing auth_trailer_header (λ b p. some (auth_trailer_size b p))

unfoldable pub auth_trailer_entries : List ℕ → (o n : ℕ) → List Entry
auth_trailer_entries d o n = block_object 152 auth_trailer_rows 148 auth_trailer_header d o n

-- What a call comes to, whatever the room: a refusal, no block, or a block's entries and its length.
pub data Block : Type 0 where
  refused : (number : ℕ) → Block
  absent : Block
  found : (entries : List Entry) (size : ℕ) → Block

-- The number of the refusal, 0 where there is none. 2: too much data; 3: the offset is too large.
abbrev pub limit : List ℕ → (offset : ℕ) → ℕ
limit d o = cond (ltb max_data (length d)) 2 (cond (ltb max_offset o) 3 0)

unfoldable pub block_of : (number : ℕ) → Option ℕ → (ℕ → List Entry) → Block
block_of number size entries = cond (eqb number 0) (elim size [ none ↦ absent | some n ↦ found (entries n) n ]) (refused number)

abbrev pub lls_of : List ℕ → (offset : ℕ) → Block
lls_of d o = block_of (limit d o) (lls_rule d 0) (lls_entries d o)

abbrev pub auth_trailer_of : List ℕ → (offset : ℕ) → Block
auth_trailer_of d o = block_of (limit d o) (auth_trailer_rule d 0) (auth_trailer_entries d o)

-- The answer where the lent buffer has this much room: the strip's length and the block's; or a refusal's number. 5: the strip
-- is longer; then its length is answered too.
pub data BlockAnswer : Type 0 where
  absent : BlockAnswer
  found : (strip block : ℕ) → BlockAnswer
  refused : (number needed : ℕ) → BlockAnswer

unfoldable pub block_answer : Block → (room : ℕ) → BlockAnswer
block_answer (refused n) room = refused n 0
block_answer absent room = absent
block_answer (found es n) room = cond (ltb room (length (encode es))) (refused 5 (length (encode es))) (found (length (encode es)) n)

-- The buffer after the call: the strip at its front, or as it was.
unfoldable pub block_strip : Block → List ℕ → List ℕ
block_strip (refused n) before = before
block_strip absent before = before
block_strip (found es n) before = cond (ltb (length before) (length (encode es))) before (sets before 0 (encode es))
