-- What the tables of examples are made of: bytes that are counted, an LSA with the entries that show it, and what a row
-- of entries holds.
use Prim.Native.Nat.{ℕ, zero, suc}
use mathlib.Core.Path.{◌≡◌}
use mathlib.Core.Bool.{cond}
use mathlib.Core.List.{List, [], ◌∷◌, ◌++◌, map, flat_map}
use lib.ListN.{get_or, set}
use lib.Dec.{eqb}
use Rattle.format.specs.Strip.{Entry, u8_kind, bytes_kind, content}
use Rattle.format.specs.Strip.Entry.{u8, u16, u32, ip4}
use Rattle.format.specs.Walks.{lsa_of, lsa_entries}
use Rattle.format.specs.Walks.Outcome.{accepted}

-- The values of the u8 fields with this id.
abbrev pub values : ℕ → List Entry → List ℕ
values i [] = []
values i (x ∷ es) = cond (eqb (content x).kind u8_kind) (cond (eqb i (content x).id) (get_or (content x).body 9 0 ∷ values i es) (values i es)) (values i es)

-- The ids of the bytes entries.
abbrev pub range_ids : List Entry → List ℕ
range_ids [] = []
range_ids (x ∷ es) = cond (eqb (content x).kind bytes_kind) ((content x).id ∷ range_ids es) (range_ids es)

-- The bytes that have one bit.
abbrev pub bits : List ℕ
bits = 0x80 ∷ 0x40 ∷ 0x20 ∷ 0x10 ∷ 0x08 ∷ 0x04 ∷ 0x02 ∷ 0x01 ∷ []

-- The numbers from 0 on, so many.
abbrev pub up_to : ℕ → List ℕ
up_to zero = []
up_to (suc n) = up_to n ++ (n ∷ [])

-- So many bytes, each one more than its place, so that a value names the bytes that it is read from; but for some, each
-- by its place.
pub data Byte : Type 0 where
  but : (place value : ℕ) → Byte

abbrev pub counted : ℕ → List Byte → List ℕ
counted n [] = map suc (up_to n)
counted n (but k v ∷ bs) = set (counted n bs) k v

-- The entries of a header of counted bytes at the place 1,000, by its LS type, and those after it; in version 2 by its
-- Link State ID too.
abbrev pub header2 : ℕ → ℕ → List Entry → List Entry
header2 t id es =
    u16 0 1000 1002 0x0102 ∷
    u8 1 1002 1003 0x03 ∷
    u8 2 1003 1004 t ∷
    ip4 3 1004 1008 id ∷
    ip4 4 1008 1012 0x090a0b0c ∷
    u32 5 1012 1016 0x0d0e0f10 ∷
    u16 6 1016 1018 0x1112 ∷
    u16 7 1018 1020 0x1314 ∷
    es

abbrev pub header3 : ℕ → List Entry → List Entry
header3 t es =
    u16 0 1000 1002 0x0102 ∷
    u16 1 1002 1004 t ∷
    u32 2 1004 1008 0x05060708 ∷
    ip4 3 1008 1012 0x090a0b0c ∷
    u32 4 1012 1016 0x0d0e0f10 ∷
    u16 5 1016 1018 0x1112 ∷
    u16 6 1018 1020 0x1314 ∷
    es

-- An LSA, the entries that show it, and how many of its bytes are left.
pub record Example : Type 0 where
  pub given : List ℕ
  pub shown : List Entry
  pub left : ℕ

-- Every LSA of a table is shown so, at the place 1,000.
abbrev pub AllShown : (version : ℕ) → List Example → Type 0
AllShown v xs = map (λ (x : Example). lsa_of v x.given 1000) xs ≡ map (λ (x : Example). accepted x.shown 1 x.left) xs

-- The id of a u8 field, an LSA by a byte of it, and what the field holds where that byte has one bit alone, from 0x80
-- down.
pub record Flag : Type 0 where
  pub id : ℕ
  pub given : ℕ → List ℕ
  pub held : List ℕ

abbrev pub flag : ℕ → (ℕ → List ℕ) → List ℕ → Flag
flag i g h = record { id = i; given = g; held = h }

-- Every flag of a table holds that.
abbrev pub AllHeld : (version : ℕ) → List Flag → Type 0
AllHeld v xs = map (λ (x : Flag). flat_map (λ (f : ℕ). values x.id (lsa_entries v (x.given f) 1000)) bits) xs ≡ map (λ (x : Flag). x.held) xs
