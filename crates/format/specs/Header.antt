-- The LSA header of 20 bytes, its entries in a strip, its reading from bytes, and which of two instances is newer.
use Rattle.std.specs.Prelude.{ℕ, ◌+◌, ◌%◌, Bool, true, false, cond, List, [], ◌∷◌, ◌++◌, length, get_or, leb, ltb, eqb}
use Rattle.format.specs.Bytes.{be16_at, be32_at}
use Rattle.format.specs.Strip.{Entry}
use Rattle.format.specs.Layout.{Layout, entries_at}
use Rattle.format.specs.Layout.Field.{u8, u16, u24, u32, ip4}
use Rattle.format.specs.Layout.Row.{row}

-- The header's length, MaxAge and MaxAgeDiff (RFC 2328 A.4.1 and appendix B).
abbrev pub header_size : ℕ
header_size = 20

abbrev pub max_age : ℕ
max_age = 3600

abbrev pub max_age_diff : ℕ
max_age_diff = 900

-- RFC 5250 3: the LS types of opaque LSAs are 9, 10 and 11.
abbrev pub is_opaque : ℕ → Bool
is_opaque t = cond (leb 9 t) (leb t 11) false

-- RFC 5250 3: the Link State ID of an opaque LSA is an opaque type and an opaque id of 24 bits.
abbrev pub opaque_rows : Layout
opaque_rows =
    row 4 u8 8 ∷  -- Opaque Type
    row 5 u24 9 ∷  -- Opaque ID
    []

abbrev pub opaque_entries : List ℕ → ℕ → List Entry
opaque_entries b o = entries_at opaque_rows b o 0

-- What tells the instances of one LSA apart, besides its age. It lies alike in both versions, and its ids follow one
-- another.
abbrev pub instance_rows : ℕ → Layout
instance_rows i =
    row 12 u32 i ∷  -- LS sequence number
    row 16 u16 (i + 1) ∷  -- LS checksum
    row 18 u16 (i + 2) ∷  -- length
    []

abbrev pub instance_entries : ℕ → List ℕ → ℕ → List Entry
instance_entries i b o = entries_at (instance_rows i) b o 0

-- RFC 2328 A.4.1: what comes before that in a header of version 2.
abbrev pub identity_rows2 : Layout
identity_rows2 =
    row 0 u16 0 ∷  -- LS age
    row 2 u8 1 ∷  -- Options
    row 3 u8 2 ∷  -- LS type
    row 4 ip4 3 ∷  -- Link State ID
    row 8 ip4 4 ∷  -- Advertising Router
    []

abbrev pub identity_entries2 : List ℕ → ℕ → List Entry
identity_entries2 b o = entries_at identity_rows2 b o 0

-- RFC 5340 A.4.2: the same in version 3.
abbrev pub identity_rows3 : Layout
identity_rows3 =
    row 0 u16 0 ∷  -- LS age
    row 2 u16 1 ∷  -- LS type
    row 4 u32 2 ∷  -- Link State ID
    row 8 ip4 3 ∷  -- Advertising Router
    []

abbrev pub identity_entries3 : List ℕ → ℕ → List Entry
identity_entries3 b o = entries_at identity_rows3 b o 0

-- The whole header of version 2, with the parts of an opaque LSA's Link State ID after it.
unfoldable pub header_entries2 : List ℕ → ℕ → List Entry
header_entries2 b o = identity_entries2 b o ++ (instance_entries 5 b o ++ cond (is_opaque (get_or b 3 0)) (opaque_entries b o) [])

-- The whole header of version 3.
unfoldable pub header_entries3 : List ℕ → ℕ → List Entry
header_entries3 b o = identity_entries3 b o ++ instance_entries 4 b o

-- What both versions' headers say, as numbers.
pub record Header : Type 0 where
  pub age : ℕ
  pub ls_type : ℕ
  pub link_state_id : ℕ
  pub advertising_router : ℕ
  pub sequence_number : ℕ
  pub checksum : ℕ
  pub size : ℕ

-- The header in the bytes of b, where its LS type is t. The versions differ in where that stands.
abbrev pub header_with : ℕ → List ℕ → Header
header_with t b = record {
  age = be16_at b 0;
  ls_type = t;
  link_state_id = be32_at b 4;
  advertising_router = be32_at b 8;
  sequence_number = be32_at b 12;
  checksum = be16_at b 16;
  size = be16_at b 18;
}

abbrev pub header2 : List ℕ → Header
header2 b = header_with (get_or b 3 0) b

abbrev pub header3 : List ℕ → Header
header3 b = header_with (be16_at b 2) b

-- A choice on the version, 2 or 3.
abbrev pub header_at : (version : ℕ) → List ℕ → Header
header_at v b = cond (eqb v 2) (header2 b) (header3 b)

-- The versions of OSPF that have these headers.
abbrev pub is_known : ℕ → Bool
is_known v = cond (eqb v 2) true (eqb v 3)

-- What reading a header comes to.
pub data Reading : Type 0 where
  header : Header → Reading
  refused : (number : ℕ) → Reading

-- The header at the front of the bytes. 1: the version is neither 2 nor 3; 4: too few bytes.
unfoldable pub read_header : (version : ℕ) → List ℕ → Reading
read_header v b =
    cond (is_known v)
    (cond (ltb (length b) header_size) (refused 4)
    (header (header_at v b)))
    (refused 1)

-- Which of two instances of an LSA is newer.
pub data Newness : Type 0 where
  first : Newness
  second : Newness
  same : Newness
  refused : (number : ℕ) → Newness

-- The place of a sequence number of 32 bits in the signed order: the numbers from 2 ^ 31 on are negative and come first.
abbrev pub signed_rank : ℕ → ℕ
signed_rank n = (n + 2147483648) % 4294967296

-- The first where x is above y, the second where y is above x, else what is left to compare.
abbrev pub larger : ℕ → ℕ → Newness → Newness
larger x y otherwise = cond (ltb y x) first (cond (ltb x y) second otherwise)

-- MaxAge: an age of exactly 3,600 is the newer where only one has it.
abbrev pub aged : ℕ → ℕ → Newness → Newness
aged x y otherwise = cond (eqb x max_age) (cond (eqb y max_age) otherwise first) (cond (eqb y max_age) second otherwise)

-- MaxAgeDiff: the smaller age is the newer where the ages differ by more than 900.
abbrev pub younger : ℕ → ℕ → Newness
younger x y = cond (ltb (x + max_age_diff) y) first (cond (ltb (y + max_age_diff) x) second same)

-- RFC 2328 13.1: the larger signed sequence number, then the larger checksum, then MaxAge, then the younger by more than
-- MaxAgeDiff; else the same. 11: an age is above MaxAge.
unfoldable pub newness : Header → Header → Newness
newness x y =
    cond (ltb max_age x.age) (refused 11)
    (cond (ltb max_age y.age) (refused 11)
    (larger (signed_rank x.sequence_number) (signed_rank y.sequence_number)
    (larger x.checksum y.checksum
    (aged x.age y.age
    (younger x.age y.age)))))

-- The same of two readings: a header that is not read has no newness.
abbrev pub newness_read : Reading → Reading → Newness
newness_read (refused n) y = refused n
newness_read (header x) (refused n) = refused n
newness_read (header x) (header y) = newness x y

-- The same of two LSAs of one version, by their bytes.
unfoldable pub newness_at : (version : ℕ) → List ℕ → List ℕ → Newness
newness_at v x y = newness_read (read_header v x) (read_header v y)
