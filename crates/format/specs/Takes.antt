-- What an update does to a table of rows, without the functions that do it: which rows its LSAs have, what taking them one after
-- another comes to, and which of their identities are new.
use Rattle.std.specs.Prelude.{ℕ, suc, ◌+◌, ◌<◌, ◌≡◌, ◌⊎◌, length, get_or, set}
use mathlib.Core.List.{List, [], ◌∷◌, Memᴰ}
use Rattle.format.specs.Bytes.{be16_at, be32_at}
use Rattle.format.specs.Cut.{Span}
use Rattle.format.specs.Header.{Header}
use Rattle.format.specs.Newer.{Newer}
use Rattle.format.specs.Book.{Row}

-- The row of the LSA that lies at a span of the data, in OSPF of version v (RFC 2328 A.4.1, RFC 5340 A.4.2). It is used. The LS
-- type has one byte in version 2 and two in version 3.
pub record LsaRow (v : ℕ) (d : List ℕ) (s : Span) (r : Row) : Type 0 where
  pub version : r.version ≡ v
  pub used : r.used ≡ 1
  pub ls_type2 : v ≡ 2 → r.ls_type ≡ get_or d (s.at + 3) 0
  pub ls_type3 : v ≡ 3 → r.ls_type ≡ be16_at d (s.at + 2)
  pub link_state_id : r.link_state_id ≡ be32_at d (s.at + 4)
  pub advertising_router : r.advertising_router ≡ be32_at d (s.at + 8)
  pub sequence_number : r.sequence_number ≡ be32_at d (s.at + 12)
  pub checksum : r.checksum ≡ be16_at d (s.at + 16)
  pub age : r.age ≡ be16_at d s.at

-- One row for each span, in their order.
pub data LsaRows (v : ℕ) (d : List ℕ) : List Span → List Row → Type 0 where
  none : LsaRows v d [] []
  one_more : {s : Span} {ss : List Span} {r : Row} {rs : List Row} → LsaRow v d s r → LsaRows v d ss rs → LsaRows v d (s ∷ ss) (r ∷ rs)

-- The row at a place of a table. Past its end no row is used.
abbrev pub no_row : Row
no_row = record { version = 0; used = 0; ls_type = 0; link_state_id = 0; advertising_router = 0; sequence_number = 0; checksum = 0; age = 0 }

abbrev pub row_at : List Row → ℕ → Row
row_at t i = get_or t i no_row

-- A row is used whatever its mark is, if it is not zero.
abbrev pub Used : Row → Type 0
Used r = r.used ≡ 0 → ⊥

-- Two rows share an identity (RFC 2328 12.1).
pub record Same (r s : Row) : Type 0 where
  pub version : r.version ≡ s.version
  pub ls_type : r.ls_type ≡ s.ls_type
  pub link_state_id : r.link_state_id ≡ s.link_state_id
  pub advertising_router : r.advertising_router ≡ s.advertising_router

-- The row at a place is used, and has the identity of r.
abbrev pub HasAt : List Row → Row → ℕ → Type 0
HasAt t r i = Used (row_at t i) × Same r (row_at t i)

-- Two used rows share an identity.
abbrev pub Twice : List Row → Type 0
Twice t = (i : ℕ) × (j : ℕ) × (i < j) × Used (row_at t i) × HasAt t (row_at t i) j

-- A row is newer than another, as headers are; a row has no length, and newness asks for none.
abbrev pub header : Row → Header
header r = record { age = r.age; ls_type = r.ls_type; link_state_id = r.link_state_id; advertising_router = r.advertising_router; sequence_number = r.sequence_number; checksum = r.checksum; size = 0 }

abbrev pub NewerRow : Row → Row → Type 0
NewerRow r s = Newer (header r) (header s)

-- What taking an LSA by its row r makes of a table t: the table afterwards, and how many rows were replaced and added. Where a
-- used row has its identity, that row is replaced if r is newer, and left if it is not; else r takes the first unused row.
pub data TakesOne (r : Row) (t : List Row) : (u : List Row) → (replaced added : ℕ) → Type 0 where
  left : (i : ℕ) → HasAt t r i → (NewerRow r (row_at t i) → ⊥) → TakesOne r t t 0 0
  replaced : (i : ℕ) → HasAt t r i → NewerRow r (row_at t i) → TakesOne r t (set t i r) 1 0
  added : (i : ℕ) → i < length t → (row_at t i).used ≡ 0 → ((j : ℕ) → j < i → Used (row_at t j)) → ((j : ℕ) → HasAt t r j → ⊥) → TakesOne r t (set t i r) 0 1

-- The same of LSAs one after another.
pub data TakesAll : (rs t u : List Row) → (replaced added : ℕ) → Type 0 where
  none : {t : List Row} → TakesAll [] t t 0 0
  one_more : {r : Row} {rs t u w : List Row} {m n k l : ℕ} → TakesOne r t u m n → TakesAll rs u w k l → TakesAll (r ∷ rs) t w (m + k) (n + l)

-- No row of a list shares its identity with a later one.
pub data Distinct : List Row → Type 0 where
  none : Distinct []
  one_more : {r : Row} {rs : List Row} → ((s : Row) → Memᴰ s rs → Same r s → ⊥) → Distinct rs → Distinct (r ∷ rs)

-- The new identities of LSAs: one of their rows for each identity that no used row of the table has, and for no other.
pub record NewIdentities (t rs ns : List Row) : Type 0 where
  pub distinct : Distinct ns
  pub from : (n : Row) → Memᴰ n ns → Memᴰ n rs
  pub new : (n : Row) → Memᴰ n ns → (i : ℕ) → HasAt t n i → ⊥
  pub every : (r : Row) → Memᴰ r rs → ((i : ℕ) × HasAt t r i) ⊎ ((n : Row) × Memᴰ n ns × Same r n)

-- A table has n unused rows.
pub data FreeRows : List Row → ℕ → Type 0 where
  none : FreeRows [] 0
  free : {r : Row} {t : List Row} {n : ℕ} → r.used ≡ 0 → FreeRows t n → FreeRows (r ∷ t) (suc n)
  used : {r : Row} {t : List Row} {n : ℕ} → Used r → FreeRows t n → FreeRows (r ∷ t) n

-- There are more new identities than unused rows.
abbrev pub Outnumbered : (rs t : List Row) → Type 0
Outnumbered rs t = (ns : List Row) × (n : ℕ) × NewIdentities t rs ns × FreeRows t n × (n < length ns)
