-- The book: a table of rows, each the header of an LSA that was taken, and what a whole update makes of it.
use Rattle.std.specs.Prelude.{ℕ, suc, ◌+◌, Bool, true, false, cond, List, [], ◌∷◌, get_or, set, map, ltb, eqb}
use Rattle.std.proofs.Math.Option.{Option, none, some}
use Rattle.format.specs.Bytes.{part}
use Rattle.format.specs.Cut.{cut, record_rule}
use Rattle.format.specs.Header.{Header, Newness, header_at, newness, max_age}
use Rattle.format.specs.Header.Newness.{first, second, same, refused}
use Rattle.format.specs.Walks.{refusal, first_lsa}

-- A row. It is used where its mark is not zero; what else lies in an unused row says nothing.
pub record Row : Type 0 where
  pub version : ℕ
  pub used : ℕ
  pub ls_type : ℕ
  pub link_state_id : ℕ
  pub advertising_router : ℕ
  pub sequence_number : ℕ
  pub checksum : ℕ
  pub age : ℕ

abbrev pub is_free : Row → Bool
is_free r = eqb r.used 0

-- The row of an LSA of a version, by its header: of version 3 the LS type has all 16 bits.
abbrev pub row_of : (version : ℕ) → Header → Row
row_of v h = record {
  version = v;
  used = 1;
  ls_type = h.ls_type;
  link_state_id = h.link_state_id;
  advertising_router = h.advertising_router;
  sequence_number = h.sequence_number;
  checksum = h.checksum;
  age = h.age;
}

-- The rows of LSAs end to end from p, at most as many as the count; and of those of an update, in their order.
unfoldable pub rows_from : (version : ℕ) → List ℕ → (count p : ℕ) → List Row
rows_from v d count p = map (λ s. row_of v (header_at v (part d s.at s.len))) (cut record_rule d count p)

abbrev pub rows_of : (version : ℕ) → List ℕ → (count : ℕ) → List Row
rows_of v d count = rows_from v d count first_lsa

-- What tells LSAs apart: RFC 2328 12.1 has LS type, Link State ID and Advertising Router; and the version of OSPF.
unfoldable pub same_identity : Row → Row → Bool
same_identity r s =
    cond (eqb r.version s.version)
    (cond (eqb r.ls_type s.ls_type)
    (cond (eqb r.link_state_id s.link_state_id)
    (eqb r.advertising_router s.advertising_router)
    false) false) false

-- Whether a row of the table is used, and has the identity of r.
abbrev pub is_of : Row → Row → Bool
is_of r s = cond (is_free s) false (same_identity r s)

-- What a row says of newness: all of a header but its length.
abbrev pub header_of : Row → Header
header_of r = record {
  age = r.age;
  ls_type = r.ls_type;
  link_state_id = r.link_state_id;
  advertising_router = r.advertising_router;
  sequence_number = r.sequence_number;
  checksum = r.checksum;
  size = 0;
}

-- Whether the first is the newer.
abbrev pub is_first : Newness → Bool
is_first first = true
is_first second = false
is_first same = false
is_first (refused n) = false

abbrev pub is_newer : Row → Row → Bool
is_newer r s = is_first (newness (header_of r) (header_of s))

-- The place of the first row for which a test holds.
unfoldable pub place_of : (Row → Bool) → List Row → Option ℕ
place_of f [] = none
place_of f (r ∷ rs) = cond (f r) (some 0) (elim (place_of f rs) [ none ↦ none | some i ↦ some (suc i) ])

-- A table, and how many of its rows were replaced and added.
pub record Book : Type 0 where
  pub rows : List Row
  pub replaced : ℕ
  pub added : ℕ

-- One LSA, by its row: the used row of the same identity is replaced where this one is newer; a new identity takes the first unused row.
unfoldable pub take_one : Row → Book → Book
take_one r b =
    elim (place_of (is_of r) b.rows) [
      | some i ↦ cond (is_newer r (get_or b.rows i r)) (record { rows = set b.rows i r; replaced = b.replaced + 1; added = b.added }) b
      | none ↦ elim (place_of is_free b.rows) [ none ↦ b | some i ↦ record { rows = set b.rows i r; replaced = b.replaced; added = b.added + 1 } ]
    ]

-- All LSAs of an update, in their order.
unfoldable pub take_all : List Row → Book → Book
take_all [] b = b
take_all (r ∷ rs) b = take_all rs (take_one r b)

-- Whether a test holds for some row.
unfoldable pub any : (Row → Bool) → List Row → Bool
any f [] = false
any f (r ∷ rs) = cond (f r) true (any f rs)

abbrev pub is_old : Row → Bool
is_old r = ltb max_age r.age

-- Whether two used rows share an identity.
unfoldable pub is_twice : List Row → Bool
is_twice [] = false
is_twice (r ∷ rs) = cond (cond (is_free r) false (any (is_of r) rs)) true (is_twice rs)

-- How many unused rows there are; and how many distinct new identities: of rows whose identity neither a used row of the table has nor an earlier one.
unfoldable pub free_rows : List Row → ℕ
free_rows [] = 0
free_rows (r ∷ rs) = cond (is_free r) (suc (free_rows rs)) (free_rows rs)

unfoldable pub new_identities : List Row → List Row → ℕ
new_identities known [] = 0
new_identities known (r ∷ rs) = cond (any (is_of r) known) (new_identities known rs) (suc (new_identities (r ∷ known) rs))

-- 11: an LSA's age or a used row's is above MaxAge; 14: two used rows share an identity; 15: more new identities than unused rows.
abbrev pub row_refusal : List Row → List Row → ℕ
row_refusal rs t =
    cond (any is_old rs) 11
    (cond (any (λ r. cond (is_free r) false (is_old r)) t) 11
    (cond (is_twice t) 14
    (cond (ltb (free_rows t) (new_identities t rs)) 15
    0)))

-- The number of a refusal of an update that is taken against a table: of the update's walk first.
unfoldable pub book_refusal : (version : ℕ) → List ℕ → (count offset : ℕ) → List Row → ℕ
book_refusal v d count o t =
    cond (eqb (refusal v d o first_lsa) 0) (row_refusal (rows_of v d count) t) (refusal v d o first_lsa)

-- What an update comes to: the refusal's number, and the table with its counts.
pub record Taken : Type 0 where
  pub number : ℕ
  pub book : Book

unfoldable pub book_update : (version : ℕ) → List ℕ → (count offset : ℕ) → List Row → Taken
book_update v d count o t =
    let untouched : Book = record { rows = t; replaced = 0; added = 0 } in
    let n = book_refusal v d count o t in
    record { number = n; book = cond (eqb n 0) (take_all (rows_of v d count) untouched) untouched }
