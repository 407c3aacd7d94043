-- What the LSA bodies of both versions share: lists, and what follows the part that is decoded.
use Rattle.std.specs.Prelude.{ℕ, ◌+◌, ◌-◌, ◌/◌, cond, length, ltb}
use mathlib.Core.List.{List, [], ◌∷◌, ◌++◌, flat_map}
use Rattle.format.specs.Strip.{Entry, container}
use Rattle.format.specs.Strip.Entry.{bytes}
use Rattle.format.specs.Layout.{Layout, entries_at}
use Rattle.format.specs.Layout.Field.{u8, bit, ip4}
use Rattle.format.specs.Layout.Row.{row}
use Rattle.format.specs.Cut.{Span, cut, after, fixed_rule}

-- A body is decoded, up to a place, or it is raw.
pub data Body : Type 0 where
  decoded : (entries : List Entry) (consumed : ℕ) → Body
  raw : Body

-- An array of the entries of a list that begins at p and ends after its last span.
unfoldable pub listing : ℕ → (Span → List Entry) → ℕ → ℕ → List Span → List Entry
listing i f o p ss = container i (o + p) (o + after p ss) (flat_map f ss)

-- The same, not opened where the list is empty.
unfoldable pub listing_if_any : ℕ → (Span → List Entry) → ℕ → ℕ → List Span → List Entry
listing_if_any i f o p [] = []
listing_if_any i f o p (s ∷ ss) = listing i f o p (s ∷ ss)

-- As many entries of n bytes as b holds from p on.
unfoldable pub whole : ℕ → List ℕ → ℕ → List Span
whole n b p = cut (fixed_rule n) b ((length b - p) / n) p

-- The bytes from p to the end of b, where there are any.
unfoldable pub leftover : ℕ → List ℕ → ℕ → ℕ → List Entry
leftover i b o p = cond (ltb p (length b)) (bytes i (o + p) (o + length b) ∷ []) []

-- A body's own entries. A raw body has none.
abbrev pub own_of : Body → List Entry
own_of (decoded es n) = es
own_of raw = []

-- What is left of a body after them: unparsed bytes after what was decoded, or the whole of a raw body.
abbrev pub rest_of : (rawId unparsed_id : ℕ) → Body → List ℕ → ℕ → List Entry
rest_of r u (decoded es n) b o = leftover u b o n
rest_of r u raw b o = leftover r b o 0

-- A body's entries, with what is left of it.
unfoldable pub body_entries : (rawId unparsed_id : ℕ) → Body → List ℕ → ℕ → List Entry
body_entries r u x b o = own_of x ++ rest_of r u x b o

-- How many bytes stay unparsed. A raw body leaves none.
unfoldable pub body_tail : Body → List ℕ → ℕ
body_tail (decoded es n) b = length b - n
body_tail raw b = 0

-- The id of a link's object in a Router-LSA of either version.
abbrev pub link_object : ℕ
link_object = 96

-- The flags of a router in either version, whose ids follow one another (RFC 2328 A.4.2, RFC 5340 A.4.3, and RFC 3101 for
-- the Nt bit).
abbrev pub router_flag_rows : ℕ → Layout
router_flag_rows i =
    row 0 u8 i ∷  -- flags
    row 0 (bit 0x10) (i + 1) ∷  -- Nt
    row 0 (bit 0x04) (i + 2) ∷  -- V
    row 0 (bit 0x02) (i + 3) ∷  -- E
    row 0 (bit 0x01) (i + 4) ∷  -- B
    []

abbrev pub router_flags : ℕ → List ℕ → ℕ → List Entry
router_flags i b o = entries_at (router_flag_rows i) b o 0

-- A router's id in a Network-LSA of either version (RFC 2328 A.4.3, RFC 5340 A.4.4).
abbrev pub attached_router_rows : Layout
attached_router_rows =
    row 0 ip4 98 ∷  -- Attached Router
    []

unfoldable pub attached_router : List ℕ → ℕ → Span → List Entry
attached_router b o s = entries_at attached_router_rows b o s.at
