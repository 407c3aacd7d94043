-- LSA bodies of version 2: RFC 2328 A.4, RFC 3101 for the Nt bit and type 7, RFC 5250 for opaque LSAs.
use Rattle.std.specs.Prelude.{ℕ, ◌+◌, Bool, true, cond, List, [], ◌∷◌, ◌++◌, length, get_or, drop, ltb, eqb}
use Rattle.format.specs.Bytes.{be16_at}
use Rattle.format.specs.Strip.{Entry, container}
use Rattle.format.specs.Strip.Entry.{bytes}
use Rattle.format.specs.Layout.{Layout, entries_at}
use Rattle.format.specs.Layout.Field.{u8, bit, low_bits, u16, wide16, metric24, u32, ip4}
use Rattle.format.specs.Layout.Row.{row}
use Rattle.format.specs.Cut.{Span, cut, after, link_rule, fixed_rule}
use Rattle.format.specs.Header.{header_size, header_entries2}
use Rattle.format.specs.Body.{Body, link_object, listing, listing_if_any, whole, router_flag_rows, attached_router, body_entries, body_tail}
use Rattle.format.specs.Body.Body.{decoded, raw}

-- Ids that stand in more than one table: of a body, and of the TOS metrics in it. Those of the flags follow one another.
abbrev flags : ℕ
flags = 10

abbrev flag_e : ℕ
flag_e = flags + 3

abbrev network_mask : ℕ
network_mask = 17

abbrev metric : ℕ
metric = 19

abbrev tos_metrics : ℕ
tos_metrics = 20

abbrev tos : ℕ
tos = 81

abbrev tos_metric : ℕ
tos_metric = 82

-- The object of a TOS metric of n bytes.
abbrev tos_object : Layout → ℕ → List ℕ → ℕ → Span → List Entry
tos_object t n b o s = container 97 (o + s.at) (o + s.at + n) (entries_at t b o s.at)

-- RFC 2328 A.4.2: a link's TOS metric, of 16 bits.
abbrev pub link_tos_rows : Layout
link_tos_rows =
    row 0 u8 tos ∷  -- TOS
    row 2 wide16 tos_metric ∷  -- TOS metric
    []

unfoldable pub link_tos : List ℕ → ℕ → Span → List Entry
link_tos b o s = tos_object link_tos_rows 4 b o s

-- The TOS metrics of the link at p, as many as its byte 9 says.
abbrev pub link_tos_spans : List ℕ → ℕ → List Span
link_tos_spans b p = cut (fixed_rule 4) b (get_or b (p + 9) 0) (p + 12)

-- RFC 2328 A.4.2: a link, before its TOS metrics.
abbrev pub link_rows : Layout
link_rows =
    row 0 ip4 64 ∷  -- Link ID
    row 4 ip4 65 ∷  -- Link Data
    row 8 u8 66 ∷  -- Type
    row 9 u8 67 ∷  -- # TOS
    row 10 u16 68 ∷  -- metric
    []

abbrev pub link_fields : List ℕ → ℕ → ℕ → List Entry
link_fields b o p = entries_at link_rows b o p

-- What is inside a link.
abbrev pub link_inside : List ℕ → ℕ → Span → List Entry
link_inside b o s = link_fields b o s.at ++ listing_if_any 69 (link_tos b o) o (s.at + 12) (link_tos_spans b s.at)

unfoldable pub link : List ℕ → ℕ → Span → List Entry
link b o s = container link_object (o + s.at) (o + s.at + s.len) (link_inside b o s)

-- The links of a Router-LSA, from the first on, under its own count.
abbrev pub first_link : ℕ
first_link = 4

abbrev pub links : List ℕ → List Span
links b = cut link_rule b (be16_at b 2) first_link

-- RFC 2328 A.4.2: flags, 0, # links, links.
abbrev pub router_rows : Layout
router_rows =
    router_flag_rows flags ++ (
    row 2 u16 15 ∷  -- # links
    [])

unfoldable pub router_lsa2 : List ℕ → ℕ → Body
router_lsa2 b o =
    cond (ltb (length b) first_link) raw
    (decoded (entries_at router_rows b o 0 ++ listing 16 (link b o) o first_link (links b)) (after first_link (links b)))

-- RFC 2328 A.4.3: Network Mask, Attached Routers.
abbrev pub network_rows : Layout
network_rows =
    row 0 ip4 network_mask ∷  -- Network Mask
    []

unfoldable pub network_lsa2 : List ℕ → ℕ → Body
network_lsa2 b o =
    cond (ltb (length b) 4) raw
    (decoded (entries_at network_rows b o 0 ++ listing 18 (attached_router b o) o 4 (whole 4 b 4)) (after 4 (whole 4 b 4)))

-- RFC 2328 A.4.4: a summary's TOS metric, of 24 bits.
abbrev pub summary_tos_rows : Layout
summary_tos_rows =
    row 0 u8 tos ∷  -- TOS
    row 1 metric24 tos_metric ∷  -- TOS metric
    []

unfoldable pub summary_tos : List ℕ → ℕ → Span → List Entry
summary_tos b o s = tos_object summary_tos_rows 4 b o s

-- RFC 2328 A.4.4: Network Mask, 0, metric, TOS metrics.
abbrev pub summary_rows : Layout
summary_rows =
    row 0 ip4 network_mask ∷  -- Network Mask
    row 5 metric24 metric ∷  -- metric
    []

unfoldable pub summary_lsa : List ℕ → ℕ → Body
summary_lsa b o =
    cond (ltb (length b) 8) raw
    (decoded (entries_at summary_rows b o 0 ++ listing_if_any tos_metrics (summary_tos b o) o 8 (whole 4 b 8)) (after 8 (whole 4 b 8)))

-- RFC 2328 A.4.5: an external's TOS metric.
abbrev pub external_tos_rows : Layout
external_tos_rows =
    row 0 (bit 0x80) 80 ∷  -- E
    row 0 (low_bits 0x80) tos ∷  -- TOS
    row 1 metric24 tos_metric ∷  -- TOS metric, of type 1 or 2 by E
    row 4 ip4 83 ∷  -- Forwarding address
    row 8 u32 84 ∷  -- External Route Tag
    []

abbrev pub external_tos_fields : List ℕ → ℕ → ℕ → List Entry
external_tos_fields b o p = entries_at external_tos_rows b o p

unfoldable pub external_tos : List ℕ → ℕ → Span → List Entry
external_tos b o s = tos_object external_tos_rows 12 b o s

-- RFC 2328 A.4.5 and RFC 3101: Network Mask, then the rest for TOS 0; TOS metrics.
abbrev pub external_rows : Layout
external_rows =
    row 0 ip4 network_mask ∷  -- Network Mask
    row 4 (bit 0x80) flag_e ∷  -- E
    row 5 metric24 metric ∷  -- metric, of type 1 or 2 by E
    row 8 ip4 21 ∷  -- Forwarding address
    row 12 u32 22 ∷  -- External Route Tag
    []

abbrev pub external_fields : List ℕ → ℕ → List Entry
external_fields b o = entries_at external_rows b o 0

unfoldable pub external_lsa2 : List ℕ → ℕ → Body
external_lsa2 b o =
    cond (ltb (length b) 16) raw
    (decoded (external_fields b o ++ listing_if_any tos_metrics (external_tos b o) o 16 (whole 12 b 16)) (after 16 (whole 12 b 16)))

-- Opaque types whose bodies are TLVs: Traffic Engineering (RFC 3630), Router Information (RFC 7770), Extended Prefix and
-- Extended Link (RFC 7684).
abbrev pub opaque_has_tlvs : ℕ → Bool
opaque_has_tlvs t = cond (eqb t 1) true (cond (eqb t 4) true (cond (eqb t 7) true (eqb t 8)))

-- RFC 5250 3: an opaque LSA's body, by its opaque type. TLVs are not opened.
unfoldable pub opaque_lsa : ℕ → List ℕ → ℕ → Body
opaque_lsa t b o = cond (opaque_has_tlvs t) (decoded (bytes 24 o (o + length b) ∷ []) (length b)) raw

-- The body of an LS type. RFC 2328 A.4.1 has types 1 to 5, RFC 3101 type 7, RFC 5250 types 9 to 11.
unfoldable pub body2 : (ls_type opaqueType : ℕ) → List ℕ → ℕ → Body
body2 t u b o =
    cond (eqb t 1) (router_lsa2 b o)
    (cond (eqb t 2) (network_lsa2 b o)
    (cond (eqb t 3) (summary_lsa b o)
    (cond (eqb t 4) (summary_lsa b o)
    (cond (eqb t 5) (external_lsa2 b o)
    (cond (eqb t 7) (external_lsa2 b o)
    (cond (eqb t 9) (opaque_lsa u b o)
    (cond (eqb t 10) (opaque_lsa u b o)
    (cond (eqb t 11) (opaque_lsa u b o)
    raw))))))))

-- The body of a whole LSA, d, whose first byte is at the place o.
abbrev pub body_of2 : List ℕ → ℕ → Body
body_of2 d o = body2 (get_or d 3 0) (get_or d 4 0) (drop header_size d) (o + header_size)

-- The ids of a raw body and of unparsed bytes.
abbrev pub raw_id2 : ℕ
raw_id2 = 23

abbrev pub unparsed_id2 : ℕ
unparsed_id2 = 25

-- A whole LSA: header, body, and what is left. It depends on the LSA's bytes and its place alone.
unfoldable pub lsa_entries2 : List ℕ → ℕ → List Entry
lsa_entries2 d o = header_entries2 d o ++ body_entries raw_id2 unparsed_id2 (body_of2 d o) (drop header_size d) (o + header_size)

-- The bytes of an LSA that stay unparsed.
unfoldable pub lsa_tail2 : List ℕ → ℕ
lsa_tail2 d = body_tail (body_of2 d 0) (drop header_size d)
