-- LSA bodies of version 3: RFC 5340 A.4, RFC 7770 and RFC 8362 for bodies that end in TLVs.
use Rattle.std.specs.Prelude.{ℕ, ◌+◌, ◌-◌, ◌/◌, ◌%◌, Bool, true, false, cond, List, [], ◌∷◌, ◌++◌, length, get_or, drop, leb, ltb, eqb}
use Rattle.std.proofs.Math.Option.{Option, none, some}
use Rattle.format.specs.Bytes.{be16_at, be32_at}
use Rattle.format.specs.Strip.{Entry, container}
use Rattle.format.specs.Strip.Entry.{bytes}
use Rattle.format.specs.Prefix.{octets}
use Rattle.format.specs.Layout.{Row, Layout, entry_of, entries_at}
use Rattle.format.specs.Layout.Field.{u8, bit, u16, wide16, u24, metric24, u32, ip4, ip6}
use Rattle.format.specs.Layout.Row.{row}
use Rattle.format.specs.Cut.{Span, cut, after, prefix_rule}
use Rattle.format.specs.Header.{header_size, header_entries3}
use Rattle.format.specs.Body.{Body, link_object, listing, whole, router_flag_rows, attached_router, body_entries, body_tail}
use Rattle.format.specs.Body.Body.{decoded, raw}

-- Ids that stand in more than one table. Those of a router's flags follow one another.
abbrev flags : ℕ
flags = 7

abbrev flag_e : ℕ
flag_e = flags + 3

abbrev metric : ℕ
metric = 17

abbrev prefix_length : ℕ
prefix_length = 18

abbrev prefix_options : ℕ
prefix_options = 19

abbrev address_prefix : ℕ
address_prefix = 20

abbrev referenced_ls_type : ℕ
referenced_ls_type = 22

abbrev referenced_id : ℕ
referenced_id = 25

abbrev router_priority : ℕ
router_priority = 26

abbrev number_of_prefixes : ℕ
number_of_prefixes = 28

abbrev prefixes : ℕ
prefixes = 29

-- RFC 5340 A.2: the options, of 24 bits. They lie alike in every body that has them.
abbrev pub options_row : Row
options_row = row 1 u24 14

abbrev pub options : List ℕ → ℕ → Entry
options b o = entry_of b o 0 options_row

-- TLVs from p to the end of the body. They are not opened.
abbrev pub tlvs : List ℕ → ℕ → ℕ → List Entry
tlvs b o p = bytes 32 (o + p) (o + length b) ∷ []

-- RFC 5340 A.4.3: a link.
abbrev pub link_rows : Layout
link_rows =
    row 0 u8 64 ∷  -- Type
    row 2 u16 65 ∷  -- Metric
    row 4 u32 66 ∷  -- Interface ID
    row 8 u32 67 ∷  -- Neighbor Interface ID
    row 12 ip4 68 ∷  -- Neighbor Router ID
    []

abbrev pub link_fields : List ℕ → ℕ → ℕ → List Entry
link_fields b o p = entries_at link_rows b o p

unfoldable pub link : List ℕ → ℕ → Span → List Entry
link b o s = container link_object (o + s.at) (o + s.at + 16) (link_fields b o s.at)

-- RFC 5340 A.4.3: flags, Options, and links of 16 bytes, which are not counted.
abbrev pub router_rows : Layout
router_rows =
    router_flag_rows flags ++ (
    options_row ∷  -- Options
    [])

unfoldable pub router_lsa3 : List ℕ → ℕ → Body
router_lsa3 b o =
    cond (ltb (length b) 4) raw
    (decoded (entries_at router_rows b o 0 ++ listing 15 (link b o) o 4 (whole 16 b 4)) (after 4 (whole 16 b 4)))

-- RFC 5340 A.4.4: 0, Options, Attached Routers.
abbrev pub network_rows : Layout
network_rows =
    options_row ∷  -- Options
    []

unfoldable pub network_lsa3 : List ℕ → ℕ → Body
network_lsa3 b o =
    cond (ltb (length b) 4) raw
    (decoded (entries_at network_rows b o 0 ++ listing 16 (attached_router b o) o 4 (whole 4 b 4)) (after 4 (whole 4 b 4)))

-- The octets of a prefix of l bits, if they lie in b from p on.
unfoldable pub prefix_fits : List ℕ → ℕ → ℕ → Option ℕ
prefix_fits b l p = elim (octets l) [ none ↦ none | some n ↦ cond (leb (p + n) (length b)) (some n) none ]

-- RFC 5340 A.4.5 and A.4.7: PrefixLength at 4, Address Prefix at 8.
abbrev pub fixed_prefix_fits : List ℕ → Option ℕ
fixed_prefix_fits b = prefix_fits b (get_or b 4 0) 8

-- RFC 5340 A.4.1: in a list, PrefixLength at the entry's first byte, Address Prefix after 4 bytes.
abbrev pub entry_fits : List ℕ → ℕ → Option ℕ
entry_fits b p = prefix_fits b (get_or b p 0) (p + 4)

-- RFC 5340 A.4.5: an Inter-Area-Prefix-LSA with a prefix of n octets.
abbrev pub inter_area_prefix_rows : ℕ → Layout
inter_area_prefix_rows n =
    row 1 metric24 metric ∷  -- Metric
    row 4 u8 prefix_length ∷  -- PrefixLength
    row 5 u8 prefix_options ∷  -- PrefixOptions
    row 8 (ip6 n) address_prefix ∷  -- Address Prefix
    []

unfoldable pub inter_area_prefix_lsa : List ℕ → ℕ → Body
inter_area_prefix_lsa b o = elim (fixed_prefix_fits b) [
  | none ↦ raw
  | some n ↦ decoded (entries_at (inter_area_prefix_rows n) b o 0) (8 + n)
]

-- RFC 5340 A.4.6: an Inter-Area-Router-LSA.
abbrev pub inter_area_router_rows : Layout
inter_area_router_rows =
    options_row ∷  -- Options
    row 5 metric24 metric ∷  -- Metric
    row 8 ip4 21 ∷  -- Destination Router ID
    []

unfoldable pub inter_area_router_lsa : List ℕ → ℕ → Body
inter_area_router_lsa b o =
    cond (ltb (length b) 12) raw
    (decoded (entries_at inter_area_router_rows b o 0) 12)

-- RFC 5340 A.4.7: whether an external has a Forwarding Address (F), an External Route Tag (T), and a Referenced Link
-- State ID (its Referenced LS Type is not zero).
abbrev pub has_forwarding : List ℕ → Bool
has_forwarding b = eqb (get_or b 0 0 / 0x02 % 2) 1

abbrev pub has_tag : List ℕ → Bool
has_tag b = eqb (get_or b 0 0 / 0x01 % 2) 1

abbrev pub has_reference : List ℕ → Bool
has_reference b = ltb 0 (be16_at b 6)

-- Where these begin, in this order, after a prefix of n octets; and where the last of them ends.
abbrev pub forwarding_place : ℕ → ℕ
forwarding_place n = 8 + n

abbrev pub tag_place : List ℕ → ℕ → ℕ
tag_place b n = forwarding_place n + cond (has_forwarding b) 16 0

abbrev pub reference_place : List ℕ → ℕ → ℕ
reference_place b n = tag_place b n + cond (has_tag b) 4 0

abbrev pub external_end : List ℕ → ℕ → ℕ
external_end b n = reference_place b n + cond (has_reference b) 4 0

-- RFC 5340 A.4.7: the flags of an external.
abbrev pub external_flag_rows : Layout
external_flag_rows =
    row 0 u8 flags ∷  -- flags
    row 0 (bit 0x04) flag_e ∷  -- E
    row 0 (bit 0x02) 12 ∷  -- F
    row 0 (bit 0x01) 13 ∷  -- T
    []

abbrev pub external_flags : List ℕ → ℕ → List Entry
external_flags b o = entries_at external_flag_rows b o 0

-- RFC 5340 A.4.7: what follows them, with a prefix of n octets.
abbrev pub external_prefix_rows : ℕ → Layout
external_prefix_rows n =
    row 1 metric24 metric ∷  -- Metric
    row 4 u8 prefix_length ∷  -- PrefixLength
    row 5 u8 prefix_options ∷  -- PrefixOptions
    row 6 u16 referenced_ls_type ∷  -- Referenced LS Type
    row 8 (ip6 n) address_prefix ∷  -- Address Prefix
    []

abbrev pub external_prefix : List ℕ → ℕ → ℕ → List Entry
external_prefix b o n = entries_at (external_prefix_rows n) b o 0

-- RFC 5340 A.4.7: what an external has after its prefix, each where it is present.
abbrev pub forwarding_rows : Layout
forwarding_rows =
    row 0 (ip6 16) 23 ∷  -- Forwarding Address
    []

abbrev pub tag_rows : Layout
tag_rows =
    row 0 u32 24 ∷  -- External Route Tag
    []

abbrev pub referenced_rows : Layout
referenced_rows =
    row 0 u32 referenced_id ∷  -- Referenced Link State ID
    []

abbrev pub forwarding_address : List ℕ → ℕ → ℕ → List Entry
forwarding_address b o n = cond (has_forwarding b) (entries_at forwarding_rows b o (forwarding_place n)) []

abbrev pub external_route_tag : List ℕ → ℕ → ℕ → List Entry
external_route_tag b o n = cond (has_tag b) (entries_at tag_rows b o (tag_place b n)) []

abbrev pub referenced_link_state_id : List ℕ → ℕ → ℕ → List Entry
referenced_link_state_id b o n = cond (has_reference b) (entries_at referenced_rows b o (reference_place b n)) []

abbrev pub external_optional : List ℕ → ℕ → ℕ → List Entry
external_optional b o n = forwarding_address b o n ++ (external_route_tag b o n ++ referenced_link_state_id b o n)

unfoldable pub external_lsa3 : List ℕ → ℕ → Body
external_lsa3 b o = elim (fixed_prefix_fits b) [
  | none ↦ raw
  | some n ↦
      cond (ltb (length b) (external_end b n)) raw
      (decoded (external_flags b o ++ (external_prefix b o n ++ external_optional b o n)) (external_end b n))
]

-- RFC 5340 A.4.1: an entry of a list of prefixes, with n octets. Its field of 16 bits is a metric, or it is not shown.
abbrev pub prefix_rows : Layout
prefix_rows =
    row 0 u8 80 ∷  -- PrefixLength
    row 1 u8 81 ∷  -- PrefixOptions
    []

abbrev pub prefix_metric_rows : Layout
prefix_metric_rows =
    row 2 u16 82 ∷  -- Metric
    []

abbrev pub prefix_address_rows : ℕ → Layout
prefix_address_rows n =
    row 4 (ip6 n) 83 ∷  -- Address Prefix
    []

-- The entries of one at p, which has a metric where m says so.
abbrev pub prefix_metric : Bool → List ℕ → ℕ → ℕ → List Entry
prefix_metric m b o p = cond m (entries_at prefix_metric_rows b o p) []

abbrev pub prefix_fields : Bool → List ℕ → ℕ → ℕ → ℕ → List Entry
prefix_fields m b o p n = entries_at prefix_rows b o p ++ (prefix_metric m b o p ++ entries_at (prefix_address_rows n) b o p)

abbrev pub prefix_inside : Bool → List ℕ → ℕ → Span → List Entry
prefix_inside m b o s = prefix_fields m b o s.at (s.len - 4)

unfoldable pub prefix : Bool → List ℕ → ℕ → Span → List Entry
prefix m b o s = container 97 (o + s.at) (o + s.at + s.len) (prefix_inside m b o s)

-- The prefixes of a Link-LSA and of an Intra-Area-Prefix-LSA, each from its first on, under its own count.
abbrev pub first_link_prefix : ℕ
first_link_prefix = 24

abbrev pub link_prefixes : List ℕ → List Span
link_prefixes b = cut prefix_rule b (be32_at b 20) first_link_prefix

abbrev pub first_area_prefix : ℕ
first_area_prefix = 12

abbrev pub area_prefixes : List ℕ → List Span
area_prefixes b = cut prefix_rule b (be16_at b 0) first_area_prefix

-- RFC 5340 A.4.9: a Link-LSA, before its prefixes, which have no metric.
abbrev pub link_lsa_rows : Layout
link_lsa_rows =
    row 0 u8 router_priority ∷  -- Rtr Priority
    options_row ∷  -- Options
    row 4 (ip6 16) 27 ∷  -- Link-local Interface Address
    row 20 u32 number_of_prefixes ∷  -- # prefixes
    []

unfoldable pub link_lsa : List ℕ → ℕ → Body
link_lsa b o =
    cond (ltb (length b) first_link_prefix) raw
    (decoded (entries_at link_lsa_rows b o 0 ++ listing prefixes (prefix false b o) o first_link_prefix (link_prefixes b)) (after first_link_prefix (link_prefixes b)))

-- RFC 5340 A.4.10: what the prefixes of an Intra-Area-Prefix-LSA belong to.
abbrev pub reference_rows : Layout
reference_rows =
    row 2 u16 referenced_ls_type ∷  -- Referenced LS Type
    row 4 u32 referenced_id ∷  -- Referenced Link State ID
    row 8 ip4 30 ∷  -- Referenced Advertising Router
    []

abbrev pub references : List ℕ → ℕ → List Entry
references b o = entries_at reference_rows b o 0

-- RFC 5340 A.4.10: an Intra-Area-Prefix-LSA, before its prefixes, which have a metric.
abbrev pub intra_area_prefix_rows : Layout
intra_area_prefix_rows =
    row 0 wide16 number_of_prefixes ∷  -- # Prefixes
    reference_rows

unfoldable pub intra_area_prefix_lsa : List ℕ → ℕ → Body
intra_area_prefix_lsa b o =
    cond (ltb (length b) first_area_prefix) raw
    (decoded (entries_at intra_area_prefix_rows b o 0 ++ listing prefixes (prefix true b o) o first_area_prefix (area_prefixes b)) (after first_area_prefix (area_prefixes b)))

-- A body of TLVs after a fixed part of n bytes that has these entries.
unfoldable pub tlv_lsa : ℕ → List Entry → List ℕ → ℕ → Body
tlv_lsa n es b o = cond (ltb (length b) n) raw (decoded (es ++ tlvs b o n) (length b))

-- RFC 8362 4.1, 4.2, 4.7 and 4.8: the bodies that have a fixed part before their TLVs.
abbrev pub e_router_lsa : List ℕ → ℕ → Body
e_router_lsa b o = tlv_lsa 4 (entries_at router_rows b o 0) b o

abbrev pub e_network_lsa : List ℕ → ℕ → Body
e_network_lsa b o = tlv_lsa 4 (entries_at network_rows b o 0) b o

abbrev pub e_link_rows : Layout
e_link_rows =
    row 0 u8 router_priority ∷  -- Rtr Priority
    options_row ∷  -- Options
    []

abbrev pub e_link_lsa : List ℕ → ℕ → Body
e_link_lsa b o = tlv_lsa 4 (entries_at e_link_rows b o 0) b o

abbrev pub e_intra_area_prefix_lsa : List ℕ → ℕ → Body
e_intra_area_prefix_lsa b o = tlv_lsa 12 (references b o) b o

-- The body of an LSA function code: RFC 5340 A.4.2.1, RFC 7770 2.2 (12), RFC 8362 2 (33 to 37, 39 to 41), RFC 9513 7 (42).
unfoldable pub body3 : (function : ℕ) → List ℕ → ℕ → Body
body3 f b o =
    cond (eqb f 1) (router_lsa3 b o)
    (cond (eqb f 2) (network_lsa3 b o)
    (cond (eqb f 3) (inter_area_prefix_lsa b o)
    (cond (eqb f 4) (inter_area_router_lsa b o)
    (cond (eqb f 5) (external_lsa3 b o)
    (cond (eqb f 7) (external_lsa3 b o)
    (cond (eqb f 8) (link_lsa b o)
    (cond (eqb f 9) (intra_area_prefix_lsa b o)
    (cond (eqb f 12) (tlv_lsa 0 [] b o)
    (cond (eqb f 33) (e_router_lsa b o)
    (cond (eqb f 34) (e_network_lsa b o)
    (cond (eqb f 35) (tlv_lsa 0 [] b o)
    (cond (eqb f 36) (tlv_lsa 0 [] b o)
    (cond (eqb f 37) (tlv_lsa 0 [] b o)
    (cond (eqb f 39) (tlv_lsa 0 [] b o)
    (cond (eqb f 40) (e_link_lsa b o)
    (cond (eqb f 41) (e_intra_area_prefix_lsa b o)
    (cond (eqb f 42) (tlv_lsa 0 [] b o)
    raw)))))))))))))))))

-- The function code is the low 13 bits of the LS type (RFC 5340 A.4.2.1); the scope is not looked at.
abbrev pub function_code : List ℕ → ℕ
function_code d = be16_at d 2 % 8192

-- The body of a whole LSA, d, whose first byte is at the place o.
abbrev pub body_of3 : List ℕ → ℕ → Body
body_of3 d o = body3 (function_code d) (drop header_size d) (o + header_size)

-- The ids of a raw body and of unparsed bytes.
abbrev pub raw_id3 : ℕ
raw_id3 = 31

abbrev pub unparsed_id3 : ℕ
unparsed_id3 = 33

-- A whole LSA: header, body, and what is left. It depends on the LSA's bytes and its place alone.
unfoldable pub lsa_entries3 : List ℕ → ℕ → List Entry
lsa_entries3 d o = header_entries3 d o ++ body_entries raw_id3 unparsed_id3 (body_of3 d o) (drop header_size d) (o + header_size)

-- The bytes of an LSA that stay unparsed.
unfoldable pub lsa_tail3 : List ℕ → ℕ
lsa_tail3 d = body_tail (body_of3 d 0) (drop header_size d)
