-- One LSA of version 2 of each layout, whole, at the place 1,000: its bytes, and the entries that the reference pushes
-- for them (host/oracle/tests/proved.rs compares them). The bytes are counted but for counts, flags, types, lengths, the
-- first bit of some TOS and metrics of all ones. The length that they declare is not their own: a single LSA is all the data given.
use Prim.Native.Nat.{ℕ, ◌+◌}
use mathlib.Core.Path.{◌≡◌, refl}
use mathlib.Core.List.{List, [], ◌∷◌, flat_map}
use Rattle.format.specs.Strip.{Entry, direct, container}
use Rattle.format.specs.Strip.Entry.{opens, closes, u8, u16, u32, ip4, bytes, unreachable}
use Rattle.format.specs.Cut.{cut, after, standing}
use Rattle.format.specs.Header.{header_entries2}
use Rattle.format.specs.Body.{listing, listing_if_any, whole, leftover, attached_router, body_entries, body_tail}
use Rattle.format.specs.V2 as v2
use Rattle.format.specs.Walks.{lsa_of, unless, lsa_entries}
use Rattle.format.proofs.Fields.{values, range_ids, up_to, Byte, counted, header2, Example, AllShown, Flag, flag, AllHeld}
use Rattle.format.proofs.Fields.Byte.{but}

-- The bytes of an LSA by its LS type, the length of its body, and the bytes that are not counted.
abbrev pub given : ℕ → ℕ → List Byte → List ℕ
given t n bs = counted (20 + n) (but 3 t ∷ bs)

-- The rows of the table: an LSA with the entries of its body and how many bytes are left; and an opaque LSA, by its
-- opaque type and its Link State ID besides, of which nothing is left.
abbrev pub lsa : ℕ → ℕ → List Byte → List Entry → ℕ → Example
lsa t n bs es tail = record { given = given t n bs; shown = header2 t 0x05060708 es; left = tail }

abbrev pub opaque : ℕ → ℕ → ℕ → ℕ → List Entry → Example
opaque t u id n es = record { given = given t n (but 4 u ∷ []); shown = header2 t id (u8 8 1004 1005 u ∷ u32 9 1005 1008 0x060708 ∷ es); left = 0 }

abbrev pub bodies : List Example
bodies =
    -- RFC 2328 A.4.2: flags, # links; two links, the second with two TOS metrics of 16 bits; 3 bytes more.
    lsa 1 39 (but 22 0x00 ∷ but 23 0x02 ∷ but 33 0x00 ∷ but 45 0x02 ∷ but 52 0xb5 ∷ []) (
    u8 10 1020 1021 0x15 ∷
    u8 11 1020 1021 1 ∷
    u8 12 1020 1021 1 ∷
    u8 13 1020 1021 0 ∷
    u8 14 1020 1021 1 ∷
    u16 15 1022 1024 0x0002 ∷
    opens 16 1024 1056 2 ∷
    opens 96 1024 1036 5 ∷ ip4 64 1024 1028 0x191a1b1c ∷ ip4 65 1028 1032 0x1d1e1f20 ∷ u8 66 1032 1033 0x21 ∷ u8 67 1033 1034 0x00 ∷ u16 68 1034 1036 0x2324 ∷ closes ∷
    opens 96 1036 1056 6 ∷
    ip4 64 1036 1040 0x25262728 ∷
    ip4 65 1040 1044 0x292a2b2c ∷
    u8 66 1044 1045 0x2d ∷
    u8 67 1045 1046 0x02 ∷
    u16 68 1046 1048 0x2f30 ∷
    opens 69 1048 1056 2 ∷
    opens 97 1048 1052 2 ∷ u8 81 1048 1049 0x31 ∷ u32 82 1050 1052 0x3334 ∷ closes ∷
    opens 97 1052 1056 2 ∷ u8 81 1052 1053 0xb5 ∷ u32 82 1054 1056 0x3738 ∷ closes ∷
    closes ∷
    closes ∷
    closes ∷
    bytes 25 1056 1059 ∷
    []) 3 ∷
    -- RFC 2328 A.4.3: Network Mask, two Attached Routers; 2 bytes more.
    lsa 2 14 [] (
    ip4 17 1020 1024 0x15161718 ∷
    opens 18 1024 1032 2 ∷ ip4 98 1024 1028 0x191a1b1c ∷ ip4 98 1028 1032 0x1d1e1f20 ∷ closes ∷
    bytes 25 1032 1034 ∷
    []) 2 ∷
    -- RFC 2328 A.4.4: Network Mask, metric; two TOS metrics of 24 bits; 1 byte more.
    lsa 3 17 (but 32 0xa1 ∷ []) (
    ip4 17 1020 1024 0x15161718 ∷
    u32 19 1025 1028 0x1a1b1c ∷
    opens 20 1028 1036 2 ∷
    opens 97 1028 1032 2 ∷ u8 81 1028 1029 0x1d ∷ u32 82 1029 1032 0x1e1f20 ∷ closes ∷
    opens 97 1032 1036 2 ∷ u8 81 1032 1033 0xa1 ∷ u32 82 1033 1036 0x222324 ∷ closes ∷
    closes ∷
    bytes 25 1036 1037 ∷
    []) 1 ∷
    -- The same layout, without a TOS metric: no array is opened.
    lsa 4 11 [] (
    ip4 17 1020 1024 0x15161718 ∷
    u32 19 1025 1028 0x1a1b1c ∷
    bytes 25 1028 1031 ∷
    []) 3 ∷
    -- RFC 2328 A.4.5: Network Mask, E and TOS in one byte, metric, Forwarding address, External Route Tag; the same for
    -- two TOS; 3 bytes more.
    lsa 5 43 (but 24 0x99 ∷ but 36 0xa5 ∷ []) (
    ip4 17 1020 1024 0x15161718 ∷
    u8 13 1024 1025 1 ∷
    u32 19 1025 1028 0x1a1b1c ∷
    ip4 21 1028 1032 0x1d1e1f20 ∷
    u32 22 1032 1036 0x21222324 ∷
    opens 20 1036 1060 2 ∷
    opens 97 1036 1048 5 ∷ u8 80 1036 1037 1 ∷ u8 81 1036 1037 0x25 ∷ u32 82 1037 1040 0x262728 ∷ ip4 83 1040 1044 0x292a2b2c ∷ u32 84 1044 1048 0x2d2e2f30 ∷ closes ∷
    opens 97 1048 1060 5 ∷ u8 80 1048 1049 0 ∷ u8 81 1048 1049 0x31 ∷ u32 82 1049 1052 0x323334 ∷ ip4 83 1052 1056 0x35363738 ∷ u32 84 1056 1060 0x393a3b3c ∷ closes ∷
    closes ∷
    bytes 25 1060 1063 ∷
    []) 3 ∷
    -- RFC 3101: the same layout, without a TOS.
    lsa 7 16 [] (
    ip4 17 1020 1024 0x15161718 ∷
    u8 13 1024 1025 0 ∷
    u32 19 1025 1028 0x1a1b1c ∷
    ip4 21 1028 1032 0x1d1e1f20 ∷
    u32 22 1032 1036 0x21222324 ∷
    []) 0 ∷
    -- RFC 2328 appendix B: a metric of 24 one-bits is unreachable. A Summary-LSA's own, and two of three TOS metrics; the one
    -- between them lacks a bit.
    lsa 3 20 (
    but 25 0xff ∷ but 26 0xff ∷ but 27 0xff ∷ but 29 0xff ∷ but 30 0xff ∷ but 31 0xff ∷
    but 33 0xff ∷ but 34 0xff ∷ but 35 0xfe ∷ but 37 0xff ∷ but 38 0xff ∷ but 39 0xff ∷
    []) (
    ip4 17 1020 1024 0x15161718 ∷
    unreachable 19 1025 1028 ∷
    opens 20 1028 1040 3 ∷
    opens 97 1028 1032 2 ∷ u8 81 1028 1029 0x1d ∷ unreachable 82 1029 1032 ∷ closes ∷
    opens 97 1032 1036 2 ∷ u8 81 1032 1033 0x21 ∷ u32 82 1033 1036 0xfffffe ∷ closes ∷
    opens 97 1036 1040 2 ∷ u8 81 1036 1037 0x25 ∷ unreachable 82 1037 1040 ∷ closes ∷
    closes ∷
    []) 0 ∷
    -- An external's own and that of its TOS; a tag of the same number is a number.
    lsa 5 28 (
    but 25 0xff ∷ but 26 0xff ∷ but 27 0xff ∷ but 32 0x00 ∷ but 33 0xff ∷ but 34 0xff ∷ but 35 0xff ∷
    but 37 0xff ∷ but 38 0xff ∷ but 39 0xff ∷
    []) (
    ip4 17 1020 1024 0x15161718 ∷
    u8 13 1024 1025 0 ∷
    unreachable 19 1025 1028 ∷
    ip4 21 1028 1032 0x1d1e1f20 ∷
    u32 22 1032 1036 0xffffff ∷
    opens 20 1036 1048 1 ∷
    opens 97 1036 1048 5 ∷ u8 80 1036 1037 0 ∷ u8 81 1036 1037 0x25 ∷ unreachable 82 1037 1040 ∷ ip4 83 1040 1044 0x292a2b2c ∷ u32 84 1044 1048 0x2d2e2f30 ∷ closes ∷
    closes ∷
    []) 0 ∷
    -- The metrics of a link have 16 bits: all ones are a number.
    lsa 1 20 (but 22 0x00 ∷ but 23 0x01 ∷ but 33 0x01 ∷ but 34 0xff ∷ but 35 0xff ∷ but 37 0xff ∷ but 38 0xff ∷ but 39 0xff ∷ []) (
    u8 10 1020 1021 0x15 ∷
    u8 11 1020 1021 1 ∷
    u8 12 1020 1021 1 ∷
    u8 13 1020 1021 0 ∷
    u8 14 1020 1021 1 ∷
    u16 15 1022 1024 0x0001 ∷
    opens 16 1024 1040 1 ∷
    opens 96 1024 1040 6 ∷ ip4 64 1024 1028 0x191a1b1c ∷ ip4 65 1028 1032 0x1d1e1f20 ∷ u8 66 1032 1033 0x21 ∷ u8 67 1033 1034 0x01 ∷ u16 68 1034 1036 0xffff ∷
    opens 69 1036 1040 1 ∷ opens 97 1036 1040 2 ∷ u8 81 1036 1037 0x25 ∷ u32 82 1038 1040 0xffff ∷ closes ∷ closes ∷
    closes ∷
    closes ∷
    []) 0 ∷
    -- RFC 5250: Opaque Type and Opaque ID in the header; TLVs of opaque types 1, 4, 7 and 8; any other opaque type is
    -- raw.
    opaque 9 1 0x01060708 9 (bytes 24 1020 1029 ∷ []) ∷  -- link-local scope
    opaque 10 4 0x04060708 4 (bytes 24 1020 1024 ∷ []) ∷  -- area scope
    opaque 11 7 0x07060708 4 (bytes 24 1020 1024 ∷ []) ∷  -- AS scope
    opaque 9 8 0x08060708 4 (bytes 24 1020 1024 ∷ []) ∷
    -- TLVs of no bytes have their entry; an empty raw body has none.
    opaque 9 1 0x01060708 0 (bytes 24 1020 1020 ∷ []) ∷
    opaque 9 2 0x02060708 4 (bytes 23 1020 1024 ∷ []) ∷
    opaque 9 2 0x02060708 0 [] ∷
    -- A type without a layout is raw.
    lsa 6 4 [] (bytes 23 1020 1024 ∷ []) 0 ∷
    lsa 8 4 [] (bytes 23 1020 1024 ∷ []) 0 ∷
    -- One byte too short for its layout, a body is raw.
    lsa 1 3 [] (bytes 23 1020 1023 ∷ []) 0 ∷  -- Router
    lsa 2 3 [] (bytes 23 1020 1023 ∷ []) 0 ∷  -- Network
    lsa 3 7 [] (bytes 23 1020 1027 ∷ []) 0 ∷  -- Summary
    lsa 4 7 [] (bytes 23 1020 1027 ∷ []) 0 ∷  -- ASBR-Summary
    lsa 5 15 [] (bytes 23 1020 1035 ∷ []) 0 ∷  -- AS-External
    lsa 7 15 [] (bytes 23 1020 1035 ∷ []) 0 ∷  -- NSSA
    []

-- A Router-LSA with these flags; an external with this byte before its metric, and one TOS metric with the same.
abbrev pub router_with : ℕ → List ℕ
router_with f = given 1 4 (but 20 f ∷ [])

abbrev pub external_with : ℕ → List ℕ
external_with f = given 5 28 (but 24 f ∷ but 36 f ∷ [])

abbrev pub flags : List Flag
flags =
    flag 11 router_with (0 ∷ 0 ∷ 0 ∷ 1 ∷ 0 ∷ 0 ∷ 0 ∷ 0 ∷ []) ∷  -- Nt
    flag 12 router_with (0 ∷ 0 ∷ 0 ∷ 0 ∷ 0 ∷ 1 ∷ 0 ∷ 0 ∷ []) ∷  -- V
    flag 13 router_with (0 ∷ 0 ∷ 0 ∷ 0 ∷ 0 ∷ 0 ∷ 1 ∷ 0 ∷ []) ∷  -- E
    flag 14 router_with (0 ∷ 0 ∷ 0 ∷ 0 ∷ 0 ∷ 0 ∷ 0 ∷ 1 ∷ []) ∷  -- B
    flag 13 external_with (1 ∷ 0 ∷ 0 ∷ 0 ∷ 0 ∷ 0 ∷ 0 ∷ 0 ∷ []) ∷  -- E of an external
    flag 80 external_with (1 ∷ 0 ∷ 0 ∷ 0 ∷ 0 ∷ 0 ∷ 0 ∷ 0 ∷ []) ∷  -- E of its TOS metric
    flag 81 external_with (0 ∷ 0x40 ∷ 0x20 ∷ 0x10 ∷ 0x08 ∷ 0x04 ∷ 0x02 ∷ 0x01 ∷ []) ∷  -- TOS of its TOS metric
    []

pub record Layouts2 : Type 0 where
  pub all_bodies : AllShown 2 bodies
  pub all_flags : AllHeld 2 flags
  -- Which types are raw, by the ids of the ranges of a body of one byte: opaque types 0 to 9, and LS types 0 to 12. Only
  -- types 9 to 11 have an opaque type.
  pub opaque_types : flat_map (λ (u : ℕ). range_ids (lsa_entries 2 (given 9 1 (but 4 u ∷ [])) 1000)) (up_to 10) ≡ 23 ∷ 24 ∷ 23 ∷ 23 ∷ 24 ∷ 23 ∷ 23 ∷ 24 ∷ 24 ∷ 23 ∷ []
  pub ls_types : flat_map (λ (t : ℕ). range_ids (lsa_entries 2 (given t 1 (but 4 1 ∷ [])) 1000)) (up_to 13)
      ≡ 23 ∷ 23 ∷ 23 ∷ 23 ∷ 23 ∷ 23 ∷ 23 ∷ 23 ∷ 23 ∷ 24 ∷ 24 ∷ 24 ∷ 23 ∷ []
  pub opaque_ids : flat_map (λ (t : ℕ). values 8 (lsa_entries 2 (given t 0 (but 4 1 ∷ [])) 1000)) (up_to 13) ≡ 1 ∷ 1 ∷ 1 ∷ []

pub layouts2 : Layouts2
unfolding lsa_of unless v2.lsa_entries2 v2.lsa_tail2 header_entries2 body_entries body_tail leftover container direct listing listing_if_any whole cut after standing attached_router
    v2.body2 v2.router_lsa2 v2.link v2.link_tos v2.network_lsa2 v2.summary_lsa v2.summary_tos v2.external_lsa2 v2.external_tos v2.opaque_lsa flat_map
layouts2 = record {
  all_bodies = refl;
  all_flags = refl;
  opaque_types = refl;
  ls_types = refl;
  opaque_ids = refl;
}
