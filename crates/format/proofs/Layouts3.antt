-- One LSA of version 3 of each layout, whole, at the place 1,000: its bytes, and the entries that the reference pushes
-- for them (host/oracle/tests/proved.rs compares them). The bytes are counted but for counts, flags, types, lengths
-- and numbers of all ones. The length that they declare is not their own: a single LSA is all the data given.
use Prim.Native.Nat.{ℕ, ◌+◌, ◌/◌, ◌%◌}
use mathlib.Core.Path.{◌≡◌, refl}
use mathlib.Core.List.{List, [], ◌∷◌, flat_map}
use Rattle.format.specs.Strip.{Entry, direct, container}
use Rattle.format.specs.Strip.Entry.{opens, closes, u8, u16, u32, ip4, ip6, bytes, unreachable}
use Rattle.format.specs.Prefix.{octets, address}
use Rattle.format.specs.Cut.{cut, after, standing}
use Rattle.format.specs.Header.{header_entries3}
use Rattle.format.specs.Body.{listing, whole, leftover, attached_router, body_entries, body_tail}
use Rattle.format.specs.V3 as v3
use Rattle.format.specs.Walks.{lsa_of, unless, lsa_entries}
use Rattle.format.proofs.Fields.{range_ids, up_to, Byte, counted, header3, Example, AllShown, Flag, flag, AllHeld}
use Rattle.format.proofs.Fields.Byte.{but}

-- The bytes of an LSA by its LS type, the length of its body, and the bytes that are not counted.
abbrev pub given : ℕ → ℕ → List Byte → List ℕ
given t n bs = counted (20 + n) (but 2 (t / 256) ∷ but 3 (t % 256) ∷ bs)

-- A row of the table: an LSA with the entries of its body and how many bytes are left.
abbrev pub lsa : ℕ → ℕ → List Byte → List Entry → ℕ → Example
lsa t n bs es tail = record { given = given t n bs; shown = header3 t es; left = tail }

abbrev pub bodies : List Example
bodies =
    -- RFC 5340 A.4.3: flags, Options; two links; 5 bytes more.
    lsa 0x2001 41 [] (
    u8 7 1020 1021 0x15 ∷
    u8 8 1020 1021 1 ∷
    u8 9 1020 1021 1 ∷
    u8 10 1020 1021 0 ∷
    u8 11 1020 1021 1 ∷
    u32 14 1021 1024 0x161718 ∷
    opens 15 1024 1056 2 ∷
    opens 96 1024 1040 5 ∷ u8 64 1024 1025 0x19 ∷ u16 65 1026 1028 0x1b1c ∷ u32 66 1028 1032 0x1d1e1f20 ∷ u32 67 1032 1036 0x21222324 ∷ ip4 68 1036 1040 0x25262728 ∷ closes ∷
    opens 96 1040 1056 5 ∷ u8 64 1040 1041 0x29 ∷ u16 65 1042 1044 0x2b2c ∷ u32 66 1044 1048 0x2d2e2f30 ∷ u32 67 1048 1052 0x31323334 ∷ ip4 68 1052 1056 0x35363738 ∷ closes ∷
    closes ∷
    bytes 33 1056 1061 ∷
    []) 5 ∷
    -- The same by the low 13 bits of the LS type, whatever the three above them. An empty array of links is opened.
    lsa 0xa001 6 [] (
    u8 7 1020 1021 0x15 ∷
    u8 8 1020 1021 1 ∷
    u8 9 1020 1021 1 ∷
    u8 10 1020 1021 0 ∷
    u8 11 1020 1021 1 ∷
    u32 14 1021 1024 0x161718 ∷
    opens 15 1024 1024 0 ∷ closes ∷
    bytes 33 1024 1026 ∷
    []) 2 ∷
    -- RFC 5340 A.4.4: Options, two Attached Routers; 2 bytes more.
    lsa 0x2002 14 [] (
    u32 14 1021 1024 0x161718 ∷
    opens 16 1024 1032 2 ∷ ip4 98 1024 1028 0x191a1b1c ∷ ip4 98 1028 1032 0x1d1e1f20 ∷ closes ∷
    bytes 33 1032 1034 ∷
    []) 2 ∷
    -- RFC 5340 A.4.5: Metric, PrefixLength 33, PrefixOptions, 8 octets of prefix; 3 bytes more.
    lsa 0x2003 19 (but 24 0x21 ∷ []) (
    u32 17 1021 1024 0x161718 ∷
    u8 18 1024 1025 0x21 ∷
    u8 19 1025 1026 0x1a ∷
    ip6 20 1028 1036 0x1d1e1f2021222324 0x0000000000000000 ∷
    bytes 33 1036 1039 ∷
    []) 3 ∷
    -- RFC 5340 A.4.6: Options, Metric, Destination Router ID; 1 byte more.
    lsa 0x2004 13 [] (
    u32 14 1021 1024 0x161718 ∷
    u32 17 1025 1028 0x1a1b1c ∷
    ip4 21 1028 1032 0x1d1e1f20 ∷
    bytes 33 1032 1033 ∷
    []) 1 ∷
    -- RFC 2328 appendix B: a metric of 24 one-bits is unreachable, here, in an Inter-Area-Router-LSA, whose options are a number
    -- though they are all ones, and in an external.
    lsa 0x2003 12 (but 21 0xff ∷ but 22 0xff ∷ but 23 0xff ∷ but 24 0x20 ∷ []) (
    unreachable 17 1021 1024 ∷
    u8 18 1024 1025 0x20 ∷
    u8 19 1025 1026 0x1a ∷
    ip6 20 1028 1032 0x1d1e1f2000000000 0x0000000000000000 ∷
    []) 0 ∷
    lsa 0x2004 12 (but 21 0xff ∷ but 22 0xff ∷ but 23 0xff ∷ but 25 0xff ∷ but 26 0xff ∷ but 27 0xff ∷ []) (
    u32 14 1021 1024 0xffffff ∷
    unreachable 17 1025 1028 ∷
    ip4 21 1028 1032 0x1d1e1f20 ∷
    []) 0 ∷
    lsa 0x4005 8 (but 20 0x00 ∷ but 21 0xff ∷ but 22 0xff ∷ but 23 0xff ∷ but 24 0x00 ∷ but 26 0x00 ∷ but 27 0x00 ∷ []) (
    u8 7 1020 1021 0x00 ∷
    u8 10 1020 1021 0 ∷
    u8 12 1020 1021 0 ∷
    u8 13 1020 1021 0 ∷
    unreachable 17 1021 1024 ∷
    u8 18 1024 1025 0x00 ∷
    u8 19 1025 1026 0x1a ∷
    u16 22 1026 1028 0x0000 ∷
    ip6 20 1028 1028 0x0000000000000000 0x0000000000000000 ∷
    []) 0 ∷
    -- RFC 5340 A.4.7: flags E, F and T, Metric, PrefixLength 64, PrefixOptions, Referenced LS Type, 8 octets of prefix,
    -- then Forwarding Address, External Route Tag and Referenced Link State ID in this order; 2 bytes more.
    lsa 0x4005 42 (but 20 0x17 ∷ but 24 0x40 ∷ []) (
    u8 7 1020 1021 0x17 ∷
    u8 10 1020 1021 1 ∷
    u8 12 1020 1021 1 ∷
    u8 13 1020 1021 1 ∷
    u32 17 1021 1024 0x161718 ∷
    u8 18 1024 1025 0x40 ∷
    u8 19 1025 1026 0x1a ∷
    u16 22 1026 1028 0x1b1c ∷
    ip6 20 1028 1036 0x1d1e1f2021222324 0x0000000000000000 ∷
    ip6 23 1036 1052 0x25262728292a2b2c 0x2d2e2f3031323334 ∷
    u32 24 1052 1056 0x35363738 ∷
    u32 25 1056 1060 0x393a3b3c ∷
    bytes 33 1060 1062 ∷
    []) 2 ∷
    -- The tag alone, after a prefix of no octets.
    lsa 0x4005 12 (but 24 0x00 ∷ but 26 0x00 ∷ but 27 0x00 ∷ []) (
    u8 7 1020 1021 0x15 ∷
    u8 10 1020 1021 1 ∷
    u8 12 1020 1021 0 ∷
    u8 13 1020 1021 1 ∷
    u32 17 1021 1024 0x161718 ∷
    u8 18 1024 1025 0x00 ∷
    u8 19 1025 1026 0x1a ∷
    u16 22 1026 1028 0x0000 ∷
    ip6 20 1028 1028 0x0000000000000000 0x0000000000000000 ∷
    u32 24 1028 1032 0x1d1e1f20 ∷
    []) 0 ∷
    -- RFC 5340 A.4.8: the same layout. A Forwarding Address and a Referenced Link State ID without a tag; 1 byte more.
    lsa 0x2007 33 (but 20 0x12 ∷ but 24 0x20 ∷ []) (
    u8 7 1020 1021 0x12 ∷
    u8 10 1020 1021 0 ∷
    u8 12 1020 1021 1 ∷
    u8 13 1020 1021 0 ∷
    u32 17 1021 1024 0x161718 ∷
    u8 18 1024 1025 0x20 ∷
    u8 19 1025 1026 0x1a ∷
    u16 22 1026 1028 0x1b1c ∷
    ip6 20 1028 1032 0x1d1e1f2000000000 0x0000000000000000 ∷
    ip6 23 1032 1048 0x2122232425262728 0x292a2b2c2d2e2f30 ∷
    u32 25 1048 1052 0x31323334 ∷
    bytes 33 1052 1053 ∷
    []) 1 ∷
    -- RFC 5340 A.4.9: Rtr Priority, Options, Link-local Interface Address, # prefixes in 32 bits; two prefixes, of 128
    -- and 33 bits, without a metric; 3 bytes more.
    lsa 0x0008 59 (but 40 0x00 ∷ but 41 0x00 ∷ but 42 0x00 ∷ but 43 0x02 ∷ but 44 0x80 ∷ but 64 0x21 ∷ []) (
    u8 26 1020 1021 0x15 ∷
    u32 14 1021 1024 0x161718 ∷
    ip6 27 1024 1040 0x191a1b1c1d1e1f20 0x2122232425262728 ∷
    u32 28 1040 1044 0x00000002 ∷
    opens 29 1044 1076 2 ∷
    opens 97 1044 1064 3 ∷ u8 80 1044 1045 0x80 ∷ u8 81 1045 1046 0x2e ∷ ip6 83 1048 1064 0x3132333435363738 0x393a3b3c3d3e3f40 ∷ closes ∷
    opens 97 1064 1076 3 ∷ u8 80 1064 1065 0x21 ∷ u8 81 1065 1066 0x42 ∷ ip6 83 1068 1076 0x45464748494a4b4c 0x0000000000000000 ∷ closes ∷
    closes ∷
    bytes 33 1076 1079 ∷
    []) 3 ∷
    -- RFC 5340 A.4.10: # Prefixes in 16 bits, Referenced LS Type, Referenced Link State ID, Referenced Advertising
    -- Router; of four counted prefixes two, of 33 and 0 bits, with a metric: the third has more than 128 bits, so that
    -- the 6 bytes from it on are left.
    lsa 0x2009 34 (but 20 0x00 ∷ but 21 0x04 ∷ but 44 0x00 ∷ but 48 0x81 ∷ []) (
    u32 28 1020 1022 0x0004 ∷
    u16 22 1022 1024 0x1718 ∷
    u32 25 1024 1028 0x191a1b1c ∷
    ip4 30 1028 1032 0x1d1e1f20 ∷
    opens 29 1032 1048 2 ∷
    opens 97 1032 1044 4 ∷ u8 80 1032 1033 0x21 ∷ u8 81 1033 1034 0x22 ∷ u16 82 1034 1036 0x2324 ∷ ip6 83 1036 1044 0x25262728292a2b2c 0x0000000000000000 ∷ closes ∷
    opens 97 1044 1048 4 ∷ u8 80 1044 1045 0x00 ∷ u8 81 1045 1046 0x2e ∷ u16 82 1046 1048 0x2f30 ∷ ip6 83 1048 1048 0x0000000000000000 0x0000000000000000 ∷ closes ∷
    closes ∷
    bytes 33 1048 1054 ∷
    []) 6 ∷
    -- RFC 7770: TLVs alone.
    lsa 0xa00c 4 [] (bytes 32 1020 1024 ∷ []) 0 ∷  -- Router Information
    -- RFC 8362: TLVs after the fixed part of the layout that each extends.
    -- E-Router
    lsa 0x2021 9 [] (
    u8 7 1020 1021 0x15 ∷
    u8 8 1020 1021 1 ∷
    u8 9 1020 1021 1 ∷
    u8 10 1020 1021 0 ∷
    u8 11 1020 1021 1 ∷
    u32 14 1021 1024 0x161718 ∷
    bytes 32 1024 1029 ∷
    []) 0 ∷
    -- E-Network
    lsa 0x2022 9 [] (
    u32 14 1021 1024 0x161718 ∷
    bytes 32 1024 1029 ∷
    []) 0 ∷
    lsa 0x2023 4 [] (bytes 32 1020 1024 ∷ []) 0 ∷  -- E-Inter-Area-Prefix
    lsa 0x2024 4 [] (bytes 32 1020 1024 ∷ []) 0 ∷  -- E-Inter-Area-Router
    lsa 0x4025 4 [] (bytes 32 1020 1024 ∷ []) 0 ∷  -- E-AS-External
    lsa 0x2027 4 [] (bytes 32 1020 1024 ∷ []) 0 ∷  -- E-Type-7
    -- E-Link
    lsa 0x0028 9 [] (
    u8 26 1020 1021 0x15 ∷
    u32 14 1021 1024 0x161718 ∷
    bytes 32 1024 1029 ∷
    []) 0 ∷
    -- E-Intra-Area-Prefix
    lsa 0x2029 13 [] (
    u16 22 1022 1024 0x1718 ∷
    u32 25 1024 1028 0x191a1b1c ∷
    ip4 30 1028 1032 0x1d1e1f20 ∷
    bytes 32 1032 1033 ∷
    []) 0 ∷
    -- RFC 9513: TLVs alone.
    lsa 0xa02a 4 [] (bytes 32 1020 1024 ∷ []) 0 ∷  -- SRv6 Locator
    -- TLVs of no bytes have their entry; an empty raw body has none.
    lsa 0xa00c 0 [] (bytes 32 1020 1020 ∷ []) 0 ∷
    lsa 0x2001 0 [] [] 0 ∷
    -- A function without a layout is raw.
    lsa 0x2006 4 [] (bytes 31 1020 1024 ∷ []) 0 ∷
    lsa 0x2026 4 [] (bytes 31 1020 1024 ∷ []) 0 ∷
    -- One byte too short for its layout, a body is raw.
    lsa 0x2001 3 [] (bytes 31 1020 1023 ∷ []) 0 ∷  -- Router
    lsa 0x2002 3 [] (bytes 31 1020 1023 ∷ []) 0 ∷  -- Network
    lsa 0x2003 15 (but 24 0x21 ∷ []) (bytes 31 1020 1035 ∷ []) 0 ∷  -- Inter-Area-Prefix
    lsa 0x2004 11 [] (bytes 31 1020 1031 ∷ []) 0 ∷  -- Inter-Area-Router
    lsa 0x4005 11 (but 24 0x00 ∷ but 26 0x00 ∷ but 27 0x00 ∷ []) (bytes 31 1020 1031 ∷ []) 0 ∷  -- AS-External
    lsa 0x2007 11 (but 20 0x10 ∷ but 24 0x20 ∷ but 26 0x00 ∷ but 27 0x00 ∷ []) (bytes 31 1020 1031 ∷ []) 0 ∷  -- NSSA
    lsa 0x0008 23 (but 40 0x00 ∷ but 41 0x00 ∷ but 42 0x00 ∷ []) (bytes 31 1020 1043 ∷ []) 0 ∷  -- Link
    lsa 0x2009 11 (but 20 0x00 ∷ but 21 0x04 ∷ []) (bytes 31 1020 1031 ∷ []) 0 ∷  -- Intra-Area-Prefix
    lsa 0x2021 3 [] (bytes 31 1020 1023 ∷ []) 0 ∷  -- E-Router
    lsa 0x2022 3 [] (bytes 31 1020 1023 ∷ []) 0 ∷  -- E-Network
    lsa 0x0028 3 [] (bytes 31 1020 1023 ∷ []) 0 ∷  -- E-Link
    lsa 0x2029 11 [] (bytes 31 1020 1031 ∷ []) 0 ∷  -- E-Intra-Area-Prefix
    -- A fixed prefix of more than 128 bits is raw, whatever follows it.
    lsa 0x2003 28 (but 24 0x81 ∷ []) (bytes 31 1020 1048 ∷ []) 0 ∷  -- Inter-Area-Prefix
    lsa 0x4005 28 (but 20 0x10 ∷ but 24 0x81 ∷ but 26 0x00 ∷ but 27 0x00 ∷ []) (bytes 31 1020 1048 ∷ []) 0 ∷  -- AS-External
    []

-- A Router-LSA, an E-Router-LSA and an external with these flags.
abbrev pub router_with : ℕ → List ℕ
router_with f = given 0x2001 4 (but 20 f ∷ [])

abbrev pub e_router_with : ℕ → List ℕ
e_router_with f = given 0x2021 4 (but 20 f ∷ [])

abbrev pub external_with : ℕ → List ℕ
external_with f = given 0x4005 32 (but 20 f ∷ but 24 0 ∷ but 26 0 ∷ but 27 0 ∷ [])

abbrev pub flags : List Flag
flags =
    flag 8 router_with (0 ∷ 0 ∷ 0 ∷ 1 ∷ 0 ∷ 0 ∷ 0 ∷ 0 ∷ []) ∷  -- Nt
    flag 9 router_with (0 ∷ 0 ∷ 0 ∷ 0 ∷ 0 ∷ 1 ∷ 0 ∷ 0 ∷ []) ∷  -- V
    flag 10 router_with (0 ∷ 0 ∷ 0 ∷ 0 ∷ 0 ∷ 0 ∷ 1 ∷ 0 ∷ []) ∷  -- E
    flag 11 router_with (0 ∷ 0 ∷ 0 ∷ 0 ∷ 0 ∷ 0 ∷ 0 ∷ 1 ∷ []) ∷  -- B
    flag 8 e_router_with (0 ∷ 0 ∷ 0 ∷ 1 ∷ 0 ∷ 0 ∷ 0 ∷ 0 ∷ []) ∷  -- Nt
    flag 9 e_router_with (0 ∷ 0 ∷ 0 ∷ 0 ∷ 0 ∷ 1 ∷ 0 ∷ 0 ∷ []) ∷  -- V
    flag 10 e_router_with (0 ∷ 0 ∷ 0 ∷ 0 ∷ 0 ∷ 0 ∷ 1 ∷ 0 ∷ []) ∷  -- E
    flag 11 e_router_with (0 ∷ 0 ∷ 0 ∷ 0 ∷ 0 ∷ 0 ∷ 0 ∷ 1 ∷ []) ∷  -- B
    flag 10 external_with (0 ∷ 0 ∷ 0 ∷ 0 ∷ 0 ∷ 1 ∷ 0 ∷ 0 ∷ []) ∷  -- E
    flag 12 external_with (0 ∷ 0 ∷ 0 ∷ 0 ∷ 0 ∷ 0 ∷ 1 ∷ 0 ∷ []) ∷  -- F
    flag 13 external_with (0 ∷ 0 ∷ 0 ∷ 0 ∷ 0 ∷ 0 ∷ 0 ∷ 1 ∷ []) ∷  -- T
    []

pub record Layouts3 : Type 0 where
  pub all_bodies : AllShown 3 bodies
  pub all_flags : AllHeld 3 flags
  -- Which functions are TLVs alone, by the ids of the ranges of a body of one byte: functions 0 to 43. Scope and U bit
  -- do not count.
  pub functions : flat_map (λ (f : ℕ). range_ids (lsa_entries 3 (given (0x2000 + f) 1 []) 1000)) (up_to 44)
      ≡ 31 ∷ 31 ∷ 31 ∷ 31 ∷ 31 ∷ 31 ∷ 31 ∷ 31 ∷ 31 ∷ 31 ∷
      31 ∷ 31 ∷ 32 ∷ 31 ∷ 31 ∷ 31 ∷ 31 ∷ 31 ∷ 31 ∷ 31 ∷
      31 ∷ 31 ∷ 31 ∷ 31 ∷ 31 ∷ 31 ∷ 31 ∷ 31 ∷ 31 ∷ 31 ∷
      31 ∷ 31 ∷ 31 ∷ 31 ∷ 31 ∷ 32 ∷ 32 ∷ 32 ∷ 31 ∷ 32 ∷
      31 ∷ 31 ∷ 32 ∷ 31 ∷ []
  pub scopes : flat_map (λ (t : ℕ). range_ids (lsa_entries 3 (given t 1 []) 1000)) (0x000c ∷ 0x200c ∷ 0x400c ∷ 0x800c ∷ 0xe00c ∷ 0x100c ∷ []) ≡ 32 ∷ 32 ∷ 32 ∷ 32 ∷ 32 ∷ 31 ∷ []

pub layouts3 : Layouts3
unfolding lsa_of unless v3.lsa_entries3 v3.lsa_tail3 header_entries3 body_entries body_tail leftover container direct listing whole cut after standing attached_router octets address
    v3.body3 v3.link v3.router_lsa3 v3.network_lsa3 v3.prefix_fits v3.inter_area_prefix_lsa v3.inter_area_router_lsa v3.external_lsa3 v3.prefix v3.link_lsa v3.intra_area_prefix_lsa v3.tlv_lsa flat_map
layouts3 = record {
  all_bodies = refl;
  all_flags = refl;
  functions = refl;
  scopes = refl;
}
