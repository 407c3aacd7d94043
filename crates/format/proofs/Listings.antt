-- What the program prints, whole, as quoted lines; and an update and header lists whole, at an offset. The entries are
-- those that the reference pushes (host/oracle/tests/proved.rs compares them).
use Prim.Native.Nat.{ℕ}
use Prim.Native.String.{String}
use mathlib.Core.Path.{◌≡◌, refl}
use mathlib.Core.List.{List, [], ◌∷◌, map, flat_map}
use lib.ListN.{replicate}
use Rattle.format.specs.Strip.{code, encode, direct, container}
use Rattle.format.specs.Strip.Entry.{opens, closes, u8, u16, u32, ip4, ip6, bytes, unreachable, u64}
use Rattle.format.specs.Prefix.{octets, address}
use Rattle.format.specs.Cut.{cut, standing, after}
use Rattle.format.specs.Header.{header_entries2, header_entries3}
use Rattle.format.specs.Body.{listing, listing_if_any, leftover, whole, attached_router, body_entries, body_tail}
use Rattle.format.specs.V2 as v2
use Rattle.format.specs.V3 as v3
use Rattle.format.specs.Walks.{answer, answer_of, unless, headers_of, update_of, lsa_of, walk_of, named_of, outer, header_object, lsa_object}
use Rattle.format.specs.Walks.Outcome.{accepted}
use Rattle.format.specs.Print.{program_of, digits, hex, line, first_line, printed}
use Rattle.format.proofs.Text.{lines}
use Rattle.format.proofs.Fields.{counted, header2, header3}
use Rattle.format.proofs.Fields.Byte.{but}

-- An update of version 3 with a count of 5: an Intra-Area-Prefix-LSA with two prefixes, a Network-LSA, and 3 bytes more.
abbrev pub update3 : List ℕ
update3 =
    0x00 ∷ 0x00 ∷ 0x00 ∷ 0x05 ∷
    0x00 ∷ 0x01 ∷ 0x20 ∷ 0x09 ∷
    0x00 ∷ 0x00 ∷ 0x00 ∷ 0x07 ∷
    0x0a ∷ 0x00 ∷ 0x00 ∷ 0x01 ∷
    0x80 ∷ 0x00 ∷ 0x00 ∷ 0x02 ∷
    0xab ∷ 0xcd ∷ 0x00 ∷ 0x40 ∷
    0x00 ∷ 0x02 ∷ 0x20 ∷ 0x01 ∷
    0x00 ∷ 0x00 ∷ 0x00 ∷ 0x00 ∷
    0x0a ∷ 0x00 ∷ 0x00 ∷ 0x02 ∷
    0x40 ∷ 0x00 ∷ 0x00 ∷ 0x10 ∷
    0x20 ∷ 0x01 ∷ 0x0d ∷ 0xb8 ∷
    0x00 ∷ 0x01 ∷ 0x00 ∷ 0x02 ∷
    0x80 ∷ 0x02 ∷ 0x03 ∷ 0xe8 ∷
    0xfe ∷ 0x80 ∷ 0x00 ∷ 0x00 ∷
    0x00 ∷ 0x00 ∷ 0x00 ∷ 0x00 ∷
    0x02 ∷ 0x00 ∷ 0x5e ∷ 0xff ∷
    0xfe ∷ 0x0a ∷ 0x0b ∷ 0x0c ∷
    0x0e ∷ 0x10 ∷ 0x20 ∷ 0x02 ∷
    0x00 ∷ 0x00 ∷ 0x00 ∷ 0x05 ∷
    0x0a ∷ 0x00 ∷ 0x00 ∷ 0x02 ∷
    0x80 ∷ 0x00 ∷ 0x00 ∷ 0x03 ∷
    0x43 ∷ 0x21 ∷ 0x00 ∷ 0x1c ∷
    0x00 ∷ 0x00 ∷ 0x00 ∷ 0x33 ∷
    0x0a ∷ 0x00 ∷ 0x00 ∷ 0x03 ∷
    0xff ∷ 0xfe ∷ 0xfd ∷
    []

-- An input, and the lines that the program prints for it.
pub record Listing : Type 0 where
  pub input : List ℕ
  pub output : List String

abbrev pub prints : List ℕ → List String → Listing
prints i ls = record { input = i; output = ls }

abbrev pub printing : List Listing
printing =
    -- The worked listing of the requirements: one header of version 2 and a byte more.
    prints (
    0x02 ∷ 0x00 ∷
    0x00 ∷ 0x01 ∷ 0x02 ∷ 0x01 ∷
    0x0a ∷ 0x00 ∷ 0x00 ∷ 0x01 ∷
    0x0a ∷ 0x00 ∷ 0x00 ∷ 0x01 ∷
    0x80 ∷ 0x00 ∷ 0x00 ∷ 0x01 ∷
    0x12 ∷ 0x34 ∷ 0x00 ∷ 0x18 ∷
    0xff ∷
    []) (
    "ok 1 1 140" ∷
    "open 114 0 20 1" ∷
    "open 112 0 20 8" ∷
    "u16 0 0 2 1" ∷
    "u8 1 2 3 2" ∷
    "u8 2 3 4 1" ∷
    "ip4 3 4 8 10.0.0.1" ∷
    "ip4 4 8 12 10.0.0.1" ∷
    "u32 5 12 16 2147483649" ∷
    "u16 6 16 18 4660" ∷
    "u16 7 18 20 24" ∷
    "close" ∷
    "close" ∷
    "bytes 25 20 21" ∷
    []) ∷
    -- A Summary-LSA whose own metric and the second of two TOS metrics are unreachable (examples/unreachable.bin).
    prints (
    0x02 ∷ 0x02 ∷
    0x00 ∷ 0x01 ∷ 0x02 ∷ 0x03 ∷
    0x0a ∷ 0x01 ∷ 0x00 ∷ 0x00 ∷
    0x0a ∷ 0x00 ∷ 0x00 ∷ 0x01 ∷
    0x80 ∷ 0x00 ∷ 0x00 ∷ 0x01 ∷
    0x62 ∷ 0xba ∷ 0x00 ∷ 0x24 ∷
    0xff ∷ 0xff ∷ 0x00 ∷ 0x00 ∷
    0x00 ∷ 0xff ∷ 0xff ∷ 0xff ∷
    0x08 ∷ 0x00 ∷ 0x00 ∷ 0x0a ∷
    0x10 ∷ 0xff ∷ 0xff ∷ 0xff ∷
    []) (
    "ok 1 0 215" ∷
    "u16 0 0 2 1" ∷
    "u8 1 2 3 2" ∷
    "u8 2 3 4 3" ∷
    "ip4 3 4 8 10.1.0.0" ∷
    "ip4 4 8 12 10.0.0.1" ∷
    "u32 5 12 16 2147483649" ∷
    "u16 6 16 18 25274" ∷
    "u16 7 18 20 36" ∷
    "ip4 17 20 24 255.255.0.0" ∷
    "never 19 25 28" ∷
    "open 20 28 36 2" ∷
    "open 97 28 32 2" ∷
    "u8 81 28 29 8" ∷
    "u32 82 29 32 10" ∷
    "close" ∷
    "open 97 32 36 2" ∷
    "u8 81 32 33 16" ∷
    "never 82 33 36" ∷
    "close" ∷
    "close" ∷
    []) ∷
    -- The update of version 3: 2 records, of which the first is cut into prefixes, and a tail of 3 bytes.
    prints (0x03 ∷ 0x01 ∷ update3) (
    "ok 2 3 497" ∷
    "open 114 4 96 2" ∷
    "open 113 4 68 12" ∷
    "u16 0 4 6 1" ∷
    "u16 1 6 8 8201" ∷
    "u32 2 8 12 7" ∷
    "ip4 3 12 16 10.0.0.1" ∷
    "u32 4 16 20 2147483650" ∷
    "u16 5 20 22 43981" ∷
    "u16 6 22 24 64" ∷
    "u32 28 24 26 2" ∷
    "u16 22 26 28 8193" ∷
    "u32 25 28 32 0" ∷
    "ip4 30 32 36 10.0.0.2" ∷
    "open 29 36 68 2" ∷
    "open 97 36 48 4" ∷
    "u8 80 36 37 64" ∷
    "u8 81 37 38 0" ∷
    "u16 82 38 40 16" ∷
    "ip6 83 40 48 20010db8000100020000000000000000" ∷
    "close" ∷
    "open 97 48 68 4" ∷
    "u8 80 48 49 128" ∷
    "u8 81 49 50 2" ∷
    "u16 82 50 52 1000" ∷
    "ip6 83 52 68 fe8000000000000002005efffe0a0b0c" ∷
    "close" ∷
    "close" ∷
    "close" ∷
    "open 113 68 96 9" ∷
    "u16 0 68 70 3600" ∷
    "u16 1 70 72 8194" ∷
    "u32 2 72 76 5" ∷
    "ip4 3 76 80 10.0.0.2" ∷
    "u32 4 80 84 2147483651" ∷
    "u16 5 84 86 17185" ∷
    "u16 6 86 88 28" ∷
    "u32 14 89 92 51" ∷
    "open 16 92 96 1" ∷
    "ip4 98 92 96 10.0.0.3" ∷
    "close" ∷
    "close" ∷
    "close" ∷
    "bytes 33 96 99" ∷
    []) ∷
    -- A single LSA of version 2, opaque and without a body.
    prints (0x02 ∷ 0x02 ∷ counted 20 (but 3 0x0b ∷ but 4 0x07 ∷ but 18 0x00 ∷ [])) (
    "ok 1 0 135" ∷
    "u16 0 0 2 258" ∷
    "u8 1 2 3 3" ∷
    "u8 2 3 4 11" ∷
    "ip4 3 4 8 7.6.7.8" ∷
    "ip4 4 8 12 9.10.11.12" ∷
    "u32 5 12 16 219025168" ∷
    "u16 6 16 18 4370" ∷
    "u16 7 18 20 20" ∷
    "u8 8 4 5 7" ∷
    "u32 9 5 8 395016" ∷
    "bytes 24 20 20" ∷
    []) ∷
    -- A refused input prints one line.
    prints [] ("refused 4 0" ∷ []) ∷  -- no version
    prints (2 ∷ []) ("refused 4 0" ∷ []) ∷  -- no walk
    prints (2 ∷ 3 ∷ []) ("refused 12 0" ∷ []) ∷  -- no such walk
    prints (4 ∷ 0 ∷ []) ("refused 1 0" ∷ []) ∷  -- a version that is none
    prints (2 ∷ 1 ∷ replicate 3 0) ("refused 4 0" ∷ []) ∷  -- an update of 3 bytes
    prints (3 ∷ 2 ∷ replicate 19 0) ("refused 4 0" ∷ []) ∷  -- an LSA of 19
    prints (2 ∷ 0 ∷ replicate 2049 0) ("refused 2 0" ∷ []) ∷  -- too much input
    []

pub record Listings : Type 0 where
  pub all_printed : map (λ (x : Listing). printed x.input) printing ≡ map (λ (x : Listing). lines x.output) printing
  -- The same update at the largest offset.
  pub update_placed : update_of 3 update3 5 4294901760
      ≡ accepted (
      opens 114 4294901764 4294901856 2 ∷
      opens 113 4294901764 4294901828 12 ∷
      u16 0 4294901764 4294901766 0x0001 ∷
      u16 1 4294901766 4294901768 0x2009 ∷
      u32 2 4294901768 4294901772 0x00000007 ∷
      ip4 3 4294901772 4294901776 0x0a000001 ∷
      u32 4 4294901776 4294901780 0x80000002 ∷
      u16 5 4294901780 4294901782 0xabcd ∷
      u16 6 4294901782 4294901784 0x0040 ∷
      u32 28 4294901784 4294901786 0x0002 ∷
      u16 22 4294901786 4294901788 0x2001 ∷
      u32 25 4294901788 4294901792 0x00000000 ∷
      ip4 30 4294901792 4294901796 0x0a000002 ∷
      opens 29 4294901796 4294901828 2 ∷
      opens 97 4294901796 4294901808 4 ∷
      u8 80 4294901796 4294901797 0x40 ∷
      u8 81 4294901797 4294901798 0x00 ∷
      u16 82 4294901798 4294901800 0x0010 ∷
      ip6 83 4294901800 4294901808 0x20010db800010002 0x0000000000000000 ∷
      closes ∷
      opens 97 4294901808 4294901828 4 ∷
      u8 80 4294901808 4294901809 0x80 ∷
      u8 81 4294901809 4294901810 0x02 ∷
      u16 82 4294901810 4294901812 0x03e8 ∷
      ip6 83 4294901812 4294901828 0xfe80000000000000 0x02005efffe0a0b0c ∷
      closes ∷
      closes ∷
      closes ∷
      opens 113 4294901828 4294901856 9 ∷
      u16 0 4294901828 4294901830 0x0e10 ∷
      u16 1 4294901830 4294901832 0x2002 ∷
      u32 2 4294901832 4294901836 0x00000005 ∷
      ip4 3 4294901836 4294901840 0x0a000002 ∷
      u32 4 4294901840 4294901844 0x80000003 ∷
      u16 5 4294901844 4294901846 0x4321 ∷
      u16 6 4294901846 4294901848 0x001c ∷
      u32 14 4294901849 4294901852 0x000033 ∷
      opens 16 4294901852 4294901856 1 ∷ ip4 98 4294901852 4294901856 0x0a000003 ∷ closes ∷
      closes ∷
      closes ∷
      bytes 33 4294901856 4294901859 ∷
      []) 2 3
  -- Header lists of both versions at an offset: two headers, of which the second of version 2 is opaque, and 3 bytes
  -- more.
  pub headers_2 : headers_of 2 (counted 43 (but 3 0x01 ∷ but 23 0x09 ∷ [])) 1000
      ≡ accepted (
      opens 114 1000 1040 2 ∷
      opens 112 1000 1020 8 ∷
      header2 0x01 0x05060708 (
      closes ∷
      opens 112 1020 1040 10 ∷
      u16 0 1020 1022 0x1516 ∷
      u8 1 1022 1023 0x17 ∷
      u8 2 1023 1024 0x09 ∷
      ip4 3 1024 1028 0x191a1b1c ∷
      ip4 4 1028 1032 0x1d1e1f20 ∷
      u32 5 1032 1036 0x21222324 ∷
      u16 6 1036 1038 0x2526 ∷
      u16 7 1038 1040 0x2728 ∷
      u8 8 1024 1025 0x19 ∷
      u32 9 1025 1028 0x1a1b1c ∷
      closes ∷
      closes ∷
      bytes 25 1040 1043 ∷
      [])) 2 3
  pub headers_3 : headers_of 3 (counted 43 []) 1000
      ≡ accepted (
      opens 114 1000 1040 2 ∷
      opens 112 1000 1020 7 ∷
      header3 0x0304 (
      closes ∷
      opens 112 1020 1040 7 ∷
      u16 0 1020 1022 0x1516 ∷
      u16 1 1022 1024 0x1718 ∷
      u32 2 1024 1028 0x191a1b1c ∷
      ip4 3 1028 1032 0x1d1e1f20 ∷
      u32 4 1032 1036 0x21222324 ∷
      u16 5 1036 1038 0x2526 ∷
      u16 6 1038 1040 0x2728 ∷
      closes ∷
      closes ∷
      bytes 33 1040 1043 ∷
      [])) 2 3
  -- Both forms of the first line: records, tail and length in this order; a number with the length needed.
  pub ok_line : first_line (answer 0 30 10 20) ≡ lines ("ok 10 20 30" ∷ [])
  pub refused_line : first_line (answer 5 1228294 0 0) ≡ lines ("refused 5 1228294" ∷ [])
  -- A line of each kind.
  pub kind_lines : flat_map line (
      opens 114 0 4294967295 65536 ∷
      closes ∷
      u8 1 2 3 255 ∷
      u16 4 5 7 65535 ∷
      u32 8 9 13 4294967295 ∷
      ip4 14 15 19 0x0a0b0cff ∷
      ip6 20 21 37 0x0123456789abcdef 0xfedcba9876543210 ∷
      bytes 33 38 40 ∷
      unreachable 19 25 28 ∷
      u64 147 8 16 18446744073709551615 ∷
      [])
      ≡ lines (
      "open 114 0 4294967295 65536" ∷
      "close" ∷
      "u8 1 2 3 255" ∷
      "u16 4 5 7 65535" ∷
      "u32 8 9 13 4294967295" ∷
      "ip4 14 15 19 10.11.12.255" ∷
      "ip6 20 21 37 0123456789abcdeffedcba9876543210" ∷
      "bytes 33 38 40" ∷
      "never 19 25 28" ∷
      "u64 147 8 16 18446744073709551615" ∷
      [])

pub listings : Listings
unfolding printed first_line line digits hex program_of walk_of named_of headers_of update_of lsa_of answer_of unless outer listing listing_if_any leftover header_object lsa_object container direct encode code whole cut standing after
    header_entries2 header_entries3 attached_router octets address body_entries body_tail v2.lsa_entries2 v2.lsa_tail2 v2.body2 v2.opaque_lsa v2.summary_lsa v2.summary_tos
    v3.lsa_entries3 v3.body3 v3.network_lsa3 v3.prefix v3.intra_area_prefix_lsa flat_map
listings = record {
  all_printed = refl;
  update_placed = refl;
  headers_2 = refl;
  headers_3 = refl;
  ok_line = refl;
  refused_line = refl;
  kind_lines = refl;
}
