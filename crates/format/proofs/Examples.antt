-- The worked examples, as one table that is computed: P1 to P12 of the requirements, an LSA of each layout, and whole
-- listings.
use Prim.Native.Nat.{ℕ, ◌-◌}
use mathlib.Core.Path.{◌≡◌, refl}
use mathlib.Core.List.{List, [], ◌∷◌, ◌++◌, map, flat_map}
use mathlib.Core.Option.{Option, none, some}
use lib.ListN.{replicate}
use Rattle.format.specs.Strip.{code, encode, direct, container}
use Rattle.format.specs.Strip.Entry.{bytes}
use Rattle.format.specs.Prefix.{octets, address}
use Rattle.format.specs.Cut.{cut, after, standing}
use Rattle.format.specs.Header.{header_entries2, header_entries3}
use Rattle.format.specs.Body.{Body, router_flags, listing, listing_if_any, whole, leftover, body_entries, body_tail}
use Rattle.format.specs.Body.Body.{decoded, raw}
use Rattle.format.specs.V2.{link, link_tos, router_lsa2, body2, lsa_entries2, lsa_tail2}
use Rattle.format.specs.V3.{prefix_fits, external_lsa3, tlv_lsa, body3, lsa_entries3, lsa_tail3, options}
use Rattle.format.specs.Walks.{answer, answer_of, unless, headers_of, update_of, lsa_of, outer, header_object, lsa_object, lsa_entries, header_entries}
use Rattle.format.specs.Ranges.{range, ranges}
use Rattle.format.proofs.Layouts2.{Layouts2, layouts2}
use Rattle.format.proofs.Layouts3.{Layouts3, layouts3}
use Rattle.format.proofs.Listings.{Listings, listings}

abbrev zeros : ℕ → List ℕ
zeros n = replicate n 0

-- A header of version 2 with this LS type, all else zero.
abbrev pub typed : ℕ → List ℕ
typed t = 0 ∷ 0 ∷ 0 ∷ t ∷ zeros 16

-- An update body of one record of 20 bytes that declares this length.
abbrev pub declaring : ℕ → List ℕ
declaring n = zeros 4 ++ (zeros 18 ++ (0 ∷ n ∷ []))

-- A Router-LSA of version 2 whose body has n bytes, one link counted, with 255 TOS metrics declared.
abbrev pub router : ℕ → List ℕ
router n = typed 1 ++ (0 ∷ 0 ∷ 0 ∷ 1 ∷ (zeros 9 ++ (255 ∷ zeros (n - 14))))

-- A version 3 external's body of n bytes: prefix length 64, flags 3, Referenced LS Type 0x2001.
abbrev pub external : ℕ → List ℕ
external n = 3 ∷ 0 ∷ 0 ∷ 0 ∷ 64 ∷ 0 ∷ 0x20 ∷ 0x01 ∷ zeros (n - 8)

-- How many bytes of a body are consumed, if it is decoded.
abbrev pub consumed : Body → Option ℕ
consumed (decoded es n) = some n
consumed raw = none

abbrev pub room : ℕ
room = 65536

pub record Examples : Type 0 where
  -- prefix lengths and their octets
  pub p1 : map octets (0 ∷ 1 ∷ 32 ∷ 33 ∷ 128 ∷ 129 ∷ []) ≡ some 0 ∷ some 4 ∷ some 4 ∷ some 8 ∷ some 16 ∷ none ∷ []
  -- an empty header list
  pub p2 : answer_of (headers_of 2 [] 0) room ≡ answer 0 15 0 0
  -- 19 bytes of header list
  pub p3 : answer_of (headers_of 2 (zeros 19) 0) room ≡ answer 0 25 0 19
  -- 40 bytes of header list, both headers of type 1
  pub p4 : answer_of (headers_of 2 (typed 1 ++ typed 1) 0) room ≡ answer 0 245 2 0
  -- an update of 3 bytes
  pub p5 : answer_of (update_of 2 (zeros 3) 0 0) room ≡ answer 4 0 0 0
  -- an update of 4 bytes, count 7
  pub p6 : answer_of (update_of 2 (zeros 4) 7 0) room ≡ answer 0 15 0 0
  -- an update of 24 bytes, count 1: tails by the declared lengths 19, 20, 21
  pub p7 : map (λ (n : ℕ). (answer_of (update_of 2 (declaring n) 1 0) room).tail) (19 ∷ 20 ∷ 21 ∷ []) ≡ 20 ∷ 0 ∷ 20 ∷ []
  -- two records of 20 bytes, count 1
  pub p8_records : (answer_of (update_of 2 (declaring 20 ++ (zeros 18 ++ (0 ∷ 20 ∷ []))) 1 0) room).records ≡ 1
  pub p8_tail : (answer_of (update_of 2 (declaring 20 ++ (zeros 18 ++ (0 ∷ 20 ∷ []))) 1 0) room).tail ≡ 20
  -- a router body of 1,036 bytes gives the link, one of 1,035 none
  pub p9_link : ranges 96 (lsa_entries 2 (router 1036) 0) ≡ range 24 1056 ∷ []
  pub p9_none : ranges 96 (lsa_entries 2 (router 1035) 0) ≡ []
  pub p9_tail : (answer_of (lsa_of 2 (router 1035) 0) room).tail ≡ 1031
  -- a version 3 external of 40 bytes is decoded, one of 39 raw
  pub p10_decoded : consumed (body3 5 (external 40) 20) ≡ some 40
  pub p10_raw : body3 5 (external 39) 20 ≡ raw
  -- version 3 function 33: 3 bytes are raw; 4 give flags, options and empty tlvs
  pub p11_raw : body3 33 (zeros 3) 20 ≡ raw
  pub p11_decoded : body3 33 (zeros 4) 20 ≡ decoded (router_flags 7 (zeros 4) 20 ++ (options (zeros 4) 20 ∷ bytes 32 24 24 ∷ [])) 4
  -- a version 2 Router-LSA with an empty body
  pub p12 : lsa_entries 2 (typed 1) 0 ≡ header_entries 2 (typed 1) 0
  -- an LSA of each layout, with all its entries
  pub version_2 : Layouts2
  pub version_3 : Layouts3
  -- what the program prints, and walks at an offset
  pub printing : Listings

pub examples : Examples
unfolding octets headers_of update_of lsa_of unless answer_of outer header_object lsa_object listing listing_if_any whole cut after standing leftover container direct code encode
    header_entries2 header_entries3 lsa_entries2 lsa_entries3 lsa_tail2 lsa_tail3 body_entries body_tail body2 body3 router_lsa2 link link_tos prefix_fits external_lsa3 tlv_lsa address ranges flat_map
examples = record {
  p1 = refl;
  p2 = refl;
  p3 = refl;
  p4 = refl;
  p5 = refl;
  p6 = refl;
  p7 = refl;
  p8_records = refl;
  p8_tail = refl;
  p9_link = refl;
  p9_none = refl;
  p9_tail = refl;
  p10_decoded = refl;
  p10_raw = refl;
  p11_raw = refl;
  p11_decoded = refl;
  p12 = refl;
  version_2 = layouts2;
  version_3 = layouts3;
  printing = listings;
}
