-- How long a strip can be: the entries of each body, of an LSA, and of the three walks. The length of every strip fits in
-- 32 bits.
use Prim.Native.Nat.{ℕ, ◌+◌, ◌*◌, ◌-◌, ◌/◌, ◌≤◌, ◌<◌}
use native.Mathlib.Omega.{arith}
use mathlib.Core.Path.{◌≡◌, refl}
use mathlib.Core.Bool.{Bool, true, false, cond}
use mathlib.Core.List.{List, [], ◌++◌}
use mathlib.Core.Option.{Option, none, some}
use lib.ListN.{length, get_or, drop, length-drop}
use lib.Dec.{ltb, eqb}
use Rattle.format.specs.Bytes.{be16_at, be32_at, part}
use Rattle.format.specs.Strip.{Entry, code, encode, container}
use Rattle.format.specs.Layout.{entries_at}
use Rattle.format.specs.Cut.{Span, cut, after, link_rule, prefix_rule, record_rule, fixed_rule}
use Rattle.format.specs.Header.{header_size, header_entries2, header_entries3}
use Rattle.format.specs.Body.{Body, whole, attached_router}
use Rattle.format.specs.Body.Body.{decoded, raw}
use Rattle.format.specs.V2 as v2
use Rattle.format.specs.V3 as v3
use Rattle.format.specs.Walks.{lsa_entries, header_object, lsa_object, outer, unparsed_id, headers, lsas}
use Rattle.format.proofs.Unique.{span, is_cut}
use Rattle.format.proofs.Rules.{inside, link_inside_lem}
use Rattle.format.proofs.Prefix.{fits_inside}
use Rattle.format.proofs.Loop.{spread}
use Rattle.format.proofs.Lists.{length-listing}
use Rattle.format.proofs.Lengths.{part_length, at_most, length_both, length_entries, metric_bound, length-link, length-prefix, length_optional, length_header_object, length_lsa_object, length-outer}
use Rattle.format.proofs.Bounds.{header_bound, leftover_bound, each_bound, cut_bound, whole_bound, array_bound, Sized, raw_sized, least_sized, choice_sized, lsa_sized}

-- Version 2: ten bytes for each byte of the body at most, and 42 more. A Router-LSA's flags, count and array come with its
-- first four bytes.
abbrev Sized2 : List ℕ → Body → Type 0
Sized2 b x = Sized (10 * length b + 42) x

module _ (b : List ℕ) (o : ℕ) where
  -- a link has ten bytes at most for each of its own
  pub link_bound : (p n : ℕ) → link_rule b p ≡ some n → length (encode (v2.link b o (span p n))) ≤ 10 * n
  unfolding v2.link_tos container encode code
  link_bound p n e =
      let h = link_inside_lem b p n e in
      let k = (is_cut (fixed_rule 4) b (get_or b (p + 9) 0) (p + 12)).most in
      let m = each_bound (v2.link_tos b o) 40 (λ s. omega arith) (v2.link_tos_spans b p) in
      omega (arith, length-link b o (span p n), array_bound 69 (v2.link_tos b o) o (p + 12) (v2.link_tos_spans b p))

  pub links_bound : (k p : ℕ) → length (spread (v2.link b o) (cut link_rule b k p)) ≤ 10 * (length b - p)
  links_bound k p = cut_bound 12 _ (v2.link b o) b 10 link_bound k p

  router2 : Sized2 b (v2.router_lsa2 b o)
  unfolding v2.router_lsa2 encode code
  router2 = least_sized b 4 _ (λ h.
      let l = length-listing 16 (v2.link b o) o 4 (v2.links b) in
      omega (arith, links_bound (be16_at b 2) 4))

  network2 : Sized2 b (v2.network_lsa2 b o)
  unfolding v2.network_lsa2 attached_router encode code
  network2 = least_sized b 4 _ (λ h.
      let l = length-listing 18 (attached_router b o) o 4 (whole 4 b 4) in
      omega (arith, whole_bound 4 (attached_router b o) b 10 (λ s. omega arith) 4))

  summary : Sized2 b (v2.summary_lsa b o)
  unfolding v2.summary_lsa v2.summary_tos container encode code
  summary = least_sized b 8 _ (λ h.
      let l = array_bound 20 (v2.summary_tos b o) o 8 (whole 4 b 8) in
      let w = whole_bound 4 (v2.summary_tos b o) b 10 (λ s. omega (arith, length_entries (v2.summary_tos b o s), metric_bound 82 b o (s.at + 1))) 8 in
      let own = entries_at v2.summary_rows b o 0 in
      rw (length_both own) (omega (arith, length_entries own, metric_bound 19 b o 5)))

  external2 : Sized2 b (v2.external_lsa2 b o)
  unfolding v2.external_lsa2 v2.external_tos container encode code
  external2 = least_sized b 16 _ (λ h.
      let l = array_bound 20 (v2.external_tos b o) o 16 (whole 12 b 16) in
      let w = whole_bound 12 (v2.external_tos b o) b 10 (λ s. omega (arith, length_entries (v2.external_tos b o s), metric_bound 82 b o (s.at + 1))) 16 in
      let own = v2.external_fields b o in
      rw (length_both own) (omega (arith, length_entries own, metric_bound 19 b o 5)))

  opaque : (t : ℕ) → Sized2 b (v2.opaque_lsa t b o)
  unfolding v2.opaque_lsa encode code
  opaque t = choice_sized (v2.opaque_has_tlvs t) (record { bound = omega arith }) raw_sized

  body2 : (t u : ℕ) → Sized2 b (v2.body2 t u b o)
  unfolding v2.body2
  body2 t u =
      choice_sized (eqb t 1) router2
      (choice_sized (eqb t 2) network2
      (choice_sized (eqb t 3) summary
      (choice_sized (eqb t 4) summary
      (choice_sized (eqb t 5) external2
      (choice_sized (eqb t 7) external2
      (choice_sized (eqb t 9) (opaque u)
      (choice_sized (eqb t 10) (opaque u)
      (choice_sized (eqb t 11) (opaque u) raw_sized))))))))

-- Version 3: 19 bytes for each byte of the body at most, and 10 more.
abbrev Sized3 : List ℕ → Body → Type 0
Sized3 b x = Sized (19 * length b + 10) x

module _ (b : List ℕ) (o : ℕ) where
  -- a prefix has four bytes at least
  prefix_bound : (m : Bool) (p n : ℕ) → prefix_rule b p ≡ some n → length (encode (v3.prefix m b o (span p n))) ≤ 19 * n
  prefix_bound m p n e =
      let i = inside 4 _ b p n e in
      omega (arith, length-prefix m b o (span p n), at_most m 12, i.enough)

  pub prefixes_bound : (m : Bool) (k p : ℕ) → length (spread (v3.prefix m b o) (cut prefix_rule b k p)) ≤ 19 * (length b - p)
  prefixes_bound m k p = cut_bound 4 _ (v3.prefix m b o) b 19 (prefix_bound m) k p

  router3 : Sized3 b (v3.router_lsa3 b o)
  unfolding v3.router_lsa3 v3.link container encode code
  router3 = least_sized b 4 _ (λ h.
      let l = length-listing 15 (v3.link b o) o 4 (whole 16 b 4) in
      omega (arith, whole_bound 16 (v3.link b o) b 19 (λ s. omega arith) 4))

  network3 : Sized3 b (v3.network_lsa3 b o)
  unfolding v3.network_lsa3 attached_router encode code
  network3 = least_sized b 4 _ (λ h.
      let l = length-listing 16 (attached_router b o) o 4 (whole 4 b 4) in
      omega (arith, whole_bound 4 (attached_router b o) b 19 (λ s. omega arith) 4))

  inter_area_prefix : Sized3 b (v3.inter_area_prefix_lsa b o)
  unfolding v3.inter_area_prefix_lsa encode code
  inter_area_prefix = go (v3.fixed_prefix_fits b) refl
    where
      go : (x : Option ℕ) → v3.fixed_prefix_fits b ≡ x
          → Sized3 b (elim x [ none ↦ raw | some n ↦ decoded (entries_at (v3.inter_area_prefix_rows n) b o 0) (8 + n) ])
      go none e = raw_sized
      go (some n) e = let i = fits_inside b (get_or b 4 0) 8 n e in record { bound = omega (arith, length_entries (entries_at (v3.inter_area_prefix_rows n) b o 0), metric_bound 17 b o 1) }

  inter_area_router : Sized3 b (v3.inter_area_router_lsa b o)
  unfolding v3.inter_area_router_lsa encode code
  inter_area_router = least_sized b 12 _ (λ h. omega (arith, length_entries (entries_at v3.inter_area_router_rows b o 0), metric_bound 17 b o 5))

  external3 : Sized3 b (v3.external_lsa3 b o)
  unfolding v3.external_lsa3 encode code
  external3 = go (v3.fixed_prefix_fits b)
    where
      -- each optional part takes fewer than 19 bytes for each of its own
      part : (s : Bool) (l n : ℕ) → l ≤ 19 * n → cond s l 0 ≤ 19 * cond s n 0
      part true l n h = h
      part false l n h = omega arith

      go : (x : Option ℕ) → Sized3 b (elim x [
        | none ↦ raw
        | some n ↦ cond (ltb (length b) (v3.external_end b n)) raw
            (decoded (v3.external_flags b o ++ (v3.external_prefix b o n ++ v3.external_optional b o n)) (v3.external_end b n))
      ])
      go none = raw_sized
      go (some n) = least_sized b (v3.external_end b n) _ (λ h.
          rw (length_both (v3.external_flags b o), length_both (v3.external_prefix b o n))
          (omega (arith, length_entries (v3.external_prefix b o n), metric_bound 17 b o 1, length_optional b o n, part (v3.has_forwarding b) 26 16 (omega arith), part (v3.has_tag b) 14 4 (omega arith), part (v3.has_reference b) 14 4 (omega arith))))

  link_lsa_lem : Sized3 b (v3.link_lsa b o)
  unfolding v3.link_lsa encode code
  link_lsa_lem = least_sized b 24 _ (λ h.
      let l = length-listing 29 (v3.prefix false b o) o 24 (v3.link_prefixes b) in
      omega (arith, prefixes_bound false (be32_at b 20) 24))

  intra_area_prefix : Sized3 b (v3.intra_area_prefix_lsa b o)
  unfolding v3.intra_area_prefix_lsa encode code
  intra_area_prefix = least_sized b 12 _ (λ h.
      let l = length-listing 29 (v3.prefix true b o) o 12 (v3.area_prefixes b) in
      omega (arith, prefixes_bound true (be16_at b 0) 12))

  tlv_lsa_lem : (n : ℕ) (es : List Entry) → length (encode es) ≤ 19 * n → Sized3 b (v3.tlv_lsa n es b o)
  unfolding v3.tlv_lsa encode code
  tlv_lsa_lem n es i = least_sized b n _ (λ h. omega (arith, length_both es (v3.tlvs b o n)))

  body3 : (f : ℕ) → Sized3 b (v3.body3 f b o)
  unfolding v3.body3 encode code
  body3 f =
      let t = tlv_lsa_lem 0 [] (omega arith) in
      choice_sized (eqb f 1) router3
      (choice_sized (eqb f 2) network3
      (choice_sized (eqb f 3) inter_area_prefix
      (choice_sized (eqb f 4) inter_area_router
      (choice_sized (eqb f 5) external3
      (choice_sized (eqb f 7) external3
      (choice_sized (eqb f 8) link_lsa_lem
      (choice_sized (eqb f 9) intra_area_prefix
      (choice_sized (eqb f 12) t
      (choice_sized (eqb f 33) (tlv_lsa_lem 4 (entries_at v3.router_rows b o 0) (omega arith))
      (choice_sized (eqb f 34) (tlv_lsa_lem 4 (entries_at v3.network_rows b o 0) (omega arith))
      (choice_sized (eqb f 35) t
      (choice_sized (eqb f 36) t
      (choice_sized (eqb f 37) t
      (choice_sized (eqb f 39) t
      (choice_sized (eqb f 40) (tlv_lsa_lem 4 (entries_at v3.e_link_rows b o 0) (omega arith))
      (choice_sized (eqb f 41) (tlv_lsa_lem 12 (v3.references b o) (omega arith))
      (choice_sized (eqb f 42) t raw_sized)))))))))))))))))

-- A whole LSA. The bytes that do not depend on the body's length are no more than 10 for each of the header's twenty.
module _ (d : List ℕ) (o : ℕ) (h : header_size ≤ length d) where
  pub lsa_bound2 : length (encode (v2.lsa_entries2 d o)) ≤ 10 * length d
  unfolding v2.lsa_entries2
  lsa_bound2 =
      let b = drop header_size d in
      let n = length-drop header_size d in
      omega (arith, lsa_sized (header_entries2 d o) 23 25 b (o + header_size) (body2 b (o + header_size) (get_or d 3 0) (get_or d 4 0)), header_bound 2 d o)

  pub lsa_bound3 : length (encode (v3.lsa_entries3 d o)) ≤ 19 * length d
  unfolding v3.lsa_entries3
  lsa_bound3 =
      let b = drop header_size d in
      let n = length-drop header_size d in
      omega (arith, lsa_sized (header_entries3 d o) 31 33 b (o + header_size) (body3 b (o + header_size) (v3.function_code d)), header_bound 3 d o)

  pub lsa_bound : (v : ℕ) → length (encode (lsa_entries v d o)) ≤ 19 * length d
  lsa_bound v = go (eqb v 2)
    where
      go : (s : Bool) → length (encode (cond s (v2.lsa_entries2 d o) (v3.lsa_entries3 d o))) ≤ 19 * length d
      go true = omega (arith, lsa_bound2)
      go false = lsa_bound3

-- The objects of so many headers: 140 bytes at most for each.
pub headers_bound : (v : ℕ) (d : List ℕ) (o count : ℕ) → length (spread (header_object v d o) (cut (fixed_rule header_size) d count 0)) ≤ count * 140
headers_bound v d o count = omega (arith, each_bound (header_object v d o) 140 object (cut (fixed_rule header_size) d count 0), (is_cut (fixed_rule header_size) d count 0).most)
  where
    object : (s : Span) → length (encode (header_object v d o s)) ≤ 140
    object s = omega (arith, length_header_object v d o s.at s.len, header_bound v (part d s.at s.len) (o + s.at))

-- The objects of an update: 20 bytes at most for each byte of the data after the number of LSAs. An object takes fifteen bytes
-- more than its LSA's entries, and an LSA has 20 bytes at least.
pub lsas_bound : (v : ℕ) (d : List ℕ) (o count : ℕ) → length (spread (lsa_object v d o) (lsas d count)) ≤ 20 * (length d - 4)
lsas_bound v d o count = cut_bound 20 _ (lsa_object v d o) d 20 each count 4
  where
    each : (p n : ℕ) → record_rule d p ≡ some n → length (encode (lsa_object v d o (span p n))) ≤ 20 * n
    each p n e =
        let i = inside 20 _ d p n e in
        let l = part_length d p n i.within in
        omega (arith, length_lsa_object v d o p n, lsa_bound (part d p n) (o + p) (omega (arith, i.enough)) v, i.enough)

-- The whole strip of each walk over data of a call's limit: its length fits in 32 bits.
pub headers_size : (v : ℕ) (d : List ℕ) (o : ℕ) → length d ≤ 65535 → length (encode (outer v (header_object v d o) d o 0 (headers d))) < 4294967296
unfolding whole spread
headers_size v d o h =
    omega (arith, length-outer v (header_object v d o) d o 0 (headers d), headers_bound v d o ((length d - 0) / header_size), leftover_bound (unparsed_id v) d o (after 0 (headers d)))

pub update_size : (v : ℕ) (d : List ℕ) (o count : ℕ) → length d ≤ 65535 → length (encode (outer v (lsa_object v d o) d o 4 (lsas d count))) < 4294967296
unfolding spread
update_size v d o count h =
    omega (arith, length-outer v (lsa_object v d o) d o 4 (lsas d count), lsas_bound v d o count, leftover_bound (unparsed_id v) d o (after 4 (lsas d count)))

pub lsa_size : (v : ℕ) (d : List ℕ) (o : ℕ) → 20 ≤ length d → length d ≤ 65535 → length (encode (lsa_entries v d o)) < 4294967296
lsa_size v d o h k = omega (arith, lsa_bound d o h v)
