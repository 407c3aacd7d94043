-- The one walk over all bodies of both versions: where the entries of every LSA lie, which containers and kind 8 entries
-- they have, and how they end.
use Prim.Native.Nat.{ℕ, ◌+◌, ◌-◌, ◌*◌, ◌%◌, ◌≤◌}
use native.Mathlib.Omega.{arith}
use mathlib.Core.Path.{◌≡◌, refl, sym, ap, ◌∙◌}
use mathlib.Core.Bool.{Bool, true, false, cond}
use mathlib.Core.List.{List, [], ◌∷◌, ◌++◌, append-nil, append_assoc}
use mathlib.Core.Option.{Option, none as nothing, some}
use lib.ListN.{length, get_or, drop, length-drop}
use lib.Dec.{ltb, eqb}
use borrow.Author.Tests.{ltb-true, ltb-false, le-ltb, eq-eqb}
use Rattle.format.specs.Bytes.{be16_at}
use Rattle.format.specs.Strip.{Entry, container}
use Rattle.format.specs.Strip.Entry.{bytes}
use Rattle.format.specs.Layout.{Layout, entries_at}
use Rattle.format.specs.Cut.{Span, Rule, cut, after, standing, fixed_rule, link_rule, prefix_rule}
use Rattle.format.specs.Header.{header_entries2, header_entries3, identity_rows2, identity_rows3, instance_rows, opaque_rows, is_opaque}
use Rattle.format.specs.Body.{Body, listing, listing_if_any, attached_router_rows, attached_router, whole, leftover, own_of, body_entries, body_tail}
use Rattle.format.specs.Body.Body.{decoded, raw}
use Rattle.format.specs.V2 as v2
use Rattle.format.specs.V3 as v3
use Rattle.format.specs.Walks.{lsa_entries, lsa_tail}
use Rattle.format.specs.Laid.{Laid, among, only, Ending}
use Rattle.format.specs.Laid.Laid.{none, field}
use Rattle.format.specs.Laid.Ending.{nothing_left, unparsed_left, raw-or-tlvs}
use Rattle.format.specs.Lists.{from, containers2, containers3, containers, metrics2, metrics3, metrics, raw_or_tlvs, unparsed, holds}
use Rattle.format.proofs.Unique.{span}
use Rattle.format.proofs.Rules.{inside}
use Rattle.format.proofs.Prefix.{fits_inside}
use Rattle.format.proofs.Rows.{Within, ids_fit, rows_laid, rows_first}
use Rattle.format.proofs.Nested.{Nested, any, nested_append}
use Rattle.format.proofs.Nested.Nested.{none as nested_none, field as nested_field}
use Rattle.format.proofs.Laid.{nested_of, cut_inside, fixed_length, fixed_end, after-from, widen, laid_append, laid_container, laid_cond, laid_listing, laid_listing_if, weaken, only_more, among_cond, cond_same}

-- Headers, and the items of lists, by the containers c, the metrics ms and the ranges r that are allowed.
module _ (c ms r : List ℕ) (b : List ℕ) (o : ℕ) where
  pub laid_header2 : ids_fit ms (instance_rows 5) ≡ true → ids_fit ms opaque_rows ≡ true → Laid (only c ms r) o (o + 20) (header_entries2 b o)
  unfolding header_entries2
  laid_header2 h k =
      laid_append (rows_first _ _ _ b o 20 identity_rows2 (omega arith) refl)
      (laid_append (rows_first _ _ _ b o 20 (instance_rows 5) (omega arith) h)
      (laid_cond (is_opaque (get_or b 3 0)) (rows_first _ _ _ b o 20 opaque_rows (omega arith) k) none))

  pub laid_header3 : ids_fit ms identity_rows3 ≡ true → ids_fit ms (instance_rows 4) ≡ true → Laid (only c ms r) o (o + 20) (header_entries3 b o)
  unfolding header_entries3
  laid_header3 h k = laid_append (rows_first _ _ _ b o 20 identity_rows3 (omega arith) h) (rows_first _ _ _ b o 20 (instance_rows 4) (omega arith) k)

  laid_attached : (p n : ℕ) → fixed_rule 4 b p ≡ some n → Laid (only c ms r) (o + p) (o + p + n) (attached_router b o (span p n))
  unfolding attached_router
  laid_attached p n e = let q = fixed_length 4 b p n e in rows_laid b o p _ _ _ 4 attached_router_rows (omega arith) refl (omega arith) (omega arith)

  -- an object of one length around the fields of a table
  laid_object : (i m : ℕ) (t : Layout) → Within m t → ids_fit ms t ≡ true → among c i ≡ true → (p n : ℕ) → fixed_rule m b p ≡ some n
      → Laid (only c ms r) (o + p) (o + p + n) (container i (o + p) (o + p + m) (entries_at t b o p))
  laid_object i m t w v h p n e =
      let q = fixed_length m b p n e in
      laid_container _ _ _ h (omega arith) (omega arith) (omega arith) (rows_laid b o p _ _ _ m t w v (omega arith) (omega arith))

  pub laid_prefix_inside : (m : Bool) (s : Span) → Laid (only c ms r) (o + s.at) (o + (s.at + 4) + (s.len - 4)) (v3.prefix_inside m b o s)
  laid_prefix_inside m s =
      laid_append (rows_laid b o s.at _ _ _ 4 v3.prefix_rows (omega arith) refl (omega arith) (omega arith))
      (laid_append (laid_cond m (rows_laid b o s.at _ _ _ 4 v3.prefix_metric_rows (omega arith) refl (omega arith) (omega arith)) none)
      (rows_laid b o s.at _ _ _ (4 + (s.len - 4)) (v3.prefix_address_rows (s.len - 4)) (omega arith) refl (omega arith) (omega arith)))

  module _ (h : among c 97 ≡ true) where
    laid_link-tos : ids_fit ms v2.link_tos_rows ≡ true → (p n : ℕ) → fixed_rule 4 b p ≡ some n → Laid (only c ms r) (o + p) (o + p + n) (v2.link_tos b o (span p n))
    unfolding v2.link_tos
    laid_link-tos v = laid_object 97 4 v2.link_tos_rows (omega arith) v h

    laid_summary_tos : ids_fit ms v2.summary_tos_rows ≡ true → (p n : ℕ) → fixed_rule 4 b p ≡ some n → Laid (only c ms r) (o + p) (o + p + n) (v2.summary_tos b o (span p n))
    unfolding v2.summary_tos
    laid_summary_tos v = laid_object 97 4 v2.summary_tos_rows (omega arith) v h

    laid_external_tos : ids_fit ms v2.external_tos_rows ≡ true → (p n : ℕ) → fixed_rule 12 b p ≡ some n → Laid (only c ms r) (o + p) (o + p + n) (v2.external_tos b o (span p n))
    unfolding v2.external_tos
    laid_external_tos v = laid_object 97 12 v2.external_tos_rows (omega arith) v h

    -- a link up to the end of its TOS metrics, whether or not it stands in the body
    pub laid_link_inside : ids_fit ms v2.link_tos_rows ≡ true → among c 69 ≡ true → (s : Span) → Laid (only c ms r) (o + s.at) (o + after (s.at + 12) (v2.link_tos_spans b s.at)) (v2.link_inside b o s)
    laid_link_inside v k s =
        let a = after-from (v2.link_tos_spans b s.at) (s.at + 12) in
        laid_append (rows_laid b o s.at _ _ _ 12 v2.link_rows (omega arith) refl (omega arith) (omega arith))
        (laid_listing_if _ _ _ _ _ _ _ (λ t e n. k) (omega arith) (omega arith) (laid_link-tos v))

    -- a link that stands has room for its TOS metrics
    laid_link2 : ids_fit ms v2.link_tos_rows ≡ true → among c 69 ≡ true → among c 96 ≡ true → (p n : ℕ) → link_rule b p ≡ some n → Laid (only c ms r) (o + p) (o + p + n) (v2.link b o (span p n))
    unfolding v2.link
    laid_link2 v k l p n e =
        let d = (inside 12 _ b p n e).length_declared in
        let m : 12 + get_or b (p + 9) 0 * 4 ≡ n = cc in
        let t = fixed_end 4 b (get_or b (p + 9) 0) (p + 12) in
        laid_container _ _ _ l (omega arith) (omega arith) (omega arith) (widen (omega arith) (omega arith) (laid_link_inside v k (span p n)))

    laid_prefix : (m : Bool) (p n : ℕ) → prefix_rule b p ≡ some n → Laid (only c ms r) (o + p) (o + p + n) (v3.prefix m b o (span p n))
    unfolding v3.prefix
    laid_prefix m p n e =
        let l = (inside 4 _ b p n e).enough in
        laid_container _ _ _ h (omega arith) (omega arith) (omega arith) (widen (omega arith) (omega arith) (laid_prefix_inside m (span p n)))

  laid_link3 : ids_fit ms v3.link_rows ≡ true → among c 96 ≡ true → (p n : ℕ) → fixed_rule 16 b p ≡ some n → Laid (only c ms r) (o + p) (o + p + n) (v3.link b o (span p n))
  unfolding v3.link
  laid_link3 = laid_object 96 16 v3.link_rows (omega arith)

-- A body, b, at the place o: what is decoded lies before the place where it ends, which lies in the body, and has no kind 8
-- entry but TLVs, which take the rest of the body. The second body is the same one at any other place: how much of it is
-- decoded does not depend on where it stands.
data BodyLaid (tlvs : ℕ) (b : List ℕ) (o : ℕ) (c ms : List ℕ) : Body → Body → Type 0 where
  is : {es es' : List Entry} {n : ℕ} → n ≤ length b → Laid (only c ms []) o (o + n) es → BodyLaid tlvs b o c ms (decoded es n) (decoded es' n)
  is_tlvs : {es es' : List Entry} (s : ℕ) → o ≤ s → s ≤ o + length b → Laid (only c ms []) o s es
      → BodyLaid tlvs b o c ms (decoded (es ++ (bytes tlvs s (o + length b) ∷ [])) (length b)) (decoded es' (length b))
  is_raw : BodyLaid tlvs b o c ms raw raw

-- A choice between two bodies, with their own containers, metrics or both, or the same ones; and a body that is raw below a
-- least length.
module _ {tlvs : ℕ} {b : List ℕ} {o : ℕ} where
  choice : (t : Bool) {f g ms : List ℕ} {x x' y y' : Body} → BodyLaid tlvs b o f ms x x' → BodyLaid tlvs b o g ms y y'
      → BodyLaid tlvs b o (cond t f g) ms (cond t x y) (cond t x' y')
  choice true m n = m
  choice false m n = n

  choice_metrics : (t : Bool) {c ms ns : List ℕ} {x x' y y' : Body} → BodyLaid tlvs b o c ms x x' → BodyLaid tlvs b o c ns y y'
      → BodyLaid tlvs b o c (cond t ms ns) (cond t x y) (cond t x' y')
  choice_metrics true m n = m
  choice_metrics false m n = n

  choice_both : (t : Bool) {f g ms ns : List ℕ} {x x' y y' : Body} → BodyLaid tlvs b o f ms x x' → BodyLaid tlvs b o g ns y y'
      → BodyLaid tlvs b o (cond t f g) (cond t ms ns) (cond t x y) (cond t x' y')
  choice_both true m n = m
  choice_both false m n = n

  same : (t : Bool) {c ms : List ℕ} {x x' y y' : Body} → BodyLaid tlvs b o c ms x x' → BodyLaid tlvs b o c ms y y' → BodyLaid tlvs b o c ms (cond t x y) (cond t x' y')
  same true m n = m
  same false m n = n

  at_least : (n : ℕ) {c ms : List ℕ} {x x' : Body} → (n ≤ length b → BodyLaid tlvs b o c ms x x')
      → BodyLaid tlvs b o (from n (length b) c) ms (cond (ltb (length b) n) raw x) (cond (ltb (length b) n) raw x')
  at_least n {c} {ms} {x} {x'} h = go (ltb (length b) n) refl
    where
      go : (t : Bool) → ltb (length b) n ≡ t → BodyLaid tlvs b o (cond t [] c) ms (cond t raw x) (cond t raw x')
      go true e = is_raw
      go false e = h (ltb-false (length b) n e)

  -- the same where the containers are those of a choice around it
  raw_below : (n : ℕ) {c ms : List ℕ} {x x' : Body} → (n ≤ length b → BodyLaid tlvs b o c ms x x') → BodyLaid tlvs b o c ms (cond (ltb (length b) n) raw x) (cond (ltb (length b) n) raw x')
  raw_below n {c} {ms} {x} {x'} h = go (ltb (length b) n) refl
    where
      go : (t : Bool) → ltb (length b) n ≡ t → BodyLaid tlvs b o c ms (cond t raw x) (cond t raw x')
      go true e = is_raw
      go false e = h (ltb-false (length b) n e)

  -- the fields of a table up to a place, and the array of a list from there on
  module _ {c ms : List ℕ} {es' : List Entry} (t : Layout) (i p : ℕ) (f : Span → List Entry) (least : ℕ) (declared : Rule) (k : ℕ)
      (in-front : Within p t) (met : ids_fit ms t ≡ true) (g : among c i ≡ true) (h : p ≤ length b)
      (items : (q n : ℕ) → standing least declared b q ≡ some n → Laid (only c ms []) (o + q) (o + q + n) (f (span q n))) where
    is_listed : let ss = cut (standing least declared) b k p in BodyLaid tlvs b o c ms (decoded (entries_at t b o 0 ++ listing i f o p ss) (after p ss)) (decoded es' (after p ss))
    is_listed =
        let a = after-from (cut (standing least declared) b k p) p in
        is (cut_inside least declared b k p h)
        (laid_append (rows_laid b o 0 _ _ [] p t in-front met (omega arith) (omega arith)) (laid_listing i o p f (standing least declared) b k (λ s e n. g) (omega arith) (omega arith) items))

    is_listed_if : let ss = cut (standing least declared) b k p in BodyLaid tlvs b o c ms (decoded (entries_at t b o 0 ++ listing_if_any i f o p ss) (after p ss)) (decoded es' (after p ss))
    is_listed_if =
        let a = after-from (cut (standing least declared) b k p) p in
        is (cut_inside least declared b k p h)
        (laid_append (rows_laid b o 0 _ _ [] p t in-front met (omega arith) (omega arith)) (laid_listing_if i o p f (standing least declared) b k (λ s e n. g) (omega arith) (omega arith) items))

-- The bodies of version 2, at the places o and q.
module _ (b : List ℕ) (o q : ℕ) where
  abbrev Laid2 : (c ms : List ℕ) → (List ℕ → ℕ → Body) → Type 0
  Laid2 c ms f = BodyLaid 24 b o c ms (f b o) (f b q)

  router2 : Laid2 (from 4 (length b) (16 ∷ 96 ∷ 69 ∷ 97 ∷ [])) [] v2.router_lsa2
  unfolding v2.router_lsa2
  router2 = at_least _ (λ h. is_listed v2.router_rows _ _ _ _ _ _ (omega arith) refl refl h (laid_link2 (16 ∷ 96 ∷ 69 ∷ 97 ∷ []) [] [] b o refl refl refl refl))

  network2 : Laid2 (from 4 (length b) (18 ∷ [])) [] v2.network_lsa2
  unfolding v2.network_lsa2 whole
  network2 = at_least _ (λ h. is_listed v2.network_rows _ _ _ _ _ _ (omega arith) refl refl h (laid_attached (18 ∷ []) [] [] b o))

  summary : Laid2 (from 8 (length b) (20 ∷ 97 ∷ [])) (19 ∷ 82 ∷ []) v2.summary_lsa
  unfolding v2.summary_lsa whole
  summary = at_least _ (λ h. is_listed_if v2.summary_rows _ _ _ _ _ _ (omega arith) refl refl h (laid_summary_tos (20 ∷ 97 ∷ []) (19 ∷ 82 ∷ []) [] b o refl refl))

  external2 : Laid2 (from 16 (length b) (20 ∷ 97 ∷ [])) (19 ∷ 82 ∷ []) v2.external_lsa2
  unfolding v2.external_lsa2 whole
  external2 = at_least _ (λ h. is_listed_if v2.external_rows _ _ _ _ _ _ (omega arith) refl refl h (laid_external_tos (20 ∷ 97 ∷ []) (19 ∷ 82 ∷ []) [] b o refl refl))

  opaque : {c : List ℕ} (u : ℕ) → Laid2 c [] (v2.opaque_lsa u)
  unfolding v2.opaque_lsa
  opaque u = same (v2.opaque_has_tlvs u) (is_tlvs {es = []} o (omega arith) (omega arith) none) is_raw

  laid_body2 : (t u : ℕ) → Laid2 (containers2 t (length b)) (metrics2 t) (v2.body2 t u)
  unfolding v2.body2
  laid_body2 t u =
      choice_both (eqb t 1) router2
      (choice_both (eqb t 2) network2
      (choice_both (eqb t 3) summary
      (choice_both (eqb t 4) summary
      (choice_both (eqb t 5) external2
      (choice_both (eqb t 7) external2
      (same (eqb t 9) (opaque u)
      (same (eqb t 10) (opaque u)
      (same (eqb t 11) (opaque u) is_raw))))))))

-- The bodies of version 3.
module _ (b : List ℕ) (o q : ℕ) where
  abbrev Laid3 : (c ms : List ℕ) → (List ℕ → ℕ → Body) → Type 0
  Laid3 c ms f = BodyLaid 32 b o c ms (f b o) (f b q)

  router3 : Laid3 (from 4 (length b) (15 ∷ 96 ∷ [])) [] v3.router_lsa3
  unfolding v3.router_lsa3 whole
  router3 = at_least _ (λ h. is_listed v3.router_rows _ _ _ _ _ _ (omega arith) refl refl h (laid_link3 (15 ∷ 96 ∷ []) [] [] b o refl refl))

  network3 : Laid3 (from 4 (length b) (16 ∷ [])) [] v3.network_lsa3
  unfolding v3.network_lsa3 whole
  network3 = at_least _ (λ h. is_listed v3.network_rows _ _ _ _ _ _ (omega arith) refl refl h (laid_attached (16 ∷ []) [] [] b o))

  inter_area_prefix : {c : List ℕ} → Laid3 c (17 ∷ []) v3.inter_area_prefix_lsa
  unfolding v3.inter_area_prefix_lsa
  inter_area_prefix {c} = go (v3.fixed_prefix_fits b) refl
    where
      go : (x : Option ℕ) → v3.fixed_prefix_fits b ≡ x → BodyLaid 32 b o c (17 ∷ [])
          (elim x [ nothing ↦ raw | some n ↦ decoded (entries_at (v3.inter_area_prefix_rows n) b o 0) (8 + n) ])
          (elim x [ nothing ↦ raw | some n ↦ decoded (entries_at (v3.inter_area_prefix_rows n) b q 0) (8 + n) ])
      go nothing e = is_raw
      go (some n) e = is (fits_inside b (get_or b 4 0) 8 n e).0 (rows_first c (17 ∷ []) [] b o (8 + n) (v3.inter_area_prefix_rows n) (omega arith) refl)

  inter_area_router : {c : List ℕ} → Laid3 c (17 ∷ []) v3.inter_area_router_lsa
  unfolding v3.inter_area_router_lsa
  inter_area_router {c} = raw_below _ (λ h. is h (rows_first c (17 ∷ []) [] b o 12 v3.inter_area_router_rows (omega arith) refl))

  link_lsa_lem : Laid3 (from 24 (length b) (29 ∷ 97 ∷ [])) [] v3.link_lsa
  unfolding v3.link_lsa
  link_lsa_lem = at_least _ (λ h. is_listed v3.link_lsa_rows _ _ _ _ _ _ (omega arith) refl refl h (laid_prefix (29 ∷ 97 ∷ []) [] [] b o refl false))

  intra_area_prefix : Laid3 (from 12 (length b) (29 ∷ 97 ∷ [])) [] v3.intra_area_prefix_lsa
  unfolding v3.intra_area_prefix_lsa
  intra_area_prefix = at_least _ (λ h. is_listed v3.intra_area_prefix_rows _ _ _ _ _ _ (omega arith) refl refl h (laid_prefix (29 ∷ 97 ∷ []) [] [] b o refl true))

  tlv_lsa_lem : {c : List ℕ} (n : ℕ) (t : Layout) → Within n t → ids_fit [] t ≡ true → BodyLaid 32 b o c [] (v3.tlv_lsa n (entries_at t b o 0) b o) (v3.tlv_lsa n (entries_at t b q 0) b q)
  unfolding v3.tlv_lsa
  tlv_lsa_lem {c} n t w v = raw_below _ (λ h. is_tlvs (o + n) (omega arith) (omega arith) (rows_first c [] [] b o n t w v))

  external3 : {c : List ℕ} → Laid3 c (17 ∷ []) v3.external_lsa3
  unfolding v3.external_lsa3
  external3 {c} = go (v3.fixed_prefix_fits b)
    where
      fields : ℕ → ℕ → List Entry
      fields p n = v3.external_flags b p ++ (v3.external_prefix b p n ++ v3.external_optional b p n)

      -- n bytes that are there where the test says so
      optional : (t : Bool) (n : ℕ) (rows : Layout) (p hi : ℕ) → Within n rows → ids_fit (17 ∷ []) rows ≡ true → p + cond t n 0 ≤ hi → Laid (only c (17 ∷ []) []) o (o + hi) (cond t (entries_at rows b o p) [])
      optional true n rows p hi w v l = rows_laid b o p c (17 ∷ []) [] n rows w v (omega arith) (omega arith)
      optional false n rows p hi w v l = none

      laid : (n : ℕ) → Laid (only c (17 ∷ []) []) o (o + v3.external_end b n) (fields o n)
      laid n =
          laid_append (rows_first c (17 ∷ []) [] b o (v3.external_end b n) v3.external_flag_rows (omega arith) refl)
          (laid_append (rows_first c (17 ∷ []) [] b o (v3.external_end b n) (v3.external_prefix_rows n) (omega arith) refl)
          (laid_append (optional (v3.has_forwarding b) 16 v3.forwarding_rows _ _ (omega arith) refl (omega arith))
          (laid_append (optional (v3.has_tag b) 4 v3.tag_rows _ _ (omega arith) refl (omega arith))
          (optional (v3.has_reference b) 4 v3.referenced_rows _ _ (omega arith) refl (omega arith)))))

      go : (x : Option ℕ) → BodyLaid 32 b o c (17 ∷ [])
          (elim x [ nothing ↦ raw | some n ↦ cond (ltb (length b) (v3.external_end b n)) raw (decoded (fields o n) (v3.external_end b n)) ])
          (elim x [ nothing ↦ raw | some n ↦ cond (ltb (length b) (v3.external_end b n)) raw (decoded (fields q n) (v3.external_end b n)) ])
      go nothing = is_raw
      go (some n) = raw_below (v3.external_end b n) (λ h. is h (laid n))

  laid_body3 : (f : ℕ) → Laid3 (containers3 f (length b)) (metrics3 f) (v3.body3 f)
  unfolding v3.body3
  laid_body3 f =
      choice_both (eqb f 1) router3
      (choice_both (eqb f 2) network3
      (choice_metrics (eqb f 3) inter_area_prefix
      (choice_metrics (eqb f 4) inter_area_router
      (choice_metrics (eqb f 5) external3
      (choice_metrics (eqb f 7) external3
      (choice (eqb f 8) link_lsa_lem
      (choice (eqb f 9) intra_area_prefix
      (same (eqb f 12) (tlv_lsa_lem 0 [] (omega arith) refl)
      (same (eqb f 33) (tlv_lsa_lem 4 v3.router_rows (omega arith) refl)
      (same (eqb f 34) (tlv_lsa_lem 4 v3.network_rows (omega arith) refl)
      (same (eqb f 35) (tlv_lsa_lem 0 [] (omega arith) refl)
      (same (eqb f 36) (tlv_lsa_lem 0 [] (omega arith) refl)
      (same (eqb f 37) (tlv_lsa_lem 0 [] (omega arith) refl)
      (same (eqb f 39) (tlv_lsa_lem 0 [] (omega arith) refl)
      (same (eqb f 40) (tlv_lsa_lem 4 v3.e_link_rows (omega arith) refl)
      (same (eqb f 41) (tlv_lsa_lem 12 v3.reference_rows (omega arith) refl)
      (same (eqb f 42) (tlv_lsa_lem 0 [] (omega arith) refl) is_raw)))))))))))))))))

-- A body's entries with what is left of it, and its tail.
body_ends : {tlvs : ℕ} {b : List ℕ} {o : ℕ} {c ms : List ℕ} {x x' : Body} (w : List ℕ) (r u : ℕ) → among w tlvs ≡ true → among w r ≡ true → BodyLaid tlvs b o c ms x x'
    → Ending c ms w u o (o + length b) (body_entries r u x b o) (body_tail x' b)
unfolding body_entries body_tail leftover
body_ends {b = b} {o = o} {c = c} {ms = ms} w r u h k (is {es = es} {n = n} i l) = go (ltb n (length b)) refl
  where
    go : (t : Bool) → ltb n (length b) ≡ t → Ending c ms w u o (o + length b) (es ++ cond t (bytes u (o + n) (o + length b) ∷ []) []) (length b - n)
    go true e = let a = ltb-true n (length b) e in unparsed_left es (o + n) refl l (omega arith) (omega arith) (omega arith)
    go false e = let a = ltb-false n (length b) e in nothing_left (rw append-nil (widen (omega arith) (omega arith) l)) (omega arith)
body_ends {tlvs} {b} {o} {c} {ms} w r u h k (is_tlvs {es = es} s f t l) = rw (le-ltb (length b) (length b) (omega arith), append-nil) (raw-or-tlvs es tlvs s h refl l f t (omega arith))
body_ends {b = b} {o = o} {c = c} {ms = ms} w r u h k is_raw = go (ltb 0 (length b))
  where
    go : (t : Bool) → Ending c ms w u o (o + length b) (cond t (bytes r (o + 0) (o + length b) ∷ []) []) 0
    go true = raw-or-tlvs [] r (o + 0) k refl none (omega arith) (omega arith) refl
    go false = nothing_left none refl

-- The same after entries that lie before it and have no kind 8 entry.
after_front : {c ms w : List ℕ} {u lo mid hi tail : ℕ} {front es : List Entry} → Laid (only c ms []) lo mid front → lo ≤ mid → mid ≤ hi
    → Ending c ms w u mid hi es tail → Ending c ms w u lo hi (front ++ es) tail
after_front l a b (nothing_left m t) = nothing_left (laid_append (widen (omega arith) b l) (widen a (omega arith) m)) t
after_front {front = front} l a b (unparsed_left es s e m f g t) =
    unparsed_left (front ++ es) s (ap (λ (x : List Entry). front ++ x) e ∙ sym (append_assoc front es _)) (laid_append (widen (omega arith) f l) (widen a (omega arith) m)) (omega arith) g t
after_front {front = front} l a b (raw-or-tlvs es i s k e m f g t) =
    raw-or-tlvs (front ++ es) i s k (ap (λ (x : List Entry). front ++ x) e ∙ sym (append_assoc front es _)) (laid_append (widen (omega arith) f l) (widen a (omega arith) m)) (omega arith) g t

-- The own entries of a body are well nested.
nested_body : {tlvs : ℕ} {b : List ℕ} {o : ℕ} {c ms : List ℕ} {x x' : Body} → BodyLaid tlvs b o c ms x x' → Nested any (own_of x)
nested_body (is h l) = nested_of (λ i s e n t. refl) l
nested_body (is_tlvs s h k l) = nested_append any (nested_of (λ i s e n t. refl) l) (nested_field refl nested_none)
nested_body is_raw = nested_none

module _ (d : List ℕ) (o : ℕ) where
  pub nested_own2 : Nested any (own_of (v2.body_of2 d o))
  nested_own2 = nested_body (laid_body2 (drop 20 d) (o + 20) 20 (get_or d 3 0) (get_or d 4 0))

  pub nested_own3 : Nested any (own_of (v3.body_of3 d o))
  nested_own3 = nested_body (laid_body3 (drop 20 d) (o + 20) 20 (be16_at d 2 % 8192))

-- How the entries of any LSA end, whatever its length; and what they are laid out in.
pub lsa_ends : (v : ℕ) (d : List ℕ) (o : ℕ) → Ending (containers v d) (metrics v d) (raw_or_tlvs v) (unparsed v) o (o + 20 + length (drop 20 d)) (lsa_entries v d o) (lsa_tail v d)
unfolding v2.lsa_entries2 v2.lsa_tail2 v3.lsa_entries3 v3.lsa_tail3
lsa_ends v d o = go (eqb v 2)
  where
    b : List ℕ
    b = drop 20 d

    go : (t : Bool) → Ending (cond t (containers2 (get_or d 3 0) (length b)) (containers3 (be16_at d 2 % 8192) (length b))) (cond t (metrics2 (get_or d 3 0)) (metrics3 (be16_at d 2 % 8192))) (cond t (23 ∷ 24 ∷ []) (31 ∷ 32 ∷ [])) (cond t 25 33)
        o (o + 20 + length b) (cond t (v2.lsa_entries2 d o) (v3.lsa_entries3 d o)) (cond t (v2.lsa_tail2 d) (v3.lsa_tail3 d))
    go true = after_front (laid_header2 (containers2 (get_or d 3 0) (length b)) (metrics2 (get_or d 3 0)) [] d o (simp (among_cond, cond_same)) (simp (among_cond, cond_same))) (omega arith) (omega arith) (body_ends _ 23 25 refl refl (laid_body2 b (o + 20) 20 (get_or d 3 0) (get_or d 4 0)))
    go false = after_front (laid_header3 (containers3 (be16_at d 2 % 8192) (length b)) (metrics3 (be16_at d 2 % 8192)) [] d o (simp (among_cond, cond_same)) (simp (among_cond, cond_same))) (omega arith) (omega arith) (body_ends _ 31 33 refl refl (laid_body3 b (o + 20) 20 (be16_at d 2 % 8192)))

-- Entries that end so are laid out.
or_else : (t : Bool) {x : Bool} → x ≡ true → cond t true x ≡ true
or_else true h = refl
or_else false h = h

ending_laid : {c ms w : List ℕ} {u lo hi tail : ℕ} {es : List Entry} → Ending c ms w u lo hi es tail → Laid (only c ms (u ∷ w)) lo hi es
ending_laid {c} {ms} {w} {u} {lo} {hi} {tail} {es} e = go e
  where
    fewer : {mid : ℕ} {xs : List Entry} → mid ≤ hi → Laid (only c ms []) lo mid xs → Laid (only c ms (u ∷ w)) lo hi xs
    fewer h l = weaken (only_more c c ms [] (u ∷ w) (λ i k. k) (λ i k. let z : ◌≡◌ {A = ℕ} 0 1 = cc in absurd (omega arith))) (widen (omega arith) h l)

    go : Ending c ms w u lo hi es tail → Laid (only c ms (u ∷ w)) lo hi es
    go (nothing_left l t) = fewer (omega arith) l
    go (unparsed_left front s e l f g t) = rw e (laid_append (fewer (omega arith) l) (field refl (rw (eq-eqb u u refl)) (omega arith) (omega arith) (omega arith) none))
    go (raw-or-tlvs front i s k e l f g t) = rw e (laid_append (fewer g l) (field refl (rw (or_else (eqb i u) k)) (omega arith) (omega arith) (omega arith) none))

-- The entries of any LSA, to the end of its header at least; and of one that has its header.
pub laid_any : (v : ℕ) (d : List ℕ) (o : ℕ) → Laid (holds v d) o (o + 20 + length (drop 20 d)) (lsa_entries v d o)
laid_any v d o = ending_laid (lsa_ends v d o)

pub laid_lsa : (v : ℕ) (d : List ℕ) (o : ℕ) → 20 ≤ length d → Laid (holds v d) o (o + length d) (lsa_entries v d o)
laid_lsa v d o h = let l = length-drop 20 d in widen (omega arith) (omega arith) (laid_any v d o)
