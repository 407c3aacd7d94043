-- How many entries stand directly inside a link, in a body and in a whole LSA; and that each record of a list is one.
use Prim.Native.Nat.{ℕ, zero, suc, ◌+◌, ◌-◌, ◌/◌, ◌*◌, ◌≤◌, ◌<◌}
use native.Mathlib.Nat.{zero-mul, suc-mul}
use native.Mathlib.Omega.{arith}
use mathlib.Core.Path.{◌≡◌, refl, ap, ◌∙◌}
use mathlib.Core.Bool.{Bool, true, false, cond}
use mathlib.Core.List.{List, [], ◌++◌}
use mathlib.Core.Option.{some}
use lib.ListN.{length, get_or, drop}
use lib.Dec.{eqb, ltb}
use borrow.Author.Tests.{lt-ltb, le-ltb, ne_eqb}
use Rattle.format.specs.Strip.{Entry, direct}
use Rattle.format.specs.Inside.{Counts}
use Rattle.format.specs.Layout.{Layout, entries_at}
use Rattle.format.specs.Cut.{Span, after, link_rule}
use Rattle.format.specs.Header.{header_size, header_entries2, header_entries3}
use Rattle.format.specs.Body.{Body, own_of, rest_of, listing, listing_if_any, whole, body_entries, attached_router, attached_router_rows}
use Rattle.format.specs.V2 as v2
use Rattle.format.specs.V3 as v3
use Rattle.format.proofs.Lists.{fixed_cut, whole_count, whole-after}
use Rattle.format.proofs.Unique.{span}
use Rattle.format.proofs.Rules.{link_inside_lem}
use Rattle.format.proofs.Nested.{Nested, any}
use Rattle.format.proofs.NestedLsa.{nested_link_inside, nested_prefix_inside, nested_header2, nested_header3}
use Rattle.format.proofs.Inside.{direct_of, counts_none, counts_field, counts_append, counts_container, counts_listing, counts_listing_if, counts_nested, direct_append}
use Rattle.format.proofs.Rows.{counts_rows}
use Rattle.format.proofs.LaidLsa.{nested_own2, nested_own3}

-- The records of lists, each one entry.
module _ (b : List ℕ) (o : ℕ) (s : Span) where
  pub one_attached_router : Counts 1 (attached_router b o s)
  unfolding attached_router
  one_attached_router = counts_rows b o s.at attached_router_rows

  pub one_link_tos : Counts 1 (v2.link_tos b o s)
  unfolding v2.link_tos
  one_link_tos = counts_container 97 _ _ (counts_rows b o s.at v2.link_tos_rows)

  pub one_link2 : Counts 1 (v2.link b o s)
  unfolding v2.link
  one_link2 = counts_container 96 _ _ (counts_nested (nested_link_inside any refl refl b o s))

  pub one_summary_tos : Counts 1 (v2.summary_tos b o s)
  unfolding v2.summary_tos
  one_summary_tos = counts_container 97 _ _ (counts_rows b o s.at v2.summary_tos_rows)

  pub one_external_tos : Counts 1 (v2.external_tos b o s)
  unfolding v2.external_tos
  one_external_tos = counts_container 97 _ _ (counts_rows b o s.at v2.external_tos_rows)

  pub one_link3 : Counts 1 (v3.link b o s)
  unfolding v3.link
  one_link3 = counts_container 96 _ _ (counts_rows b o s.at v3.link_rows)

  pub one_prefix : (m : Bool) → Counts 1 (v3.prefix m b o s)
  unfolding v3.prefix
  one_prefix m = counts_container 97 _ _ (counts_nested (nested_prefix_inside any m b o s))

-- There are some where their end is beyond their beginning.
beyond : (n p : ℕ) → 0 < n → (k : ℕ) → ◌≡◌ {A = ℕ} (cond (eqb k 0) 0 1) (cond (ltb p (p + k * n)) 1 0)
beyond n p h zero = rw (zero-mul, le-ltb p (p + 0) (omega arith)) refl
beyond n p h (suc k) = let m = suc-mul k n in rw (ne_eqb (suc k) 0 (λ z. omega arith), lt-ltb p (p + suc k * n) (omega arith)) refl

-- The number of direct entries of a table, and of one before an array.
module _ (b : List ℕ) (o : ℕ) where
  pub direct_rows : (t : Layout) (p : ℕ) → direct 0 (entries_at t b o p) ≡ length t
  direct_rows t p = direct_of (counts_rows b o p t)

  pub direct_listed : (t : Layout) (q i : ℕ) (f : Span → List Entry) (p : ℕ) → ((s : Span) → Counts 1 (f s)) → (ss : List Span)
      → direct 0 (entries_at t b o q ++ listing i f o p ss) ≡ length t + 1
  direct_listed t q i f p h ss = direct_of (counts_append (counts_rows b o q t) (counts_listing i f o p h ss))

  pub direct_listed_if : (t : Layout) (q i : ℕ) (f : Span → List Entry) (p : ℕ) → ((s : Span) → Counts 1 (f s)) → (ss : List Span)
      → direct 0 (entries_at t b o q ++ listing_if_any i f o p ss) ≡ length t + cond (eqb (length ss) 0) 0 1
  direct_listed_if t q i f p h ss = direct_of (counts_append (counts_rows b o q t) (counts_listing_if i f o p h ss))

  -- an array of as many entries of n bytes as the body holds is there where it ends beyond its beginning
  pub direct_whole_if : (t : Layout) (q i : ℕ) (f : Span → List Entry) (n p : ℕ) → ((s : Span) → Counts 1 (f s)) → 0 < n → p ≤ length b
      → direct 0 (entries_at t b o q ++ listing_if_any i f o p (whole n b p)) ≡ length t + cond (ltb p (after p (whole n b p))) 1 0
  direct_whole_if t q i f n p h g l =
      direct_listed_if t q i f p h (whole n b p)
      ∙ rw (whole_count n b p l, whole-after n b p l) (ap (λ (k : ℕ). length t + k) (beyond n p g ((length b - p) / n)))

-- What is inside a link.
pub direct_link_inside : (b : List ℕ) (o p n : ℕ) → link_rule b p ≡ some n → direct 0 (v2.link_inside b o (span p n)) ≡ 5 + cond (eqb (get_or b (p + 9) 0) 0) 0 1
direct_link_inside b o p n e =
    let h = link_inside_lem b p n e in
    direct_listed_if b o v2.link_rows p 69 (v2.link_tos b o) (p + 12) (one_link_tos b o) (v2.link_tos_spans b p)
    ∙ rw (fixed_cut 4 b (get_or b (p + 9) 0) (p + 12) (omega (arith, h))).0 refl

-- The optional parts of an external of version 3, one entry each; and all of its entries.
direct_optional : (b : List ℕ) (o n : ℕ) → Counts (cond (v3.has_forwarding b) 1 0 + (cond (v3.has_tag b) 1 0 + cond (v3.has_reference b) 1 0)) (v3.external_optional b o n)
direct_optional b o n =
    counts_append (part (v3.has_forwarding b) v3.forwarding_rows (v3.forwarding_place n))
    (counts_append (part (v3.has_tag b) v3.tag_rows (v3.tag_place b n)) (part (v3.has_reference b) v3.referenced_rows (v3.reference_place b n)))
  where
    part : (s : Bool) (t : Layout) (p : ℕ) → Counts (cond s (length t) 0) (cond s (entries_at t b o p) [])
    part true t p = counts_rows b o p t
    part false t p = counts_none

pub direct_external3 : (b : List ℕ) (o n : ℕ) → direct 0 (v3.external_flags b o ++ (v3.external_prefix b o n ++ v3.external_optional b o n))
    ≡ 9 + (cond (v3.has_forwarding b) 1 0 + (cond (v3.has_tag b) 1 0 + cond (v3.has_reference b) 1 0))
direct_external3 b o n =
    direct_of (counts_append (counts_rows b o 0 v3.external_flag_rows) (counts_append (counts_rows b o 0 (v3.external_prefix_rows n)) (direct_optional b o n))) ∙ omega arith

-- A body's TLVs after its fields.
pub direct_tlvs : (b : List ℕ) (o : ℕ) (t : Layout) (n : ℕ) → direct 0 (entries_at t b o 0 ++ v3.tlvs b o n) ≡ length t + 1
direct_tlvs b o t n = direct_of (counts_append (counts_rows b o 0 t) (counts_field refl counts_none))

-- A whole LSA: its header, its body's own entries, and what is left of that.
whole_direct : {hs : List Entry} (r u : ℕ) (x : Body) (b : List ℕ) (o : ℕ) → Nested any hs → Nested any (own_of x)
    → direct 0 (hs ++ body_entries r u x b o) ≡ direct 0 hs + (direct 0 (own_of x) + direct 0 (rest_of r u x b o))
unfolding body_entries
whole_direct {hs} r u x b o h k =
    direct_append (own_of x ++ rest_of r u x b o) h ∙ ap (λ (n : ℕ). direct 0 hs + n) (direct_append (rest_of r u x b o) k)

module _ (d : List ℕ) (o : ℕ) where
  pub direct_lsa2 : direct 0 (v2.lsa_entries2 d o)
      ≡ direct 0 (header_entries2 d o) + (direct 0 (own_of (v2.body_of2 d o)) + direct 0 (rest_of v2.raw_id2 v2.unparsed_id2 (v2.body_of2 d o) (drop header_size d) (o + header_size)))
  unfolding v2.lsa_entries2
  direct_lsa2 = whole_direct v2.raw_id2 v2.unparsed_id2 (v2.body_of2 d o) (drop header_size d) (o + header_size) (nested_header2 any d o) (nested_own2 d o)

  pub direct_lsa3 : direct 0 (v3.lsa_entries3 d o)
      ≡ direct 0 (header_entries3 d o) + (direct 0 (own_of (v3.body_of3 d o)) + direct 0 (rest_of v3.raw_id3 v3.unparsed_id3 (v3.body_of3 d o) (drop header_size d) (o + header_size)))
  unfolding v3.lsa_entries3
  direct_lsa3 = whole_direct v3.raw_id3 v3.unparsed_id3 (v3.body_of3 d o) (drop header_size d) (o + header_size) (nested_header3 any d o) (nested_own3 d o)
