-- The links and prefixes of a strip are those of its LSAs' lists, and no others: where a body is too short for its list, and
-- in every other type, there is none.
use Prim.Native.Nat.{ℕ, zero, suc, ◌+◌, ◌-◌, ◌/◌, ◌%◌, ◌≤◌, ◌<◌}
use mathlib.Core.Path.{◌≡◌, refl, sym, ap, ◌∙◌}
use mathlib.Core.Logic.{◌↔◌}
use mathlib.Core.Bool.{Bool, true, false}
use mathlib.Core.List.{List, [], ◌∷◌, ◌++◌, flat_map, append-nil, append_assoc}
use mathlib.Core.Option.{Option, none, some}
use lib.ListN.{length, get_or, drop}
use lib.Dec.{ltb, eqb}
use borrow.Author.Tests.{ltb-false, eqb-true, ne_eqb, lt-ltb, le-ltb}
use Rattle.format.specs.Bytes.{be16_at, part}
use Rattle.format.specs.Strip.{Entry, container}
use Rattle.format.specs.Layout.{entries_at}
use Rattle.format.specs.Cut.{Span, Rule, cut, after, standing, fixed_rule}
use Rattle.format.specs.Header.{header_entries3}
use Rattle.format.specs.Body.{listing, leftover, whole, body_entries, body_tail}
use Rattle.format.specs.V3 as v3
use Rattle.format.specs.Walks.{lsa_entries, lsa_object, outer, unparsed_id, lsas}
use Rattle.format.specs.Ranges.{Range, ranges, placed}
use Rattle.format.specs.CutInto.{FixedAt}
use Rattle.format.specs.Shown.{own, Listed}
use Rattle.format.specs.Laid.{among}
use Rattle.format.specs.Lists.{containers, metrics, raw_or_tlvs, unparsed, link_ranges, prefix_ranges}
use Rattle.format.proofs.Unique.{span, cut_none, cut_some}
use Rattle.format.proofs.Nested.{nested_append, nested_leftover, absent, ranges-append, ranges-container, ranges_flat}
use Rattle.format.proofs.Rows.{rows_nested}
use Rattle.format.proofs.NestedLsa.{nested_header3}
use Rattle.format.proofs.Shown.{shows, listed, lsa_shows}
use Rattle.format.proofs.CutInto.{cut_into, fixed_stands_at, link_stands, prefix_stands}
use Rattle.format.proofs.Laid.{cut_inside, fixed_length, among_cond, cond_same, laid_nested}
use Rattle.format.proofs.LaidLsa.{laid_any}

-- An id that is none of an LSA's containers has no range.
no_range : (v : ℕ) (d : List ℕ) (o i : ℕ) → among (containers v d) i ≡ false → ranges i (lsa_entries v d o) ≡ []
no_range v d o i h = absent i h (laid_nested (containers v d) (metrics v d) (unparsed v ∷ raw_or_tlvs v) {ok = among (containers v d)} (λ j k. k) (laid_any v d o))

-- Two ways to write the entries of a cut that agree where an entry stands.
flat_cut : (r : Rule) (b : List ℕ) (f g : Span → List Entry) → ((p n : ℕ) → r b p ≡ some n → f (span p n) ≡ g (span p n)) → (k p : ℕ) → flat_map f (cut r b k p) ≡ flat_map g (cut r b k p)
unfolding flat_map cut
flat_cut r b f g h zero p = refl
flat_cut r b f g h (suc k) p = go (r b p) refl (flat_cut r b f g h k)
  where
    go : (x : Option ℕ) → r b p ≡ x → ((q : ℕ) → flat_map f (cut r b k q) ≡ flat_map g (cut r b k q)) → flat_map f (cut r b (suc k) p) ≡ flat_map g (cut r b (suc k) p)
    go none e ih = rw (cut_none r b (suc k) p e)
    go (some n) e ih = rw (cut_some r b k p n e, h p n e, ih (p + n))

flat_same : (f g : Span → List Range) → ((s : Span) → f s ≡ g s) → (ss : List Span) → flat_map f ss ≡ flat_map g ss
unfolding flat_map
flat_same f g h [] = refl
flat_same f g h (s ∷ ss) = rw (h s, flat_same f g h ss)

-- What is inside a link of version 3, which has the length of its span wherever it stands.
abbrev in_link : List ℕ → ℕ → Span → List Entry
in_link b o s = v3.link_fields b o s.at

abbrev boxed : List ℕ → ℕ → Span → List Entry
boxed b o s = container 96 (o + s.at) (o + s.at + s.len) (in_link b o s)

by_length : (b : List ℕ) (o p n : ℕ) → fixed_rule 16 b p ≡ some n → v3.link b o (span p n) ≡ boxed b o (span p n)
unfolding v3.link
by_length b o p n e = rw (fixed_length 16 b p n e)

abbrev no_container : ℕ → Bool
no_container i = false

-- The links of a Router-LSA of version 3: as many of 16 bytes as there are from place 4 on.
links3_shown : (d : List ℕ) (o : ℕ) → be16_at d 2 % 8192 ≡ 1 → 4 ≤ length (drop 20 d)
    → Listed (FixedAt 16 (drop 20 d)) (length (drop 20 d)) ((length (drop 20 d) - 4) / 16) 4 (o + 20) 15 96 33 (v3.lsa_entries3 d o) (v3.lsa_tail3 d)
unfolding v3.lsa_entries3 v3.lsa_tail3 v3.body3 v3.router_lsa3 body_entries body_tail whole listing
links3_shown d o h l =
    let b = drop 20 d in
    let q = o + 20 in
    let k = (length b - 4) / 16 in
    let m = le-ltb (length b) 4 l in
    let fixed = entries_at v3.router_rows b q 0 in
    let ends = cut_inside 16 _ b k 4 l in
    listed (shows (fixed_rule 16) b (FixedAt 16 b) (fixed_stands_at 16 b) k 4 ends q 15 96 33 (in_link b q) no_container refl refl refl refl (λ s. rows_nested b q s.at no_container v3.link_rows)
    (header_entries3 d o ++ fixed)
    (nested_append no_container (nested_header3 no_container d o) (rows_nested b q 0 no_container v3.router_rows))
    _ _
    (rw (h, m, flat_cut (fixed_rule 16) b (v3.link b q) (boxed b q) (by_length b q) k 4) (sym (append_assoc (header_entries3 d o) fixed _)))
    (rw (h, m) refl))

-- The items of a list that is shown are the spans of its cut.
items_are : {standsAt : ℕ → ℕ → Type 0} {count first o array item unparsed tail : ℕ} {es : List Entry} (least : ℕ) (declared : Rule) (b : List ℕ)
    → ((p n : ℕ) → (standing least declared b p ≡ some n) ↔ standsAt p n) → first ≤ length b
    → Listed standsAt (length b) count first o array item unparsed es tail → ranges item es ≡ placed o (cut (standing least declared) b count first)
items_are {standsAt} {count} {first} {o} least declared b says h l =
    let c = cut_into (standing least declared) b standsAt says count first _ (cut_inside least declared b count first h) refl in
    l.shows.items ∙ ap (placed o) (sym (l.shows.only-cut _ _ _ c).0)

-- The links of any LSA are its list of links, where it has one.
link_ranges2 : (d : List ℕ) (o : ℕ) → ranges 96 (lsa_entries 2 d o) ≡ link_ranges 2 d o
link_ranges2 d o = go (eqb (get_or d 3 0) 1) refl (ltb (length (drop 20 d)) 4) refl
  where
    go : (s : Bool) → eqb (get_or d 3 0) 1 ≡ s → (t : Bool) → ltb (length (drop 20 d)) 4 ≡ t → ranges 96 (lsa_entries 2 d o) ≡ link_ranges 2 d o
    go true h false k = rw (h, k) (let l = ltb-false _ _ k in items_are 12 _ (drop 20 d) (link_stands (drop 20 d)) l ((lsa_shows 2 d o).links refl (eqb-true _ _ h) l))
    go true h true k = rw (h, k) (no_range 2 d o 96 (simp (among_cond, h, k)))
    go false h t k = rw h (no_range 2 d o 96 (simp (among_cond, cond_same, h)))

link_ranges3 : (d : List ℕ) (o : ℕ) → ranges 96 (lsa_entries 3 d o) ≡ link_ranges 3 d o
link_ranges3 d o = go (eqb (be16_at d 2 % 8192) 1) refl (ltb (length (drop 20 d)) 4) refl
  where
    go : (s : Bool) → eqb (be16_at d 2 % 8192) 1 ≡ s → (t : Bool) → ltb (length (drop 20 d)) 4 ≡ t → ranges 96 (lsa_entries 3 d o) ≡ link_ranges 3 d o
    go true h false k = rw (h, k) (let l = ltb-false _ _ k in items_are 16 _ (drop 20 d) (fixed_stands_at 16 (drop 20 d)) l (links3_shown d o (eqb-true _ _ h) l))
    go true h true k = rw (h, k) (no_range 3 d o 96 (simp (among_cond, h, k)))
    go false h t k = rw h (no_range 3 d o 96 (simp (among_cond, cond_same, h)))

pub link-ranges : (v : ℕ) (d : List ℕ) (o : ℕ) → ranges 96 (lsa_entries v d o) ≡ link_ranges v d o
link-ranges v d o = go (eqb v 2) refl
  where
    go : (t : Bool) → eqb v 2 ≡ t → ranges 96 (lsa_entries v d o) ≡ link_ranges v d o
    go true e = rw e (link_ranges2 d o)
    go false e = rw e (link_ranges3 d o)

-- The prefixes of any LSA of version 3 are its list of prefixes, where it has one.
pub prefix-ranges : (d : List ℕ) (o : ℕ) → ranges 97 (lsa_entries 3 d o) ≡ prefix_ranges d o
prefix-ranges d o = go (eqb (be16_at d 2 % 8192) 8) refl (eqb (be16_at d 2 % 8192) 9) refl (ltb (length (drop 20 d)) 24) refl (ltb (length (drop 20 d)) 12) refl
  where
    go : (s : Bool) → eqb (be16_at d 2 % 8192) 8 ≡ s → (t : Bool) → eqb (be16_at d 2 % 8192) 9 ≡ t → (x : Bool) → ltb (length (drop 20 d)) 24 ≡ x → (y : Bool) → ltb (length (drop 20 d)) 12 ≡ y
        → ranges 97 (lsa_entries 3 d o) ≡ prefix_ranges d o
    go true h t i false j y k = rw (h, j) (let l = ltb-false _ _ j in items_are 4 _ (drop 20 d) (prefix_stands (drop 20 d)) l ((lsa_shows 3 d o).link-prefixes refl (eqb-true _ _ h) l))
    go true h t i true j y k = rw (h, j) (no_range 3 d o 97 (simp (among_cond, cond_same, h, j)))
    go false h true i x j false k = rw (h, i, k) (let l = ltb-false _ _ k in items_are 4 _ (drop 20 d) (prefix_stands (drop 20 d)) l ((lsa_shows 3 d o).area_prefixes refl (eqb-true _ _ i) l))
    go false h true i x j true k = rw (h, i, k) (no_range 3 d o 97 (simp (among_cond, cond_same, h, i, k)))
    go false h false i x j y k = rw (h, i) (no_range 3 d o 97 (simp (among_cond, cond_same, h, i)))

-- In plain words: no link where the body is too short or the type is another; so for prefixes; and a version 2 strip has
-- TOS objects, which share the prefixes' id, in types 1, 3, 4, 5 and 7 alone.
pub no_links2 : (d : List ℕ) (o : ℕ) → (get_or d 3 0 ≡ 1 → length (drop 20 d) < 4) → ranges 96 (lsa_entries 2 d o) ≡ []
no_links2 d o h = go (eqb (get_or d 3 0) 1) refl
  where
    go : (t : Bool) → eqb (get_or d 3 0) 1 ≡ t → ranges 96 (lsa_entries 2 d o) ≡ []
    go true e = rw (link_ranges2 d o, e, lt-ltb (length (drop 20 d)) 4 (h (eqb-true _ _ e)))
    go false e = rw (link_ranges2 d o, e)

pub no_links3 : (d : List ℕ) (o : ℕ) → (be16_at d 2 % 8192 ≡ 1 → length (drop 20 d) < 4) → ranges 96 (lsa_entries 3 d o) ≡ []
no_links3 d o h = go (eqb (be16_at d 2 % 8192) 1) refl
  where
    go : (t : Bool) → eqb (be16_at d 2 % 8192) 1 ≡ t → ranges 96 (lsa_entries 3 d o) ≡ []
    go true e = rw (link_ranges3 d o, e, lt-ltb (length (drop 20 d)) 4 (h (eqb-true _ _ e)))
    go false e = rw (link_ranges3 d o, e)

pub no_prefixes : (d : List ℕ) (o : ℕ) → (be16_at d 2 % 8192 ≡ 8 → length (drop 20 d) < 24) → (be16_at d 2 % 8192 ≡ 9 → length (drop 20 d) < 12) → ranges 97 (lsa_entries 3 d o) ≡ []
no_prefixes d o h k = go (eqb (be16_at d 2 % 8192) 8) refl (eqb (be16_at d 2 % 8192) 9) refl
  where
    go : (s : Bool) → eqb (be16_at d 2 % 8192) 8 ≡ s → (t : Bool) → eqb (be16_at d 2 % 8192) 9 ≡ t → ranges 97 (lsa_entries 3 d o) ≡ []
    go true e t f = rw (prefix-ranges d o, e, lt-ltb (length (drop 20 d)) 24 (h (eqb-true _ _ e)))
    go false e true f = rw (prefix-ranges d o, e, f, lt-ltb (length (drop 20 d)) 12 (k (eqb-true _ _ f)))
    go false e false f = rw (prefix-ranges d o, e, f)

pub no_tos : (d : List ℕ) (o : ℕ) → (get_or d 3 0 ≡ 1 → ⊥) → (get_or d 3 0 ≡ 3 → ⊥) → (get_or d 3 0 ≡ 4 → ⊥) → (get_or d 3 0 ≡ 5 → ⊥) → (get_or d 3 0 ≡ 7 → ⊥) → ranges 97 (lsa_entries 2 d o) ≡ []
no_tos d o a b c e f =
    let t = get_or d 3 0 in
    no_range 2 d o 97 (simp (among_cond, cond_same, ne_eqb t 1 a, ne_eqb t 3 b, ne_eqb t 4 c, ne_eqb t 5 e, ne_eqb t 7 f))

-- The containers of an update, its own apart, are those of its LSAs one after another.
of_lsas : (i v : ℕ) (d : List ℕ) (count o : ℕ) → eqb i 114 ≡ false → eqb i 113 ≡ false
    → ranges i (outer v (lsa_object v d o) d o 4 (lsas d count)) ≡ flat_map (λ (s : Span). ranges i (lsa_entries v (own d s) (o + s.at))) (lsas d count)
unfolding outer listing lsa_object
of_lsas i v d count o h k =
    let ss = lsas d count in
    ranges-append i (listing 114 (lsa_object v d o) o 4 ss) (leftover (unparsed_id v) d o (after 4 ss))
    ∙ rw (absent i refl (nested_leftover no_container (unparsed_id v) d o (after 4 ss)), append-nil, ranges-container i 114 (o + 4) (o + after 4 ss) (flat_map (lsa_object v d o) ss), h)
    (ranges_flat i (lsa_object v d o) ss ∙ flat_same _ _ (λ s. ranges-container i 113 _ _ (lsa_entries v (part d s.at s.len) (o + s.at)) ∙ rw k) ss)

pub update_links : (v : ℕ) (d : List ℕ) (count o : ℕ) → ranges 96 (outer v (lsa_object v d o) d o 4 (lsas d count)) ≡ flat_map (λ (s : Span). link_ranges v (own d s) (o + s.at)) (lsas d count)
update_links v d count o = of_lsas 96 v d count o refl refl ∙ flat_same _ _ (λ s. link-ranges v _ _) (lsas d count)

pub update_prefixes : (d : List ℕ) (count o : ℕ) → ranges 97 (outer 3 (lsa_object 3 d o) d o 4 (lsas d count)) ≡ flat_map (λ (s : Span). prefix_ranges (own d s) (o + s.at)) (lsas d count)
update_prefixes d count o = of_lsas 97 3 d count o refl refl ∙ flat_same _ _ (λ s. prefix-ranges _ _) (lsas d count)
