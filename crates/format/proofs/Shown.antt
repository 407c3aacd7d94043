-- Each list is shown by its strip: the LSAs of an update, the links of a Router-LSA, prefixes; and the headers of a list.
use Prim.Native.Nat.{ℕ, ◌+◌, ◌-◌, ◌≤◌, ◌<◌}
use native.Mathlib.Nat.{zero-add}
use native.Mathlib.Omega.{arith}
use mathlib.Core.Path.{◌≡◌, refl, sym, ap, ◌∙◌}
use mathlib.Core.Logic.{◌↔◌}
use mathlib.Core.Bool.{Bool, true, false, cond}
use mathlib.Core.List.{List, [], ◌∷◌, ◌++◌, flat_map, append-nil, append_assoc}
use mathlib.Core.Option.{some}
use lib.ListN.{length, get_or, take, drop}
use lib.Seq.{sets, sets-eq, take-append_seam}
use lib.Dec.{eqb}
use borrow.Author.Tests.{le-ltb, lt-ltb, eq-eqb}
use Rattle.format.specs.Bytes.{be16_at, be32_at}
use Rattle.format.specs.Strip.{Entry, encode, read_all, container}
use Rattle.format.specs.Strip.Entry.{opens, closes, bytes}
use Rattle.format.specs.Layout.{Layout, entries_at}
use Rattle.format.specs.Cut.{Span, Rule, cut, after, link_rule, prefix_rule}
use Rattle.format.specs.Header.{header_size, header_entries2, header_entries3}
use Rattle.format.specs.Body.{listing, leftover, body_entries, body_tail}
use Rattle.format.specs.V2 as v2
use Rattle.format.specs.V3 as v3
use Rattle.format.specs.Walks.{lsa_entries, lsa_tail}
use Rattle.format.specs.Ranges.{Range, range, ranges, placed}
use Rattle.format.specs.Shown.{Shows, Listed, LsaShows}
use Rattle.format.proofs.Read.{read_encode}
use Rattle.format.specs.CutInto.{LinkAt, PrefixAt}
use Rattle.format.proofs.CutInto.{cut_into, only-cut, link_stands, prefix_stands}
use Rattle.format.proofs.Nested.{Nested, nested_append, nested_leftover, absent, ranges-append, ranges-container}
use Rattle.format.specs.Inside.{Counts}
use Rattle.format.proofs.Inside.{direct_of, counts_container, counts_each, counts_nested}
use Rattle.format.proofs.Rows.{rows_nested}
use Rattle.format.proofs.Laid.{cut_inside}
use Rattle.format.proofs.NestedLsa.{nested_header2, nested_header3, nested_link_inside, nested_prefix_inside}

-- An array of containers, seen by an id that is neither theirs nor inside them, or by theirs.
module _ (o item : ℕ) (inside : Span → List Entry) where
  abbrev boxed : Span → List Entry
  boxed s = container item (o + s.at) (o + s.at + s.len) (inside s)

  items_absent : (i : ℕ) → eqb i item ≡ false → ((s : Span) → ranges i (inside s) ≡ []) → (ss : List Span) → ranges i (flat_map boxed ss) ≡ []
  unfolding ranges flat_map
  items_absent i h n [] = refl
  items_absent i h n (s ∷ ss) =
      ranges-append i (boxed s) (flat_map boxed ss) ∙ rw (ranges-container i item (o + s.at) (o + s.at + s.len) (inside s), h, n s) (items_absent i h n ss)

  items_placed : ((s : Span) → ranges item (inside s) ≡ []) → (ss : List Span) → ranges item (flat_map boxed ss) ≡ placed o ss
  unfolding ranges flat_map
  items_placed n [] = refl
  items_placed n (s ∷ ss) =
      ranges-append item (boxed s) (flat_map boxed ss)
      ∙ rw (ranges-container item item (o + s.at) (o + s.at + s.len) (inside s), eq-eqb item item refl, n s)
      (ap (λ (x : List Range). range (o + s.at) (o + s.at + s.len) ∷ x) (items_placed n ss))

-- What follows an array: nothing where all of the body is taken, else one entry for what is left.
leftover_none : (i : ℕ) (b : List ℕ) (o p : ℕ) → length b ≤ p → leftover i b o p ≡ []
unfolding leftover
leftover_none i b o p h = rw (le-ltb p (length b) h)

leftover_some : (i : ℕ) (b : List ℕ) (o p : ℕ) → p < length b → leftover i b o p ≡ bytes i (o + p) (o + length b) ∷ []
unfolding leftover
leftover_some i b o p h = rw (lt-ltb p (length b) h)

-- An array around containers says how many they are.
opened : (i s e : ℕ) {f : Span → List Entry} → ((s : Span) → Counts 1 (f s)) → (ss : List Span) (xs : List Entry)
    → container i s e (flat_map f ss) ++ xs ≡ opens i s e (length ss) ∷ (flat_map f ss ++ (closes ∷ xs))
unfolding container
opened i s e {f} h ss xs = rw (direct_of (counts_each f h ss)) (ap (λ (ys : List Entry). opens i s e (length ss) ∷ ys) (append_assoc (flat_map f ss) (closes ∷ []) xs))

-- One theorem for every list: entries before an array of containers, the array, and what is left of the body.
module _ (r : Rule) (b : List ℕ) (standsAt : ℕ → ℕ → Type 0) (says : (p n : ℕ) → (r b p ≡ some n) ↔ standsAt p n) (count first : ℕ) (ends : after first (cut r b count first) ≤ length b)
    (o array item unparsed : ℕ) (inside : Span → List Entry) (ok : ℕ → Bool)
    (ok-array : ok array ≡ false) (ok-item : ok item ≡ false) (apart : eqb array item ≡ false) (apart' : eqb item array ≡ false)
    (nested : (s : Span) → Nested ok (inside s)) where
  pub shows : (before : List Entry) → Nested ok before → (es : List Entry) (tail : ℕ)
      → es ≡ before
      ++ (listing array (λ (s : Span). container item (o + s.at) (o + s.at + s.len) (inside s)) o first (cut r b count first)
      ++ leftover unparsed b o (after first (cut r b count first)))
      → tail ≡ length b - after first (cut r b count first)
      → Shows standsAt (length b) count first o array item unparsed (cut r b count first) (after first (cut r b count first)) tail before inside es
  unfolding listing
  shows before n es tail e t =
      let ss = cut r b count first in
      let box : Span → List Entry = λ (s : Span). container item (o + s.at) (o + s.at + s.len) (inside s) in
      let left = leftover unparsed b o (after first ss) in
      let arr = container array (o + first) (o + after first ss) (flat_map box ss) in
      let in_array : (i : ℕ) → ok i ≡ false → ranges i es ≡ cond (eqb i array) (range (o + first) (o + after first ss) ∷ []) [] ++ ranges i (flat_map box ss) =
      λ i h. ap (ranges i) e ∙ (ranges-append i before (arr ++ left) ∙ rw (absent i h n)
      (ranges-append i arr left ∙ rw (absent i h (nested_leftover ok unparsed b o (after first ss)), append-nil)
      (ranges-container i array (o + first) (o + after first ss) (flat_map box ss)))) in
      record {
        is_cut = cut_into r b standsAt says count first tail ends t;
        only-cut = λ qs x u c. let z = only-cut r b standsAt says count first qs x u c in (z.0, z.1, z.2 ∙ sym t);
        items = in_array item ok-item ∙ rw apart' (items_placed o item inside (λ s. absent item ok-item (nested s)) ss);
        arrays = in_array array ok-array ∙ rw (eq-eqb array array refl)
            (ap (λ (x : List Range). range (o + first) (o + after first ss) ∷ x) (items_absent o item inside array apart (λ s. absent array ok-array (nested s)) ss));
        rest = left;
        shape = e ∙ ap (λ (x : List Entry). before ++ x) (opened array (o + first) (o + after first ss) (λ s. counts_container item _ _ (counts_nested (nested s))) ss left);
        none_before = absent item ok-item n;
        none_held = λ s. absent item ok-item (nested s);
        rest_none = λ z. leftover_none unparsed b o (after first ss) (omega arith);
        rest_some = λ z. leftover_some unparsed b o (after first ss) (omega arith);
      }

pub listed : {standsAt : ℕ → ℕ → Type 0} {size count first o array item unparsed end tail : ℕ} {spans : List Span} {before es : List Entry} {held : Span → List Entry}
    → Shows standsAt size count first o array item unparsed spans end tail before held es → Listed standsAt size count first o array item unparsed es tail
listed {end = end} {spans = spans} {before = before} {held = held} h = record { spans = spans; end = end; before = before; held = held; shows = h }

-- The links of a Router-LSA of version 2.
links_shown : (d : List ℕ) (o : ℕ) → get_or d 3 0 ≡ 1 → 4 ≤ length (drop header_size d)
    → Listed (LinkAt (drop header_size d)) (length (drop header_size d)) (be16_at (drop header_size d) 2) 4 (o + header_size) 16 96 25 (v2.lsa_entries2 d o) (v2.lsa_tail2 d)
unfolding v2.lsa_entries2 v2.lsa_tail2 v2.body2 v2.router_lsa2 v2.link body_entries body_tail
links_shown d o h l =
    let b = drop header_size d in
    let q = o + header_size in
    let m = le-ltb (length b) 4 l in
    let ends = cut_inside 12 _ b (be16_at b 2) 4 l in
    listed (shows link_rule b (LinkAt b) (link_stands b) (be16_at b 2) 4 ends q 16 96 25 (v2.link_inside b q) tos refl refl refl refl
    (nested_link_inside tos refl refl b q)
    (header_entries2 d o ++ entries_at v2.router_rows b q 0)
    (nested_append tos (nested_header2 tos d o) (rows_nested b q 0 tos v2.router_rows))
    _ _
    (rw (h, m) (sym (append_assoc (header_entries2 d o) _ _)))
    (rw (h, m) refl))
  where
    tos : ℕ → Bool
    tos i = cond (eqb i 69) true (eqb i 97)

-- The prefixes of a Link-LSA and of an Intra-Area-Prefix-LSA of version 3.
no_container : ℕ → Bool
no_container i = false

module _ (d : List ℕ) (o : ℕ) where
  -- the body, its place, and its prefixes from the first on
  abbrev b : List ℕ
  b = drop header_size d

  abbrev q : ℕ
  q = o + header_size

  abbrev Prefixes : (count first : ℕ) → Type 0
  Prefixes count first = Listed (PrefixAt b) (length b) count first q 29 97 33 (v3.lsa_entries3 d o) (v3.lsa_tail3 d)

  after_table : (m : Bool) (t : Layout) (count first : ℕ) → first ≤ length b
      → v3.lsa_entries3 d o ≡ header_entries3 d o ++ ((entries_at t b q 0 ++ listing 29 (v3.prefix m b q) q first (cut prefix_rule b count first))
      ++ leftover 33 b q (after first (cut prefix_rule b count first)))
      → v3.lsa_tail3 d ≡ length b - after first (cut prefix_rule b count first) → Prefixes count first
  unfolding v3.prefix no_container
  after_table m t count first l e f =
      listed (shows prefix_rule b (PrefixAt b) (prefix_stands b) count first (cut_inside 4 _ b count first l) q 29 97 33 (v3.prefix_inside m b q) no_container refl refl refl refl
      (nested_prefix_inside no_container m b q)
      (header_entries3 d o ++ entries_at t b q 0)
      (nested_append no_container (nested_header3 no_container d o) (rows_nested b q 0 no_container t))
      _ _
      (e ∙ (ap (λ (x : List Entry). header_entries3 d o ++ x) (append_assoc (entries_at t b q 0) _ _) ∙ sym (append_assoc (header_entries3 d o) (entries_at t b q 0) _)))
      f)

  link-prefixes_shown : v3.function_code d ≡ 8 → 24 ≤ length b → Prefixes (be32_at b 20) 24
  unfolding v3.lsa_entries3 v3.lsa_tail3 v3.body3 v3.link_lsa body_entries body_tail
  link-prefixes_shown h l = let m = le-ltb (length b) 24 l in after_table false v3.link_lsa_rows (be32_at b 20) 24 l (rw (h, m) refl) (rw (h, m) refl)

  area_prefixes_shown : v3.function_code d ≡ 9 → 12 ≤ length b → Prefixes (be16_at b 0) 12
  unfolding v3.lsa_entries3 v3.lsa_tail3 v3.body3 v3.intra_area_prefix_lsa body_entries body_tail
  area_prefixes_shown h l = let m = le-ltb (length b) 12 l in after_table true v3.intra_area_prefix_rows (be16_at b 0) 12 l (rw (h, m) refl) (rw (h, m) refl)

-- The lists inside any LSA.
pub lsa_shows : (v : ℕ) (d : List ℕ) (o : ℕ) → LsaShows v d o (lsa_entries v d o) (lsa_tail v d)
lsa_shows v d o = record {
  links = λ e h l. rw e (links_shown d o h l);
  link-prefixes = λ e h l. rw e (link-prefixes_shown d o h l);
  area_prefixes = λ e h l. rw e (area_prefixes_shown d o h l);
}

-- What a strip of these entries reads as, wherever the buffer's other bytes stand.
pub read_strip : (es : List Entry) (before : List ℕ) → length (encode es) ≤ length before
    → read_all (take (length (encode es)) (sets before 0 (encode es))) ≡ some es
read_strip es before h =
    let e : sets before 0 (encode es) ≡ encode es ++ drop (length (encode es)) before = simp zero-add at (sets-eq (encode es) before 0 (omega arith)) in
    rw (e, take-append_seam (encode es) (drop (length (encode es)) before)) (read_encode es)
