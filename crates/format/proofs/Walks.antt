-- What the strip of every accepted call of a walk shows: an update, a single LSA, a header list.
use Prim.Native.Nat.{ℕ, ◌+◌, ◌-◌, ◌/◌, ◌<◌}
use native.Mathlib.Omega.{arith}
use mathlib.Core.Path.{◌≡◌, refl, ap, ◌∙◌}
use mathlib.Core.Bool.{Bool, true, false, cond}
use mathlib.Core.List.{List, []}
use lib.ListN.{length, take, length-map, length-append}
use lib.Seq.{sets, length-take-le, length-sets}
use lib.Dec.{eqb}
use Rattle.format.specs.Strip.{Entry, code, encode}
use Rattle.format.specs.Cut.{Span, cut, after, record_rule, fixed_rule}
use Rattle.format.specs.CutInto.{FixedAt, RecordAt}
use Rattle.format.specs.Header.{header_size, header_entries2, header_entries3}
use Rattle.format.specs.Body.{listing, leftover, whole}
use Rattle.format.specs.V2.{lsa_entries2}
use Rattle.format.specs.V3.{lsa_entries3}
use Rattle.format.specs.Walks.{answer_of, strip_of, refusal, headers_of, update_of, lsa_of}
use Rattle.format.specs.Walks.{lsa_entries, lsa_tail, header_entries, lsa_object, header_object, outer, unparsed_id, lsas, headers}
use Rattle.format.specs.Shown.{own, UpdateShows, OneShows, HeadersShow}
use Rattle.format.specs.Lists.{unparsed}
use Rattle.format.proofs.Nested.{Nested}
use Rattle.format.proofs.Nested.Nested.{none}
use Rattle.format.proofs.Openings.{openings_count}
use Rattle.format.proofs.Laid.{cut_inside, weaken}
use Rattle.format.proofs.LaidLsa.{laid_lsa}
use Rattle.format.proofs.Unreachable.{metrics_shown, unreachable_passes}
use Rattle.format.proofs.LaidWalks.{laid_headers, laid_update, lsa_ending}
use Rattle.format.proofs.ListRanges.{link-ranges, prefix-ranges, update_links, update_prefixes}
use Rattle.format.proofs.NestedLsa.{below, nested_lsa, nested_header}
use Rattle.format.proofs.Shown.{shows, lsa_shows, read_strip}
use Rattle.format.proofs.CutInto.{record_stands, fixed_stands_at}
use Rattle.format.proofs.Refusals.{limits, Taken, taken}
use Rattle.format.proofs.Lists.{length-listing, whole-after}
use Rattle.format.proofs.Wrote.{encode-append}

-- The bytes that an accepted call left.
strip_length : {n : ℕ} {es : List Entry} {r t : ℕ} {before : List ℕ} (k : Taken n es r t before) → length (take (length (encode es)) (sets before 0 (encode es))) ≡ length (encode es)
strip_length {es = es} {before = before} k = length-take-le (length (encode es)) (sets before 0 (encode es)) (rw (length-sets before 0 (encode es)) k.fits)

-- An outer array has fifteen bytes at least.
outer_longer : (v : ℕ) (f : Span → List Entry) (d : List ℕ) (o p : ℕ) (ss : List Span) → 0 < length (encode (outer v f d o p ss))
unfolding outer
outer_longer v f d o p ss =
    let l = length-listing 114 f o p ss in
    rw (encode-append (listing 114 f o p ss) (leftover (unparsed_id v) d o (after p ss)), length-append) (omega arith)

lsa_longer : (v : ℕ) (d : List ℕ) (o : ℕ) → 0 < length (encode (lsa_entries v d o))
unfolding lsa_entries2 lsa_entries3 header_entries2 header_entries3 encode code
lsa_longer v d o = go (eqb v 2)
  where
    go : (t : Bool) → 0 < length (encode (cond t (lsa_entries2 d o) (lsa_entries3 d o)))
    go true = omega arith
    go false = omega arith

-- Every accepted update shows the cut of its records, and each record the lists inside it.
pub update_shows : (v : ℕ) (d : List ℕ) (count o : ℕ) (before : List ℕ) → (answer_of (update_of v d count o) (length before)).number ≡ 0
    → UpdateShows v d count o (take (answer_of (update_of v d count o) (length before)).size (strip_of (update_of v d count o) before))
    (answer_of (update_of v d count o) (length before)).records (answer_of (update_of v d count o) (length before)).tail
unfolding update_of outer lsa_object listing
update_shows v d count o before h =
    let es = outer v (lsa_object v d o) d o 4 (lsas d count) in
    let k = taken (refusal v d o 4) es (length (lsas d count)) (length d - after 4 (lsas d count)) before h in
    let held : Span → List Entry = λ (s : Span). lsa_entries v (own d s) (o + s.at) in
    let nested : (s : Span) → Nested below (held s) = λ s. nested_lsa v (own d s) (o + s.at) in
    let l = laid_update v d count o (limits v d o 4 k.not_refused).enough in
    let ends = cut_inside 20 _ d count 4 (limits v d o 4 k.not_refused).enough in
    let sh = shows record_rule d (RecordAt d) (record_stands d) count 4 ends o 114 113 (unparsed v) held below refl refl refl refl
    nested [] none es (length d - after 4 (lsas d count)) refl refl in
    rw (k.answered, k.written) (record {
      entries = es;
      spans = lsas d count;
      end = after 4 (lsas d count);
      read = read_strip es before k.fits;
      laid = weaken (λ x u. refl) l;
      openings = openings_count l;
      unreachable_ids = λ i s e m. unreachable_passes l m;
      metrics_shown = λ s. metrics_shown v (own d s) (o + s.at);
      links = update_links v d count o;
      prefixes = λ e. rw e (update_prefixes d count o);
      shows = sh;
      lists = λ s. (lsa_tail v (own d s), lsa_shows v (own d s) (o + s.at));
      counted = refl;
      objects_counted = ap length sh.items ∙ length-map (lsas d count) _;
      longer = rw (strip_length k) (outer_longer v (lsa_object v d o) d o 4 (lsas d count));
    })

-- A single LSA.
pub one_shows : (v : ℕ) (d : List ℕ) (o : ℕ) (before : List ℕ) → (answer_of (lsa_of v d o) (length before)).number ≡ 0
    → OneShows v d o (take (answer_of (lsa_of v d o) (length before)).size (strip_of (lsa_of v d o) before))
    (answer_of (lsa_of v d o) (length before)).records (answer_of (lsa_of v d o) (length before)).tail
unfolding lsa_of
one_shows v d o before h =
    let es = lsa_entries v d o in
    let k = taken (refusal v d o header_size) es 1 (lsa_tail v d) before h in
    rw (k.answered, k.written) (record {
      entries = es;
      read = read_strip es before k.fits;
      laid = laid_lsa v d o (limits v d o 20 k.not_refused).enough;
      openings = openings_count (laid_lsa v d o (limits v d o 20 k.not_refused).enough);
      metrics_shown = metrics_shown v d o;
      links = link-ranges v d o;
      prefixes = λ e. rw e (prefix-ranges d o);
      ending = lsa_ending v d o (limits v d o 20 k.not_refused).enough;
      entries_are = refl;
      lists = lsa_shows v d o;
      counted = refl;
      longer = rw (strip_length k) (lsa_longer v d o);
    })

-- A header list, whose headers are all that fit.
pub headers_show : (v : ℕ) (d : List ℕ) (o : ℕ) (before : List ℕ) → (answer_of (headers_of v d o) (length before)).number ≡ 0
    → HeadersShow v d o (take (answer_of (headers_of v d o) (length before)).size (strip_of (headers_of v d o) before))
    (answer_of (headers_of v d o) (length before)).records (answer_of (headers_of v d o) (length before)).tail
unfolding headers_of outer header_object listing whole
headers_show v d o before h =
    let es = outer v (header_object v d o) d o 0 (headers d) in
    let k = taken (refusal v d o 0) es (length (headers d)) (length d - after 0 (headers d)) before h in
    let held : Span → List Entry = λ (s : Span). header_entries v (own d s) (o + s.at) in
    let nested : (s : Span) → Nested below (held s) = λ s. nested_header v (own d s) (o + s.at) in
    let q : length d - 0 ≡ length d = omega arith in
    let ends = cut_inside 20 _ d (length d / 20) 0 (omega arith) in
    let a = whole-after header_size d 0 (omega arith) in
    let sh = shows (fixed_rule header_size) d (FixedAt 20 d) (fixed_stands_at 20 d) (length d / 20) 0 ends o 114 112 (unparsed v) held below refl refl refl refl
    nested [] none es (length d - after 0 (headers d)) (rw q) (rw q) in
    rw (k.answered, k.written) (record {
      entries = es;
      spans = cut (fixed_rule header_size) d (length d / 20) 0;
      end = after 0 (cut (fixed_rule header_size) d (length d / 20) 0);
      read = read_strip es before k.fits;
      laid = weaken (λ x u. refl) (laid_headers v d o);
      openings = openings_count (laid_headers v d o);
      unreachable_none = λ i s e m. let z : ◌≡◌ {A = ℕ} 0 1 = cc (unreachable_passes (laid_headers v d o) m) in omega arith;
      shows = sh;
      all_whole = omega arith;
      counted = rw q refl;
      objects_counted = ap length sh.items ∙ (length-map (cut (fixed_rule header_size) d (length d / 20) 0) _ ∙ rw q refl);
      longer = rw (strip_length k) (outer_longer v (header_object v d o) d o 0 (headers d));
    })
