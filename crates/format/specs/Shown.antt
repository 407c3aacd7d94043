-- How a strip shows the cut of a list: one array, with one container for each span, and the tail after it. And what the walks'
-- strips show besides.
use Rattle.std.specs.Prelude.{ℕ, ◌+◌, ◌/◌, ◌%◌, ◌≤◌, ◌<◌, ◌≡◌, true, cond, length, get_or, take, drop, eqb}
use mathlib.Core.List.{List, [], ◌∷◌, ◌++◌, flat_map, Memᴰ}
use Rattle.std.proofs.Math.Option.{some}
use Rattle.format.specs.Bytes.{be16_at, be32_at}
use Rattle.format.specs.Strip.{Entry, container, read_all}
use Rattle.format.specs.Strip.Entry.{opens, closes, bytes, unreachable}
use Rattle.format.specs.Cut.{Span}
use Rattle.format.specs.Ranges.{range, ranges, placed}
use Rattle.format.specs.Inside.{OpeningsCount}
use Rattle.format.specs.Laid.{Laid, among, anything, Ending}
use Rattle.format.specs.Lists.{containers, metric_ids, metrics, raw_or_tlvs, unparsed, holds, link_ranges, prefix_ranges}
use Rattle.format.specs.Unreachable.{MetricsShown}
use Rattle.format.specs.CutInto.{CutInto, FixedAt, RecordAt, LinkAt, PrefixAt}
use Rattle.format.specs.Header.{header_entries2, header_entries3}
use Rattle.format.specs.V2.{lsa_entries2}
use Rattle.format.specs.V3.{lsa_entries3}

-- The entries es show the cut of a list, in a body of `size` bytes whose first byte is at the place o. The spans, which end
-- at `end`, and the tail are its cut, and the only one. The containers with the items' id are the spans, in order; the one
-- with the array's id lies from the list's first place to where the tail begins. Before the array no item stands; in it
-- are the spans' containers, with what they hold, and nothing else, and its opening says how many; after it comes nothing,
-- or, where the tail is not empty, one unparsed entry to the body's end.
pub record Shows (standsAt : ℕ → ℕ → Type 0) (size count first o array item unparsed : ℕ)
    (spans : List Span) (end tail : ℕ) (before : List Entry) (held : Span → List Entry) (es : List Entry) : Type 0 where
  pub is_cut : CutInto standsAt size first count spans end tail
  pub only-cut : (ss : List Span) (e t : ℕ) → CutInto standsAt size first count ss e t → (ss ≡ spans) × (e ≡ end) × (t ≡ tail)
  pub items : ranges item es ≡ placed o spans
  pub arrays : ranges array es ≡ range (o + first) (o + end) ∷ []
  pub none_before : ranges item before ≡ []
  pub none_held : (s : Span) → ranges item (held s) ≡ []
  pub rest : List Entry
  pub shape : es ≡ before
      ++ (opens array (o + first) (o + end) (length spans) ∷ (flat_map (λ (s : Span). container item (o + s.at) (o + s.at + s.len) (held s)) spans ++ (closes ∷ rest)))
  pub rest_none : tail ≡ 0 → rest ≡ []
  pub rest_some : 0 < tail → rest ≡ bytes unparsed (o + end) (o + size) ∷ []

-- The same of a list inside other entries.
pub record Listed (standsAt : ℕ → ℕ → Type 0) (size count first o array item unparsed : ℕ) (es : List Entry) (tail : ℕ) : Type 0 where
  pub spans : List Span
  pub end : ℕ
  pub before : List Entry
  pub held : Span → List Entry
  pub shows : Shows standsAt size count first o array item unparsed spans end tail before held es

-- The lists inside an LSA, as its entries show them: links of a version 2 Router-LSA, prefixes of a version 3 Link-LSA and
-- Intra-Area-Prefix-LSA, whose function is the low 13 bits of the LS type. A body that ends before the list's first place
-- has no list.
pub record LsaShows (v : ℕ) (d : List ℕ) (o : ℕ) (es : List Entry) (tail : ℕ) : Type 0 where
  pub links : v ≡ 2 → get_or d 3 0 ≡ 1 → 4 ≤ length (drop 20 d)
      → Listed (LinkAt (drop 20 d)) (length (drop 20 d)) (be16_at (drop 20 d) 2) 4 (o + 20) 16 96 25 es tail
  pub link-prefixes : v ≡ 3 → be16_at d 2 % 8192 ≡ 8 → 24 ≤ length (drop 20 d)
      → Listed (PrefixAt (drop 20 d)) (length (drop 20 d)) (be32_at (drop 20 d) 20) 24 (o + 20) 29 97 33 es tail
  pub area_prefixes : v ≡ 3 → be16_at d 2 % 8192 ≡ 9 → 12 ≤ length (drop 20 d)
      → Listed (PrefixAt (drop 20 d)) (length (drop 20 d)) (be16_at (drop 20 d) 0) 12 (o + 20) 29 97 33 es tail

-- The bytes of a span.
abbrev pub own : List ℕ → Span → List ℕ
own d s = take s.len (drop s.at d)

-- An accepted update: its strip reads as entries, laid out in the data, whose openings count what they hold, and that show the
-- cut of its records; each object holds the entries of its LSA's own bytes at its own place, which show the lists inside it and
-- what its metrics are; a kind 9 entry has an id of a metric; and the answer's records are the spans' number, and the objects'.
pub record UpdateShows (v : ℕ) (d : List ℕ) (count o : ℕ) (strip : List ℕ) (records tail : ℕ) : Type 0 where
  pub entries : List Entry
  pub spans : List Span
  pub end : ℕ
  pub read : read_all strip ≡ some entries
  pub laid : Laid anything o (o + length d) entries
  pub openings : OpeningsCount entries
  pub shows : Shows (RecordAt d) (length d) count 4 o 114 113 (unparsed v) spans end tail []
      (λ s. cond (eqb v 2) (lsa_entries2 (own d s) (o + s.at)) (lsa_entries3 (own d s) (o + s.at))) entries
  pub links : ranges 96 entries ≡ flat_map (λ (s : Span). link_ranges v (own d s) (o + s.at)) spans
  pub prefixes : v ≡ 3 → ranges 97 entries ≡ flat_map (λ (s : Span). prefix_ranges (own d s) (o + s.at)) spans
  pub unreachable_ids : (i s e : ℕ) → Memᴰ (unreachable i s e) entries → among (metric_ids v) i ≡ true
  pub metrics_shown : (s : Span) → MetricsShown (metrics v (own d s)) (cond (eqb v 2) (lsa_entries2 (own d s) (o + s.at)) (lsa_entries3 (own d s) (o + s.at)))
  pub lists : (s : Span) → (t : ℕ) × LsaShows v (own d s) (o + s.at) (cond (eqb v 2) (lsa_entries2 (own d s) (o + s.at)) (lsa_entries3 (own d s) (o + s.at))) t
  pub counted : records ≡ length spans
  pub objects_counted : length (ranges 113 entries) ≡ records
  pub longer : 0 < length strip

-- An accepted single LSA: its strip reads as its entries, laid out in the data, whose openings count what they hold, and which
-- show the lists inside it, what its metrics are, and end in its tail, if there is one; it is one record.
pub record OneShows (v : ℕ) (d : List ℕ) (o : ℕ) (strip : List ℕ) (records tail : ℕ) : Type 0 where
  pub entries : List Entry
  pub read : read_all strip ≡ some entries
  pub laid : Laid (holds v d) o (o + length d) entries
  pub openings : OpeningsCount entries
  pub entries_are : entries ≡ cond (eqb v 2) (lsa_entries2 d o) (lsa_entries3 d o)
  pub links : ranges 96 entries ≡ link_ranges v d o
  pub prefixes : v ≡ 3 → ranges 97 entries ≡ prefix_ranges d o
  pub metrics_shown : MetricsShown (metrics v d) entries
  pub lists : LsaShows v d o entries tail
  pub ending : Ending (containers v d) (metrics v d) (raw_or_tlvs v) (unparsed v) o (o + length d) entries tail
  pub counted : records ≡ 1
  pub longer : 0 < length strip

-- An accepted header list: its strip reads as entries, laid out in the data, whose openings count what they hold, and that show
-- all whole headers; each object holds the entries of its own header at its own place; no entry is of kind 9; the answer's
-- records are their number.
pub record HeadersShow (v : ℕ) (d : List ℕ) (o : ℕ) (strip : List ℕ) (records tail : ℕ) : Type 0 where
  pub entries : List Entry
  pub spans : List Span
  pub end : ℕ
  pub read : read_all strip ≡ some entries
  pub laid : Laid anything o (o + length d) entries
  pub openings : OpeningsCount entries
  pub shows : Shows (FixedAt 20 d) (length d) (length d / 20) 0 o 114 112 (unparsed v) spans end tail []
      (λ s. cond (eqb v 2) (header_entries2 (own d s) (o + s.at)) (header_entries3 (own d s) (o + s.at))) entries
  pub unreachable_none : (i s e : ℕ) → Memᴰ (unreachable i s e) entries → ⊥
  pub all_whole : tail < 20
  pub counted : records ≡ length spans
  pub objects_counted : length (ranges 112 entries) ≡ records
  pub longer : 0 < length strip
