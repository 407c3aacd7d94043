-- How many bytes of a strip exactly: the parts of an LSA, and a walk's objects and outer array.
use Prim.Native.Nat.{ℕ, ◌+◌, ◌≤◌}
use native.Mathlib.Omega.{arith}
use mathlib.Core.Path.{◌≡◌, refl, ap, ◌∙◌}
use mathlib.Core.Bool.{Bool, true, false, cond}
use mathlib.Core.List.{List, [], ◌∷◌, ◌++◌, append-nil, flat_map}
use lib.ListN.{length, drop, length-append, length-drop}
use lib.Seq.{length-take-le}
use Rattle.format.specs.Bytes.{part}
use Rattle.format.specs.Metric.{Metric, metric_at}
use Rattle.format.specs.Metric.Metric.{cost, unreachable}
use Rattle.format.specs.Strip.{Entry, code, encode, container, metric_entry, metric24_at}
use Rattle.format.specs.Cut.{Span, after}
use Rattle.format.specs.Body.{listing, listing_if_any, leftover}
use Rattle.format.specs.V2 as v2
use Rattle.format.specs.V3 as v3
use Rattle.format.specs.Walks.{header_entries, header_object, lsa_entries, lsa_object, outer, unparsed_id}
use Rattle.format.proofs.Wrote.{encode-append}
use Rattle.format.proofs.Unique.{span}
use Rattle.format.proofs.Loop.{spread}
use Rattle.format.proofs.Lists.{length-container, length-listing}

-- A part that lies in the data has its length.
pub part_length : (d : List ℕ) (p n : ℕ) → p + n ≤ length d → length (part d p n) ≡ n
part_length d p n h = length-take-le n (drop p d) (rw (length-drop p d) (omega arith))

-- Entries one after another.
pub length_both : (xs ys : List Entry) → length (encode (xs ++ ys)) ≡ length (encode xs) + length (encode ys)
length_both xs ys = ap length (encode-append xs ys) ∙ length-append (encode xs) (encode ys)

-- Entries one by one.
abbrev total : List Entry → ℕ
total [] = 0
total (x ∷ xs) = length (code x) + total xs

pub length_entries : (es : List Entry) → length (encode es) ≡ total es
unfolding encode
length_entries [] = refl
length_entries (x ∷ xs) = length-append (code x) (encode xs) ∙ ap (λ (n : ℕ). length (code x) + n) (length_entries xs)

-- The entry of a metric of 24 bits, which is the longer where it is a cost.
pub metric_bound : (i : ℕ) (b : List ℕ) (o p : ℕ) → length (code (metric24_at i b o p)) ≤ 14
unfolding code
metric_bound i b o p = go (metric_at b p)
  where
    go : (x : Metric) → length (code (metric_entry i (o + p) (o + p + 3) x)) ≤ 14
    go (cost v) = omega arith
    go unreachable = omega arith

-- An entry that is present or not.
pub length_part : (s : Bool) (e : Entry) → length (encode (cond s (e ∷ []) [])) ≡ cond s (length (code e)) 0
unfolding encode
length_part true e = rw append-nil
length_part false e = refl

-- It takes at most what it takes when present.
pub at_most : (s : Bool) (k : ℕ) → cond s k 0 ≤ k
at_most true k = omega arith
at_most false k = omega arith

-- The length of a link of version 2: its own fields, and the array of its TOS metrics.
pub length-link : (b : List ℕ) (o : ℕ) (s : Span) → length (encode (v2.link b o s)) ≡ 77 + length (encode (listing_if_any 69 (v2.link_tos b o) o (s.at + 12) (v2.link_tos_spans b s.at)))
unfolding v2.link encode code
length-link b o s = length-container 96 (o + s.at) (o + s.at + s.len) (v2.link_fields b o s.at ++ listing_if_any 69 (v2.link_tos b o) o (s.at + 12) (v2.link_tos_spans b s.at)) ∙ omega arith

-- A prefix of a list, with a metric or without.
pub length-prefix : (m : Bool) (b : List ℕ) (o : ℕ) (s : Span) → length (encode (v3.prefix m b o s)) ≡ 63 + cond m 12 0
unfolding v3.prefix container encode code
length-prefix true b o s = refl
length-prefix false b o s = refl

-- The optional parts of an external of version 3.
pub length_optional : (b : List ℕ) (o n : ℕ) → length (encode (v3.external_optional b o n)) ≡ cond (v3.has_forwarding b) 26 0 + (cond (v3.has_tag b) 14 0 + cond (v3.has_reference b) 14 0)
unfolding code
length_optional b o n = rw (length_both, length_both, length_part (v3.has_forwarding b), length_part (v3.has_tag b), length_part (v3.has_reference b))

-- The object of a header, and of an LSA: fifteen bytes more than its entries.
module _ (v : ℕ) (d : List ℕ) (o p n : ℕ) where
  pub length_header_object : length (encode (header_object v d o (span p n))) ≡ 15 + length (encode (header_entries v (part d p n) (o + p)))
  unfolding header_object
  length_header_object = length-container 112 (o + p) (o + p + n) (header_entries v (part d p n) (o + p))

  pub length_lsa_object : length (encode (lsa_object v d o (span p n))) ≡ 15 + length (encode (lsa_entries v (part d p n) (o + p)))
  unfolding lsa_object
  length_lsa_object = length-container 113 (o + p) (o + p + n) (lsa_entries v (part d p n) (o + p))

-- The outer array of a list, with what is left after it.
pub length-outer : (v : ℕ) (f : Span → List Entry) (d : List ℕ) (o p : ℕ) (ss : List Span)
    → length (encode (outer v f d o p ss)) ≡ 15 + length (encode (flat_map f ss)) + length (encode (leftover (unparsed_id v) d o (after p ss)))
unfolding outer spread
length-outer v f d o p ss =
    length_both (listing 114 f o p ss) (leftover (unparsed_id v) d o (after p ss))
    ∙ ap (λ (n : ℕ). n + length (encode (leftover (unparsed_id v) d o (after p ss)))) (length-listing 114 f o p ss)
