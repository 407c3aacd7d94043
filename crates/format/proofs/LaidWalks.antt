-- The entries of every accepted walk are laid out in the data: every start and end is a place in the data plus the offset,
-- in order, and lies in the container around it.
use Prim.Native.Nat.{ℕ, ◌+◌, ◌≤◌}
use native.Mathlib.Omega.{arith}
use mathlib.Core.Path.{◌≡◌, refl}
use mathlib.Core.Logic.{⊎_elim}
use mathlib.Core.Bool.{Bool, true, false, cond}
use mathlib.Core.List.Memᴰ
use mathlib.Core.List.{List, [], ◌∷◌, Memᴰ}
use mathlib.Core.Option.{some}
use lib.ListN.{length, drop, length-drop}
use lib.Dec.{eqb}
use Rattle.format.specs.Bytes.{part}
use Rattle.format.specs.Strip.{Entry}
use Rattle.format.specs.Strip.Entry.{bytes}
use Rattle.format.specs.Cut.{Span, Rule, cut, after, standing, fixed_rule, record_rule}
use Rattle.format.specs.Body.{whole}
use Rattle.format.specs.Walks.{header_object, lsa_object, lsa_entries, lsa_tail, outer, unparsed_id, headers, lsas}
use Rattle.format.specs.Laid.{Laid, among, unreachable_only, Ending}
use Rattle.format.specs.Laid.Ending.{nothing_left, unparsed_left, raw-or-tlvs}
use Rattle.format.specs.Lists.{containers, metric_ids, metrics, raw_or_tlvs, unparsed}
use Rattle.format.proofs.Unique.{span}
use Rattle.format.proofs.Rules.{inside}
use Rattle.format.proofs.Lengths.{part_length}
use Rattle.format.proofs.Laid.{after-from, cut_inside, widen, weaken, laid_append, laid_container, laid_cond, laid_listing, laid_leftover, laid_member}
use Rattle.format.proofs.Unreachable.{of_version, only_unreachable}
use Rattle.format.proofs.LaidLsa.{laid_header2, laid_header3, laid_lsa, lsa_ends}

-- An outer array and the tail after it, where each object lies where its span stands, by a test of kind 9 entries.
laid_outer : (ms : List ℕ) (v : ℕ) (f : Span → List Entry) (d : List ℕ) (o least : ℕ) (declared : Rule) (k p : ℕ) → p ≤ length d
    → ((q n : ℕ) → standing least declared d q ≡ some n → Laid (unreachable_only ms) (o + q) (o + q + n) (f (span q n)))
    → Laid (unreachable_only ms) o (o + length d) (outer v f d o p (cut (standing least declared) d k p))
unfolding outer
laid_outer ms v f d o least declared k p h items =
    let a = after-from (cut (standing least declared) d k p) p in
    let b = cut_inside least declared d k p h in
    laid_append (laid_listing 114 o p f (standing least declared) d k (λ s e n. refl) (omega arith) (omega arith) items)
    (laid_leftover (unparsed_id v) d o (after p (cut (standing least declared) d k p)) (λ s e. refl) (omega arith) (omega arith))

-- A header list has no kind 9 entry.
pub laid_headers : (v : ℕ) (d : List ℕ) (o : ℕ) → Laid (unreachable_only []) o (o + length d) (outer v (header_object v d o) d o 0 (headers d))
unfolding whole header_object
laid_headers v d o = laid_outer [] v (header_object v d o) d o 20 _ _ 0 (omega arith) object
  where
    object : (q n : ℕ) → fixed_rule 20 d q ≡ some n → Laid (unreachable_only []) (o + q) (o + q + n) (header_object v d o (span q n))
    object q n e =
        let l = (inside 20 _ d q n e).enough in
        laid_container _ _ _ refl (omega arith) (omega arith) (omega arith)
        (widen (omega arith) (omega arith) (weaken (only_unreachable [] [] [] [] (λ i h. h))
        (laid_cond (eqb v 2) (laid_header2 [] [] [] (part d q n) (o + q) refl refl) (laid_header3 [] [] [] (part d q n) (o + q) refl refl))))

-- Those of an update have ids of metrics.
pub laid_update : (v : ℕ) (d : List ℕ) (count o : ℕ) → 4 ≤ length d → Laid (unreachable_only (metric_ids v)) o (o + length d) (outer v (lsa_object v d o) d o 4 (lsas d count))
unfolding lsa_object
laid_update v d count o h = laid_outer (metric_ids v) v (lsa_object v d o) d o 20 _ count 4 h object
  where
    object : (q n : ℕ) → record_rule d q ≡ some n → Laid (unreachable_only (metric_ids v)) (o + q) (o + q + n) (lsa_object v d o (span q n))
    object q n e =
        let i = inside 20 _ d q n e in
        let m = part_length d q n i.within in
        laid_container _ _ _ refl (omega arith) (omega arith) (omega arith)
        (widen (omega arith) (omega arith) (weaken (only_unreachable (containers v (part d q n)) (metrics v (part d q n)) (metric_ids v) (unparsed v ∷ raw_or_tlvs v) (of_version v (part d q n))) (laid_lsa v (part d q n) (o + q) (omega (arith, i.enough)))))

-- How the entries of an LSA end, in its own data.
pub lsa_ending : (v : ℕ) (d : List ℕ) (o : ℕ) → 20 ≤ length d → Ending (containers v d) (metrics v d) (raw_or_tlvs v) (unparsed v) o (o + length d) (lsa_entries v d o) (lsa_tail v d)
lsa_ending v d o h =
    let l = length-drop 20 d in
    let q : o + 20 + length (drop 20 d) ≡ o + length d = omega arith in
    rw (← q) (lsa_ends v d o)

-- So a raw body (23, 31) or a tlvs range (24, 32) in the strip goes with no tail.
pub raw_or_tlvs_no_tail : (v : ℕ) {c ms : List ℕ} {lo hi : ℕ} {es : List Entry} {t : ℕ} → Ending c ms (raw_or_tlvs v) (unparsed v) lo hi es t
    → (i s e : ℕ) → among (raw_or_tlvs v) i ≡ true → Memᴰ (bytes i s e) es → t ≡ 0
raw_or_tlvs_no_tail v {c} {ms} {lo} {hi} {es} {t} ending i s e k m = go ending
  where
    apart : (x : Bool) → among (cond x (23 ∷ 24 ∷ []) (31 ∷ 32 ∷ [])) (cond x 25 33) ≡ false
    apart true = refl
    apart false = refl

    go : Ending c ms (raw_or_tlvs v) (unparsed v) lo hi es t → t ≡ 0
    go (nothing_left l z) = z
    go (raw-or-tlvs front j p q f l a b z) = z
    go (unparsed_left front p f l a b z) = ⊎_elim {C = t ≡ 0}
        (λ n. let y : ◌≡◌ {A = ℕ} 0 1 = cc (laid_member (bytes i s e) (λ w. let y : ◌≡◌ {A = ℕ} 0 1 = cc in omega arith) l n).passes in absurd (omega arith))
        (λ n. let w : i ≡ unparsed v = cc (Memᴰ.eq_of_singleton n) in let y : ◌≡◌ {A = ℕ} 0 1 = cc (rw w at k, apart (eqb v 2)) in absurd (omega arith))
        (Memᴰ.append_cases front (rw f at m))
