-- A metric of 24 bits is unreachable exactly where its bytes are all ones; and what an LSA's entries say of its metrics.
use Prim.Native.Nat.{ℕ, ◌+◌, ◌%◌, ◌≤◌}
use native.Mathlib.Nat.{lt_of_not-le}
use native.Mathlib.Omega.{arith}
use mathlib.Core.Path.{◌≡◌, refl, ap}
use mathlib.Core.Bool.{Bool, true, false, cond}
use mathlib.Core.List.{List, [], ◌∷◌, Memᴰ}
use lib.ListN.{get_or}
use lib.Dec.{eqb}
use borrow.Author.Tests.{eqb-true, eqb-false, eq-eqb}
use Rattle.format.specs.Bytes.{be16_at, be24_at}
use Rattle.format.specs.Metric.Metric.{cost, unreachable as infinite}
use Rattle.format.specs.Strip.{Entry, Shape, content, metric_entry, metric24_at}
use Rattle.format.specs.Strip.Entry.{closes, u32 as number, unreachable}
use Rattle.format.specs.Strip.Shape.{opening, closing, valued, numbered, ranged, costless}
use Rattle.format.specs.Layout.{Field, entry_of}
use Rattle.format.specs.Layout.Field.{u8, bit, low_bits, u16, wide16, u24, metric24, u32, u64, ip4, ip6}
use Rattle.format.specs.Layout.Row.{row}
use Rattle.format.specs.Walks.{lsa_entries}
use Rattle.format.specs.Laid.{Laid, among, passes, only, reaches, unreachable_only}
use Rattle.format.specs.Lists.{metric_ids, metrics2, metrics3, metrics, unparsed, raw_or_tlvs}
use Rattle.format.specs.Unreachable.{Bytes, AllOnes, MetricShown, MetricsShown}
use Rattle.format.proofs.Laid.{laid_member, all_among, all_cond, cond_same}
use Rattle.format.proofs.LaidLsa.{laid_any}

-- Entries of other kinds are no closes.
not_closes : (x : Entry) → ((content x).kind ≡ 2 → ⊥) → x ≡ closes → ⊥
not_closes x h q = h (ap (λ (y : Entry). (content y).kind) q)

-- The entry of a metric, by its number.
module _ (i : ℕ) (b : List ℕ) (o p : ℕ) (octets : Bytes b) where
  -- three bytes are all ones exactly where their number is the largest
  ones : be24_at b p ≡ 16777215 → AllOnes b p
  ones e =
      let q : p + 1 + 1 ≡ p + 2 = omega arith in
      let h = rw q at e in
      let x = octets p in
      let y = octets (p + 1) in
      let z = octets (p + 2) in
      (omega arith, omega arith, omega arith)

  largest : AllOnes b p → be24_at b p ≡ 16777215
  largest h =
      let q : p + 1 + 1 ≡ p + 2 = omega arith in
      rw q (omega (arith, h.0, h.1, h.2))

  pub metric_shown : MetricShown i b o p (metric24_at i b o p)
  metric_shown = go (eqb (be24_at b p) 16777215) refl
    where
      q : p + 1 + 1 ≡ p + 2
      q = omega arith

      go : (t : Bool) → eqb (be24_at b p) 16777215 ≡ t → MetricShown i b o p (metric_entry i (o + p) (o + p + 3) (cond t infinite (cost (be24_at b p))))
      go true e = record {
        kind_9 = (λ k. ones (eqb-true (be24_at b p) 16777215 e), λ h. refl);
        is_unreachable = λ h. refl;
        is_cost = λ h. absurd (h (ones (eqb-true (be24_at b p) 16777215 e)));
        below = λ s t n k. absurd (let z : ◌≡◌ {A = ℕ} 9 5 = ap (λ (x : Entry). (content x).kind) k in omega arith);
      }
      go false e = record {
        kind_9 = (λ k. absurd (omega (arith, k)), λ h. absurd (eqb-false (be24_at b p) 16777215 e (largest h)));
        is_unreachable = λ h. absurd (eqb-false (be24_at b p) 16777215 e (largest h));
        is_cost = λ h. ap (number i (o + p) (o + p + 3)) (rw q (omega arith));
        below = λ s t n k.
            let z : be24_at b p ≡ n = cc in
            let last : get_or b (p + 1 + 1) 0 ≤ 255 = octets (p + 1 + 1) in
            lt_of_not-le (λ g. eqb-false (be24_at b p) 16777215 e (omega (arith, octets p, octets (p + 1))));
      }

-- What a test says of a kind 9 entry.
pub unreachable_passes : {has : Entry → Bool} {lo hi i s e : ℕ} {es : List Entry} → Laid has lo hi es → Memᴰ (unreachable i s e) es → has (unreachable i s e) ≡ true
unreachable_passes {i = i} {s} {e} l m = (laid_member (unreachable i s e) (not_closes (unreachable i s e) (λ z. omega arith)) l m).passes

-- What the test of an LSA's entries says of its metrics.
laid_metrics : (c ms r : List ℕ) {lo hi : ℕ} {es : List Entry} → Laid (only c ms r) lo hi es → MetricsShown ms es
laid_metrics c ms r l = record {
  unreachable_ids = λ i s e m. unreachable_passes l m;
  no_infinity = λ i s e n m k q.
      let t = rw (k, eq-eqb n 16777215 q) at (laid_member (number i s e n) (not_closes (number i s e n) (λ z. omega arith)) l m).passes in
      let z : ◌≡◌ {A = ℕ} 0 1 = cc in
      absurd (omega arith);
}

pub metrics_shown : (v : ℕ) (d : List ℕ) (o : ℕ) → MetricsShown (metrics v d) (lsa_entries v d o)
metrics_shown v d o = laid_metrics _ _ (unparsed v ∷ raw_or_tlvs v) (laid_any v d o)

-- The metrics of an LSA have ids of metrics of its version.
pub of_version : (v : ℕ) (d : List ℕ) (i : ℕ) → among (metrics v d) i ≡ true → among (metric_ids v) i ≡ true
of_version v d i = go (eqb v 2)
  where
    go : (t : Bool) → among (cond t (metrics2 (get_or d 3 0)) (metrics3 (be16_at d 2 % 8192))) i ≡ true → among (cond t (19 ∷ 82 ∷ []) (17 ∷ [])) i ≡ true
    go true h = all_among (among (19 ∷ 82 ∷ [])) (metrics2 (get_or d 3 0)) i (simp (all_cond, cond_same)) h
    go false h = all_among (among (17 ∷ [])) (metrics3 (be16_at d 2 % 8192)) i (simp (all_cond, cond_same)) h

-- An entry that passes an LSA's test passes that of kind 9 entries alone.
pub only_unreachable : (c ms ns r : List ℕ) → ((i : ℕ) → among ms i ≡ true → among ns i ≡ true) → (x : Entry) → only c ms r x ≡ true → unreachable_only ns x ≡ true
only_unreachable c ms ns r f x = go (content x).shape
  where
    go : (t : Shape) → passes c ms r t (content x).id ≡ true → reaches ns t (content x).id ≡ true
    go opening h = refl
    go closing h = refl
    go valued h = refl
    go (numbered v) h = refl
    go ranged h = refl
    go costless h = f (content x).id h

-- Of the rows of a table only a metric's is ever unreachable.
pub row_unreachable : (b : List ℕ) (o p k i : ℕ) (f : Field) → (content (entry_of b o p (row k f i))).kind ≡ 9 → f ≡ metric24
row_unreachable b o p k i u8 h = absurd (omega (arith, h))
row_unreachable b o p k i (bit w) h = absurd (omega (arith, h))
row_unreachable b o p k i (low_bits w) h = absurd (omega (arith, h))
row_unreachable b o p k i u16 h = absurd (omega (arith, h))
row_unreachable b o p k i wide16 h = absurd (omega (arith, h))
row_unreachable b o p k i u24 h = absurd (omega (arith, h))
row_unreachable b o p k i metric24 h = refl
row_unreachable b o p k i u32 h = absurd (omega (arith, h))
row_unreachable b o p k i u64 h = absurd (omega (arith, h))
row_unreachable b o p k i ip4 h = absurd (omega (arith, h))
row_unreachable b o p k i (ip6 n) h = absurd (omega (arith, h))
