-- Laws of the entries of any table: each row gives one field, which lies where its kind says. So a table whose rows lie in
-- a record of n bytes is laid out in it, and is well nested. Only the row of a metric can be unreachable, and none is shown as
-- LSInfinity.
use Prim.Native.Nat.{ℕ, zero, suc, ◌+◌, ◌≤◌}
use native.Mathlib.Nat.{add-zero}
use native.Mathlib.Omega.{arith}
use mathlib.Core.Path.{◌≡◌, refl, sym}
use mathlib.Core.Bool.{Bool, true, false, cond}
use mathlib.Core.List.{List, [], ◌∷◌}
use lib.Dec.{eqb}
use lib.ListN.{length}
use Rattle.format.specs.Bytes.{be24_at}
use Rattle.format.specs.Metric.{ls_infinity}
use Rattle.format.specs.Metric.Metric.{cost, unreachable}
use Rattle.format.specs.Strip.{Entry, metric_entry}
use Rattle.format.specs.Layout.{Field, Layout, from, entry_of, entries_at}
use Rattle.format.specs.Layout.Field.{u8, bit, low_bits, u16, wide16, u24, metric24, u32, u64, ip4, ip6}
use Rattle.format.specs.Layout.Row.{row}
use Rattle.format.specs.Laid.{is_field, start, end, Laid, among, only}
use Rattle.format.specs.Laid.Laid.{none, field}
use Rattle.format.proofs.Laid.{cond_same}
use Rattle.format.specs.Inside.{Counts}
use Rattle.format.proofs.Inside.{counts_none, counts_field}
use Rattle.format.proofs.Nested.{Nested}
use Rattle.format.proofs.Nested.Nested.{none as nested_none, field as nested_field}

-- The bytes that a field takes.
abbrev pub size : Field → ℕ
size u8 = 1
size (bit w) = 1
size (low_bits w) = 1
size u16 = 2
size wide16 = 2
size u24 = 3
size metric24 = 3
size u32 = 4
size u64 = 8
size ip4 = 4
size (ip6 n) = n

-- The rows of a table lie in the first n bytes.
abbrev pub Within : ℕ → Layout → Type 0
Within n [] = 0 ≤ n
Within n (row k f i ∷ rs) = (k + size f ≤ n) × Within n rs

-- A metric's id is among these, and that of another number that is shown with 32 bits is not; so of all rows of a table.
abbrev id_fits : List ℕ → Field → ℕ → Bool
id_fits ms u8 i = true
id_fits ms (bit w) i = true
id_fits ms (low_bits w) i = true
id_fits ms u16 i = true
id_fits ms wide16 i = cond (among ms i) false true
id_fits ms u24 i = cond (among ms i) false true
id_fits ms metric24 i = among ms i
id_fits ms u32 i = cond (among ms i) false true
id_fits ms u64 i = true
id_fits ms ip4 i = true
id_fits ms (ip6 n) i = true

abbrev pub ids_fit : List ℕ → Layout → Bool
ids_fit ms [] = true
ids_fit ms (row k f i ∷ rs) = cond (id_fits ms f i) (ids_fit ms rs) false

both : (s t : Bool) → cond s t false ≡ true → (s ≡ true) × (t ≡ true)
both true t h = (refl, h)
both false t h = let z : ◌≡◌ {A = ℕ} 0 1 = cc in absurd (omega arith)

from_place : (p k : ℕ) → from p k ≡ p + k
from_place p zero = sym (add-zero p)
from_place p (suc k) = refl

-- An entry is a field from s to e, and passes every test that its id fits, whatever the containers and byte ranges.
abbrev Is : Field → ℕ → Entry → ℕ → ℕ → Type 0
Is f i x s e = (is_field x ≡ true) × ((c ms r : List ℕ) → id_fits ms f i ≡ true → only c ms r x ≡ true) × (start x ≡ s) × (end x ≡ e)

-- another number than a metric's
apart : (t u : Bool) → cond t false true ≡ true → cond t u true ≡ true
apart true u h = let z : ◌≡◌ {A = ℕ} 0 1 = cc in absurd (omega arith)
apart false u h = refl

-- a metric is unreachable, or its cost is not LSInfinity
metric_is : (i s e n : ℕ) → Is metric24 i (metric_entry i s e (cond (eqb n ls_infinity) unreachable (cost n))) s e
metric_is i s e n = go (eqb n ls_infinity) refl
  where
    go : (t : Bool) → eqb n ls_infinity ≡ t → Is metric24 i (metric_entry i s e (cond t unreachable (cost n))) s e
    go true q = (refl, λ c ms r h. h, refl, refl)
    go false q = (refl, λ c ms r h. rw (q, cond_same), refl, refl)

module _ (b : List ℕ) (o p : ℕ) where
  row_is : (k i : ℕ) (f : Field) → Is f i (entry_of b o p (row k f i)) (o + from p k) (o + from p k + size f)
  row_is k i u8 = (refl, λ c ms r h. refl, refl, refl)
  row_is k i (bit w) = (refl, λ c ms r h. refl, refl, refl)
  row_is k i (low_bits w) = (refl, λ c ms r h. refl, refl, refl)
  row_is k i u16 = (refl, λ c ms r h. refl, refl, refl)
  row_is k i wide16 = (refl, λ c ms r h. apart (among ms i) _ h, refl, refl)
  row_is k i u24 = (refl, λ c ms r h. apart (among ms i) _ h, refl, refl)
  row_is k i metric24 = metric_is i _ _ (be24_at b (from p k))
  row_is k i u32 = (refl, λ c ms r h. apart (among ms i) _ h, refl, refl)
  row_is k i u64 = (refl, λ c ms r h. refl, refl, refl)
  row_is k i ip4 = (refl, λ c ms r h. refl, refl, refl)
  row_is k i (ip6 n) = (refl, λ c ms r h. refl, refl, refl)

  -- no row opens or closes
  pub rows_nested : (ok : ℕ → Bool) (t : Layout) → Nested ok (entries_at t b o p)
  rows_nested ok [] = nested_none
  rows_nested ok (row k f i ∷ rs) = nested_field (row_is k i f).0 (rows_nested ok rs)

  -- each row is one entry
  pub counts_rows : (t : Layout) → Counts (length t) (entries_at t b o p)
  counts_rows [] = counts_none
  counts_rows (row k f i ∷ rs) = let l : 1 + length rs ≡ suc (length rs) = omega arith in rw (← l) (counts_field (row_is k i f).0 (counts_rows rs))

  -- a table in a record of n bytes
  pub rows_laid : (c ms r : List ℕ) {lo hi : ℕ} (n : ℕ) (t : Layout) → Within n t → ids_fit ms t ≡ true → lo ≤ o + p → o + p + n ≤ hi → Laid (only c ms r) lo hi (entries_at t b o p)
  rows_laid c ms r n [] h w l m = none
  rows_laid c ms r {lo} {hi} n (row k f i ∷ rs) h w l m =
      let x = row_is k i f in
      let q = from_place p k in
      let s = x.2 in
      let e = x.3 in
      let v = both (id_fits ms f i) (ids_fit ms rs) w in
      field {lo = lo} {hi = hi} {x = entry_of b o p (row k f i)} x.0 (x.1 c ms r v.0) (omega arith) (omega arith) (omega (arith, h.0)) (rows_laid c ms r n rs h.1 v.1 l m)

-- The same at the front of its bytes.
pub rows_first : (c ms r : List ℕ) (b : List ℕ) (o n : ℕ) (t : Layout) → Within n t → ids_fit ms t ≡ true → Laid (only c ms r) o (o + n) (entries_at t b o 0)
rows_first c ms r b o n t h w = rows_laid b o 0 c ms r n t h w (omega arith) (omega arith)
