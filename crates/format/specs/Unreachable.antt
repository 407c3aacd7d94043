-- What is claimed of metrics of 24 bits: which of them is unreachable, and what the entries of a strip say of them. RFC 2328
-- appendix B. The numbers are those of the requirements.
use Rattle.std.specs.Prelude.{ℕ, ◌+◌, ◌*◌, ◌≤◌, ◌<◌, ◌≡◌, ◌↔◌, true, get_or}
use mathlib.Core.List.{List, Memᴰ}
use Rattle.format.specs.Strip.{Entry, content}
use Rattle.format.specs.Strip.Entry.{u32, unreachable}
use Rattle.format.specs.Laid.{among}

-- Bytes; and three of them, all ones.
abbrev pub Bytes : List ℕ → Type 0
Bytes b = (p : ℕ) → get_or b p 0 ≤ 255

abbrev pub AllOnes : List ℕ → ℕ → Type 0
AllOnes b p = (get_or b p 0 ≡ 255) × (get_or b (p + 1) 0 ≡ 255) × (get_or b (p + 2) 0 ≡ 255)

-- The entry of a metric in the bytes b at p, of which the first is at the place o: kind 9 exactly where its three bytes are all
-- ones; else a u32 field of their number, which is below 16,777,215. Both have the range of the three bytes.
pub record MetricShown (i : ℕ) (b : List ℕ) (o p : ℕ) (x : Entry) : Type 0 where
  pub kind_9 : ((content x).kind ≡ 9) ↔ AllOnes b p
  pub is_unreachable : AllOnes b p → x ≡ unreachable i (o + p) (o + p + 3)
  pub is_cost : (AllOnes b p → ⊥) → x ≡ u32 i (o + p) (o + p + 3) (get_or b p 0 * 65536 + get_or b (p + 1) 0 * 256 + get_or b (p + 2) 0)
  pub below : (s e n : ℕ) → x ≡ u32 i s e n → n < 16777215

-- The entries es, where the metrics have these ids: a kind 9 entry is one of them, and none is a number that says LSInfinity.
pub record MetricsShown (metrics : List ℕ) (es : List Entry) : Type 0 where
  pub unreachable_ids : (i s e : ℕ) → Memᴰ (unreachable i s e) es → among metrics i ≡ true
  pub no_infinity : (i s e n : ℕ) → Memᴰ (u32 i s e n) es → among metrics i ≡ true → n ≡ 16777215 → ⊥
