-- A body is raw exactly where its type has no layout or it has too few bytes for it, in the requirements' numbers.
use Prim.Native.Nat.{ℕ, ◌+◌, ◌*◌, ◌/◌, ◌≤◌}
use native.Mathlib.Omega.{arith}
use mathlib.Core.Path.{◌≡◌, refl, sym, ap}
use mathlib.Core.Bool.{Bool, true, false, cond}
use mathlib.Core.List.{List}
use mathlib.Core.Option.{Option, none, some}
use lib.ListN.{length, get_or}
use lib.Dec.{ltb, leb, eqb}
use borrow.Author.Tests.{leb-true, leb-false, lt-ltb, le-ltb, eqb-true, eqb-false}
use Rattle.format.specs.Prefix.{octets}
use Rattle.format.specs.Body.{Body}
use Rattle.format.specs.Body.Body.{decoded, raw}
use Rattle.format.specs.V2 as v2
use Rattle.format.specs.V3 as v3
use Rattle.format.specs.Lists.{least2, with_prefix, optionals, least3, too_short}

abbrev is_raw : Body → Bool
is_raw (decoded es n) = false
is_raw raw = true

raw_cond : (t : Bool) (x y : Body) → is_raw (cond t x y) ≡ cond t (is_raw x) (is_raw y)
raw_cond true x y = refl
raw_cond false x y = refl

short_cond : (t : Bool) (x y : Option ℕ) (n : ℕ) → too_short (cond t x y) n ≡ cond t (too_short x n) (too_short y n)
short_cond true x y n = refl
short_cond false x y n = refl

itself : (t : Bool) → cond t true false ≡ t
itself true = refl
itself false = refl

either : (s t : Bool) (x y : Bool) → cond (cond s true t) x y ≡ cond s x (cond t x y)
either true t x y = refl
either false t x y = refl

never : (n : ℕ) → ltb n 0 ≡ false
never n = le-ltb n 0 (omega arith)

-- Whether a body is raw, by its type and its length.
pub raw2 : (t u : ℕ) (b : List ℕ) (o : ℕ) → is_raw (v2.body2 t u b o) ≡ too_short (least2 t u) (length b)
unfolding v2.body2 v2.router_lsa2 v2.network_lsa2 v2.summary_lsa v2.external_lsa2 v2.opaque_lsa
raw2 t u b o = simp (raw_cond, short_cond, itself, either, never)

-- A body with a fixed prefix, and `more` bytes after it.
with_prefix_lem : (b : List ℕ) (more : ℕ) → (x : ℕ → Body) → ((n : ℕ) → n ≡ 4 * ((get_or b 4 0 + 31) / 32) → 8 + n ≤ length b → is_raw (x n) ≡ ltb (length b) (8 + n + more))
    → is_raw (elim (v3.fixed_prefix_fits b) [ none ↦ raw | some n ↦ x n ]) ≡ too_short (with_prefix (get_or b 4 0) more) (length b)
unfolding v3.prefix_fits octets
with_prefix_lem b more x h = go (leb (get_or b 4 0) 128) refl
  where
    fits : (m : ℕ) → m ≡ 4 * ((get_or b 4 0 + 31) / 32) → (t : Bool) → leb (8 + m) (length b) ≡ t
        → is_raw (elim (cond t (some m) none) [ none ↦ raw | some n ↦ x n ]) ≡ ltb (length b) (8 + 4 * ((get_or b 4 0 + 31) / 32) + more)
    fits m e true q = rw (h m e (leb-true (8 + m) (length b) q)) (ap (λ (n : ℕ). ltb (length b) (8 + n + more)) e)
    fits m e false q = let l = leb-false (8 + m) (length b) q in sym (lt-ltb (length b) (8 + 4 * ((get_or b 4 0 + 31) / 32) + more) (omega arith))

    go : (t : Bool) → leb (get_or b 4 0) 128 ≡ t → is_raw (elim (v3.fixed_prefix_fits b) [ none ↦ raw | some n ↦ x n ]) ≡ too_short (with_prefix (get_or b 4 0) more) (length b)
    go true e = let l = leb-true (get_or b 4 0) 128 e in rw (e, le-ltb 128 (get_or b 4 0) l) (fits ((get_or b 4 0 + 31) / 32 * 4) (omega arith) (leb (8 + (get_or b 4 0 + 31) / 32 * 4) (length b)) refl)
    go false e = let l = leb-false (get_or b 4 0) 128 e in rw (e, lt-ltb 128 (get_or b 4 0) l)

inter_area_prefix : (b : List ℕ) (o : ℕ) → is_raw (v3.inter_area_prefix_lsa b o) ≡ too_short (with_prefix (get_or b 4 0) 0) (length b)
unfolding v3.inter_area_prefix_lsa
inter_area_prefix b o = with_prefix_lem b 0 (λ n. decoded _ (8 + n)) (λ n e l. sym (le-ltb (length b) (8 + n + 0) (omega arith)))

referred : (r : ℕ) → ◌≡◌ {A = ℕ} (cond (ltb 0 r) 4 0) (cond (eqb r 0) 0 4)
referred r = go (eqb r 0) refl
  where
    go : (t : Bool) → eqb r 0 ≡ t → ◌≡◌ {A = ℕ} (cond (ltb 0 r) 4 0) (cond t 0 4)
    go true e = let z = eqb-true r 0 e in rw (le-ltb 0 r (omega arith))
    go false e = let z = eqb-false r 0 e in rw (lt-ltb 0 r (omega arith))

external3 : (b : List ℕ) (o : ℕ) → is_raw (v3.external_lsa3 b o) ≡ too_short (with_prefix (get_or b 4 0) (optionals b)) (length b)
unfolding v3.external_lsa3
external3 b o = with_prefix_lem b (optionals b) (λ n. cond (ltb (length b) (v3.external_end b n)) raw (decoded _ (v3.external_end b n)))
    (λ n e l. simp (raw_cond, itself) (ap (ltb (length b)) (let q : get_or b 0 0 / 1 ≡ get_or b 0 0 = omega arith in rw (q, referred (get_or b 6 0 * 256 + get_or b 7 0)) (omega arith))))

pub raw3 : (f : ℕ) (b : List ℕ) (o : ℕ) → is_raw (v3.body3 f b o) ≡ too_short (least3 f b) (length b)
unfolding v3.body3 v3.router_lsa3 v3.network_lsa3 v3.inter_area_router_lsa v3.link_lsa v3.intra_area_prefix_lsa v3.tlv_lsa
raw3 f b o = simp (raw_cond, short_cond, itself, never, inter_area_prefix b o, external3 b o)
