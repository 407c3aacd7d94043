-- The LS checksum is what it is claimed to be.
use Prim.Native.Nat.{ℕ, zero, suc, ◌+◌, ◌-◌, ◌*◌, ◌/◌, ◌%◌, ◌≤◌, ◌<◌}
use native.Mathlib.Omega.{arith}
use native.Mathlib.Nat.{zero-add}
use mathlib.Core.Path.{◌≡◌, refl, sym, ap, ◌∙◌}
use mathlib.Core.Logic.{◌↔◌, ◌⊎◌, inl, inr, ⊎_elim}
use mathlib.Core.Bool.{Bool, true, false, not, cond, true≢false}
use mathlib.Core.List.{List}
use lib.ListN.{length, get_or, drop, set, length-set, length-drop}
use lib.Seq.{drop-set-add, get_or-set_same, get_or-set_other, get_or-drop, ext_get_or}
use lib.Dec.{eqb, leb}
use borrow.Author.Tests.{eqb-true, eqb-false, leb-true, leb-false}
use Rattle.format.specs.Checksum.{Sums, residues, with_checksum, sums, is_good, is_lsa, check, Making, making, sums_without, made_lsa, octet_of, first_octet, second_octet}
use Rattle.format.specs.Checksum.Check.{good, bad, refused}
use Rattle.format.specs.Checksum.Making.{made, refused as not_made}
use Rattle.format.specs.Fletcher.{octet_sum, Good, Octet, NoLsa, Lsa, Checks, Makes, Made, SameElsewhere, Damaged, Alike, Found}
use Rattle.format.proofs.Checksum.{same_residues, weighted, sums_are, both_ways, octets-set, weighted_set}

-- A residue as an octet from 1 to 255 is less than its number by a multiple of 255.
record OctetOf (m x : ℕ) : Type 0 where
  octet : Octet x
  times : ℕ
  less : x + 255 * times ≡ m

octet_of_lem : (m : ℕ) → 0 < m → OctetOf m (octet_of m)
unfolding octet_of
octet_of_lem m h = go (eqb (m % 255) 0) refl
  where
    go : (b : Bool) → eqb (m % 255) 0 ≡ b → OctetOf m (cond b 255 (m % 255))
    go true e =
        let z = eqb-true (m % 255) 0 e in
        record { octet = (omega arith, omega arith); times = m / 255 - 1; less = omega arith }
    go false e =
        let z = eqb-false (m % 255) 0 e in
        record { octet = (omega arith, omega arith); times = m / 255; less = omega arith }

-- A field x and y with k bytes of the LSA after it, where the sums are t and w without it: both sums are zero.
pub record Solution (t w k x y : ℕ) : Type 0 where
  pub first-octet : Octet x
  pub second-octet : Octet y
  pub first_sum : (t + x + y) % 255 ≡ 0
  pub second_sum : (w + (k + 2) * x + (k + 1) * y) % 255 ≡ 0

multiple : (m i j : ℕ) → m + 255 * i ≡ 255 * j → m % 255 ≡ 0
multiple m i j e = omega arith

-- Octets x and y that are what B.3 says but for multiples of 255, by residues a and b and what is left of 255.
module _ (t w k u v a b a' b' m n x y i j : ℕ) (et : t + u + v ≡ 255 * m + a) (ew : w + (k + 2) * u + (k + 1) * v ≡ 255 * n + b)
    (ea : a + a' ≡ 255) (eb : b + b' ≡ 255) (ex : x + 255 * i ≡ u + ((k + 1) * a + b')) (ey : y + 255 * j ≡ v + ((k + 2) * a' + b)) where
  solves_by : ((t + x + y) % 255 ≡ 0) × ((w + (k + 2) * x + (k + 1) * y) % 255 ≡ 0)
  solves_by =
      let f = ap (λ (z : ℕ). k * z) ea in
      let g = ap (λ (z : ℕ). k * z) eb in
      let h = ap (λ (z : ℕ). k * (k * z)) ea in
      let p = ap (λ (z : ℕ). k * z) ex in
      let q = ap (λ (z : ℕ). k * z) ey in
      (multiple _ (i + j) (m + k + 3) (omega arith), multiple _ ((k + 2) * i + (k + 1) * j) (n + (k + 1) * (k + 2) + (k + 2)) (omega arith))

-- The two octets that the sums give, whatever the field was, make both zero.
module _ (t w k u v : ℕ) where
  abbrev c0 : ℕ
  c0 = (t + u + v) % 255

  abbrev c1 : ℕ
  c1 = (w + (k + 2) * u + (k + 1) * v) % 255

  abbrev pub solved_first : ℕ
  solved_first = u + ((k + 1) * c0 + (255 - c1))

  abbrev pub solved_second : ℕ
  solved_second = v + ((k + 2) * (255 - c0) + c1)

  pub solves : Solution t w k (octet_of solved_first) (octet_of solved_second)
  solves = go (octet_of_lem solved_first (omega arith)) (octet_of_lem solved_second (positive (k + 2) (255 - c0) (omega arith) (omega arith)))
    where
      positive : (m n : ℕ) → 0 < m → 0 < n → 0 < v + (m * n + c1)
      positive zero n h i = absurd (omega arith)
      positive (suc m) zero h i = absurd (omega arith)
      positive (suc m) (suc n) h i = omega arith

      go : {x y : ℕ} → OctetOf solved_first x → OctetOf solved_second y → Solution t w k x y
      go p q =
          let z = solves_by t w k u v c0 c1 (255 - c0) (255 - c1) ((t + u + v) / 255) ((w + (k + 2) * u + (k + 1) * v) / 255) _ _ p.times q.times
          (omega arith) (omega arith) (omega arith) (omega arith) p.less q.less in
          record { first-octet = p.octet; second-octet = q.octet; first_sum = z.0; second_sum = z.1 }

-- And they are the only ones.
same_octet : (x y i j : ℕ) → Octet x → Octet y → x + 255 * i ≡ y + 255 * j → x ≡ y
same_octet x y i j h k e = omega arith

same_second : (t x x' y y' : ℕ) → Octet y → Octet y' → (t + x + y) % 255 ≡ 0 → (t + x' + y') % 255 ≡ 0 → x ≡ x' → y ≡ y'
same_second t x x' y y' h h' e e' p = same_octet y y' ((t + x' + y') / 255) ((t + x + y) / 255) h h' (omega arith)

first_alone : (t w k x y a b : ℕ) → t + x + y ≡ 255 * a → w + (k + 2) * x + (k + 1) * y ≡ 255 * b → w + x + 255 * ((k + 1) * a) ≡ 255 * b + (k + 1) * t
first_alone t w k x y a b p q = omega (arith, ap (λ (z : ℕ). k * z) p)

same_first : (w x x' p p' b b' c : ℕ) → Octet x → Octet x' → w + x + 255 * p ≡ 255 * b + c → w + x' + 255 * p' ≡ 255 * b' + c → x ≡ x'
same_first w x x' p p' b b' c h h' e e' = same_octet x x' (p + b') (p' + b) h h' (omega arith)

whole : (m : ℕ) → m % 255 ≡ 0 → m ≡ 255 * (m / 255)
whole m e = omega arith

only_solution : {t w k x y x' y' : ℕ} → Solution t w k x y → Solution t w k x' y' → (x ≡ x') × (y ≡ y')
only_solution {t} {w} {k} {x} {y} {x'} {y'} s s' =
    let p = same_first w x x' _ _ _ _ _ s.first-octet s'.first-octet (first_alone t w k x y _ _ (whole _ s.first_sum) (whole _ s.second_sum))
    (first_alone t w k x' y' _ _ (whole _ s'.first_sum) (whole _ s'.second_sum)) in
    (p, same_second t x x' y y' s.second-octet s'.second-octet s.first_sum s'.first_sum p)

-- The sums of an LSA with k bytes after its field: those without the field, and what the field adds.
module _ (lsa : List ℕ) (k : ℕ) (e : length lsa ≡ k + 18) where
  abbrev octets_without : ℕ
  octets_without = octet_sum (drop 2 (with_checksum lsa 0 0))

  abbrev weighted_without : ℕ
  weighted_without = weighted (drop 2 (with_checksum lsa 0 0))

  set-sums : (x y : ℕ) → (octet_sum (drop 2 (with_checksum lsa x y)) + get_or lsa 16 0 + get_or lsa 17 0 ≡ octet_sum (drop 2 lsa) + x + y)
      × (weighted (drop 2 (with_checksum lsa x y)) + (k + 2) * get_or lsa 16 0 + (k + 1) * get_or lsa 17 0 ≡ weighted (drop 2 lsa) + (k + 2) * x + (k + 1) * y)
  set-sums x y =
      let l = drop 2 lsa in
      let n : length l ≡ k + 16 = omega (arith, length-drop 2 lsa) in
      let m : length (set l 14 x) ≡ k + 16 = length-set l 14 x ∙ n in
      let u : get_or l 14 0 ≡ get_or lsa 16 0 = get_or-drop 2 lsa 14 0 in
      let v : get_or (set l 14 x) 15 0 ≡ get_or lsa 17 0 = get_or-set_other l 14 15 x 0 (omega arith) ∙ get_or-drop 2 lsa 15 0 in
      let d : drop 2 (with_checksum lsa x y) ≡ set (set l 14 x) 15 y = drop-set-add 2 (set lsa 16 x) 15 y ∙ ap (λ (z : List ℕ). set z 15 y) (drop-set-add 2 lsa 14 x) in
      let o = octets-set l 14 x (omega arith) in
      let p = octets-set (set l 14 x) 15 y (omega arith) in
      let q = weighted_set l 14 (k + 1) x (omega arith) in
      let r = weighted_set (set l 14 x) 15 k y (omega arith) in
      rw d (omega (arith, o, p), omega (arith, q, r, ap (λ (z : ℕ). (k + 2) * z) u, ap (λ (z : ℕ). (k + 1) * z) v))

  with_sums : (x y : ℕ) → sums (with_checksum lsa x y) ≡ residues (octets_without + x + y) (weighted_without + (k + 2) * x + (k + 1) * y)
  with_sums x y =
      let f = set-sums x y in
      let g = set-sums 0 0 in
      sums_are (with_checksum lsa x y) ∙ same_residues (omega (arith, f.0, g.0)) (omega (arith, f.1, g.1))

-- Where the octets' sum is zero, the running sum is if the sum by positions is.
second_or_position : (w p n s : ℕ) → w + p ≡ n * s → s % 255 ≡ 0 → (w % 255 ≡ 0) ↔ (p % 255 ≡ 0)
second_or_position w p n s e z =
    let f : n * s ≡ 255 * (n * (s / 255)) = ap (λ (m : ℕ). n * m) (whole s z) ∙ omega arith in
    go (n * (s / 255)) (e ∙ f)
  where
    go : (q : ℕ) → w + p ≡ 255 * q → (w % 255 ≡ 0) ↔ (p % 255 ≡ 0)
    go q h = (λ i. omega arith, λ i. omega arith)

module _ (lsa : List ℕ) where
  weighted_good : octet_sum (drop 2 lsa) % 255 ≡ 0 → weighted (drop 2 lsa) % 255 ≡ 0 → (get_or lsa 16 0 ≡ 0 → get_or lsa 17 0 ≡ 0 → ⊥) → Good lsa
  weighted_good p q h = record { octets = p; positions = (second_or_position _ _ _ _ (both_ways 1 (drop 2 lsa)) p).0 q; some_field = h }

  good_weighted : Good lsa → weighted (drop 2 lsa) % 255 ≡ 0
  good_weighted g = (second_or_position _ _ _ _ (both_ways 1 (drop 2 lsa)) g.octets).1 g.positions

  zero_good : (sums lsa).c0 ≡ 0 → (sums lsa).c1 ≡ 0 → (get_or lsa 16 0 ≡ 0 → get_or lsa 17 0 ≡ 0 → ⊥) → Good lsa
  zero_good p q h = weighted_good (sym (ap (λ (s : Sums). s.c0) (sums_are lsa)) ∙ p) (sym (ap (λ (s : Sums). s.c1) (sums_are lsa)) ∙ q) h

  good_zero : Good lsa → ((sums lsa).c0 ≡ 0) × ((sums lsa).c1 ≡ 0)
  good_zero g = (ap (λ (s : Sums). s.c0) (sums_are lsa) ∙ g.octets, ap (λ (s : Sums). s.c1) (sums_are lsa) ∙ good_weighted g)

  is_good_lem : (is_good lsa ≡ true) ↔ Good lsa
  unfolding is_good
  is_good_lem = go (eqb (sums lsa).c0 0) refl (eqb (sums lsa).c1 0) refl (eqb (get_or lsa 16 0) 0) refl (eqb (get_or lsa 17 0) 0) refl
    where
      go : (a : Bool) → eqb (sums lsa).c0 0 ≡ a → (b : Bool) → eqb (sums lsa).c1 0 ≡ b → (c : Bool) → eqb (get_or lsa 16 0) 0 ≡ c → (d : Bool) → eqb (get_or lsa 17 0) 0 ≡ d
          → (cond a (cond b (cond c (not d) true) false) false ≡ true) ↔ Good lsa
      go true p true q true r true s = (λ h. absurd (true≢false (sym h)), λ g. absurd (g.some_field (eqb-true _ _ r) (eqb-true _ _ s)))
      go true p true q true r false s = (λ h. zero_good (eqb-true _ _ p) (eqb-true _ _ q) (λ i j. eqb-false _ _ s j), λ g. refl)
      go true p true q false r d s = (λ h. zero_good (eqb-true _ _ p) (eqb-true _ _ q) (λ i j. eqb-false _ _ r i), λ g. refl)
      go true p false q c r d s = (λ h. absurd (true≢false (sym h)), λ g. absurd (eqb-false _ _ q (good_zero g).1))
      go false p b q c r d s = (λ h. absurd (true≢false (sym h)), λ g. absurd (eqb-false _ _ p (good_zero g).0))

-- Which bytes are taken.
data Taken (lsa : List ℕ) : Bool → Type 0 where
  taken : Lsa lsa → Taken lsa true
  not_taken : NoLsa lsa → Taken lsa false

taken_or_not : (lsa : List ℕ) → Taken lsa (is_lsa lsa)
taken_or_not lsa = go (leb 20 (length lsa)) refl (leb (length lsa) 65535) refl
  where
    go : (a : Bool) → leb 20 (length lsa) ≡ a → (b : Bool) → leb (length lsa) 65535 ≡ b → Taken lsa (cond a b false)
    go false p b q = not_taken (inl (leb-false _ _ p))
    go true p false q = not_taken (inr (leb-false _ _ q))
    go true p true q = taken (leb-true _ _ p, leb-true _ _ q)

pub lsa_or_not : (lsa : List ℕ) → Lsa lsa ⊎ NoLsa lsa
lsa_or_not lsa = go (is_lsa lsa) (taken_or_not lsa)
  where
    go : (a : Bool) → Taken lsa a → Lsa lsa ⊎ NoLsa lsa
    go true (taken h) = inl h
    go false (not_taken n) = inr n

pub is_lsa_lem : (lsa : List ℕ) → is_lsa lsa ≡ true → Lsa lsa
is_lsa_lem lsa e = go (is_lsa lsa) (taken_or_not lsa) e
  where
    go : (a : Bool) → Taken lsa a → a ≡ true → Lsa lsa
    go true (taken h) e = h
    go false (not_taken n) e = absurd (true≢false (sym e))

pub not_both : (lsa : List ℕ) → Lsa lsa → NoLsa lsa → ⊥
not_both lsa h n = ⊎_elim (λ z. let i = h.0 in omega arith) (λ z. let i = h.1 in omega arith) n

no_path : ◌≡◌ {A = ℕ} 0 1 → ⊥
no_path e = omega arith

-- The check.
pub checks : (lsa : List ℕ) → Checks lsa (check lsa)
unfolding check
checks lsa = go (is_lsa lsa) (taken_or_not lsa) (is_good lsa) refl
  where
    go : (a : Bool) → Taken lsa a → (b : Bool) → is_good lsa ≡ b → Checks lsa (cond a (cond b good bad) (refused 13))
    go true (taken h) true p = record {
      thirteen = (λ e. absurd (no_path (cc)), λ n. absurd (not_both lsa h n));
      is_good_lem = (λ e. (h, (is_good_lem lsa).0 p), λ e. refl);
      is_bad = (λ e. absurd (no_path (cc)), λ e. absurd (e.1 ((is_good_lem lsa).0 p)));
      no_other = λ n e. absurd (no_path (cc));
    }
    go true (taken h) false p = record {
      thirteen = (λ e. absurd (no_path (cc)), λ n. absurd (not_both lsa h n));
      is_good_lem = (λ e. absurd (no_path (cc)), λ e. absurd (true≢false (sym ((is_good_lem lsa).1 e.1) ∙ p)));
      is_bad = (λ e. (h, λ g. true≢false (sym ((is_good_lem lsa).1 g) ∙ p)), λ e. refl);
      no_other = λ n e. absurd (no_path (cc));
    }
    go false (not_taken n) b p = record {
      thirteen = (λ e. n, λ e. refl);
      is_good_lem = (λ e. absurd (no_path (cc)), λ e. absurd (not_both lsa e.0 n));
      is_bad = (λ e. absurd (no_path (cc)), λ e. absurd (not_both lsa e.0 n));
      no_other = λ m e. cc;
    }

-- The field set: no other byte changes, and an LSA that agrees elsewhere is that one with its own field.
module _ (lsa : List ℕ) (x y : ℕ) (h : 18 ≤ length lsa) where
  with_first : get_or (with_checksum lsa x y) 16 0 ≡ x
  with_first = get_or-set_other (set lsa 16 x) 17 16 y 0 (omega arith) ∙ get_or-set_same lsa 16 x 0 (omega arith)

  with_second : get_or (with_checksum lsa x y) 17 0 ≡ y
  with_second = get_or-set_same (set lsa 16 x) 17 y 0 (omega (arith, length-set lsa 16 x))

  with_same : SameElsewhere (with_checksum lsa x y) lsa
  with_same = record {
    as_long = length-set (set lsa 16 x) 17 y ∙ length-set lsa 16 x;
    elsewhere = λ i n m. get_or-set_other (set lsa 16 x) 17 i y 0 m ∙ get_or-set_other lsa 16 i x 0 n;
  }

with_own : (lsa other : List ℕ) → 18 ≤ length lsa → SameElsewhere other lsa → other ≡ with_checksum lsa (get_or other 16 0) (get_or other 17 0)
with_own lsa other h s = ext_get_or 0 other _ (s.as_long ∙ sym w.as_long) (λ i l. go i (eqb i 16) refl (eqb i 17) refl)
  where
    w : SameElsewhere (with_checksum lsa (get_or other 16 0) (get_or other 17 0)) lsa
    w = with_same lsa (get_or other 16 0) (get_or other 17 0) h

    go : (i : ℕ) (a : Bool) → eqb i 16 ≡ a → (b : Bool) → eqb i 17 ≡ b → get_or other i 0 ≡ get_or (with_checksum lsa (get_or other 16 0) (get_or other 17 0)) i 0
    go i true p b q = rw (eqb-true i 16 p) (sym (with_first lsa _ _ h))
    go i false p true q = rw (eqb-true i 17 q) (sym (with_second lsa _ _ h))
    go i false p false q = s.elsewhere i (eqb-false i 16 p) (eqb-false i 17 q) ∙ sym (w.elsewhere i (eqb-false i 16 p) (eqb-false i 17 q))

-- A solution makes an LSA good, and two octets that do are one.
module _ (lsa : List ℕ) (k : ℕ) (e : length lsa ≡ k + 18) where
  abbrev Solves : (x y : ℕ) → Type 0
  Solves x y = Solution (octets_without lsa k e) (weighted_without lsa k e) k x y

  solution : (x y : ℕ) → Octet x → Octet y → Good (with_checksum lsa x y) → Solves x y
  solution x y hx hy g =
      let z = good_zero (with_checksum lsa x y) g in
      record {
        first-octet = hx;
        second-octet = hy;
        first_sum = sym (ap (λ (s : Sums). s.c0) (with_sums lsa k e x y)) ∙ z.0;
        second_sum = sym (ap (λ (s : Sums). s.c1) (with_sums lsa k e x y)) ∙ z.1;
      }

  solution_makes : (x y : ℕ) → Solves x y → Made lsa (with_checksum lsa x y)
  solution_makes x y s =
      let h : 18 ≤ length lsa = omega arith in
      let f = with_first lsa x y h in
      let g = with_second lsa x y h in
      record {
        same = with_same lsa x y h;
        first = rw f s.first-octet;
        second = rw g s.second-octet;
        good = zero_good (with_checksum lsa x y) (ap (λ (z : Sums). z.c0) (with_sums lsa k e x y) ∙ s.first_sum)
            (ap (λ (z : Sums). z.c1) (with_sums lsa k e x y) ∙ s.second_sum) (λ i j. omega (arith, f, s.first-octet.0));
        only = λ other same hu hv o.
            let i = with_own lsa other h same in
            let b = only_solution (solution _ _ hu hv (rw i at o)) s in
            i ∙ rw (b.0, b.1);
      }

  -- The field by the sums of the LSA as it is.
  solves_from : (u v : ℕ) → let s = sums (with_checksum lsa u v) in
      Solves (octet_of (u + ((length lsa - 17) * s.c0 + (255 - s.c1)))) (octet_of (v + ((length lsa - 16) * (255 - s.c0) + s.c1)))
  solves_from u v =
      let a : length lsa - 17 ≡ k + 1 = omega arith in
      let b : length lsa - 16 ≡ k + 2 = omega arith in
      rw (with_sums lsa k e u v, a, b) (solves (octets_without lsa k e) (weighted_without lsa k e) k u v)

-- The field of the definition, by the sums without it, and that by the sums of the LSA as it is.
module _ (lsa : List ℕ) (h : Lsa lsa) where
  after-field : length lsa ≡ length lsa - 18 + 18
  after-field = let i = h.0 in omega arith

  solves_without : Solves lsa (length lsa - 18) after-field (first_octet lsa) (second_octet lsa)
  unfolding sums_without
  solves_without = rw (zero-add, zero-add) at (solves_from lsa (length lsa - 18) after-field 0 0)

  pub same_field : (octet_of (get_or lsa 16 0 + ((length lsa - 17) * (sums lsa).c0 + (255 - (sums lsa).c1))) ≡ first_octet lsa)
      × (octet_of (get_or lsa 17 0 + ((length lsa - 16) * (255 - (sums lsa).c0) + (sums lsa).c1)) ≡ second_octet lsa)
  same_field =
      let o = with_own lsa lsa (let i = h.0 in omega arith) (record { as_long = refl; elsewhere = λ i n m. refl }) in
      only_solution (rw (← o) at (solves_from lsa (length lsa - 18) after-field (get_or lsa 16 0) (get_or lsa 17 0))) solves_without

  pub field-octets : Octet (first_octet lsa) × Octet (second_octet lsa)
  field-octets = (solves_without.first-octet, solves_without.second-octet)

-- The making.
pub makes : (lsa : List ℕ) → Makes lsa (made_lsa (making lsa) lsa) (making lsa)
unfolding making
makes lsa = go (is_lsa lsa) (taken_or_not lsa)
  where
    m : Bool → Making
    m b = cond b (made (first_octet lsa) (second_octet lsa)) (not_made 13)

    go : (b : Bool) → Taken lsa b → Makes lsa (made_lsa (m b) lsa) (m b)
    go true (taken h) =
        let l : 18 ≤ length lsa = let i = h.0 in omega arith in
        record {
          thirteen = (λ e. absurd (no_path (cc)), λ n. absurd (not_both lsa h n));
          makes = λ i. (rw (with_first lsa _ _ l, with_second lsa _ _ l), solution_makes lsa (length lsa - 18) (after-field lsa h) _ _ (solves_without lsa h));
          leaves = λ n. absurd (not_both lsa h n);
          no_other = λ n e. absurd (no_path (cc));
        }
    go false (not_taken n) = record {
      thirteen = (λ e. n, λ e. refl);
      makes = λ i. absurd (not_both lsa i n);
      leaves = λ i. refl;
      no_other = λ i e. cc;
    }

-- One byte changed: the LSA is that one with another byte at the place.
changed_set : {lsa : List ℕ} {i : ℕ} {damaged : List ℕ} → Damaged lsa i damaged → damaged ≡ set lsa i (get_or damaged i 0)
changed_set {lsa} {i} {damaged} d = ext_get_or 0 damaged _ (d.as_long ∙ sym (length-set lsa i (get_or damaged i 0))) (λ j l. go j (eqb j i) refl)
  where
    go : (j : ℕ) (a : Bool) → eqb j i ≡ a → get_or damaged j 0 ≡ get_or (set lsa i (get_or damaged i 0)) j 0
    go j true p = rw (eqb-true j i p) (sym (get_or-set_same lsa i (get_or damaged i 0) 0 d.within))
    go j false p = d.elsewhere j (eqb-false j i p) ∙ sym (get_or-set_other lsa i j (get_or damaged i 0) 0 (eqb-false j i p))

-- What that adds to the sums and takes from them.
damage_sums : (lsa : List ℕ) (j b : ℕ) → 2 + j < length lsa
    → (octet_sum (drop 2 (set lsa (2 + j) b)) + get_or lsa (2 + j) 0 ≡ octet_sum (drop 2 lsa) + b)
    × (k : ℕ) × (weighted (drop 2 (set lsa (2 + j) b)) + suc k * get_or lsa (2 + j) 0 ≡ weighted (drop 2 lsa) + suc k * b)
damage_sums lsa j b h =
    let l = drop 2 lsa in
    let n = length-drop 2 lsa in
    rw (drop-set-add 2 lsa j b, ← get_or-drop 2 lsa j 0)
    (octets-set l j b (omega arith), length lsa - (3 + j), weighted_set l j (length lsa - (3 + j)) b (omega arith))

-- Bytes that are the same modulo 255, and not the same, are 0 and 255.
alike : (s s' a b : ℕ) → s' + a ≡ s + b → s % 255 ≡ 0 → s' % 255 ≡ 0 → a < 256 → b < 256 → (b ≡ a → ⊥) → Alike a b
alike s s' a b e p q ha hb n = go (eqb a 0) refl
  where
    go : (f : Bool) → eqb a 0 ≡ f → Alike a b
    go true i = let z = eqb-true a 0 i in inl (z, omega arith)
    go false i = let z = eqb-false a 0 i in inr (omega arith, omega arith)

still_zero : (k s s' a b : ℕ) → s' + k * a ≡ s + k * b → Alike a b → s % 255 ≡ 0 → s' % 255 ≡ 0
still_zero k s s' a b e (inl h) p = let i = ap (λ (z : ℕ). k * z) h.0 in let j = ap (λ (z : ℕ). k * z) h.1 in omega arith
still_zero k s s' a b e (inr h) p = let i = ap (λ (z : ℕ). k * z) h.0 in let j = ap (λ (z : ℕ). k * z) h.1 in omega arith

pub found : Found
found lsa i damaged g d =
    let e : i ≡ 2 + (i - 2) = let h = d.covered in omega arith in
    let c = changed_set d in
    let s = damage_sums lsa (i - 2) (get_or damaged i 0) (let h = d.within in omega arith) in
    let s = rw (← e, ← c) at s in (
      λ h. (alike _ _ _ _ s.0 g.octets h.octets d.was_byte d.is_byte d.changed, h.some_field),
      λ h. weighted_good damaged (still_zero 1 _ _ _ _ (omega (arith, s.0)) h.0 g.octets) (still_zero _ _ _ _ _ s.2 h.0 (good_weighted lsa g)) h.1,
    )
