-- The LSAs of a body one after another: what is left of them at a place.
use Prim.Native.Nat.{ℕ, zero, suc, ◌+◌, ◌-◌, ◌<◌, ◌≤◌}
use mathlib.Core.Path.{◌≡◌, refl, ap, ◌∙◌}
use mathlib.Core.List.{List, [], ◌∷◌}
use mathlib.Core.Option.{Option, none, some}
use mathlib.Core.Bool.{true}
use native.Mathlib.Omega.{arith}
use lib.ListN.{length, take, drop, length-drop}
use lib.Seq.{length-take-le}
use borrow.Author.Tests.{le-ltb}
use Rattle.std.proofs.Common.{Result, Ok, Err, Some, None}
use Rattle.std.specs.Result.{result_ok}
use Rattle.std.proofs.lemmas.List.{take-map}
use Rattle.format.specs.Bytes.{part, be16_at}
use Rattle.format.specs.Cut.{Rule, Span, cut, record_rule}
use Rattle.format.specs.Header.{Header, Reading, header_at, header_size, is_known, read_header}
use Rattle.format.specs.Header.Reading.{header, refused}
use Rattle.header.specs.Answers.{meaning, reading_meaning}
use Rattle.header.specs.declared.LsaHeader.{LsaHeader}
use Rattle.refusal.specs.declared.Refusal.{Refusal}
use Rattle.refusal.specs.Numbers.{number_of}
use Rattle.format.specs.Book.{rows_from, row_of}
use Rattle.format.proofs.Rules.{Inside, inside}
use Rattle.format.proofs.Unique.{cut_none, cut_next}

module _ (v : ℕ) (b : List ℕ) (k p : ℕ) where
  pub none_left : record_rule b p ≡ none → rows_from v b k p ≡ []
  unfolding rows_from
  none_left e = rw (rows_from, cut_none record_rule b k p e) refl

  pub zero_left : k ≡ 0 → rows_from v b k p ≡ []
  unfolding rows_from cut
  zero_left e = rw e refl

  pub first_left : (n : ℕ) → 0 < k → record_rule b p ≡ some n → rows_from v b k p ≡ row_of v (header_at v (part b p n)) ∷ rows_from v b (k - 1) (p + n)
  unfolding rows_from
  first_left n h e = rw (rows_from, cut_next record_rule b k p n h e) refl

-- As many as a smaller count: the first of them.
cut_first : (r : Rule) (b : List ℕ) (n k p : ℕ) → n ≤ k → cut r b n p ≡ take n (cut r b k p)
unfolding cut
cut_first r b zero k p h = refl
cut_first r b (suc n) zero p h = absurd (omega arith)
cut_first r b (suc n) (suc k) p h = go (r b p) (λ q. cut_first r b n k q (omega arith))
  where
    go : (o : Option ℕ) → ((q : ℕ) → cut r b n q ≡ take n (cut r b k q))
        → elim o [ none ↦ [] | some m ↦ record { at = p; len = m } ∷ cut r b n (p + m) ] ≡ take {A = Span} (suc n) (elim o [ none ↦ [] | some m ↦ record { at = p; len = m } ∷ cut r b k (p + m) ])
    go none f = refl
    go (some m) f = rw (f (p + m)) refl

pub rows_first : (v : ℕ) (b : List ℕ) (n k p : ℕ) → n ≤ k → rows_from v b n p ≡ take n (rows_from v b k p)
unfolding rows_from
rows_first v b n k p h = rw (cut_first record_rule b n k p h, take-map) refl

-- An LSA lies in the body, and has its header.
pub lsa_inside : (b : List ℕ) (p n : ℕ) → record_rule b p ≡ some n → Inside header_size (λ c q. some (be16_at c (q + 18))) b p n
lsa_inside b p n e = inside header_size (λ c q. some (be16_at c (q + 18))) b p n e

-- So its header is read.
read_is : (v : ℕ) (b : List ℕ) → is_known v ≡ true → header_size ≤ length b → read_header v b ≡ header (header_at v b)
unfolding read_header
read_is v b e h = rw (e, le-ltb (length b) header_size h) refl

abbrev header_in : Header → Reading → Header
header_in h (header x) = x
header_in h (refused n) = h

pub read_ok : (v : ℕ) (b : List ℕ) (r : Result LsaHeader Refusal) (x : LsaHeader) → is_known v ≡ true → header_size ≤ length b → reading_meaning r ≡ read_header v b → Some x ≡ result_ok r
    → meaning x ≡ header_at v b
read_ok v b (Ok h) x e l f g =
    let z : x ≡ h = cc in
    rw z (ap (header_in (header_at v b)) (f ∙ read_is v b e l))
read_ok v b (Err n) x e l f g = absurd (let z : ◌≡◌ {A = ℕ} 0 1 = cc in omega arith)

pub read_not : (v : ℕ) (b : List ℕ) (r : Result LsaHeader Refusal) → is_known v ≡ true → header_size ≤ length b → reading_meaning r ≡ read_header v b → None ≡ result_ok r → ⊥
read_not v b (Ok h) e l f g = let z : ◌≡◌ {A = ℕ} 0 1 = cc in omega arith
read_not v b (Err n) e l f g =
    let q : refused (number_of n) ≡ header (header_at v b) = f ∙ read_is v b e l in
    let z : ◌≡◌ {A = ℕ} 0 1 = cc in omega arith

-- The bytes of an LSA that stands at a place.
pub lsa_part : (b : List ℕ) (p n : ℕ) → take (p + n - p) (drop p b) ≡ part b p n
lsa_part b p n = let z : p + n - p ≡ n = omega arith in rw z refl

pub lsa_long : (b : List ℕ) (p n : ℕ) → record_rule b p ≡ some n → header_size ≤ length (take (p + n - p) (drop p b))
lsa_long b p n e =
    let i = lsa_inside b p n e in
    let w = i.within in
    let m = i.enough in
    let z : p + n - p ≡ n = omega arith in
    rw (z, length-take-le n (drop p b) (rw length-drop (omega arith))) m
