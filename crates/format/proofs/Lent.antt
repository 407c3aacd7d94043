-- What is lent from the place p of a body that begins at o has the entries of the body there: fields, and a link of version 2
-- with its TOS metrics.
use Prim.Native.Nat.{ℕ, zero, suc, ◌+◌, ◌*◌, ◌≤◌, ◌<◌}
use native.Mathlib.Nat.{add-zero, add_assoc}
use native.Mathlib.Omega.{arith}
use mathlib.Core.Path.{◌≡◌, refl, ap, ◌∙◌}
use mathlib.Core.List.{List, ◌++◌, flat_map}
use mathlib.Core.Option.{some}
use lib.ListN.{length, get_or, drop, length-drop}
use lib.Seq.{get_or-drop}
use Rattle.format.specs.Bytes.{be16_at, be32_at}
use Rattle.format.specs.Strip.{Entry, container, u8_at, u16_at, wide16_at, ip4_at}
use Rattle.format.specs.Cut.{cut, link_rule, fixed_rule}
use Rattle.format.specs.Body.{listing, listing_if_any}
use Rattle.format.specs.V2.{link, link_fields, link_tos}
use Rattle.format.proofs.Rest.{lent_stands}
use Rattle.format.proofs.Rules.{link_inside_lem}
use Rattle.format.proofs.Unique.{span, cut_some}
use Rattle.format.proofs.Lists.{fixed_stands, fixed_cut, if_some}

-- The first n bytes of one list are those of another from p on.
abbrev pub Same : List ℕ → List ℕ → ℕ → ℕ → Type 0
Same l b p n = (k : ℕ) → k + 1 ≤ n → get_or l k 0 ≡ get_or b (p + k) 0

pub from_place : (b : List ℕ) (p n : ℕ) → Same (drop p b) b p n
from_place b p n k h = get_or-drop p b k 0

module _ (l b : List ℕ) (o p n : ℕ) (same : Same l b p n) where
  pub two : (k : ℕ) → k + 2 ≤ n → be16_at l k ≡ be16_at b (p + k)
  two k h = rw (same k (omega arith), same (k + 1) (omega arith), add_assoc p k 1)

  pub four : (k : ℕ) → k + 4 ≤ n → be32_at l k ≡ be32_at b (p + k)
  four k h = rw (two k (omega arith), two (k + 2) (omega arith), add_assoc p k 2)

  pub lent_u8 : (i k : ℕ) → k + 1 ≤ n → u8_at i l (o + p) k ≡ u8_at i b o (p + k)
  lent_u8 i k h = rw (same k h, add_assoc o p k)

  pub lent_u16 : (i k : ℕ) → k + 2 ≤ n → u16_at i l (o + p) k ≡ u16_at i b o (p + k)
  lent_u16 i k h = rw (two k h, add_assoc o p k)

  pub lent_wide16 : (i k : ℕ) → k + 2 ≤ n → wide16_at i l (o + p) k ≡ wide16_at i b o (p + k)
  lent_wide16 i k h = rw (two k h, add_assoc o p k)

  pub lent_ip4 : (i k : ℕ) → k + 4 ≤ n → ip4_at i l (o + p) k ≡ ip4_at i b o (p + k)
  lent_ip4 i k h = rw (four k h, add_assoc o p k)

  -- the fields of a link, and a TOS metric at q of it
  pub lent_fields : 12 ≤ n → link_fields l (o + p) 0 ≡ link_fields b o p
  lent_fields h = rw (
    lent_ip4 64 0 (omega arith),
    lent_ip4 65 4 (omega arith),
    lent_u8 66 8 (omega arith),
    lent_u8 67 9 (omega arith),
    lent_u16 68 10 (omega arith),
    add-zero p,
  )

  pub lent-tos : (q : ℕ) → q + 4 ≤ n → link_tos l (o + p) (span q 4) ≡ link_tos b o (span (p + q) 4)
  unfolding link_tos
  lent-tos q h = rw (lent_u8 81 q (omega arith), lent_wide16 82 (q + 2) (omega arith), add_assoc p q 2, add_assoc o p q)

module _ (b : List ℕ) (o p : ℕ) (h : p ≤ length b) where
  pub rest_rule : link_rule (drop p b) 0 ≡ link_rule b p
  rest_rule = lent_stands b p h 12 (λ b p. some (12 + get_or b (p + 9) 0 * 4)) 0 (rw (get_or-drop p b 9 0, add-zero) refl) ∙ ap (link_rule b) (add-zero p)

  entries : (k q : ℕ) → p + q + k * 4 ≤ length b
      → flat_map (link_tos (drop p b) (o + p)) (cut (fixed_rule 4) (drop p b) k q) ≡ flat_map (link_tos b o) (cut (fixed_rule 4) b k (p + q))
  unfolding cut flat_map
  entries zero q l = refl
  entries (suc k) q l =
      let d = length-drop p b in
      let s = cut_some (fixed_rule 4) (drop p b) k q 4 (fixed_stands 4 (drop p b) q (omega arith)) in
      let t = cut_some (fixed_rule 4) b k (p + q) 4 (fixed_stands 4 b (p + q) (omega arith)) in
      let e = lent-tos (drop p b) b o p (q + 4) (from_place b p (q + 4)) q (omega arith) in
      rw (s, t, e, add_assoc p q 4) (ap (λ (es : List Entry). link_tos b o (span (p + q) 4) ++ es) (entries k (q + 4) (omega arith)))

  tos_some : (k : ℕ) → 0 < k → p + 12 + k * 4 ≤ length b
      → listing_if_any 69 (link_tos (drop p b) (o + p)) (o + p) 12 (cut (fixed_rule 4) (drop p b) k 12) ≡ listing_if_any 69 (link_tos b o) o (p + 12) (cut (fixed_rule 4) b k (p + 12))
  unfolding listing
  tos_some k g l =
      let d = length-drop p b in
      let m = fixed_cut 4 (drop p b) k 12 (omega arith) in
      let n = fixed_cut 4 b k (p + 12) l in
      let s = if_some 69 (link_tos (drop p b) (o + p)) (o + p) 12 (cut (fixed_rule 4) (drop p b) k 12) (omega (arith, m.0)) in
      let t = if_some 69 (link_tos b o) o (p + 12) (cut (fixed_rule 4) b k (p + 12)) (omega (arith, n.0)) in
      let e : o + p + (12 + k * 4) ≡ o + (p + 12 + k * 4) = omega arith in
      rw (s, t, m.1, n.1, entries k 12 l, add_assoc o p 12, e)

  tos : (k : ℕ) → p + 12 + k * 4 ≤ length b
      → listing_if_any 69 (link_tos (drop p b) (o + p)) (o + p) 12 (cut (fixed_rule 4) (drop p b) k 12) ≡ listing_if_any 69 (link_tos b o) o (p + 12) (cut (fixed_rule 4) b k (p + 12))
  unfolding cut listing_if_any
  tos zero l = refl
  tos (suc k) l = tos_some (suc k) (omega arith) l

  pub rest_link : (n : ℕ) → link_rule b p ≡ some n → link (drop p b) (o + p) (span 0 n) ≡ link b o (span p n)
  unfolding link
  rest_link n e =
      let w = link_inside_lem b p n e in
      let f = lent_fields (drop p b) b o p 12 (from_place b p 12) (omega arith) in
      let k = ap (λ (x : ℕ). listing_if_any 69 (link_tos (drop p b) (o + p)) (o + p) 12 (cut (fixed_rule 4) (drop p b) x 12)) (get_or-drop p b 9 0) in
      parts (add-zero (o + p)) (ap (λ (x : ℕ). x + n) (add-zero (o + p))) f (k ∙ tos (get_or b (p + 9) 0) (omega arith))
    where
      parts : {s s' t t' : ℕ} {xs xs' ys ys' : List Entry} → s ≡ s' → t ≡ t' → xs ≡ xs' → ys ≡ ys' → container 96 s t (xs ++ ys) ≡ container 96 s' t' (xs' ++ ys')
      parts a b c d = rw (a, b, c, d)
