-- How many bytes of a strip at most: a header, what is left of a body, the entries of a list by the bytes that they stand
-- for, and an LSA by its body's own entries.
use Prim.Native.Nat.{ℕ, zero, suc, ◌+◌, ◌*◌, ◌-◌, ◌/◌, ◌≤◌}
use native.Mathlib.Nat.{suc-mul, mul-add, mul-le-mul_left}
use native.Mathlib.Omega.{arith}
use mathlib.Core.Path.{◌≡◌, refl}
use mathlib.Core.Bool.{Bool, true, false, cond}
use mathlib.Core.List.{List, [], ◌∷◌, ◌++◌, flat_map}
use mathlib.Core.Option.{Option, none, some}
use lib.ListN.{length, get_or, length-append}
use lib.Dec.{ltb, eqb}
use borrow.Author.Tests.{ltb-false}
use Rattle.format.specs.Strip.{Entry, code, encode}
use Rattle.format.specs.Cut.{Span, Rule, cut, standing, fixed_rule}
use Rattle.format.specs.Header.{header_entries2, header_entries3, is_opaque}
use Rattle.format.specs.Body.{Body, listing_if_any, whole, leftover, own_of, rest_of, body_entries}
use Rattle.format.specs.Body.Body.{decoded, raw}
use Rattle.format.specs.Walks.{header_entries}
use Rattle.format.proofs.Unique.{span, cut_none, cut_some}
use Rattle.format.proofs.Rules.{inside}
use Rattle.format.proofs.Loop.{spread, spread_cons}
use Rattle.format.proofs.Lists.{length-listing}
use Rattle.format.proofs.Lengths.{length_both}

-- A header of either version. The parts of an opaque LSA's Link State ID make the difference in version 2.
pub header_bound : (v : ℕ) (d : List ℕ) (o : ℕ) → length (encode (header_entries v d o)) ≤ 125
unfolding header_entries2 header_entries3 encode code
header_bound v d o = go (eqb v 2) (is_opaque (get_or d 3 0)) refl
  where
    go : (s t : Bool) → is_opaque (get_or d 3 0) ≡ t → length (encode (cond s (header_entries2 d o) (header_entries3 d o))) ≤ 125
    go true true e = rw e (omega arith)
    go true false e = rw e (omega arith)
    go false t e = omega arith

-- One entry at most.
pub leftover_bound : (i : ℕ) (b : List ℕ) (o p : ℕ) → length (encode (leftover i b o p)) ≤ 10
unfolding leftover encode code
leftover_bound i b o p = go (ltb p (length b)) refl
  where
    go : (s : Bool) → ltb p (length b) ≡ s → length (encode (leftover i b o p)) ≤ 10
    go true e = rw e (omega arith)
    go false e = rw e (omega arith)

-- Entries of at most l bytes of a strip each.
pub each_bound : (f : Span → List Entry) (l : ℕ) → ((s : Span) → length (encode (f s)) ≤ l) → (ss : List Span) → length (spread f ss) ≤ length ss * l
unfolding spread encode flat_map
each_bound f l h [] = omega arith
each_bound f l h (s ∷ ss) =
    let ih = each_bound f l h ss in
    let m = suc-mul (length ss) l in
    rw (spread_cons f s ss, length-append) (omega (arith, h s))

-- The entries of a cut, each of at most c bytes of a strip for each byte of its own: so many for each byte of the body from
-- where the list begins.
module _ (least : ℕ) (declared : Rule) (f : Span → List Entry) (b : List ℕ) (c : ℕ)
    (h : (p n : ℕ) → standing least declared b p ≡ some n → length (encode (f (span p n))) ≤ c * n) where
  pub cut_bound : (k p : ℕ) → length (spread f (cut (standing least declared) b k p)) ≤ c * (length b - p)
  unfolding cut spread encode flat_map
  cut_bound zero p = omega arith
  cut_bound (suc k) p = go (standing least declared b p) refl (cut_bound k)
    where
      go : (x : Option ℕ) → standing least declared b p ≡ x
          → ((q : ℕ) → length (spread f (cut (standing least declared) b k q)) ≤ c * (length b - q))
          → length (spread f (cut (standing least declared) b (suc k) p)) ≤ c * (length b - p)
      go none e ih = rw (cut_none (standing least declared) b (suc k) p e) (omega arith)
      go (some n) e ih =
          let i = inside least declared b p n e in
          let q : length b - p ≡ n + (length b - (p + n)) = omega (arith, i.within) in
          let m = mul-add c n (length b - (p + n)) in
          rw (cut_some (standing least declared) b k p n e, spread_cons f (span p n) (cut (standing least declared) b k (p + n)), length-append, q) (omega (arith, h p n e, ih (p + n)))

-- The same of as many entries of n bytes as the body holds.
pub whole_bound : (n : ℕ) (f : Span → List Entry) (b : List ℕ) (c : ℕ) → ((s : Span) → length (encode (f s)) ≤ c * n)
    → (p : ℕ) → length (spread f (whole n b p)) ≤ c * (length b - p)
unfolding whole
whole_bound n f b c h p = cut_bound n (λ b p. some n) f b c each ((length b - p) / n) p
  where
    each : (q m : ℕ) → fixed_rule n b q ≡ some m → length (encode (f (span q m))) ≤ c * m
    each q m e = let i = inside n (λ b p. some n) b q m e in let k = mul-le-mul_left c i.enough in omega (arith, h (span q m))

-- An array that is opened only where it has an entry: fifteen bytes more than its entries at most.
pub array_bound : (i : ℕ) (f : Span → List Entry) (o p : ℕ) (ss : List Span) → length (encode (listing_if_any i f o p ss)) ≤ 15 + length (spread f ss)
unfolding listing_if_any encode
array_bound i f o p [] = omega arith
array_bound i f o p (s ∷ ss) = let l = length-listing i f o p (s ∷ ss) in omega arith

rest_bound : (r u : ℕ) (x : Body) (b : List ℕ) (o : ℕ) → length (encode (rest_of r u x b o)) ≤ 10
rest_bound r u (decoded es n) b o = leftover_bound u b o n
rest_bound r u raw b o = leftover_bound r b o 0

-- A body whose own entries take at most m bytes.
pub record Sized (m : ℕ) (x : Body) : Type 0 where
  pub bound : length (encode (own_of x)) ≤ m

pub raw_sized : {m : ℕ} → Sized m raw
unfolding encode
raw_sized = record { bound = omega arith }

-- A body that is shorter than its least length is raw.
pub least_sized : {m : ℕ} (b : List ℕ) (n : ℕ) (x : Body) → (n ≤ length b → length (encode (own_of x)) ≤ m) → Sized m (cond (ltb (length b) n) raw x)
least_sized {m} b n x f = go (ltb (length b) n) refl
  where
    go : (s : Bool) → ltb (length b) n ≡ s → Sized m (cond s raw x)
    go true e = raw_sized
    go false e = record { bound = f (ltb-false (length b) n e) }

-- What holds of two bodies holds of the choice.
pub choice_sized : {m : ℕ} {x y : Body} (s : Bool) → Sized m x → Sized m y → Sized m (cond s x y)
choice_sized true f g = f
choice_sized false f g = g

-- Entries before a body, the body's own, and what is left of it.
pub lsa_sized : (hs : List Entry) (r u : ℕ) {m : ℕ} {x : Body} (b : List ℕ) (o : ℕ) → Sized m x → length (encode (hs ++ body_entries r u x b o)) ≤ length (encode hs) + m + 10
unfolding body_entries
lsa_sized hs r u {x = x} b o f =
    rw (length_both hs (own_of x ++ rest_of r u x b o), length_both (own_of x) (rest_of r u x b o)) (omega (arith, f.bound, rest_bound r u x b o))
