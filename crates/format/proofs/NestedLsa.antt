-- The entries of every LSA are well nested, and hold no object or outer array of a walk: what is laid out is so.
use Prim.Native.Nat.{ℕ}
use mathlib.Core.Path.{◌≡◌, refl}
use mathlib.Core.Bool.{Bool, true}
use mathlib.Core.List.{List, [], ◌∷◌}
use lib.Dec.{ltb, eqb}
use Rattle.format.specs.Cut.{Span}
use Rattle.format.specs.Header.{header_entries2, header_entries3}
use Rattle.format.specs.V2.{link_inside}
use Rattle.format.specs.V3.{prefix_inside}
use Rattle.format.specs.Walks.{lsa_entries, header_entries}
use Rattle.format.specs.Lists.{containers, metrics, unparsed, raw_or_tlvs}
use Rattle.format.proofs.Nested.{Nested, nested_cond}
use Rattle.format.proofs.Laid.{all, all_among, all_cond, cond_same, laid_nested}
use Rattle.format.proofs.LaidLsa.{laid_header2, laid_header3, laid_link_inside, laid_prefix_inside, laid_any}

-- Ids below those of the walks' containers.
abbrev pub below : ℕ → Bool
below i = ltb i 112

-- headers, for any test of ids, since they have no container
pub nested_header2 : (ok : ℕ → Bool) (b : List ℕ) (o : ℕ) → Nested ok (header_entries2 b o)
nested_header2 ok b o = laid_nested [] [] [] (λ i. all_among ok [] i refl) (laid_header2 [] [] [] b o refl refl)

pub nested_header3 : (ok : ℕ → Bool) (b : List ℕ) (o : ℕ) → Nested ok (header_entries3 b o)
nested_header3 ok b o = laid_nested [] [] [] (λ i. all_among ok [] i refl) (laid_header3 [] [] [] b o refl refl)

-- What is inside a link of version 2, and inside a prefix of version 3.
pub nested_link_inside : (ok : ℕ → Bool) → ok 69 ≡ true → ok 97 ≡ true → (b : List ℕ) (o : ℕ) (s : Span) → Nested ok (link_inside b o s)
nested_link_inside ok h k b o s = laid_nested (69 ∷ 97 ∷ []) [] [] (λ i. all_among ok (69 ∷ 97 ∷ []) i (rw (h, k))) (laid_link_inside (69 ∷ 97 ∷ []) [] [] b o refl refl refl s)

pub nested_prefix_inside : (ok : ℕ → Bool) (m : Bool) (b : List ℕ) (o : ℕ) (s : Span) → Nested ok (prefix_inside m b o s)
nested_prefix_inside ok m b o s = laid_nested [] [] [] (λ i. all_among ok [] i refl) (laid_prefix_inside [] [] [] b o m s)

-- The containers of an LSA have ids below those of the walks'.
containers_below : (v : ℕ) (d : List ℕ) → all below (containers v d) ≡ true
containers_below v d = simp (all_cond, cond_same)

-- The entries of an LSA of either version.
pub nested_lsa : (v : ℕ) (d : List ℕ) (o : ℕ) → Nested below (lsa_entries v d o)
nested_lsa v d o = laid_nested (containers v d) (metrics v d) (unparsed v ∷ raw_or_tlvs v) (λ i. all_among below (containers v d) i (containers_below v d)) (laid_any v d o)

-- The entries of a header of either version.
pub nested_header : (v : ℕ) (d : List ℕ) (o : ℕ) → Nested below (header_entries v d o)
nested_header v d o = nested_cond below (eqb v 2) (nested_header2 below d o) (nested_header3 below d o)
