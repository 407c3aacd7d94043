-- Entries that are well nested, with what follows: an id that no container has is not there; and laws of the ranges of
-- containers.
use Prim.Native.Nat.{ℕ, ◌+◌}
use native.Mathlib.Omega.{arith}
use mathlib.Core.Path.{◌≡◌, refl, sym, ap, ◌∙◌}
use mathlib.Core.Bool.{Bool, true, false, cond}
use mathlib.Core.List.{List, [], ◌∷◌, ◌++◌, flat_map, append-nil, append_assoc}
use lib.ListN.{length}
use lib.Dec.{eqb, ltb}
use borrow.Author.Tests.{eqb-true}
use Rattle.format.specs.Strip.{Entry, Shape, content, container}
use Rattle.format.specs.Strip.Entry.{opens, closes, bytes}
use Rattle.format.specs.Strip.Shape.{opening, closing, valued, numbered, ranged, costless}
use Rattle.format.specs.Cut.{Span}
use Rattle.format.specs.Body.{leftover}
use Rattle.format.specs.Ranges.{Range, range, begun, opened, ranges}
use Rattle.format.specs.Laid.{field_shape, is_field}

-- Entries that are well nested: each opening has its close, and every container's id passes the test.
pub data Nested (ok : ℕ → Bool) : List Entry → Type 0 where
  none : Nested ok []
  field : {x : Entry} {es : List Entry} → is_field x ≡ true → Nested ok es → Nested ok (x ∷ es)
  group : {inside es : List Entry} (i s e n : ℕ) → ok i ≡ true → Nested ok inside → Nested ok es → Nested ok (opens i s e n ∷ (inside ++ (closes ∷ es)))

-- Any id.
abbrev pub any : ℕ → Bool
any i = true

module _ (ok : ℕ → Bool) where
  pub nested_append : {xs ys : List Entry} → Nested ok xs → Nested ok ys → Nested ok (xs ++ ys)
  nested_append none n = n
  nested_append (field e m) n = field e (nested_append m n)
  nested_append {ys = ys} (group {inside} {es} i s e c h m k) n = rw append_assoc (group i s e c h m (nested_append k n))

  -- a choice between two well-nested lists
  pub nested_cond : (t : Bool) {xs ys : List Entry} → Nested ok xs → Nested ok ys → Nested ok (cond t xs ys)
  nested_cond true m n = m
  nested_cond false m n = n

  pub nested_leftover : (i : ℕ) (b : List ℕ) (o p : ℕ) → Nested ok (leftover i b o p)
  unfolding leftover
  nested_leftover i b o p = nested_cond (ltb p (length b)) {xs = bytes i (o + p) (o + length b) ∷ []} (field refl none) none

-- The ranges of one list of entries after another.
pub ranges-append : (i : ℕ) (xs ys : List Entry) → ranges i (xs ++ ys) ≡ ranges i xs ++ ranges i ys
unfolding ranges
ranges-append i [] ys = refl
ranges-append i (x ∷ xs) ys = rw (ranges-append i xs ys, append_assoc)

-- A field opens nothing.
opens_nothing : (i : ℕ) (x : Entry) → is_field x ≡ true → opened i x ≡ []
opens_nothing i x = go (content x).shape
  where
    go : (f : Shape) → field_shape f ≡ true → begun f (eqb i (content x).id) (range (content x).start (content x).end) ≡ []
    go opening h = let z : ◌≡◌ {A = ℕ} 0 1 = cc in absurd (omega arith)
    go closing h = refl
    go valued h = refl
    go (numbered v) h = refl
    go ranged h = refl
    go costless h = refl

-- An id that fails the test is not there.
pub absent : {ok : ℕ → Bool} {es : List Entry} (i : ℕ) → ok i ≡ false → Nested ok es → ranges i es ≡ []
unfolding ranges
absent i h none = refl
absent i h (field {x} {es} e n) = rw (opens_nothing i x e) (absent i h n)
absent {ok} i h (group {inside} {es} j s e c g m n) = go (eqb i j) refl (absent i h m) (absent i h n)
  where
    go : (t : Bool) → eqb i j ≡ t → ranges i inside ≡ [] → ranges i es ≡ [] → cond t (range s e ∷ []) [] ++ ranges i (inside ++ (closes ∷ es)) ≡ []
    go true q u v = let p = eqb-true i j q in let z : ◌≡◌ {A = Bool} true false = sym g ∙ (ap ok (sym p) ∙ h) in let y : ◌≡◌ {A = ℕ} 0 1 = cc in absurd (omega arith)
    go false q u v = ranges-append i inside (closes ∷ es) ∙ rw (u, v)

-- The ranges of a container: its own, if it has the id, and those inside it.
pub ranges-container : (i j s e : ℕ) (inside : List Entry) → ranges i (container j s e inside) ≡ cond (eqb i j) (range s e ∷ []) [] ++ ranges i inside
unfolding ranges container
ranges-container i j s e inside = ap (λ (x : List Range). cond (eqb i j) (range s e ∷ []) [] ++ x) (ranges-append i inside (closes ∷ []) ∙ append-nil (ranges i inside))

-- The ranges of lists of entries one after another.
pub ranges_flat : (i : ℕ) (f : Span → List Entry) (ss : List Span) → ranges i (flat_map f ss) ≡ flat_map (λ (s : Span). ranges i (f s)) ss
unfolding ranges flat_map
ranges_flat i f [] = refl
ranges_flat i f (s ∷ ss) = ranges-append i (f s) (flat_map f ss) ∙ ap (λ (x : List Range). ranges i (f s) ++ x) (ranges_flat i f ss)
