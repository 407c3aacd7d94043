-- Laws of lists in a strip: containers, arrays, and entries of one length.
use Prim.Native.Nat.{ℕ, zero, suc, ◌+◌, ◌*◌, ◌-◌, ◌/◌, ◌≤◌, ◌<◌}
use native.Mathlib.Nat.{add-zero, suc-mul, zero-mul, div-mul-le_self}
use native.Mathlib.Omega.{arith}
use mathlib.Core.Path.{◌≡◌, refl, ap, ◌∙◌}
use mathlib.Core.List.{List, [], ◌∷◌, ◌++◌, append-nil, append_assoc, flat_map}
use mathlib.Core.Option.{some}
use lib.ListN.{length, length-append}
use borrow.Author.Tests.{le-leb}
use Rattle.format.specs.Strip.{Entry, code, encode, direct, container}
use Rattle.format.specs.Strip.Entry.{opens, closes}
use Rattle.format.specs.Wrote.{Wrote}
use Rattle.format.specs.Cut.{Span, cut, after, standing, fixed_rule}
use Rattle.format.specs.Body.{listing, listing_if_any, whole}
use Rattle.format.proofs.Wrote.{then, before, encode-append}
use Rattle.format.proofs.Unique.{cut_some}
use Rattle.format.proofs.Loop.{spread, spread_cons}

-- The bytes of a container: those of its opening, of what is inside, and of its close.
pub encode-container : (i s e : ℕ) (inside : List Entry) → encode (container i s e inside) ≡ code (opens i s e (direct 0 inside)) ++ (encode inside ++ code closes)
unfolding container encode
encode-container i s e inside = rw (encode-append inside (closes ∷ []), append-nil)

-- A container that is opened last, its end or its number of entries being known only then: what is inside, which leaves fourteen
-- bytes for that, then the opening, and the close.
pub contained_last : {l₀ l₁ l₂ l₃ : List ℕ} {a₀ a₁ a₂ a₃ : ℕ} (i s e : ℕ) (inside : List Entry)
    → Wrote l₀ (a₀ + 14) (encode inside) l₁ a₁ → Wrote l₁ a₀ (code (opens i s e (direct 0 inside))) l₂ a₂ → Wrote l₂ a₁ (code closes) l₃ a₃
    → Wrote l₀ a₀ (encode (container i s e inside)) l₃ a₃
unfolding code
contained_last {a₀ = a₀} i s e inside u v w =
    rw (encode-container i s e inside, ← append_assoc (code (opens i s e (direct 0 inside))) (encode inside) (code closes))
    (then (before {a = a₀} {xs = code (opens i s e (direct 0 inside))} u v) w)

-- A container takes fifteen bytes more than what is inside.
pub length-container : (i s e : ℕ) (inside : List Entry) → length (encode (container i s e inside)) ≡ 15 + length (encode inside)
unfolding code
length-container i s e inside = rw (encode-container i s e inside, length-append, length-append (encode inside) (code closes)) (omega arith)

pub length-listing : (i : ℕ) (f : Span → List Entry) (o p : ℕ) (ss : List Span) → length (encode (listing i f o p ss)) ≡ 15 + length (spread f ss)
unfolding listing spread
length-listing i f o p ss = length-container i (o + p) (o + after p ss) (flat_map f ss)

-- Entries whose bytes are of one length.
pub length_uniform : (f : Span → List Entry) (l : ℕ) → ((s : Span) → length (encode (f s)) ≡ l) → (ss : List Span) → length (spread f ss) ≡ length ss * l
unfolding spread encode flat_map
length_uniform f l h [] = rw zero-mul
length_uniform f l h (s ∷ ss) =
    let ih = length_uniform f l h ss in
    rw (spread_cons f s ss, length-append, h s, ih, suc-mul) (omega arith)

-- Entries whose bytes are of one length but for a part of them.
pub length_apart : (f g : Span → List Entry) (l : ℕ) → ((s : Span) → length (encode (f s)) ≡ l + length (encode (g s)))
    → (ss : List Span) → length (spread f ss) ≡ length ss * l + length (spread g ss)
unfolding spread encode flat_map
length_apart f g l h [] = rw zero-mul
length_apart f g l h (s ∷ ss) =
    let ih = length_apart f g l h ss in
    let m = suc-mul (length ss) l in
    rw (spread_cons f s ss, spread_cons g s ss, length-append, length-append (encode (g s)) (spread g ss)) (omega (arith, h s))

-- An entry of n bytes stands wherever n bytes are left.
pub fixed_stands : (n : ℕ) (b : List ℕ) (p : ℕ) → p + n ≤ length b → fixed_rule n b p ≡ some n
unfolding standing
fixed_stands n b p h = rw (le-leb (p + n) (length b) h, le-leb n n (omega arith))

-- Where there is room for k entries of n bytes, the cut has k and ends after k times n bytes.
pub fixed_cut : (n : ℕ) (b : List ℕ) (k p : ℕ) → p + k * n ≤ length b
    → (length (cut (fixed_rule n) b k p) ≡ k) × (after p (cut (fixed_rule n) b k p) ≡ p + k * n)
unfolding cut after
fixed_cut n b zero p h = (refl, rw (zero-mul, add-zero))
fixed_cut n b (suc k) p h =
    let m : suc k * n ≡ k * n + n = suc-mul k n in
    let e = cut_some (fixed_rule n) b k p n (fixed_stands n b p (omega arith)) in
    let ih = fixed_cut n b k (p + n) (omega arith) in
    rw e (ap suc ih.0, ih.1 ∙ omega arith)

-- As many entries of n bytes as there is room for, and where they end.
module _ (n : ℕ) (b : List ℕ) (p : ℕ) (h : p ≤ length b) where
  pub whole_room : p + (length b - p) / n * n ≤ length b
  whole_room = let d = div-mul-le_self (length b - p) n in omega arith

  pub whole_count : length (whole n b p) ≡ (length b - p) / n
  unfolding whole
  whole_count = (fixed_cut n b ((length b - p) / n) p whole_room).0

  pub whole-after : after p (whole n b p) ≡ p + (length b - p) / n * n
  unfolding whole
  whole-after = (fixed_cut n b ((length b - p) / n) p whole_room).1

  -- the length of an array of them, where the bytes of each are of one length
  pub length_whole : (i : ℕ) (f : Span → List Entry) (o l : ℕ) → ((s : Span) → length (encode (f s)) ≡ l)
      → length (encode (listing i f o p (whole n b p))) ≡ 15 + (length b - p) / n * l
  length_whole i f o l u = length-listing i f o p (whole n b p) ∙ ap (λ (x : ℕ). 15 + x) (length_uniform f l u (whole n b p) ∙ ap (λ (x : ℕ). x * l) whole_count)

-- An array that is opened only where it has an entry.
pub if_none : (i : ℕ) (f : Span → List Entry) (o p : ℕ) (ss : List Span) → length ss ≡ 0 → listing_if_any i f o p ss ≡ []
unfolding listing_if_any
if_none i f o p [] h = refl
if_none i f o p (s ∷ ss) h = absurd (omega arith)

pub if_some : (i : ℕ) (f : Span → List Entry) (o p : ℕ) (ss : List Span) → 0 < length ss → listing_if_any i f o p ss ≡ listing i f o p ss
unfolding listing_if_any
if_some i f o p [] h = absurd (omega arith)
if_some i f o p (s ∷ ss) h = refl
