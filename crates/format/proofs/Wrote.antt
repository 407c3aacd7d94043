-- Laws of what is written.
use Prim.Native.Nat.{ℕ, suc, ◌+◌, ◌-◌, ◌≤◌, ◌<◌}
use native.Mathlib.Nat.{add-zero, add-suc, suc-add, zero-add}
use native.Mathlib.Omega.{arith}
use mathlib.Core.Path.{◌≡◌, refl, ap, ◌∙◌}
use mathlib.Core.List.{List, [], ◌∷◌, ◌++◌, append_assoc, append-nil}
use lib.ListN.{length, take, drop, set, length-append, length-drop, drop_of_length-le}
use lib.Seq.{sets, length-sets, set_comm, take_all, sets-eq, drop-drop}
use Rattle.format.specs.Wrote.{Wrote}
use Rattle.format.specs.Strip.{Entry, encode}

sets_append : (l : List ℕ) (at : ℕ) (xs ys : List ℕ) → sets (sets l at xs) (at + length xs) ys ≡ sets l at (xs ++ ys)
sets_append l at [] ys = rw add-zero
sets_append l at (x ∷ xs) ys = rw (add-suc, ← suc-add) (sets_append _ (suc at) xs ys)

-- One run of bytes after another.
pub then : {l₀ l₁ l₂ : List ℕ} {a₀ a₁ a₂ : ℕ} {xs ys : List ℕ} → Wrote l₀ a₀ xs l₁ a₁ → Wrote l₁ a₁ ys l₂ a₂ → Wrote l₀ a₀ (xs ++ ys) l₂ a₂
then {l₀} {l₁} {l₂} {a₀} {a₁} {a₂} {xs} {ys} v w = record {
  place = rw length-append (omega (arith, v.place, w.place));
  contents = w.contents ∙ rw (v.place, v.contents) (sets_append l₀ a₀ xs ys);
}

-- Nothing written.
pub nothing : (l : List ℕ) (a : ℕ) → Wrote l a [] l a
nothing l a = record { place = rw add-zero; contents = refl }

-- Writing keeps the buffer's length.
pub kept : {l₀ l : List ℕ} {at a : ℕ} {bs : List ℕ} → Wrote l₀ at bs l a → length l ≡ length l₀
kept {l₀} {l} {at} {a} {bs} w = rw w.contents (length-sets l₀ at bs)

pub encode-append : (xs ys : List Entry) → encode (xs ++ ys) ≡ encode xs ++ encode ys
unfolding encode
encode-append [] ys = refl
encode-append (x ∷ xs) ys = rw (encode-append xs ys, append_assoc)

-- A store before a run of bytes and the run itself change places.
set_sets : (l : List ℕ) (i x j : ℕ) (ys : List ℕ) → i < j → set (sets l j ys) i x ≡ sets (set l i x) j ys
set_sets l i x j [] h = refl
set_sets l i x j (y ∷ ys) h =
    set_sets (set l j y) i x (suc j) ys (omega arith) ∙ ap (λ (k : List ℕ). sets k (suc j) ys) (set_comm l j i y x (λ e. omega arith))

sets_sets : (l : List ℕ) (i : ℕ) (xs : List ℕ) (j : ℕ) (ys : List ℕ) → i + length xs ≤ j → sets (sets l j ys) i xs ≡ sets (sets l i xs) j ys
sets_sets l i [] j ys h = refl
sets_sets l i (x ∷ xs) j ys h =
    ap (λ (k : List ℕ). sets k (suc i) xs) (set_sets l i x j ys (omega arith)) ∙ sets_sets (set l i x) (suc i) xs j ys (omega arith)

-- A run of bytes, and then the run that stands before it: as where an array is opened once its end is known.
pub before : {l₀ l₁ l₂ : List ℕ} {a a₁ a₂ : ℕ} {xs ys : List ℕ} → Wrote l₀ (a + length xs) ys l₁ a₁ → Wrote l₁ a xs l₂ a₂ → Wrote l₀ a (xs ++ ys) l₂ a₁
before {l₀} {l₁} {l₂} {a} {a₁} {a₂} {xs} {ys} v w = record {
  place = rw length-append (omega (arith, v.place));
  contents = w.contents ∙ rw v.contents (sets_sets l₀ a xs (a + length xs) ys (omega arith) ∙ sets_append l₀ a xs ys);
}

pub sets_front : (bs l : List ℕ) → length bs ≤ length l → sets l 0 bs ≡ bs ++ drop (length bs) l
sets_front bs l h = rw zero-add at (sets-eq bs l 0 (omega arith))

-- All of a buffer from a place on, lent by itself, has the room that the buffer has from there on.
pub lent_room : (l : List ℕ) (a n : ℕ) → a + n ≤ length l → 0 + n ≤ length (take (length l - a) (drop a l))
lent_room l a n h =
    let d = length-drop a l in
    let part = take_all (length l - a) (drop a l) (omega arith) in
    rw part (omega arith)

-- What is written to the front of what was so lent is written from that place on.
pub lent : {l ys bs : List ℕ} {a n : ℕ} → a + length bs ≤ length l → Wrote (take (length l - a) (drop a l)) 0 bs ys n
    → Wrote l a bs (take a l ++ (ys ++ drop (length l - a) (drop a l))) (a + n)
lent {l} {ys} {bs} {a} {n} h w =
    let d = length-drop a l in
    let part = take_all (length l - a) (drop a l) (omega arith) in
    let none = drop_of_length-le (drop a l) {i = length l - a} (omega arith) in
    let front = sets_front bs (drop a l) (omega arith) in
    record {
      place = omega (arith, w.place);
      contents = rw (w.contents, part, none, front, append-nil (bs ++ drop (length bs) (drop a l)), drop-drop, sets-eq bs l a h, append_assoc);
    }
