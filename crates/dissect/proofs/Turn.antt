-- The program's loop, once around: a piece that was put into a buffer with the room of a line.
use Prim.Native.Nat.{ℕ, ◌+◌, ◌≤◌}
use native.Mathlib.Omega.{arith}
use native.Mathlib.Nat.{zero-add}
use mathlib.Core.Path.{◌≡◌, refl, ap, sym, ◌∙◌}
use mathlib.Core.List.{List, [], ◌∷◌, ◌++◌, append_assoc, append-nil}
use lib.ListN.{length, take, drop, length-drop, take-append-drop, drop_of_length-le}
use lib.Seq.{sets-eq, take-append_seam, drop-drop}
use Rattle.format.specs.Bytes.{part}
use Rattle.format.specs.Wrote.{Wrote}
use Rattle.format.specs.Pieces.{lines_at, Left}
use Rattle.format.proofs.Wrote.{kept}
use Rattle.format.proofs.Pieces.{turn, finish}

-- What was written to the front can be taken from there.
pub front : {l l₁ bs : List ℕ} {n : ℕ} → Wrote l 0 bs l₁ n → n ≤ length l₁ → take n l₁ ≡ bs
front {l} {l₁} {bs} {n} w h =
    let k = kept w in
    let z : n ≡ length bs = omega (arith, w.place) in
    let e : l₁ ≡ bs ++ drop (length bs) l = w.contents ∙ rw zero-add at (sets-eq bs l 0 (omega arith)) in
    rw (z, e) (take-append_seam bs (drop (length bs) l))

empty : (t : List ℕ) → length t ≡ 0 → t ≡ []
empty [] h = refl
empty (c ∷ t) h = absurd (omega arith)

module _ (text s : List ℕ) (written place : ℕ) {out out₁ : List ℕ} {k next : ℕ} (l : Left text written s place) (m : 160 ≤ length out)
    (w : Wrote out 0 (lines_at (length out) s place).text out₁ k) (q : next ≡ (lines_at (length out) s place).next) (h : k ≤ length out₁) where
  -- It is the next part of the text.
  pub piece : take k out₁ ≡ part text written (length (take k out₁))
  piece = rw (front w h) (turn text written s place (length out) l).0

  -- What is left after it.
  pub left : Left text (written + length (take k out₁)) s next
  left = rw (front w h, q) (turn text written s place (length out) l).1

  -- An empty one is put where the text is out.
  pub done : k ≡ 0 → written ≡ length text
  done z =
      let t = (lines_at (length out) s place).text in
      let e = empty t (omega (arith, w.place)) in
      let d : length (drop written text) ≡ 0 = ap length (finish text written s place (length out) m l e) in
      let i = l.inside in
      let n = length-drop written text in
      omega arith

-- What was cut off the front of a text, and the next part of it.
pub cut : (text before : List ℕ) (from written : ℕ) (next : List ℕ) → drop from text ≡ before ++ drop written text → next ≡ part text written (length next)
    → drop from text ≡ (before ++ next) ++ drop (written + length next) text
cut text before from written next e p =
    e ∙ ap (λ (t : List ℕ). before ++ t) (sym (take-append-drop (length next) (drop written text)) ∙ rw (← p, drop-drop)) ∙ sym (append_assoc before next _)

-- At its end all is cut off.
pub all_cut : (text before : List ℕ) (from written : ℕ) → drop from text ≡ before ++ drop written text → written ≡ length text → drop from text ≡ before
all_cut text before from written e z =
    e ∙ ap (λ (t : List ℕ). before ++ t) (drop_of_length-le text {i = written} (omega arith)) ∙ append-nil before
