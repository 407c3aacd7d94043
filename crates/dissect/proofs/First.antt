-- The program's first line is the front of its text, and the strip that it shows has the rest.
use Prim.Native.Nat.{ℕ, ◌+◌, ◌≤◌}
use native.Mathlib.Nat.{zero-add}
use mathlib.Core.Path.{◌≡◌, sym, ◌∙◌}
use mathlib.Core.List.{List}
use lib.ListN.{length, take}
use lib.Seq.{take-append_seam}
use borrow.Author.Tests.{le-ltb}
use Rattle.format.specs.Bytes.{part}
use Rattle.format.specs.Wrote.{Wrote}
use Rattle.format.specs.Walks.{Answer, answer_of, strip_of}
use Rattle.format.specs.Print.{program_of, line_room, first_line, printed}
use Rattle.format.specs.Pieces.{shown_part, Left}
use Rattle.format.proofs.Pieces.{begin}
use Rattle.print_lines.specs.Text.{fitting}
use Rattle.dissect.proofs.Turn.{front}

module _ (input before : List ℕ) (a : Answer) (size : length before ≡ 65536) (run : a ≡ answer_of (program_of input) (length before))
    {line line₁ : List ℕ} {k : ℕ} (room : 160 ≤ length line) (w : Wrote line 0 (fitting (length line) (first_line a)) line₁ k) (h : k ≤ length line₁) where
  is : take k line₁ ≡ first_line (answer_of (program_of input) 65536)
  is = front w h ∙ rw (le-ltb (length line) line_room room, run, size)

  pub first : (take k line₁ ≡ part (printed input) 0 (length (take k line₁))) × (0 + length (take k line₁) ≤ length (printed input))
  unfolding printed
  first = (rw is (sym (take-append_seam (first_line (answer_of (program_of input) 65536)) _)), rw (is, zero-add) (begin input before size).inside)

  pub others : {strip shown : List ℕ} {written : ℕ} → strip ≡ strip_of (program_of input) before → shown ≡ shown_part a strip → written ≡ 0 + length (take k line₁)
      → Left (printed input) written shown 0
  others s p e = rw (e, zero-add, is, p, s, run, size) (begin input before size)
