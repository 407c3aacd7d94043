-- The program's text in pieces: what one call puts into a lent buffer, and the row of pieces that the program writes.
use Rattle.std.specs.Prelude.{ℕ, zero, suc, ◌-◌, ◌≤◌, ◌≡◌, cond, length, take, drop, ltb, eqb}
use mathlib.Core.List.{List, [], ◌∷◌, ◌++◌, flat_map}
use Rattle.format.specs.Strip.{Entry, step_at}
use Rattle.format.specs.Strip.Step.{entry, end, refused}
use Rattle.format.specs.Walks.{Answer}
use Rattle.format.specs.Part.{Reads}
use Rattle.format.specs.Print.{line, line_room, first_line}

-- Whole lines, and the place of the strip where the next ones begin.
pub record Lines : Type 0 where
  pub text : List ℕ
  pub next : ℕ

abbrev pub lines : List ℕ → ℕ → Lines
lines t q = record { text = t; next = q }

-- A text and the lines that follow it.
abbrev pub followed_by : List ℕ → Lines → Lines
followed_by t l = lines (t ++ l.text) l.next

-- The lines of the entries from a place on: one more while the room of any line is left and a step gives an entry. The
-- first argument bounds the number of steps.
unfoldable pub lines_from : ℕ → (room : ℕ) → List ℕ → (place : ℕ) → Lines
lines_from zero room s p = lines [] p
lines_from (suc k) room s p = cond (ltb room line_room) (lines [] p) (elim (step_at s p) [
  | entry x q ↦ followed_by (line x) (lines_from k (room - length (line x)) s q)
  | end ↦ lines [] p
  | refused n ↦ lines [] p
])

-- A step goes a byte forward at least, so one step more than there are bytes is enough.
unfoldable pub lines_at : (room : ℕ) → List ℕ → (place : ℕ) → Lines
lines_at room s p = lines_from (suc (length s)) room s p

-- The part of the strip buffer whose entries are printed: nothing where the answer is a refusal.
unfoldable pub shown_part : Answer → List ℕ → List ℕ
shown_part a s = cond (eqb a.number 0) (take a.size s) []

-- Pieces of so much room, one call after another, each from the place that the call before it answered, up to the first
-- that is empty.
pub data Pieces (room : ℕ) (strip : List ℕ) : (place : ℕ) → List (List ℕ) → Type 0 where
  ends : {p : ℕ} → (lines_at room strip p).text ≡ [] → Pieces room strip p []
  goes : {p : ℕ} {ts : List (List ℕ)} → ((lines_at room strip p).text ≡ [] → ⊥) → Pieces room strip (lines_at room strip p).next ts
      → Pieces room strip p ((lines_at room strip p).text ∷ ts)

-- All that is written of an answer and the strip buffer: the first line, and the pieces.
pub data Row (room : ℕ) (a : Answer) (strip : List ℕ) : List (List ℕ) → Type 0 where
  row : {ts : List (List ℕ)} → Pieces room (shown_part a strip) 0 ts → Row room a strip (first_line a ∷ ts)

-- So many bytes of a text are written, and what is left of it are the lines of a strip's entries from a place on.
pub record Left (text : List ℕ) (written : ℕ) (strip : List ℕ) (place : ℕ) : Type 0 where
  pub entries : List Entry
  pub reads : Reads strip place entries
  pub rest : drop written text ≡ flat_map line entries
  pub inside : written ≤ length text
