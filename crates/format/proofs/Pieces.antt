-- The pieces that the program writes, one after another, are its text; and after a refusal's line there are none.
use Prim.Native.Nat.{ℕ, zero, suc, ◌+◌, ◌-◌, ◌≤◌, ◌<◌}
use native.Mathlib.Omega.{arith}
use mathlib.Core.Path.{◌≡◌, refl, ap, ◌∙◌, sym}
use mathlib.Core.Bool.{Bool, true, false, cond}
use mathlib.Core.List.{List, [], ◌∷◌, ◌++◌, append_assoc, append-nil, flat_map, flatten}
use lib.ListN.{length, take, drop, length-append, length-drop, take-append-drop}
use lib.Seq.{drop-drop, take-append_seam, drop-append_seam}
use lib.Dec.{ltb, eqb}
use borrow.Author.Tests.{ltb-true, ltb-false, ne_eqb}
use Rattle.format.specs.Bytes.{part}
use Rattle.format.specs.Strip.{Entry, encode, step_at}
use Rattle.format.specs.Strip.Step.{entry}
use Rattle.format.specs.Walks.{Outcome, answer_of, strip_of}
use Rattle.format.specs.Walks.Outcome.{accepted, refused as refusing}
use Rattle.format.specs.Part.{Reads}
use Rattle.format.specs.Part.Reads.{ends as reads_end, steps}
use Rattle.format.specs.Print.{program_of, spaced, newline, text, line, line_room, first_line, shown_of, printed}
use Rattle.format.specs.Pieces.{Lines, lines, lines_from, lines_at, shown_part, Pieces, Row, Left}
use Rattle.format.specs.Pieces.Pieces.{ends, goes}
use Rattle.format.specs.Pieces.Row.{row}
use Rattle.format.proofs.Steps.{steps as step_table}
use Rattle.format.proofs.Part.{reads_strip}

-- A step over an entry goes forward, and not beyond the strip's end.
pub forward : (s : List ℕ) (p : ℕ) (x : Entry) (q : ℕ) → step_at s p ≡ entry x q → (p < q) × (q ≤ length s)
forward s p x q h = let g = ((step_table s p).gives x q).0 h in let e = g.4 in let l = g.2 in (omega arith, omega arith)

-- What a call puts of the entries that a strip reads as: the lines of the first of them, and of one at least where a line has its room.
record Split (room : ℕ) (s : List ℕ) (es : List Entry) (l : Lines) : Type 0 where
  first : List Entry
  others : List Entry
  all : es ≡ first ++ others
  shown : l.text ≡ flat_map line first
  reads : Reads s l.next others
  some_first : line_room ≤ room → first ≡ [] → others ≡ []

-- No step is taken beyond the end.
not_beyond : (s : List ℕ) (p : ℕ) (es : List Entry) → Reads s p es → p ≤ length s
not_beyond s p [] (reads_end f) = let e = (step_table s p).ends.0 f in omega arith
not_beyond s p (x ∷ xs) (steps f r) = let g = forward s p x _ f in omega arith

split : (k room : ℕ) (s : List ℕ) (p : ℕ) (es : List Entry) → Reads s p es → length s < k + p → Split room s es (lines_from k room s p)
unfolding lines_from flat_map
split zero room s p es r h = let b = not_beyond s p es r in absurd (omega arith)
split (suc k) room s p es r h = go (ltb room line_room) refl es r (split k)
  where
    go : (t : Bool) → ltb room line_room ≡ t → (es : List Entry) → Reads s p es
        → ((room : ℕ) (s : List ℕ) (p : ℕ) (es : List Entry) → Reads s p es → length s < k + p → Split room s es (lines_from k room s p))
        → Split room s es (lines_from (suc k) room s p)
    go true e es r ih = let g = ltb-true room line_room e in rw (lines_from, e) (record { first = []; others = es; all = refl; shown = refl; reads = r; some_first = λ m z. absurd (omega arith) })
    go false e [] (reads_end f) ih = rw (lines_from, e, f) (record { first = []; others = []; all = refl; shown = refl; reads = reads_end f; some_first = λ m z. refl })
    go false e (x ∷ xs) (steps {q = q} f r) ih =
        let g = forward s p x q f in
        let i = ih (room - length (line x)) s q xs r (omega arith) in
        rw (lines_from, e, f) (record {
          first = x ∷ i.first;
          others = i.others;
          all = ap (λ (ys : List Entry). x ∷ ys) i.all;
          shown = ap (λ (t : List ℕ). line x ++ t) i.shown;
          reads = i.reads;
          some_first = λ m z. absurd (let y : ◌≡◌ {A = ℕ} 0 1 = cc in omega arith);
        })

-- No line is empty.
no_empty_line : (x : Entry) (t : List ℕ) → line x ++ t ≡ [] → ⊥
unfolding line
no_empty_line x t h =
    let e : length ((text x ++ newline) ++ t) ≡ 0 = ap length h in
    let a = length-append (text x ++ newline) t in
    let b = length-append (text x) newline in
    omega arith

no_lines : (es : List Entry) → flat_map line es ≡ [] → es ≡ []
unfolding flat_map
no_lines [] h = refl
no_lines (x ∷ es) h = absurd (no_empty_line x (flat_map line es) h)

lines-append : (xs ys : List Entry) → flat_map line (xs ++ ys) ≡ flat_map line xs ++ flat_map line ys
unfolding flat_map
lines-append [] ys = refl
lines-append (x ∷ xs) ys = rw (lines-append xs ys, append_assoc)

split_text : {room : ℕ} {s : List ℕ} {es : List Entry} {l : Lines} → (c : Split room s es l) → flat_map line es ≡ l.text ++ flat_map line c.others
split_text c = ap (flat_map line) c.all ∙ lines-append c.first c.others ∙ ap (λ (t : List ℕ). t ++ flat_map line c.others) (sym c.shown)

-- One call more: its lines are the next bytes of the text, and what is left after them are the lines from the place that it answers.
pub turn : (text : List ℕ) (written : ℕ) (s : List ℕ) (p room : ℕ) → Left text written s p
    → ((lines_at room s p).text ≡ part text written (length (lines_at room s p).text)) × Left text (written + length (lines_at room s p).text) s (lines_at room s p).next
unfolding lines_at
turn text w s p room l =
    let c = split (suc (length s)) room s p l.entries l.reads (omega arith) in
    let t = (lines_from (suc (length s)) room s p).text in
    let e : drop w text ≡ t ++ flat_map line c.others = l.rest ∙ split_text c in
    let n : length text - w ≡ length t + length (flat_map line c.others) = rw (← length-drop, e) (length-append t (flat_map line c.others)) in (
      rw e (sym (take-append_seam t (flat_map line c.others))),
      record {
        entries = c.others;
        reads = c.reads;
        rest = rw (← drop-drop, e) (drop-append_seam t (flat_map line c.others));
        inside = let i = l.inside in omega arith;
      },
    )

-- A call that puts nothing into the room of a line has nothing left to put.
pub finish : (text : List ℕ) (written : ℕ) (s : List ℕ) (p room : ℕ) → 160 ≤ room → Left text written s p → (lines_at room s p).text ≡ [] → drop written text ≡ []
unfolding lines_at flat_map
finish text w s p room m l h =
    let c = split (suc (length s)) room s p l.entries l.reads (omega arith) in
    let f = no_lines c.first (sym c.shown ∙ h) in
    let o = c.some_first m f in
    let a : c.first ++ c.others ≡ [] = cc in
    l.rest ∙ ap (flat_map line) (c.all ∙ a)

-- The strip that is printed from reads as the entries whose lines follow the first.
reads_shown : (o : Outcome) (before : List ℕ) → Reads (shown_part (answer_of o (length before)) (strip_of o before)) 0 (shown_of o (length before))
unfolding answer_of strip_of shown_part step_at
reads_shown (refusing n) before = nothing (eqb n 0)
  where
    nothing : (t : Bool) → Reads (cond t (take 0 before) []) 0 []
    nothing true = reads_end refl
    nothing false = reads_end refl
reads_shown (accepted es r t) before = go (ltb (length before) (length (encode es))) refl
  where
    go : (x : Bool) → ltb (length before) (length (encode es)) ≡ x
        → Reads (shown_part (answer_of (accepted es r t) (length before)) (strip_of (accepted es r t) before)) 0 (shown_of (accepted es r t) (length before))
    go true e = rw e (reads_end refl)
    go false e = rw e (reads_strip es before (ltb-false _ _ e))

-- After the first line, what is left of the program's text are the lines of the strip that is printed from.
pub begin : (input before : List ℕ) → length before ≡ 65536
    → Left (printed input) (length (first_line (answer_of (program_of input) 65536))) (shown_part (answer_of (program_of input) 65536) (strip_of (program_of input) before)) 0
unfolding printed
begin input before h =
    let first = first_line (answer_of (program_of input) 65536) in
    let others = flat_map line (shown_of (program_of input) 65536) in
    record {
      entries = shown_of (program_of input) 65536;
      reads = rw h at (reads_shown (program_of input) before);
      rest = drop-append_seam first others;
      inside = rw length-append (omega arith);
    }

module _ (text s : List ℕ) (room : ℕ) (m : 160 ≤ room) where
  -- The pieces from a place on are what is left of the text.
  pieces_left : (p written : ℕ) → Left text written s p → (ts : List (List ℕ)) → Pieces room s p ts → flatten ts ≡ drop written text
  unfolding flatten
  pieces_left p w l _ (ends h) = sym (finish text w s p room m l h)
  pieces_left p w l _ (goes {ts = ts} h r) =
      let c = turn text w s p room l in
      let t = (lines_at room s p).text in
      ap (λ (u : List ℕ). t ++ u) (pieces_left (lines_at room s p).next (w + length t) c.1 ts r)
      ∙ ap (λ (u : List ℕ). u ++ drop (w + length t) text) c.0
      ∙ rw (← drop-drop) (take-append-drop (length t) (drop w text))

  -- There are pieces up to the last.
  pieces_end : (k p written : ℕ) → length text < k + written → Left text written s p → (ts : List (List ℕ)) × Pieces room s p ts
  pieces_end zero p w h l = let i = l.inside in absurd (omega arith)
  pieces_end (suc k) p w h l = go (lines_at room s p).text refl (pieces_end k (lines_at room s p).next (w + length (lines_at room s p).text))
    where
      go : (t : List ℕ) → (lines_at room s p).text ≡ t
          → (length text < k + (w + length (lines_at room s p).text) → Left text (w + length (lines_at room s p).text) s (lines_at room s p).next
          → (ts : List (List ℕ)) × Pieces room s (lines_at room s p).next ts)
          → (ts : List (List ℕ)) × Pieces room s p ts
      go [] e ih = ([], ends e)
      go (c ∷ t) e ih =
          let n : length (lines_at room s p).text ≡ suc (length t) = ap length e in
          let i = ih (omega arith) (turn text w s p room l).1 in
          ((lines_at room s p).text ∷ i.0, goes (λ z. let y : length (lines_at room s p).text ≡ 0 = ap length z in omega arith) i.1)

no_pieces : (room : ℕ) (ts : List (List ℕ)) → Pieces room [] 0 ts → ts ≡ []
unfolding lines_at lines_from step_at
no_pieces room [] (ends h) = refl
no_pieces room (_ ∷ ts) (goes h r) = absurd (h (none_put (ltb room line_room)))
  where
    none_put : (t : Bool) → (cond t (lines [] 0) (lines [] 0)).text ≡ []
    none_put true = refl
    none_put false = refl

module _ (input before : List ℕ) (buffer : length before ≡ 65536) (room : ℕ) (m : 160 ≤ room) where
  -- The pieces one after another are the program's text.
  pub pieces_print : (ps : List (List ℕ)) → Row room (answer_of (program_of input) 65536) (strip_of (program_of input) before) ps → flatten ps ≡ printed input
  unfolding flatten printed
  pieces_print [] r = elim r [ ]
  pieces_print (_ ∷ ts) (row r) =
      let first = first_line (answer_of (program_of input) 65536) in
      ap (λ (t : List ℕ). first ++ t) (pieces_left (printed input) _ room m 0 (length first) (begin input before buffer) ts r ∙ drop-append_seam first _)

  -- They come to an end.
  pub pieces_come : (ps : List (List ℕ)) × Row room (answer_of (program_of input) 65536) (strip_of (program_of input) before) ps
  pieces_come =
      let p = pieces_end (printed input) _ room m (suc (length (printed input))) 0 _ (omega arith) (begin input before buffer) in
      (first_line (answer_of (program_of input) 65536) ∷ p.0, row p.1)

-- After a refusal's line there is none: of whatever room a piece is.
pub refused_alone : (input before : List ℕ) (room : ℕ) → ((answer_of (program_of input) 65536).number ≡ 0 → ⊥)
    → (ps : List (List ℕ)) → Row room (answer_of (program_of input) 65536) (strip_of (program_of input) before) ps → ps ≡ first_line (answer_of (program_of input) 65536) ∷ []
unfolding shown_part
refused_alone input before room h [] r = elim r [ ]
refused_alone input before room h (_ ∷ ts) (row r) =
    ap (λ (us : List (List ℕ)). first_line (answer_of (program_of input) 65536) ∷ us)
    (no_pieces room ts (rw (ne_eqb (answer_of (program_of input) 65536).number 0 h) at r))

-- A refusal's line is all of the text: `refused`, the number, and the length needed or 0.
pub refused_text : (input : List ℕ) → ((answer_of (program_of input) 65536).number ≡ 0 → ⊥)
    → printed input ≡ (114 ∷ 101 ∷ 102 ∷ 117 ∷ 115 ∷ 101 ∷ 100 ∷ [])
    ++ (spaced (answer_of (program_of input) 65536).number ++ (spaced (answer_of (program_of input) 65536).size ++ (10 ∷ [])))
unfolding printed first_line flat_map
refused_text input h =
    ap (λ (es : List Entry). first_line (answer_of (program_of input) 65536) ++ flat_map line es) (none_shown (program_of input) h)
    ∙ append-nil (first_line (answer_of (program_of input) 65536))
    ∙ rw (ne_eqb (answer_of (program_of input) 65536).number 0 h)
  where
    none_shown : (o : Outcome) → ((answer_of o 65536).number ≡ 0 → ⊥) → shown_of o 65536 ≡ []
    none_shown (refusing n) h = refl
    none_shown (accepted es r t) h = rw (ne_eqb (answer_of (accepted es r t) 65536).number 0 h)
