-- How long the lines are.
use Prim.Native.Nat.{ℕ, ◌≤◌, ◌<◌}
use native.Mathlib.Omega.{arith}
use mathlib.Core.Bool.{Bool, true, false, cond}
use mathlib.Core.List.{List, ◌∷◌, ◌++◌}
use lib.ListN.{length, length-append}
use lib.Dec.{eqb}
use Rattle.format.specs.Strip.{Entry}
use Rattle.format.specs.Strip.Entry.{opens, closes, u8, u16, u32, ip4, ip6, bytes, unreachable, u64}
use Rattle.format.specs.Walks.{Answer}
use Rattle.format.specs.Print.{hex, spaced, dotted, field, text, line, line_room, first_line, newline}
use Rattle.format.specs.Print.{open_word, u8_word, u16_word, u32_word, ip4_word, ip6_word, bytes_word, unreachable_word, u64_word, ok_word, refused_word}
use Rattle.std.proofs.lemmas.Grind.{common_steps}
use Rattle.print_digits.proofs.Numerals.{length-spaced, length-place, length-dotted, length-hex}

pub length-field : (w : List ℕ) (i s e : ℕ) → length w ≤ 5 → length (field w i s e) ≤ 68
length-field w i s e h = let p = length-place i s e in rw length-append (omega arith)

-- a value of at most so many characters after it
length_valued : (w : List ℕ) (i s e : ℕ) (v : List ℕ) → length w ≤ 5 → length v ≤ 91 → length (field w i s e ++ v) < line_room
length_valued w i s e v h k = let f = length-field w i s e h in rw length-append (omega arith)

-- with the line's end a text fits into the room of a line
pub text_fits : (x : Entry) → length (text x) < line_room
text_fits (opens i s e n) = length_valued open_word i s e (spaced n) (omega arith) (let l = length-spaced n in omega arith)
text_fits closes = omega arith
text_fits (u8 i s e v) = length_valued u8_word i s e (spaced v) (omega arith) (let l = length-spaced v in omega arith)
text_fits (u16 i s e v) = length_valued u16_word i s e (spaced v) (omega arith) (let l = length-spaced v in omega arith)
text_fits (u32 i s e v) = length_valued u32_word i s e (spaced v) (omega arith) (let l = length-spaced v in omega arith)
text_fits (ip4 i s e a) = length_valued ip4_word i s e (32 ∷ dotted a) (omega arith) (let l = length-dotted a in omega arith)
text_fits (ip6 i s e h l) =
    let p = length-hex 16 h in
    let q = length-hex 16 l in
    let r = length-append (hex 16 h) (hex 16 l) in
    length_valued ip6_word i s e (32 ∷ (hex 16 h ++ hex 16 l)) (omega arith) (omega arith)
text_fits (bytes i s e) = let f = length-field bytes_word i s e (omega arith) in omega arith
text_fits (unreachable i s e) = let f = length-field unreachable_word i s e (omega arith) in omega arith
text_fits (u64 i s e v) = length_valued u64_word i s e (spaced v) (omega arith) (let l = length-spaced v in omega arith)

-- no line is longer than the room of a line
pub line_fits : (x : Entry) → length (line x) ≤ line_room
unfolding line
line_fits x = let t = text_fits x in rw length-append (omega arith)

pub first_fits : (a : Answer) → length (first_line a) ≤ line_room
unfolding first_line
first_fits a = pick (eqb a.number 0)
  where
    pick : (t : Bool) → length (cond t
        (ok_word ++ (spaced a.records ++ (spaced a.tail ++ (spaced a.size ++ newline))))
        (refused_word ++ (spaced a.number ++ (spaced a.size ++ newline)))) ≤ line_room
    pick true =
        let l = length-spaced a.records in
        let m = length-spaced a.tail in
        let n = length-spaced a.size in
        let p = length-append (spaced a.records) (spaced a.tail ++ (spaced a.size ++ newline)) in
        let q = length-append (spaced a.tail) (spaced a.size ++ newline) in
        let r = length-append (spaced a.size) newline in
        omega arith
    pick false =
        let m = length-spaced a.number in
        let n = length-spaced a.size in
        let q = length-append (spaced a.number) (spaced a.size ++ newline) in
        let r = length-append (spaced a.size) newline in
        omega arith

-- What the search goes by where it shows that there is room.
pub ruleset lengths = (common_steps, length-spaced, length-place, length-dotted, length-hex, length-field, text_fits, line_fits, first_fits)
