-- How long the program's text is at most: a strip of 65,536 bytes has no more entries than that, and no line has more
-- than 160 bytes.
use Prim.Native.Nat.{ℕ, ◌*◌, ◌≤◌}
use native.Mathlib.Omega.{arith}
use mathlib.Core.Path.{◌≡◌, refl}
use mathlib.Core.Bool.{Bool, true, false}
use mathlib.Core.List.{List, [], ◌∷◌, flat_map}
use lib.ListN.{length, length-append}
use lib.Dec.{ltb}
use borrow.Author.Tests.{ltb-false}
use Rattle.format.specs.Strip.{Entry, encode}
use Rattle.format.specs.Walks.{Outcome, answer_of}
use Rattle.format.specs.Walks.Outcome.{refused, accepted}
use Rattle.format.specs.Print.{program_of, line, shown_of, printed}
use Rattle.format.proofs.Read.{longer}
use Rattle.print_lines.proofs.Room.{line_fits, first_fits}

lines_bound : (es : List Entry) → length (flat_map line es) ≤ 160 * length es
unfolding flat_map
lines_bound [] = omega arith
lines_bound (x ∷ es) = let l = line_fits x in let i = lines_bound es in rw length-append (omega arith)

shown_bound : (o : Outcome) → length (shown_of o 65536) ≤ 65536
unfolding answer_of
shown_bound (refused n) = omega arith
shown_bound (accepted es r t) = go (ltb 65536 (length (encode es))) refl
  where
    go : (b : Bool) → ltb 65536 (length (encode es)) ≡ b → length (shown_of (accepted es r t) 65536) ≤ 65536
    go true e = let z : shown_of (accepted es r t) 65536 ≡ [] = rw e in rw z (omega arith)
    go false e =
        let z : shown_of (accepted es r t) 65536 ≡ es = rw e in
        let l = longer es in
        let m = ltb-false 65536 (length (encode es)) e in
        rw z (omega arith)

pub text_bound : (input : List ℕ) → length (printed input) ≤ 10485920
unfolding printed
text_bound input =
    let f = first_fits (answer_of (program_of input) 65536) in
    let l = lines_bound (shown_of (program_of input) 65536) in
    let s = shown_bound (program_of input) in
    rw length-append (omega arith)
