-- A byte more than the most input is enough to read: with it the text is that of all the input.
use Prim.Native.Nat.{ℕ, ◌≤◌}
use native.Mathlib.Omega.{arith}
use mathlib.Core.Path.{◌≡◌, refl, sym, ap, ◌∙◌, subst}
use mathlib.Core.Bool.{Bool, true, false}
use mathlib.Core.List.{List, [], ◌++◌, append-nil}
use lib.ListN.{length, length-append}
use lib.Dec.{ltb}
use borrow.Author.Tests.{ltb-true, ltb-false}
use Rattle.std.proofs.Common.{None, Some, IfSome}
use Rattle.std.specs.declared.option.Option.{Option}
use Rattle.std.specs.Io.KnownBytes.{Appends, Consumes, IsAtEnd}
use Rattle.format.proofs.Input.{input_means}
use Rattle.format.specs.Print.{program_of, max_input, printed}

same_text : (a b : List ℕ) → program_of a ≡ program_of b → printed a ≡ printed b
unfolding printed
same_text a b e = rw e

enough : (seen rest : List ℕ) → (length seen ≤ max_input → rest ≡ []) → printed seen ≡ printed (seen ++ rest)
enough seen rest end = go (ltb max_input (length seen)) refl
  where
    go : (t : Bool) → ltb max_input (length seen) ≡ t → printed seen ≡ printed (seen ++ rest)
    go true e =
        let l = ltb-true max_input (length seen) e in
        let m = length-append seen rest in
        same_text seen (seen ++ rest) (input_means.too_much seen l ∙ sym (input_means.too_much (seen ++ rest) (omega arith)))
    go false e =
        let l = ltb-false max_input (length seen) e in
        rw (end l, append-nil)

-- What was read of a reader that is then at its end, or was more than the most input, and the text of that written.
pub text_of_all : (left after : Option (List ℕ)) (before written : Option (List ℕ)) (seen : List ℕ)
    → Consumes left after seen → (length seen ≤ max_input → IsAtEnd after) → Appends before written (printed seen)
    → IfSome left (λ input. Appends before written (printed input))
text_of_all None after before written seen r end w = tt
text_of_all (Some input) None before written seen r end w = absurd r
text_of_all (Some input) (Some rest) before written seen r end w =
    subst (Appends before written) (enough seen rest end ∙ ap printed (sym r)) w
