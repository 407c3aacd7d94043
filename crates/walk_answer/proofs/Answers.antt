-- An answer of the definitions and one of the code: there and back.
use Prim.Native.Nat.{ℕ, ◌≤◌, ◌<◌}
use native.Mathlib.Omega.{arith}
use mathlib.Core.Bool.{cond}
use mathlib.Core.Logic.{◌⊎◌, inl, inr}
use mathlib.Core.Path.{◌≡◌, refl, sym}
use lib.Dec.{eqb}
use borrow.Author.Tests.{eq-eqb, ne_eqb}
use Rattle.std.specs.Prelude.{Result, Ok, Err}
use Rattle.format.specs.Walks as walks
use Rattle.refusal.specs.declared.Refusal.{Refusal}
use Rattle.refusal.proofs.Numbers.{number_positive, refusal_by, refusal_back, refusal_meant}
use Rattle.refusal.specs.Numbers.{number_of}
use Rattle.walk_answer.specs.Answers.{answer_meaning, numbers_meaning}
use Rattle.walk_answer.specs.declared.Answer.{Answer}
use Rattle.walk_answer.specs.declared.Numbers.{Numbers}

abbrev pub answered : walks.Answer → Result Answer Refusal
answered a = cond (eqb a.number 0) (Ok (record { length = a.size; records = a.records; tail = a.tail })) (Err (refusal_by a.number a.size))

-- What can be answered: a strip, or a refusal of the requirements' table, of which the fifth alone gives a length.
abbrev pub Told : walks.Answer → Type 0
Told a = (a.number ≡ 0) ⊎ ((0 < a.number) × (a.number ≤ 15) × ((a.number ≡ 5) ⊎ (a.size ≡ 0)) × (a.records ≡ 0) × (a.tail ≡ 0))

pub answer-meant : (a : walks.Answer) → Told a → answer_meaning (answered a) ≡ a
answer-meant a (inl z) = rw (eq-eqb a.number 0 z) (rw (← z) refl)
answer-meant a (inr (g, h, k, r, t)) =
    let m = refusal_meant a.number a.size g h k in
    rw (ne_eqb a.number 0 (omega arith), m.0, m.1) (of_parts (sym r) (sym t))
  where
    of_parts : {n l j k j' k' : ℕ} → j ≡ j' → k ≡ k' → walks.answer n l j k ≡ walks.answer n l j' k'
    of_parts p q = rw (p, q)

-- The code's answer is fixed by what it says.
pub answer_back : (r : Result Answer Refusal) → answered (answer_meaning r) ≡ r
answer_back (Ok a) = refl
answer_back (Err r) = let h = number_positive r in rw (ne_eqb (number_of r) 0 (omega arith), refusal_back r) refl

-- An answer as four numbers is any answer of the definitions: there and back.
abbrev pub numbered : walks.Answer → Numbers
numbered a = record { number = a.number; length = a.size; records = a.records; tail = a.tail }

pub numbers-meant : (a : walks.Answer) → numbers_meaning (numbered a) ≡ a
numbers-meant a = refl

pub numbers_back : (n : Numbers) → numbered (numbers_meaning n) ≡ n
numbers_back n = refl
