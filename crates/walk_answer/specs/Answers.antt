-- What the code's walks and answers say, in the definitions' words. A refusal has the number that the requirements give it.
use Rattle.std.specs.Prelude.{ℕ, ◌<◌, ◌≡◌, Result, Ok, Err, List, length}
use Rattle.std.proofs.Math.Option.{none, some}
use Rattle.format.specs.Walks as walks
use Rattle.refusal.specs.Numbers.{number_of, needed_of}
use Rattle.refusal.specs.declared.Refusal.{Refusal}
use Rattle.refusal.specs.declared.Refusal.TheVariants.{NoWalk}
use Rattle.walk_answer.specs.declared.Answer.{Answer}
use Rattle.walk_answer.specs.declared.Numbers.{Numbers}
use Rattle.walk_answer.specs.declared.Walk.{Walk}
use Rattle.walk_answer.specs.declared.Walk.TheVariants as W

abbrev pub walk_meaning : Walk → walks.Walk
walk_meaning W.LsaHeaders = walks.Walk.header_list
walk_meaning W.LsuLsas = walks.Walk.update
walk_meaning W.Lsa = walks.Walk.single

-- The walk that a number names, or the refusal where it names none.
abbrev pub Names : ℕ → Result Walk Refusal → Type 0
Names n (Ok w) = walks.walk_named n ≡ some (walk_meaning w)
Names n (Err r) = (r ≡ NoWalk) × (walks.walk_named n ≡ none)

-- 0, or a refusal's number.
abbrev pub refusal_meaning : {A : Type 0} → Result A Refusal → ℕ
refusal_meaning (Ok a) = 0
refusal_meaning (Err r) = number_of r

-- A walk's answer: 0 or a refusal's number, the strip's length or the length needed, records accepted, tail bytes.
abbrev pub answer_meaning : Result Answer Refusal → walks.Answer
answer_meaning (Ok a) = walks.answer 0 a.length a.records a.tail
answer_meaning (Err r) = walks.answer (number_of r) (needed_of r) 0 0

-- The same as four numbers.
abbrev pub numbers_meaning : Numbers → walks.Answer
numbers_meaning a = walks.answer a.number a.length a.records a.tail

-- What a walk promises of its answer, and of the lent buffer before and after.
pub record Promised (x : walks.Outcome) (before : List ℕ) (r : Result Answer Refusal) (after : List ℕ) : Type 0 where
  pub value : answer_meaning r ≡ walks.answer_of x (length before)
  pub strip_after : after ≡ walks.strip_of x before
  -- every answer fits in an export's number
  pub length_bound : (answer_meaning r).size < 4294967296
