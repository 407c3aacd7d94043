-- What a step's answer says fixes the answer: no two answers meet the contract of a step.
use mathlib.Core.Path.{◌≡◌, refl, sym, ap}
use mathlib.Core.Logic.{◌⊎◌}
use Rattle.std.proofs.Common.{ℕ, List, Option, Some, None, Result, Ok, Err, rules}
use Rattle.format.specs.Strip as strip
use Rattle.format.specs.Strip.{step_at}
use Rattle.format.specs.Strip.Step.{entry}
use Rattle.format.proofs.Steps.{steps}
use Rattle.refusal.specs.Numbers.{number_of}
use Rattle.refusal.specs.declared.Refusal.{Refusal}
use Rattle.strip_step.specs.Answers.{entry_of, entry_meaning, step_meaning}
use Rattle.strip_step.specs.declared.Entry.{Entry}
use Rattle.strip_step.proofs.Entries.{entry_back}

same_refusal : (r t : Refusal) → number_of r ≡ number_of t → (number_of r ≡ 6) ⊎ (number_of r ≡ 7) ⊎ (number_of r ≡ 8) → r ≡ t
same_refusal r t e h = search rules

same_entry : (x y : Entry) → entry_meaning x ≡ entry_meaning y → x ≡ y
same_entry x y e = cc (entry_back x, entry_back y, ap entry_of e)

pub only_answer : (s : List ℕ) (p : ℕ) (x y : Result (Option (Entry × ℕ)) Refusal) → step_meaning x ≡ step_at s p → step_meaning y ≡ step_at s p → x ≡ y
only_answer s p (Ok (Some (a, m))) (Ok (Some (b, n))) h g = let e = same_entry a b (cc) in cc
only_answer s p (Ok None) (Ok None) h g = refl
only_answer s p (Err r) (Err t) h g = let e = same_refusal r t (cc) ((steps s p).no_other (number_of r) (sym h)) in cc
only_answer s p (Err r) (Ok (Some (b, n))) h g = cc
only_answer s p (Err r) (Ok None) h g = cc
only_answer s p x y h g = cc

-- What an answer says of the step, where it is an entry, and where it is none.
pub entry_of_lem : (t : strip.Step) (r : Result (Option (Entry × ℕ)) Refusal) (x : Entry) (q : ℕ) → step_meaning r ≡ t → r ≡ Ok (Some (x, q)) → t ≡ entry (entry_meaning x) q
entry_of_lem t r x q e h = rw (← e, h) refl

pub no_entry : (t : strip.Step) (r : Result (Option (Entry × ℕ)) Refusal) → step_meaning r ≡ t → ((y : Entry) (p : ℕ) → r ≡ Ok (Some (y, p)) → ⊥) → (x : strip.Entry) (q : ℕ) → t ≡ entry x q → ⊥
no_entry t (Ok (Some (y, p))) e n x q h = n y p refl
no_entry t (Ok None) e n x q h = cc
no_entry t (Err r) e n x q h = cc
