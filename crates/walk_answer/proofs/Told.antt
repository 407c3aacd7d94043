-- Every answer of a walk can be told: it is a strip, or a refusal of the requirements' table. So the code's answer says it.
use Prim.Native.Nat.{ℕ, ◌≤◌, ◌<◌}
use native.Mathlib.Omega.{arith}
use mathlib.Core.Bool.{Bool, true, false, cond}
use mathlib.Core.List.{List}
use mathlib.Core.Logic.{◌⊎◌, inl, inr}
use mathlib.Core.Option.{Option, none, some}
use mathlib.Core.Path.{◌≡◌, refl}
use lib.Dec.{eqb, ltb}
use lib.ListN.{length, get_or, drop}
use borrow.Author.Tests.{eqb-true, eqb-false}
use Rattle.format.specs.Print.{program_of, named_walk, count_of, max_input}
use Rattle.format.specs.Strip.{Entry}
use Rattle.format.specs.Walks.{Answer, Walk, answer_of, unless, refusal, headers_of, update_of, lsa_of, walk_of, named_of, walk_named}
use Rattle.format.specs.Walks.Outcome.{refused, accepted}
use Rattle.format.specs.Walks.Walk.{header_list, update, single}
use Rattle.format.specs.Refusals.{Refusals}
use Rattle.format.proofs.Refusals.{refusals, headers_refusals, update_refusals, lsa_refusals}
use Rattle.walk_answer.specs.Answers.{answer_meaning}
use Rattle.walk_answer.proofs.Answers.{Told, answered, answer-meant}

-- An answer that keeps the table of a walk.
told_by_table : {v : ℕ} {d : List ℕ} {o least room needed : ℕ} (a : Answer) → Refusals v d o least room needed a → Told a
told_by_table a t = go (eqb a.number 0) refl
  where
    length_told : (a.number ≡ 0 → ⊥) → (f : Bool) → eqb a.number 5 ≡ f → (a.number ≡ 5) ⊎ (a.size ≡ 0)
    length_told z true q = inl (eqb-true a.number 5 q)
    length_told z false q = inr (t.no_length z (eqb-false a.number 5 q))

    go : (s : Bool) → eqb a.number 0 ≡ s → Told a
    go true p = inl (eqb-true a.number 0 p)
    go false p =
        let z = eqb-false a.number 0 p in
        let m = t.numbers.no_other in
        let r = t.no_records z in
        inr (omega (arith, z), omega (arith, m), length_told z (eqb a.number 5) refl, r.0, r.1)

-- A walk that needs so many bytes at least, and a refusal of the table before any walk.
pub told_unless : (v : ℕ) (d : List ℕ) (o least : ℕ) (es : List Entry) (r t room : ℕ) → Told (answer_of (unless (refusal v d o least) (accepted es r t)) room)
told_unless v d o least es r t room = told_by_table _ (refusals v d o least es r t room)

pub told_refused : (n room : ℕ) → 0 < n → n ≤ 15 → Told (answer_of (refused n) room)
unfolding answer_of
told_refused n room g h = inr (g, h, inr refl, refl, refl)

module _ (v : ℕ) (d : List ℕ) where
  pub told_headers : (o room : ℕ) → Told (answer_of (headers_of v d o) room)
  told_headers o room = told_by_table _ (headers_refusals v d o room)

  pub told_update : (count o room : ℕ) → Told (answer_of (update_of v d count o) room)
  told_update count o room = told_by_table _ (update_refusals v d count o room)

  pub told_lsa : (o room : ℕ) → Told (answer_of (lsa_of v d o) room)
  told_lsa o room = told_by_table _ (lsa_refusals v d o room)

  pub told_walk : (w : Walk) (count o room : ℕ) → Told (answer_of (walk_of v w d count o) room)
  unfolding walk_of
  told_walk header_list count o room = told_headers o room
  told_walk update count o room = told_update count o room
  told_walk single count o room = told_lsa o room

  pub told_named : (n count o room : ℕ) → Told (answer_of (named_of v n d count o) room)
  unfolding named_of
  told_named n count o room = go (walk_named n)
    where
      go : (w : Option Walk) → Told (answer_of (elim w [ none ↦ refused 12 | some k ↦ walk_of v k d count o ]) room)
      go none = told_refused 12 room (omega arith) (omega arith)
      go (some w) = told_walk w count o room

  -- There and back, for every answer that a walk gives.
  pub headers_meant : (o room : ℕ) → answer_meaning (answered (answer_of (headers_of v d o) room)) ≡ answer_of (headers_of v d o) room
  headers_meant o room = answer-meant _ (told_headers o room)

  pub update_meant : (count o room : ℕ) → answer_meaning (answered (answer_of (update_of v d count o) room)) ≡ answer_of (update_of v d count o) room
  update_meant count o room = answer-meant _ (told_update count o room)

  pub lsa_meant : (o room : ℕ) → answer_meaning (answered (answer_of (lsa_of v d o) room)) ≡ answer_of (lsa_of v d o) room
  lsa_meant o room = answer-meant _ (told_lsa o room)

  pub named_meant : (n count o room : ℕ) → answer_meaning (answered (answer_of (named_of v n d count o) room)) ≡ answer_of (named_of v n d count o) room
  named_meant n count o room = answer-meant _ (told_named n count o room)

  pub walk_meant : (w : Walk) (count o room : ℕ) → answer_meaning (answered (answer_of (walk_of v w d count o) room)) ≡ answer_of (walk_of v w d count o) room
  walk_meant w count o room = answer-meant _ (told_walk w count o room)

-- The same of what the program makes of its input.
pub told_program : (input : List ℕ) (room : ℕ) → Told (answer_of (program_of input) room)
unfolding program_of
told_program input room = go (ltb max_input (length input)) (ltb (length input) 2)
  where
    go : (s t : Bool) → Told (answer_of (cond s (refused 2) (cond t (refused 4) (named_walk input))) room)
    go true t = told_refused 2 room (omega arith) (omega arith)
    go false true = told_refused 4 room (omega arith) (omega arith)
    go false false = told_named (get_or input 0 0) (drop 2 input) (get_or input 1 0) (count_of (drop 2 input)) 0 room

pub program_meant : (input : List ℕ) (room : ℕ) → answer_meaning (answered (answer_of (program_of input) room)) ≡ answer_of (program_of input) room
program_meant input room = answer-meant _ (told_program input room)
