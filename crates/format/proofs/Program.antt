-- The program: what the numbers of the walks name, and when it refuses.
use Prim.Native.Nat.{ℕ, ◌≤◌, ◌<◌}
use native.Mathlib.Omega.{arith}
use mathlib.Core.Path.{◌≡◌, refl}
use mathlib.Core.Logic.{inl, inr, ⊎_elim}
use mathlib.Core.Bool.{Bool, true, false, cond}
use mathlib.Core.List.{List}
use mathlib.Core.Option.{none}
use lib.ListN.{length, get_or, drop, length-drop}
use lib.Dec.{eqb, ltb}
use borrow.Author.Tests.{ltb-true, ltb-false, eqb-false, ne_eqb}
use Rattle.format.specs.Strip.{Entry}
use Rattle.format.specs.Walks.{Walk, answer_of, unless, refusal, max_data, headers_of, update_of, lsa_of, walk_named, walk_of, named_of}
use Rattle.format.specs.Walks.Walk.{header_list, update, single}
use Rattle.format.specs.Walks.Outcome.{refused, accepted}
use Rattle.format.specs.Print.{max_input, strip_room, count_of, named_walk, program_of}
use Rattle.format.specs.Refusals.{ProgramRefusals}
use Rattle.format.proofs.Refusals.{refusals}

-- no number above 2 names a walk
no_walk : (n : ℕ) → 2 < n → walk_named n ≡ none
no_walk n h = rw (ne_eqb n 0 (λ e. omega arith), ne_eqb n 1 (λ e. omega arith), ne_eqb n 2 (λ e. omega arith))

-- What the numbers name: 0 a header list, 1 an update, 2 a single LSA; any other is refused.
pub walks_are : (v : ℕ) (d : List ℕ) (count o : ℕ)
    → (named_of v 0 d count o ≡ headers_of v d o)
    × (named_of v 1 d count o ≡ update_of v d count o)
    × (named_of v 2 d count o ≡ lsa_of v d o)
    × ((n : ℕ) → 2 < n → named_of v n d count o ≡ refused 12)
unfolding named_of walk_of
walks_are v d count o = (refl, refl, refl, λ n h. rw (named_of, no_walk n h))

-- A walk over no more data than it may have does not answer 2, and no walk answers more than 5.
numbers : (v : ℕ) (d : List ℕ) (o least : ℕ) (es : List Entry) (r t room : ℕ) → length d ≤ max_data
    → ((answer_of (unless (refusal v d o least) (accepted es r t)) room).number ≡ 2 → ⊥) × ((answer_of (unless (refusal v d o least) (accepted es r t)) room).number ≤ 5)
numbers v d o least es r t room h =
    let n = (refusals v d o least es r t room).numbers in
    (λ z. let p = (n.two.0 z).1 in omega arith, n.no_other)

walk_numbers : (v : ℕ) (w : Walk) (d : List ℕ) (n o : ℕ) → length d ≤ max_data
    → ((answer_of (walk_of v w d n o) strip_room).number ≡ 2 → ⊥) × ((answer_of (walk_of v w d n o) strip_room).number ≤ 5)
unfolding walk_of headers_of update_of lsa_of
walk_numbers v header_list d n o h = numbers v d o 0 _ _ _ strip_room h
walk_numbers v update d n o h = numbers v d o 4 _ _ _ strip_room h
walk_numbers v single d n o h = numbers v d o 20 _ _ _ strip_room h

named_numbers : (v w : ℕ) (d : List ℕ) (n o : ℕ) → w ≤ 2 → length d ≤ max_data
    → ((answer_of (named_of v w d n o) strip_room).number ≡ 2 → ⊥) × ((answer_of (named_of v w d n o) strip_room).number ≤ 5)
unfolding named_of
named_numbers v w d n o k h = go (eqb w 0) (eqb w 1) (eqb w 2) refl refl refl
  where
    few : (w ≡ 0 → ⊥) → (w ≡ 1 → ⊥) → (w ≡ 2 → ⊥) → ⊥
    few e f g = omega arith

    go : (r s t : Bool) → eqb w 0 ≡ r → eqb w 1 ≡ s → eqb w 2 ≡ t
        → ((answer_of (named_of v w d n o) strip_room).number ≡ 2 → ⊥) × ((answer_of (named_of v w d n o) strip_room).number ≤ 5)
    go true s t e f g = rw (named_of, e) (walk_numbers v header_list d n o h)
    go false true t e f g = rw (named_of, e, f) (walk_numbers v update d n o h)
    go false false true e f g = rw (named_of, e, f, g) (walk_numbers v single d n o h)
    go false false false e f g = absurd (few (eqb-false w 0 e) (eqb-false w 1 f) (eqb-false w 2 g))

-- The tests of the program, in their order.
pub program_refusals : (input : List ℕ) → ProgramRefusals input (answer_of (program_of input) 65536).number
unfolding program_of answer_of
program_refusals input = first (ltb max_input (length input)) refl
  where
    third : (t : Bool) → ltb 2 (get_or input 1 0) ≡ t → length input ≤ max_input → 2 ≤ length input
        → ProgramRefusals input (answer_of (named_walk input) strip_room).number
    third true e l m =
        let h = ltb-true 2 (get_or input 1 0) e in
        rw ((walks_are (get_or input 0 0) (drop 2 input) (count_of (drop 2 input)) 0).3 (get_or input 1 0) h)
        record {
          two = (λ z. absurd (omega arith), λ z. absurd (omega arith));
          four = (λ z. absurd (omega arith), λ p. absurd (⊎_elim (λ s. omega arith) (λ q. q.1 h) p.1));
          twelve = (λ z. (λ a. omega arith, λ a. omega arith, h), λ p. refl);
          walks = λ a b c. absurd (c h);
        }
    third false e l m =
        let h = ltb-false 2 (get_or input 1 0) e in
        let d = length-drop 2 input in
        let n = named_numbers (get_or input 0 0) (get_or input 1 0) (drop 2 input) (count_of (drop 2 input)) 0 h (omega arith) in record {
          two = (λ z. absurd (n.0 z), λ z. absurd (omega arith));
          four = (λ z. (λ a. omega arith, inr (λ a. omega arith, λ a. omega arith, z)), λ p. ⊎_elim (λ s. absurd (omega arith)) (λ q. q.2) p.1);
          twelve = (λ z. absurd (let k = n.1 in omega arith), λ p. absurd (let k = p.2 in omega arith));
          walks = λ a b c. refl;
        }

    second : (t : Bool) → ltb (length input) 2 ≡ t → length input ≤ max_input
        → ProgramRefusals input (answer_of (cond t (refused 4) (named_walk input)) strip_room).number
    second true e l =
        let h = ltb-true (length input) 2 e in record {
          two = (λ z. absurd (omega arith), λ z. absurd (omega arith));
          four = (λ z. (λ a. omega arith, inl h), λ p. refl);
          twelve = (λ z. absurd (omega arith), λ p. absurd (p.1 h));
          walks = λ a b c. absurd (b h);
        }
    second false e l = third (ltb 2 (get_or input 1 0)) refl l (ltb-false (length input) 2 e)

    first : (t : Bool) → ltb max_input (length input) ≡ t
        → ProgramRefusals input (answer_of (cond t (refused 2) (cond (ltb (length input) 2) (refused 4) (named_walk input))) strip_room).number
    first true e =
        let h = ltb-true max_input (length input) e in record {
          two = (λ z. h, λ p. refl);
          four = (λ z. absurd (omega arith), λ p. absurd (p.0 h));
          twelve = (λ z. absurd (omega arith), λ p. absurd (p.0 h));
          walks = λ a b c. absurd (a h);
        }
    first false e = second (ltb (length input) 2) refl (ltb-false max_input (length input) e)
