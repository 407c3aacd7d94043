-- What it means that a stored call agrees: its answer and its buffer are those of the definitions.
use Prim.Native.Nat.{ℕ}
use mathlib.Core.Path.{◌≡◌, refl}
use mathlib.Core.Logic.{◌↔◌}
use mathlib.Core.Bool.{Bool, true, false, cond}
use mathlib.Core.List.{List}
use native.Mathlib.Omega.{arith}
use borrow.Author.Tests.{eq-eqb, eqb-true}
use Rattle.format.specs.Walks.{Answer, answer, answer_of, strip_of}
use Rattle.format.proofs.SameBytes.{same_bytes_lem, same_bytes_self}
use Rattle.replay_call.specs.Stored.{room_at, answer_at}
use Rattle.replay_expected.specs.Expected.{same_answer, stored_answer, stored_buffer, lent}
use Rattle.replay_agreement.specs.Agree.{agrees_at, outcome_at}

both : (s t : Bool) → cond s t false ≡ true → (s ≡ true) × (t ≡ true)
both true t e = (refl, e)
both false t e = let z : ◌≡◌ {A = ℕ} 0 1 = cc in absurd (omega arith)

answer_same : (a b : Answer) → same_answer a b ≡ true → a ≡ b
unfolding same_answer
answer_same a b e =
    let d = both _ _ e in
    let f = both _ _ d.1 in
    let g = both _ _ f.1 in
    let n = eqb-true a.number b.number d.0 in
    let s = eqb-true a.size b.size f.0 in
    let r = eqb-true a.records b.records g.0 in
    let t = eqb-true a.tail b.tail g.1 in
    fields n s r t
  where
    fields : {n n' s s' r r' t t' : ℕ} → n ≡ n' → s ≡ s' → r ≡ r' → t ≡ t' → answer n s r t ≡ answer n' s' r' t'
    fields e f g h = rw (e, f, g, h)

same_answer_lem : (a : Answer) → same_answer a a ≡ true
unfolding same_answer
same_answer_lem a = rw (eq-eqb a.number a.number refl, eq-eqb a.size a.size refl, eq-eqb a.records a.records refl, eq-eqb a.tail a.tail refl)

pub agrees_means : (b : List ℕ) (p : ℕ)
    → (agrees_at b p ≡ true) ↔ ((answer_of (outcome_at b p) (room_at b p) ≡ stored_answer b (answer_at b p)) × (strip_of (outcome_at b p) (lent (room_at b p)) ≡ stored_buffer b (answer_at b p) (room_at b p)))
unfolding agrees_at
agrees_means b p = (
  λ e. let d = both _ _ e in (answer_same _ _ d.0, same_bytes_lem _ _ d.1),
  λ e. rw (e.0, e.1, same_answer_lem (stored_answer b (answer_at b p))) (same_bytes_self _),
)
