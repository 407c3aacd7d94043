-- What a loop over the calls of a file knows that goes by the place of each, and not by an iterator.
use Prim.Native.Nat.{ℕ, ◌+◌, ◌-◌, ◌≤◌, ◌<◌}
use native.Mathlib.Omega.{arith}
use mathlib.Core.Path.{◌≡◌}
use mathlib.Core.List.{List, [], ◌∷◌, ◌++◌}
use mathlib.Core.Option.{some}
use lib.ListN.{length}
use Rattle.format.specs.Cut.{Span, cut, after}
use Rattle.format.proofs.Unique.{span}
use Rattle.format.proofs.Loop.{Going, going_begin, going_turn, going_finish}
use Rattle.replay_call.specs.Stored.{call_rule}
use Rattle.replay_call.proofs.Rule.{standing_call}
use Rattle.replay_tally.specs.Calls.{calls}

-- It stands at pos, within the file.
pub record Calling (most : ℕ) (b : List ℕ) (holds : List Span → Type 0) (pos left : ℕ) : Type 0 where
  pub going : Going (call_rule most) b (length b) 0 holds pos left
  pub within : pos ≤ length b

module _ {most : ℕ} {b : List ℕ} {holds : List Span → Type 0} where
  pub calling_begin : holds [] → Calling most b holds 0 (length b)
  calling_begin h = record { going = going_begin (call_rule most) b (length b) 0 h; within = omega arith }

  pub calling_turn : {holds' : List Span → Type 0} {pos left n : ℕ} (g : Calling most b holds pos left) → 0 < left → call_rule most b pos ≡ some n
      → (holds g.going.visited → holds' (g.going.visited ++ (span pos n ∷ []))) → Calling most b holds' (pos + n) (left - 1)
  calling_turn {pos = pos} {n = n} g h e t =
      let s = standing_call most b pos n e in
      record { going = going_turn (call_rule most) b (length b) 0 n g.going h e t; within = omega (arith, s.within, s.long) }

  pub calling_end : {pos left : ℕ} → Calling most b holds pos left → cut (call_rule most) b left pos ≡ []
      → holds (calls most b) × (pos ≡ after 0 (calls most b)) × (length (calls most b) ≡ length b - left)
  calling_end g e = going_finish (call_rule most) b (length b) 0 g.going e
