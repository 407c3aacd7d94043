-- When a call stands at a place of a file, and what that says of its parts.
use Prim.Native.Nat.{ℕ, ◌+◌, ◌≤◌, ◌<◌}
use native.Mathlib.Omega.{arith}
use mathlib.Core.Path.{◌≡◌, refl}
use mathlib.Core.Bool.{Bool, true, false, cond}
use mathlib.Core.List.{List}
use mathlib.Core.Option.{Option, none, some}
use lib.ListN.{length, get_or}
use lib.Dec.{leb}
use borrow.Author.Tests.{le-leb, lt-leb, leb-true}
use Rattle.std.proofs.lemmas.Grind.{common_steps}
use Rattle.format.specs.Cut.{standing, fitting}
use Rattle.format.proofs.Rules.{inside}
use Rattle.replay_call.specs.Stored.{walk_at, room_at, answer_at, call_size, is_call, call_rule}

-- A call of n bytes stands at p.
pub record Stands (most : ℕ) (b : List ℕ) (p n : ℕ) : Type 0 where
  pub within : p + call_size b p ≤ length b
  pub long : n ≡ call_size b p
  pub roomy : room_at b p ≤ most

module _ (most : ℕ) (b : List ℕ) (p : ℕ) where
  -- its last byte would lie beyond the file
  pub beyond : length b < p + call_size b p → call_rule most b p ≡ none
  unfolding standing
  beyond h = go (leb (p + 35) (length b)) (is_call most b p)
    where
      go : (s t : Bool) → cond {A = Option ℕ} s (elim (cond {A = Option ℕ} t (some (call_size b p)) none) [ none ↦ none | some n ↦ fitting 35 b p n ]) none ≡ none
      go false t = refl
      go true false = refl
      go true true = rw (le-leb 35 (call_size b p) (omega arith), lt-leb (p + call_size b p) (length b) h)

  pub no_call : is_call most b p ≡ false → call_rule most b p ≡ none
  unfolding standing
  no_call e = rw e (go (leb (p + 35) (length b)))
    where
      go : (s : Bool) → ◌≡◌ {A = Option ℕ} (cond s none none) none
      go false = refl
      go true = refl

  pub stands : p + call_size b p ≤ length b → is_call most b p ≡ true → call_rule most b p ≡ some (call_size b p)
  unfolding standing
  stands h e = rw (e, le-leb (p + 35) (length b) (omega arith), le-leb 35 (call_size b p) (omega arith), le-leb (p + call_size b p) (length b) h)

  roomy : is_call most b p ≡ true → room_at b p ≤ most
  unfolding is_call
  roomy e = go (leb (walk_at b p) 4) (leb (get_or b (answer_at b p) 0) 5) e
    where
      go : (s t : Bool) → cond s (cond t (leb (room_at b p) most) false) false ≡ true → room_at b p ≤ most
      go true true q = leb-true (room_at b p) most q
      go true false q = let z : ◌≡◌ {A = ℕ} 0 1 = cc in absurd (omega arith)
      go false t q = let z : ◌≡◌ {A = ℕ} 0 1 = cc in absurd (omega arith)

  pub standing_call : (n : ℕ) → call_rule most b p ≡ some n → Stands most b p n
  standing_call n e =
      let i = inside 35 _ b p n e in
      go (is_call most b p) refl i.length_declared i.within
    where
      go : (t : Bool) → is_call most b p ≡ t → cond t (some (call_size b p)) none ≡ some n → p + n ≤ length b → Stands most b p n
      go true h q w = let z : n ≡ call_size b p = cc in record { within = omega arith; long = z; roomy = roomy h }
      go false h q w = let z : ◌≡◌ {A = ℕ} 0 1 = cc in absurd (omega arith)

-- What the search goes by where it tells whether a call stands.
pub ruleset laws = (common_steps, beyond, no_call, stands)
