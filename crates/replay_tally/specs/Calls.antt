-- The calls of a file: end to end from its first byte, as far as whole calls stand. How many pass a test, and what replaying
-- them leaves in the buffer.
use Rattle.std.specs.Prelude.{ℕ, suc, Bool, cond, not, List, [], ◌∷◌, length, take}
use Rattle.format.specs.Cut.{Span, cut}
use Rattle.replay_call.specs.Stored.{call_rule}
use Rattle.replay_agreement.specs.Agree.{agrees_at, left_at}

abbrev pub calls : (most : ℕ) → List ℕ → List Span
calls most b = cut (call_rule most) b (length b) 0

-- How many calls pass a test of their place, and how many stand before the first that does.
unfoldable pub count_of : (ℕ → Bool) → List Span → ℕ
count_of f [] = 0
count_of f (s ∷ ss) = cond (f s.at) (suc (count_of f ss)) (count_of f ss)

unfoldable pub first_of : (ℕ → Bool) → List Span → ℕ
first_of f [] = 0
first_of f (s ∷ ss) = cond (f s.at) 0 (suc (first_of f ss))

unfoldable pub differs : List ℕ → ℕ → Bool
differs b p = not (agrees_at b p)

-- The buffer after the calls were replayed in it, one after another.
unfoldable pub replayed : List ℕ → List Span → List ℕ → List ℕ
replayed b [] before = before
replayed b (s ∷ ss) before = replayed b ss (left_at b s.at before)

-- The calls up to the first that differs, and that one.
abbrev pub up_to_first : List ℕ → List Span → List Span
up_to_first b ss = take (suc (first_of (differs b) ss)) ss

-- The buffer after all calls of a file that fit into it, and after those up to the first that differs.
abbrev pub all_replayed : List ℕ → List ℕ → List ℕ
all_replayed b before = replayed b (calls (length before) b) before

abbrev pub replayed_to_first : List ℕ → List ℕ → List ℕ
replayed_to_first b before = replayed b (up_to_first b (calls (length before) b)) before
