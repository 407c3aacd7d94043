-- The calls of a file, each by its file and its place.
use Rattle.std.specs.Prelude.{ℕ, List, length}
use mathlib.Core.List.{map}
use Rattle.format.specs.Cut.{cut}
use Rattle.replay_call.specs.Stored.{call_rule}
use Rattle.replay_call.specs.declared.Call.{Call}
use Rattle.replay_call.specs.declared.Calls.{Calls}

abbrev pub place_of : Call → List ℕ × ℕ
place_of c = (c.file.now, c.at)

-- Those from a place on, end to end, that lend no more room than `most`.
abbrev pub places_from : (most : ℕ) → List ℕ → ℕ → List (List ℕ × ℕ)
places_from most b p = map (λ x. (b, x.at)) (cut (call_rule most) b (length b) p)

-- Those that an iterator has left.
abbrev pub left_of : Calls → List (List ℕ × ℕ)
left_of s = places_from s.most s.file.now s.at
