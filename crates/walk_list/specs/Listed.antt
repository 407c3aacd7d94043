-- What the definitions make of a list of objects where the call is not refused.
use Rattle.std.specs.Prelude.{ℕ, ◌-◌, List, length}
use Rattle.format.specs.Strip.{Entry}
use Rattle.format.specs.Cut.{Span, after}
use Rattle.format.specs.Walks.{Outcome, outer}
use Rattle.format.specs.Walks.Outcome.{accepted}

abbrev pub listed : (version : ℕ) → (Span → List Entry) → List ℕ → (offset first : ℕ) → List Span → Outcome
listed v f d o first ss = accepted (outer v f d o first ss) (length ss) (length d - after first ss)
