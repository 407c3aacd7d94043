-- Where a reader stands after a step: behind the entry that it read, and where it was if there was none.
use Rattle.std.specs.Prelude.{ℕ, Option, Some, None, Result, Ok, Err}
use Rattle.refusal.specs.declared.Refusal.{Refusal}
use Rattle.strip_step.specs.declared.Entry.{Entry}

abbrev pub place_after : Result (Option (Entry × ℕ)) Refusal → ℕ → ℕ
place_after (Ok (Some (x, next))) p = next
place_after (Ok None) p = p
place_after (Err r) p = p
