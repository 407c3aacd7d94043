-- What a function that writes bytes from a place on leaves in a buffer, and the place after them that it answers.
use Rattle.std.specs.Prelude.{ℕ, ◌+◌, ◌≡◌, List, length}
use Rattle.std.proofs.lemmas.List.Edits.{sets}

pub record Wrote (before : List ℕ) (at : ℕ) (bs : List ℕ) (after : List ℕ) (next : ℕ) : Type 0 where
  pub place : next ≡ at + length bs
  pub contents : after ≡ sets before at bs
