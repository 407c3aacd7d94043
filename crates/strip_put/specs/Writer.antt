-- What a function that writes bytes leaves of a writer: the bytes from its place on in the same buffer, and the place after them.
use Rattle.std.specs.Prelude.{ℕ, ◌+◌, ◌≤◌, ◌≡◌, List, length}
use Rattle.std.proofs.lemmas.List.Edits.{sets}
use Rattle.strip_put.specs.declared.Writer.{Writer}

pub record Writes (old : Writer) (bytes : List ℕ) (new : Writer) : Type 0 where
  pub place : new.at ≡ old.at + length bytes
  pub contents : new.buffer.now ≡ sets old.buffer.now old.at bytes
  pub same_buffer : new.buffer.ghost_name ≡ old.buffer.ghost_name
  pub same_length : length new.buffer.now ≡ length old.buffer.now

-- There is room for so many bytes.
abbrev pub HasRoom : Writer → ℕ → Type 0
HasRoom w n = w.at + n ≤ length w.buffer.now
