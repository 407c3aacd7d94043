-- A record of a list as an object: a container over the record's bytes, around what they are inside it.
use Rattle.std.specs.Prelude.{ℕ, ◌+◌, List}
use Rattle.format.specs.Bytes.{part}
use Rattle.format.specs.Cut.{Span}
use Rattle.format.specs.Strip.{Entry, container}

unfoldable pub object : (id : ℕ) → (List ℕ → ℕ → List Entry) → List ℕ → (offset : ℕ) → Span → List Entry
object i inside d o s = container i (o + s.at) (o + s.at + s.len) (inside (part d s.at s.len) (o + s.at))
