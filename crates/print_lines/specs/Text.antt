-- What fits into a buffer for a line.
use Rattle.std.specs.Prelude.{ℕ, cond, List, [], ltb}
use Rattle.format.specs.Print.{line_room}

-- The text, where the buffer has the room of every line.
abbrev pub fitting : (room : ℕ) → List ℕ → List ℕ
fitting room text = cond (ltb room line_room) [] text
