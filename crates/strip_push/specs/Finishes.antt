-- What finishing a container does: where its inside was written after fourteen bytes left out for the opening, the whole container
-- stands from there on.
use Rattle.std.specs.Prelude.{ℕ, ◌+◌, ◌≡◌, List}
use Rattle.format.specs.Strip.{Entry, direct, encode, container}
use Rattle.strip_put.specs.declared.Writer.{Writer}
use Rattle.strip_put.specs.Writer.{Writes}

abbrev pub Finishes : (old : Writer) (opening id start end entries : ℕ) (new : Writer) → Type 0
Finishes old opening i s e n new = (u : Writer) (inside : List Entry) → opening ≡ u.at → n ≡ direct 0 inside
    → Writes (record u { at = u.at + 14 }) (encode inside) old → Writes u (encode (container i s e inside)) new
