-- Where an entry of a list lies, and a body that ends with a list.
use Rattle.std.specs.Prelude.{ℕ, List, ◌++◌, cond, length, ltb}
use Rattle.format.specs.Strip.{Entry}
use Rattle.format.specs.Body as body
use Rattle.format.specs.Body.{listing, whole}
use Rattle.format.specs.Body.Body.{decoded, raw}
use Rattle.format.specs.Cut.{Span, after}

abbrev pub span : (at len : ℕ) → Span
span p n = record { at = p; len = n }

-- A fixed part up to p, which has these entries, and an array of all entries of n bytes that the body holds from there on.
unfoldable pub followed : (p : ℕ) → List Entry → (id n : ℕ) → (Span → List Entry) → List ℕ → (offset : ℕ) → body.Body
followed p es i n f b o = cond (ltb (length b) p) raw (decoded (es ++ listing i f o p (whole n b p)) (after p (whole n b p)))
