-- What the bodies of Summary-LSAs and of external LSAs have in common.
use Rattle.std.specs.Prelude.{ℕ, List, ◌++◌, cond, length, ltb}
use Rattle.format.specs.Strip.{Entry}
use Rattle.format.specs.Body.{Body, listing_if_any, whole}
use Rattle.format.specs.Body.Body.{decoded, raw}
use Rattle.format.specs.Cut.{Span, after}

-- A fixed part up to p, which has these entries, and the TOS metrics of n bytes after it, if there are any.
unfoldable pub route : (p : ℕ) → List Entry → (n : ℕ) → (Span → List Entry) → List ℕ → (offset : ℕ) → Body
route p es n f b o = cond (ltb (length b) p) raw (decoded (es ++ listing_if_any 20 f o p (whole n b p)) (after p (whole n b p)))
