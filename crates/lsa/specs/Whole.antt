-- A whole LSA of some version, by what its header and its body are there.
use Rattle.std.specs.Prelude.{ℕ, ◌+◌, List, ◌++◌, drop}
use Rattle.format.specs.Body.{Body, body_entries, body_tail}
use Rattle.format.specs.Header.{header_size}
use Rattle.format.specs.Strip.{Entry}

unfoldable pub whole : (header : List ℕ → ℕ → List Entry) (raw unparsed : ℕ) (body : List ℕ → ℕ → Body) → List ℕ → (offset : ℕ) → List Entry
whole h r u f d o = h d o ++ body_entries r u (f d o) (drop header_size d) (o + header_size)

-- How many of its bytes stay unparsed.
unfoldable pub tail : (body : List ℕ → ℕ → Body) → List ℕ → ℕ
tail f d = body_tail (f d 0) (drop header_size d)
