-- A count, if a test holds for no row; and the test of a row of the table.
use Rattle.std.specs.Prelude.{ℕ, ◌≡◌, Bool, true, false, cond, List, Option, Some, None}
use Rattle.format.specs.Book.{Row, any, is_free, is_old}

abbrev pub CountedUnless : (Row → Bool) → (List Row → ℕ) → List Row → Option ℕ → Type 0
CountedUnless f n rs None = any f rs ≡ true
CountedUnless f n rs (Some k) = (any f rs ≡ false) × (k ≡ n rs)

abbrev pub is_used_old : Row → Bool
is_used_old r = cond (is_free r) false (is_old r)
