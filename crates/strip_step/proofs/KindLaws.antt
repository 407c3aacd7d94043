-- A step where a kind's byte has been read: for every kind, of its number and the length of its body.
use Prim.Native.Nat.{ℕ, ◌+◌, ◌≤◌, ◌<◌}
use mathlib.Core.Path.{◌≡◌}
use mathlib.Core.List.{List}
use mathlib.Core.Option.{some}
use lib.ListN.{length}
use borrow.Author.Tests.{le-leb, lt-leb}
use Rattle.format.specs.Strip.{body_length, entry_at, body_at}
use Rattle.format.specs.Strip.Step.{entry, refused}

-- The strip ends before the body does.
pub cut : (k n : ℕ) (s : List ℕ) (q : ℕ) → body_length k ≡ some n → length s < q + n → refused 8 ≡ body_at k s q
cut k n s q e h = rw (body_at, e, lt-leb (q + n) (length s) h)

-- The body is whole.
pub whole : (k n : ℕ) (s : List ℕ) (q : ℕ) → body_length k ≡ some n → q + n ≤ length s → entry (entry_at k s q) (q + n) ≡ body_at k s q
whole k n s q e h = rw (body_at, e, le-leb (q + n) (length s) h)
