-- What is claimed of openings: how many entries stand directly between one and its matching close. The close is found by
-- scanning forward, as a reader of the strip does. The kinds' numbers are those of the requirements.
use Rattle.std.specs.Prelude.{ℕ, suc, ◌+◌, ◌-◌, ◌≡◌, cond, List, [], ◌∷◌, ◌++◌, eqb}
use Rattle.std.proofs.Math.Option.{Option, none, some}
use Rattle.format.specs.Strip.{Entry, content, direct}
use Rattle.format.specs.Strip.Entry.{opens}

-- One more, where the entry is directly inside: no container is open there.
abbrev pub one_more : (depth entries : ℕ) → ℕ
one_more d n = cond (eqb d 0) (n + 1) n

-- The entries that follow an opening, scanned: the number of those directly inside, and what follows the matching close, which is
-- the first of kind 2 at depth 0. There is none where the entries end before it. An entry of kind 1 opens a container, of
-- which no entry is directly inside; it is one entry itself, and its close is none.
unfoldable pub scan : (depth entries : ℕ) → List Entry → Option (ℕ × List Entry)
scan d n [] = none
scan d n (x ∷ xs) =
    cond (eqb (content x).kind 1) (scan (suc d) (one_more d n) xs)
    (cond (eqb (content x).kind 2) (cond (eqb d 0) (some (n, xs)) (scan (d - 1) n xs))
    (scan d (one_more d n) xs))

-- Each opening, wherever it stands, has its matching close, and says how many entries stand directly between the two.
abbrev pub OpeningsCount : List Entry → Type 0
OpeningsCount es = (before after : List Entry) (i s e n : ℕ) → es ≡ before ++ (opens i s e n ∷ after) → (rest : List Entry) × (scan 0 0 after ≡ some (n, rest))

-- As many entries as n stand directly in a list, whatever follows it: `direct` counts them, and a scan finds them.
pub record Counts (n : ℕ) (es : List Entry) : Type 0 where
  pub counted : (d : ℕ) (xs : List Entry) → direct d (es ++ xs) ≡ cond (eqb d 0) n 0 + direct d xs
  pub scanned : (d m : ℕ) (xs : List Entry) → scan d m (es ++ xs) ≡ scan d (cond (eqb d 0) (m + n) m) xs
