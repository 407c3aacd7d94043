-- A stored call, as samples/README.md has it: 22 bytes that say the call, its data, 13 bytes of answer, and the strip.
use Rattle.std.specs.Prelude.{ℕ, ◌+◌, Bool, false, cond, List, get_or, leb, eqb}
use Rattle.std.proofs.Math.Option.{none, some}
use Rattle.format.specs.Bytes.{be32_at}
use Rattle.format.specs.Cut.{Rule, standing}

-- Of the call at p: the walk or block, the lent buffer's length, the length of the data, and where the answer stands.
abbrev pub walk_at : List ℕ → ℕ → ℕ
walk_at b p = get_or b (p + 1) 0

abbrev pub room_at : List ℕ → ℕ → ℕ
room_at b p = be32_at b (p + 14)

abbrev pub size_at : List ℕ → ℕ → ℕ
size_at b p = be32_at b (p + 18)

abbrev pub answer_at : List ℕ → ℕ → ℕ
answer_at b p = p + 22 + size_at b p

-- The length of the strip that is stored after the answer at q. A refusal has none.
abbrev pub kept_at : List ℕ → ℕ → ℕ
kept_at b q = cond (eqb (get_or b q 0) 0) (be32_at b (q + 1)) 0

abbrev pub call_size : List ℕ → ℕ → ℕ
call_size b p = 35 + size_at b p + kept_at b (answer_at b p)

-- The walks are 0 to 2; 3 is the reading of an LLS block, 4 that of an authentication trailer. Each answers 0 or a refusal from 1
-- to 5, and a replay lends no more room than it has.
unfoldable pub is_call : ℕ → List ℕ → ℕ → Bool
is_call most b p = cond (leb (walk_at b p) 4) (cond (leb (get_or b (answer_at b p) 0) 5) (leb (room_at b p) most) false) false

-- The call is of this walk, and its stored answer has this number.
unfoldable pub is_of : List ℕ → (walk number : ℕ) → ℕ → Bool
is_of b w n p = cond (eqb (walk_at b p) w) (eqb (get_or b (answer_at b p) 0) n) false

-- The length of the call that stands whole at a place of a file, if one does.
abbrev pub call_rule : ℕ → Rule
call_rule most = standing 35 (λ b p. cond (is_call most b p) (some (call_size b p)) none)
