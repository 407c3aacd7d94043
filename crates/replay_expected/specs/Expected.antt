-- What is stored of an answer, and when an answer and a buffer are the same as the stored ones.
use Rattle.std.specs.Prelude.{ℕ, ◌+◌, ◌-◌, Bool, false, cond, List, ◌++◌, get_or, replicate, eqb}
use Rattle.format.specs.Bytes.{be32_at, part}
use Rattle.format.specs.Walks.{Answer, answer}
use Rattle.replay_call.specs.Stored.{kept_at}

-- The lent buffer before a call.
abbrev pub lent : ℕ → List ℕ
lent room = replicate room 165

-- What is stored at q: the answer, and the buffer after the call, the strip with the bytes past it as they were.
abbrev pub stored_answer : List ℕ → ℕ → Answer
stored_answer b q = answer (get_or b q 0) (be32_at b (q + 1)) (be32_at b (q + 5)) (be32_at b (q + 9))

abbrev pub stored_buffer : List ℕ → ℕ → ℕ → List ℕ
stored_buffer b q room = part b (q + 13) (kept_at b q) ++ lent (room - kept_at b q)

unfoldable pub same_answer : Answer → Answer → Bool
same_answer a b =
    cond (eqb a.number b.number)
    (cond (eqb a.size b.size)
    (cond (eqb a.records b.records)
    (eqb a.tail b.tail)
    false)
    false)
    false
