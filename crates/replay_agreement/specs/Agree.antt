-- When a stored call agrees with the definitions of the walks and of the blocks: in its answer, and in every byte of the lent
-- buffer. And what replaying it leaves in the buffer.
use Rattle.std.specs.Prelude.{ℕ, ◌+◌, Bool, false, cond, List, [], ◌++◌, get_or, drop, eqb}
use Rattle.format.specs.Bytes.{be32_at, be64_at, part, same_bytes}
use Rattle.format.specs.Walks.{Outcome, named_of, answer_of, strip_of}
use Rattle.format.specs.Walks.Outcome.{refused, accepted}
use Rattle.format.specs.Trailer.{Block, lls_of, auth_trailer_of}
use Rattle.format.specs.Trailer.Block.{refused as no_block, absent, found}
use Rattle.replay_call.specs.Stored.{walk_at, room_at, size_at, answer_at}
use Rattle.replay_expected.specs.Expected.{lent, same_answer, stored_answer, stored_buffer}

-- A block is stored as a walk's outcome: its length in the place of the records; absent, it has no entries.
abbrev pub as_walk : Block → Outcome
as_walk (no_block n) = refused n
as_walk absent = accepted [] 0 0
as_walk (found es n) = accepted es n 0

-- The walk or the block that a number names.
unfoldable pub call_of : (version number : ℕ) → List ℕ → (count offset : ℕ) → Outcome
call_of v n d count o = cond (eqb n 3) (as_walk (lls_of d o)) (cond (eqb n 4) (as_walk (auth_trailer_of d o)) (named_of v n d count o))

-- What the call at p comes to by the definitions.
unfoldable pub outcome_at : List ℕ → ℕ → Outcome
outcome_at b p = call_of (get_or b p 0) (walk_at b p) (part b (p + 22) (size_at b p)) (be32_at b (p + 2)) (be64_at b (p + 6))

unfoldable pub agrees_at : List ℕ → ℕ → Bool
agrees_at b p =
    cond (same_answer (answer_of (outcome_at b p) (room_at b p)) (stored_answer b (answer_at b p)))
    (same_bytes (strip_of (outcome_at b p) (lent (room_at b p))) (stored_buffer b (answer_at b p) (room_at b p)))
    false

-- The buffer after the call at p was replayed in it: its first bytes, the room of the call, by the definitions, and the
-- others as they were.
unfoldable pub left_at : List ℕ → ℕ → List ℕ → List ℕ
left_at b p before = strip_of (outcome_at b p) (lent (room_at b p)) ++ drop (room_at b p) before
