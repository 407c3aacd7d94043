-- A block's answer and buffer are those of the walk's outcome as which it is stored.
use Prim.Native.Nat.{ℕ}
use native.Mathlib.Omega.{arith}
use mathlib.Core.Path.{◌≡◌, refl}
use mathlib.Core.Bool.{Bool, true, false}
use mathlib.Core.List.{List}
use lib.ListN.{length}
use lib.Dec.{ltb}
use borrow.Author.Tests.{le-ltb}
use Rattle.format.specs.Strip.{encode}
use Rattle.format.specs.Walks.{answer_of, strip_of}
use Rattle.format.specs.Trailer.{Block, block_answer, block_strip}
use Rattle.format.specs.Trailer.Block.{refused, absent, found}
use Rattle.replay_agreement.specs.Agree.{as_walk}
use Rattle.replay_agreement.specs.Blocks.{stored}

pub as_answer : (x : Block) (room : ℕ) → stored (block_answer x room) ≡ answer_of (as_walk x) room
unfolding block_answer answer_of encode
as_answer (refused n) room = refl
as_answer absent room = rw (le-ltb room 0 (omega arith))
as_answer (found es n) room = go (ltb room (length (encode es))) refl
  where
    go : (t : Bool) → ltb room (length (encode es)) ≡ t → stored (block_answer (found es n) room) ≡ answer_of (as_walk (found es n)) room
    go true q = rw q
    go false q = rw q

pub as_strip : (x : Block) (before : List ℕ) → block_strip x before ≡ strip_of (as_walk x) before
unfolding block_strip strip_of encode
as_strip (refused n) before = refl
as_strip absent before = rw (le-ltb (length before) 0 (omega arith))
as_strip (found es n) before = refl
