-- What the code's answers say, in the definitions' words. A refusal has the number that the requirements give it.
use Rattle.std.specs.Prelude.{◌≤◌, ◌<◌, ◌≡◌, ℕ, Option, None, Some, Result, Ok, Err, List, length}
use Rattle.format.specs.Trailer as format
use Rattle.format.specs.Trailer.BlockAnswer.{absent, found, refused}
use Rattle.refusal.specs.Numbers.{number_of, needed_of}
use Rattle.refusal.specs.declared.Refusal.{Refusal}
use Rattle.trailer.specs.declared.Block.{Block}

abbrev pub block_meaning : Result (Option Block) Refusal → format.BlockAnswer
block_meaning (Ok None) = absent
block_meaning (Ok (Some b)) = found b.strip b.block
block_meaning (Err r) = refused (number_of r) (needed_of r)

-- The lengths fit in an export's number: a strip's in 32 bits, a block's in 24.
abbrev pub Small : Result (Option Block) Refusal → Type 0
Small (Ok None) = 0 ≤ 0
Small (Ok (Some b)) = (b.strip < 4294967296) × (b.block < 16777216)
Small (Err r) = needed_of r < 4294967296

-- What a reading promises of its answer, and of the lent buffer before and after.
pub record Reads (x : format.Block) (before : List ℕ) (r : Result (Option Block) Refusal) (after : List ℕ) : Type 0 where
  pub value : block_meaning r ≡ format.block_answer x (length before)
  pub strip_after : after ≡ format.block_strip x before
  pub small : Small r
