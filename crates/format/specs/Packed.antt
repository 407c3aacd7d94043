-- What an export answers, as one number of 64 bits: the result in the low 32, the number of a refusal in the next 8, and in the
-- last 24 the length of a block, or the number of rows added.
use Rattle.std.specs.Prelude.{ℕ, ◌+◌, ◌-◌, ◌*◌}
use Rattle.format.specs.Strip.{Step}
use Rattle.format.specs.Strip.Step.{entry, end, refused as not_read}
use Rattle.format.specs.Prefix.{Comparison}
use Rattle.format.specs.Prefix.Comparison.{same as same_prefix, different, refused as incomparable}
use Rattle.format.specs.Header.{Newness}
use Rattle.format.specs.Header.Newness.{first, second, same, refused}
use Rattle.format.specs.Checksum.{Check, Making}
use Rattle.format.specs.Checksum.Check.{good, bad, refused as no_lsa}
use Rattle.format.specs.Checksum.Making.{made, refused as not_made}
use Rattle.format.specs.Walks.{Answer}
use Rattle.format.specs.Trailer.{BlockAnswer}
use Rattle.format.specs.Trailer.BlockAnswer.{absent, found, refused as no_block}
use Rattle.format.specs.Book.{Taken}

abbrev pub word : (number result : ℕ) → ℕ
word n x = n * 4294967296 + x

-- A walk: the strip's length.
abbrev pub packed : Answer → ℕ
packed a = word a.number a.size

-- Newness: which of two is the newer.
abbrev pub packed_newness : Newness → ℕ
packed_newness same = word 0 0
packed_newness first = word 0 1
packed_newness second = word 0 2
packed_newness (refused n) = word n 0

-- The prefix comparison: whether two are the same.
abbrev pub packed_comparison : Comparison → ℕ
packed_comparison same_prefix = word 0 1
packed_comparison different = word 0 0
packed_comparison (incomparable n) = word n 0

-- A step of the strip reader: the length of the entry at the place, its kind's byte included.
abbrev pub packed_step : (place : ℕ) → Step → ℕ
packed_step p (entry x next) = word 0 (next - p)
packed_step p end = word 0 0
packed_step p (not_read n) = word n 0

-- The check of an LS checksum: whether it is right; and its making: the two bytes that were written.
abbrev pub packed_check : Check → ℕ
packed_check good = word 0 1
packed_check bad = word 0 0
packed_check (no_lsa n) = word n 0

abbrev pub packed_making : Making → ℕ
packed_making (made x y) = word 0 (x * 256 + y)
packed_making (not_made n) = word n 0

-- A block: the strip's length, or the length needed, and the block's. Absent, it is 0.
abbrev pub packed_block : BlockAnswer → ℕ
packed_block absent = word 0 0
packed_block (found strip block) = block * 1099511627776 + word 0 strip
packed_block (no_block n needed) = word n needed

-- An update that is taken against a table: the rows replaced, and those added.
abbrev pub packed_update : Taken → ℕ
packed_update t = t.book.added * 1099511627776 + word t.number t.book.replaced
