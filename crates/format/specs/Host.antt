-- What the host's one number says: of a walk, with the lent buffer before and after the call; of newness, of the prefix
-- comparison, and of a step; of the LS checksum's check and making; of a block after a packet; of an update that is taken against
-- a table, with the table before and after. The requirements as whoever calls an export sees them.
use Rattle.std.specs.Prelude.{ℕ, ◌+◌, ◌*◌, ◌/◌, ◌%◌, ◌≤◌, ◌<◌, ◌≡◌, ◌↔◌, ◌⊎◌, length, get_or, take, drop, replicate}
use mathlib.Core.List.{List, ◌++◌, Memᴰ}
use Rattle.format.specs.Header.{header_at}
use Rattle.format.specs.Newer.{Newer}
use Rattle.format.specs.Fletcher.{NoLsa, Lsa, Good, Made}
use Rattle.format.specs.Strip.{Entry}
use Rattle.format.specs.Inside.{OpeningsCount}
use Rattle.format.specs.Laid.{Laid, anything}
use Rattle.format.specs.Part.{GivesBack}
use Rattle.format.specs.Cut.{Span}
use Rattle.format.specs.CutInto.{CutInto, RecordAt}
use Rattle.format.specs.Book.{Row}
use Rattle.format.specs.Takes.{LsaRows, row_at, Used, Same, Twice, TakesAll, NewIdentities}
use Rattle.format.specs.Refusals.{Numbers, BookNumbers, TooMuch, TooFar, TooLittle, Agree, NewnessRefusals, Kind, entry_end}
use Rattle.format.specs.Shown.{HeadersShow, UpdateShows, OneShows}

-- The low 32 bits, and the 8 above them.
abbrev pub result_in : ℕ → ℕ
result_in r = r % 4294967296

abbrev pub number_in : ℕ → ℕ
number_in r = r / 4294967296 % 256

-- The 24 above these: the length of a block, or the rows added to a table.
abbrev pub block_in : ℕ → ℕ
block_in r = r / 1099511627776

-- The answer r to a call that needs `least` bytes of data and whose strip has the length `needed`. The number is that of the
-- table, the length that of the strip (or what is needed, on 5), and the other bits are zero. Accepted, the buffer's first
-- bytes are a strip that shows what was asked for, and the others are those of before; refused, all are.
pub record Host (v : ℕ) (d : List ℕ) (o least needed : ℕ) (Shown : (strip : List ℕ) → Type 0) (before after : List ℕ) (r : ℕ) : Type 0 where
  pub numbers : Numbers v d o least (length before) needed (number_in r)
  pub length_of : ((number_in r ≡ 0) ⊎ (number_in r ≡ 5)) → result_in r ≡ needed
  pub no_length : (number_in r ≡ 0 → ⊥) → (number_in r ≡ 5 → ⊥) → result_in r ≡ 0
  pub other_bits : r / 1099511627776 ≡ 0
  pub strip : number_in r ≡ 0 → Shown (take (result_in r) after)
  pub past : number_in r ≡ 0 → drop (result_in r) after ≡ drop (result_in r) before
  pub left : (number_in r ≡ 0 → ⊥) → after ≡ before
  pub as_long : length after ≡ length before

-- The records of a header list or an update are the objects in its strip, and the tail is the length of the range after its
-- array: so the strip says both.
abbrev pub HeadersStrip : ℕ → List ℕ → ℕ → List ℕ → Type 0
HeadersStrip v d o strip = (records : ℕ) × (tail : ℕ) × HeadersShow v d o strip records tail

abbrev pub UpdateStrip : ℕ → List ℕ → ℕ → ℕ → List ℕ → Type 0
UpdateStrip v d count o strip = (records : ℕ) × (tail : ℕ) × UpdateShows v d count o strip records tail

abbrev pub LsaStrip : ℕ → List ℕ → ℕ → List ℕ → Type 0
LsaStrip v d o strip = (records : ℕ) × (tail : ℕ) × OneShows v d o strip records tail

-- Which of two LSAs, by their bytes, is newer. Where none is refused, 1 is answered exactly where the first is by the rules of
-- RFC 2328 13.1, 2 where the second is, and 0 where neither is.
pub record NewnessHost (v : ℕ) (x y : List ℕ) (r : ℕ) : Type 0 where
  pub numbers : NewnessRefusals v x y (number_in r)
  pub first_newer : number_in r ≡ 0 → (result_in r ≡ 1) ↔ Newer (header_at v x) (header_at v y)
  pub second_newer : number_in r ≡ 0 → (result_in r ≡ 2) ↔ Newer (header_at v y) (header_at v x)
  pub neither : number_in r ≡ 0 → (result_in r ≡ 0) ↔ ((Newer (header_at v x) (header_at v y) → ⊥) × (Newer (header_at v y) (header_at v x) → ⊥))
  pub no_result : (number_in r ≡ 0 → ⊥) → result_in r ≡ 0
  pub other_bits : r / 1099511627776 ≡ 0

-- An address from the octets of a prefix, as they lie in a packet: those, then zeros to 16; more are cut.
abbrev pub filled : List ℕ → List ℕ
filled a = take 16 (a ++ replicate 16 0)

-- Whether two prefixes are the same, each a length in bits and octets.
pub record PrefixHost (l : ℕ) (a : List ℕ) (m : ℕ) (b : List ℕ) (r : ℕ) : Type 0 where
  pub ten : (number_in r ≡ 10) ↔ ((128 < l) ⊎ (128 < m))
  pub zero : (number_in r ≡ 0) ↔ ((l ≤ 128) × (m ≤ 128))
  pub same : (result_in r ≡ 1) ↔ ((l ≤ 128) × (m ≤ 128) × (l ≡ m) × Agree l (filled a) (filled b))
  pub no_other : result_in r ≤ 1
  pub other_bits : r / 1099511627776 ≡ 0

-- What stands at the place p of a strip: an entry as long as is answered, the end, or a refusal.
pub record StepHost (s : List ℕ) (p r : ℕ) : Type 0 where
  pub six : (number_in r ≡ 6) ↔ (length s < p)
  pub seven : (number_in r ≡ 7) ↔ ((p < length s) × (Kind (get_or s p 0) → ⊥))
  pub eight : (number_in r ≡ 8) ↔ ((p < length s) × Kind (get_or s p 0) × (length s < entry_end s p))
  pub ends : ((number_in r ≡ 0) × (result_in r ≡ 0)) ↔ (p ≡ length s)
  pub gives : (0 < result_in r) ↔ ((p < length s) × Kind (get_or s p 0) × (entry_end s p ≤ length s))
  pub next : 0 < result_in r → p + result_in r ≡ entry_end s p
  pub other_bits : r / 1099511627776 ≡ 0

-- Whether the LS checksum of an LSA is right.
pub record CheckHost (lsa : List ℕ) (r : ℕ) : Type 0 where
  pub thirteen : (number_in r ≡ 13) ↔ NoLsa lsa
  pub zero : (number_in r ≡ 0) ↔ Lsa lsa
  pub good : (result_in r ≡ 1) ↔ (Lsa lsa × Good lsa)
  pub no_other : result_in r ≤ 1
  pub other_bits : r / 1099511627776 ≡ 0

-- The making of one, with the lent LSA before and after the call. The result is the bytes 16 and 17 as they were written.
pub record MakeHost (before after : List ℕ) (r : ℕ) : Type 0 where
  pub thirteen : (number_in r ≡ 13) ↔ NoLsa before
  pub zero : (number_in r ≡ 0) ↔ Lsa before
  pub makes : number_in r ≡ 0 → Made before after × (result_in r ≡ get_or after 16 0 * 256 + get_or after 17 0)
  pub left : number_in r ≡ 13 → (after ≡ before) × (result_in r ≡ 0)
  pub other_bits : r / 1099511627776 ≡ 0

-- The reading of a block, with the lent buffer before and after the call. A block of n bytes stands at the front of the data d where
-- `Stands n`; its strip has `needed` bytes and shows the entries `shown n`. Each number is answered exactly when its condition holds
-- and none before it does: 2, 3, then absent, then 5. Where a block is found, the buffer's first bytes read as its entries, which lie in
-- the block and give back the bytes they name; in all other cases the buffer is as it was.
pub record BlockHost (d : List ℕ) (o : ℕ) (Stands : ℕ → Type 0) (needed : ℕ) (shown : ℕ → List Entry) (before after : List ℕ) (r : ℕ) : Type 0 where
  pub two : (number_in r ≡ 2) ↔ TooMuch d
  pub three : (number_in r ≡ 3) ↔ ((TooMuch d → ⊥) × TooFar o)
  pub absent : (r ≡ 0) ↔ ((TooMuch d → ⊥) × (TooFar o → ⊥) × ((n : ℕ) → Stands n → ⊥))
  pub five : (number_in r ≡ 5) ↔ ((TooMuch d → ⊥) × (TooFar o → ⊥) × ((n : ℕ) × Stands n) × (length before < needed))
  pub found : (n : ℕ) → ((number_in r ≡ 0) × (block_in r ≡ n) × (0 < n)) ↔ ((TooMuch d → ⊥) × (TooFar o → ⊥) × Stands n × (needed ≤ length before))
  pub no_other : (number_in r ≡ 0) ⊎ (number_in r ≡ 2) ⊎ (number_in r ≡ 3) ⊎ (number_in r ≡ 5)
  pub length_of : ((0 < block_in r) ⊎ (number_in r ≡ 5)) → result_in r ≡ needed
  pub no_length : ((number_in r ≡ 2) ⊎ (number_in r ≡ 3)) → result_in r ≡ 0
  pub no_block : (number_in r ≡ 0 → ⊥) → block_in r ≡ 0
  pub strip : 0 < block_in r → GivesBack d o (take (result_in r) after) (shown (block_in r)) × Laid anything o (o + block_in r) (shown (block_in r)) × OpeningsCount (shown (block_in r))
  pub past : 0 < block_in r → drop (result_in r) after ≡ drop (result_in r) before
  pub left : block_in r ≡ 0 → after ≡ before
  pub as_long : length after ≡ length before

-- The answer r to an update of LSAs with the rows rs that is taken against a lent table of rows, with the table before and after
-- the call. The result is the rows replaced, and above the number are those added. Refused, nothing is changed and both are 0;
-- accepted, the LSAs were taken one after another, those added are the new identities, however listed, and no two used rows share
-- an identity. Whatever is answered: a used row stays used, and of its identity; each row is as it was or one of the LSAs'; a
-- used row whose identity no LSA has is as it was.
pub record BookAnswer (v : ℕ) (d : List ℕ) (o : ℕ) (rs before after : List Row) (r : ℕ) : Type 0 where
  pub numbers : BookNumbers v d o rs before (number_in r)
  pub refused : (number_in r ≡ 0 → ⊥) → (after ≡ before) × (result_in r ≡ 0) × (block_in r ≡ 0)
  pub takes : number_in r ≡ 0 → TakesAll rs before after (result_in r) (block_in r)
  pub additions : number_in r ≡ 0 → (ns : List Row) → NewIdentities before rs ns → block_in r ≡ length ns
  pub unique : number_in r ≡ 0 → Twice after → ⊥
  pub at_most : result_in r + block_in r ≤ length rs
  pub stays : (i : ℕ) → Used (row_at before i) → Used (row_at after i) × Same (row_at before i) (row_at after i)
  pub each : (i : ℕ) → (row_at after i ≡ row_at before i) ⊎ Memᴰ (row_at after i) rs
  pub others : (i : ℕ) → Used (row_at before i) → ((x : Row) → Memᴰ x rs → Same x (row_at before i) → ⊥) → row_at after i ≡ row_at before i
  pub as_long : length after ≡ length before

-- The same where the LSAs are those of the cut, with their rows by its bytes. There is a list of the new identities.
pub record BookHost (v : ℕ) (d : List ℕ) (count o : ℕ) (before after : List Row) (r : ℕ) : Type 0 where
  pub spans : List Span
  pub end : ℕ
  pub tail : ℕ
  pub lsas : List Row
  pub identities : List Row
  pub is_cut : (TooLittle d 4 → ⊥) → CutInto (RecordAt d) (length d) 4 count spans end tail
  pub rows : LsaRows v d spans lsas
  pub new : NewIdentities before lsas identities
  pub answer : BookAnswer v d o lsas before after r
