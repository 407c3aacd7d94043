-- Places where a call is turned down: the table of the requirements, in its own numbers. Each number is answered exactly
-- when its condition holds and none before it does, and in no other case.
use Rattle.std.specs.Prelude.{ℕ, ◌+◌, ◌-◌, ◌/◌, ◌%◌, ◌^◌, ◌≤◌, ◌<◌, ◌≡◌, ◌↔◌, ◌⊎◌, length, get_or, take, drop}
use mathlib.Core.List.{List, [], ◌∷◌, Memᴰ}
use Rattle.format.specs.Strip.{Entry, entry_at, step_at}
use Rattle.format.specs.Strip.Step.{entry, end, refused}
use Rattle.format.specs.Prefix.{comparison}
use Rattle.format.specs.Prefix.Comparison.{same, different, refused as incomparable}
use Rattle.format.specs.Part.{part_number, part_place, part_of}
use Rattle.format.specs.Bytes.{be16_at}
use Rattle.format.specs.Header.{Reading, Newness}
use Rattle.format.specs.Header.Reading.{header, refused as not_read}
use Rattle.format.specs.Header.Newness.{first, second, same as alike, refused as too_old}
use Rattle.format.specs.Walks.{Answer, answer_of}
use Rattle.format.specs.Book.{Row}
use Rattle.format.specs.Takes.{Used, Twice, Outnumbered}
use Rattle.format.specs.Print.{named_walk}

-- Each walk. 1: the version is neither 2 nor 3; 2: more than 65,535 bytes of data; 3: an offset above 4,294,901,760; 4: fewer
-- bytes than the walk's least.
abbrev pub NoVersion : ℕ → Type 0
NoVersion v = (v ≡ 2 → ⊥) × (v ≡ 3 → ⊥)

abbrev pub TooMuch : List ℕ → Type 0
TooMuch d = 65535 < length d

abbrev pub TooFar : ℕ → Type 0
TooFar o = 4294901760 < o

abbrev pub TooLittle : List ℕ → ℕ → Type 0
TooLittle d least = length d < least

-- The number of a walk that needs `least` bytes, in a lent buffer of `room`, where the whole strip has the length `needed`.
-- 5: it is longer than the buffer.
pub record Numbers (v : ℕ) (d : List ℕ) (o least room needed number : ℕ) : Type 0 where
  pub one : (number ≡ 1) ↔ NoVersion v
  pub two : (number ≡ 2) ↔ ((NoVersion v → ⊥) × TooMuch d)
  pub three : (number ≡ 3) ↔ ((NoVersion v → ⊥) × (TooMuch d → ⊥) × TooFar o)
  pub four : (number ≡ 4) ↔ ((NoVersion v → ⊥) × (TooMuch d → ⊥) × (TooFar o → ⊥) × TooLittle d least)
  pub five : (number ≡ 5) ↔ ((NoVersion v → ⊥) × (TooMuch d → ⊥) × (TooFar o → ⊥) × (TooLittle d least → ⊥) × (room < needed))
  pub zero : (number ≡ 0) ↔ ((NoVersion v → ⊥) × (TooMuch d → ⊥) × (TooFar o → ⊥) × (TooLittle d least → ⊥) × (needed ≤ room))
  pub no_other : number ≤ 5

-- Its answer: the strip's length on 0, the length needed on 5, and else zeros.
pub record Refusals (v : ℕ) (d : List ℕ) (o least room needed : ℕ) (a : Answer) : Type 0 where
  pub numbers : Numbers v d o least room needed a.number
  pub length_of : ((a.number ≡ 0) ⊎ (a.number ≡ 5)) → a.size ≡ needed
  pub no_length : (a.number ≡ 0 → ⊥) → (a.number ≡ 5 → ⊥) → a.size ≡ 0
  pub no_records : (a.number ≡ 0 → ⊥) → (a.records ≡ 0) × (a.tail ≡ 0)

-- An update that is taken against a table t, by the rows rs of its LSAs. 1 to 4 as above. 11: an LSA's age or a used row's is above
-- 3,600; 14: two used rows share an identity; 15: the LSAs have more distinct new identities than the table has unused rows.
abbrev pub Walked : ℕ → List ℕ → ℕ → Type 0
Walked v d o = (NoVersion v → ⊥) × (TooMuch d → ⊥) × (TooFar o → ⊥) × (TooLittle d 4 → ⊥)

abbrev pub TooOld : (rs t : List Row) → Type 0
TooOld rs t = ((r : Row) × Memᴰ r rs × (3600 < r.age)) ⊎ ((r : Row) × Memᴰ r t × Used r × (3600 < r.age))

pub record BookNumbers (v : ℕ) (d : List ℕ) (o : ℕ) (rs t : List Row) (number : ℕ) : Type 0 where
  pub one : (number ≡ 1) ↔ NoVersion v
  pub two : (number ≡ 2) ↔ ((NoVersion v → ⊥) × TooMuch d)
  pub three : (number ≡ 3) ↔ ((NoVersion v → ⊥) × (TooMuch d → ⊥) × TooFar o)
  pub four : (number ≡ 4) ↔ ((NoVersion v → ⊥) × (TooMuch d → ⊥) × (TooFar o → ⊥) × TooLittle d 4)
  pub eleven : (number ≡ 11) ↔ (Walked v d o × TooOld rs t)
  pub fourteen : (number ≡ 14) ↔ (Walked v d o × (TooOld rs t → ⊥) × Twice t)
  pub fifteen : (number ≡ 15) ↔ (Walked v d o × (TooOld rs t → ⊥) × (Twice t → ⊥) × Outnumbered rs t)
  pub zero : (number ≡ 0) ↔ (Walked v d o × (TooOld rs t → ⊥) × (Twice t → ⊥) × (Outnumbered rs t → ⊥))
  pub no_other : (number ≤ 4) ⊎ (number ≡ 11) ⊎ (number ≡ 14) ⊎ (number ≡ 15)

-- The kinds are 1 to 10, and their bodies have these bytes.
abbrev pub body_bytes : List ℕ
body_bytes = 13 ∷ 0 ∷ 10 ∷ 11 ∷ 13 ∷ 13 ∷ 25 ∷ 9 ∷ 9 ∷ 17 ∷ []

abbrev pub Kind : ℕ → Type 0
Kind k = (1 ≤ k) × (k ≤ 10)

-- Where the entry at p ends, by the kind that stands there.
abbrev pub entry_end : List ℕ → ℕ → ℕ
entry_end s p = p + 1 + get_or body_bytes (get_or s p 0 - 1) 0

-- The strip reader. 6: a place beyond the strip's length; only a place equal to it is the end; 7: the kind byte is no
-- kind; 8: the entry's body is cut by the strip's end.
pub record Steps (s : List ℕ) (p : ℕ) : Type 0 where
  pub six : (step_at s p ≡ refused 6) ↔ (length s < p)
  pub ends : (step_at s p ≡ end) ↔ (p ≡ length s)
  pub seven : (step_at s p ≡ refused 7) ↔ ((p < length s) × (Kind (get_or s p 0) → ⊥))
  pub eight : (step_at s p ≡ refused 8) ↔ ((p < length s) × Kind (get_or s p 0) × (length s < entry_end s p))
  pub gives : (x : Entry) (q : ℕ) → (step_at s p ≡ entry x q) ↔ ((p < length s) × Kind (get_or s p 0) × (entry_end s p ≤ length s) × (x ≡ entry_at (get_or s p 0) s (p + 1)) × (q ≡ entry_end s p))
  pub no_other : (n : ℕ) → step_at s p ≡ refused n → (n ≡ 6) ⊎ (n ≡ 7) ⊎ (n ≡ 8)

-- The part of a packet of these bytes, whose first is at the place o. 9: the start is below the offset, the end below the
-- start, or the end beyond offset and length; then the part is the empty one at the packet's front.
pub record Parts (packet : List ℕ) (o s e : ℕ) : Type 0 where
  pub nine : (part_number (length packet) o s e ≡ 9) ↔ ((s < o) ⊎ (e < s) ⊎ (o + length packet < e))
  pub zero : (part_number (length packet) o s e ≡ 0) ↔ ((o ≤ s) × (s ≤ e) × (e ≤ o + length packet))
  pub empty : part_number (length packet) o s e ≡ 9 → (part_of packet o s e ≡ []) × (part_place (length packet) o s e ≡ 0)
  pub there : part_number (length packet) o s e ≡ 0 → (part_of packet o s e ≡ take (e - s) (drop (s - o) packet)) × (part_place (length packet) o s e ≡ s - o)

-- Bit i of an address: eight to a byte, the one of the weight 128 first. And that the first n bits of two addresses agree.
abbrev pub bit : List ℕ → ℕ → ℕ
bit a i = get_or a (i / 8) 0 / 2 ^ (7 - i % 8) % 2

abbrev pub Agree : ℕ → List ℕ → List ℕ → Type 0
Agree n a b = (i : ℕ) → i < n → bit a i ≡ bit b i

-- The prefix comparison. 10: either length is above 128. Prefixes are the same where the lengths agree and so do the first bits,
-- as many as the length says.
pub record Compares (l : ℕ) (a : List ℕ) (m : ℕ) (b : List ℕ) : Type 0 where
  pub ten : (comparison l a m b ≡ incomparable 10) ↔ ((128 < l) ⊎ (128 < m))
  pub are_same : (comparison l a m b ≡ same) ↔ ((l ≤ 128) × (m ≤ 128) × (l ≡ m) × Agree l a b)
  pub are_different : (comparison l a m b ≡ different) ↔ ((l ≤ 128) × (m ≤ 128) × (l ≡ m → Agree l a b → ⊥))
  pub no_other : (n : ℕ) → comparison l a m b ≡ incomparable n → n ≡ 10

-- The number of a header that is read by version and bytes, and of newness, 0 where there is no refusal.
abbrev pub read_number : Reading → ℕ
read_number (header h) = 0
read_number (not_read n) = n

abbrev pub newness_number : Newness → ℕ
newness_number first = 0
newness_number second = 0
newness_number alike = 0
newness_number (too_old n) = n

-- A header. 1: the version is neither 2 nor 3; 4: fewer than 20 bytes.
pub record ReadRefusals (v : ℕ) (b : List ℕ) (number : ℕ) : Type 0 where
  pub one : (number ≡ 1) ↔ NoVersion v
  pub four : (number ≡ 4) ↔ (((v ≡ 2) ⊎ (v ≡ 3)) × (length b < 20))
  pub zero : (number ≡ 0) ↔ (((v ≡ 2) ⊎ (v ≡ 3)) × (length b < 20 → ⊥))

-- Newness of two such headers. 11: either age, the first two bytes, is above 3,600.
pub record NewnessRefusals (v : ℕ) (x y : List ℕ) (number : ℕ) : Type 0 where
  pub one : (number ≡ 1) ↔ NoVersion v
  pub four : (number ≡ 4) ↔ (((v ≡ 2) ⊎ (v ≡ 3)) × ((length x < 20) ⊎ (length y < 20)))
  pub eleven : (number ≡ 11) ↔ (((v ≡ 2) ⊎ (v ≡ 3)) × (length x < 20 → ⊥) × (length y < 20 → ⊥) × ((3600 < be16_at x 0) ⊎ (3600 < be16_at y 0)))
  pub zero : (number ≡ 0) ↔ (((v ≡ 2) ⊎ (v ≡ 3)) × (length x < 20 → ⊥) × (length y < 20 → ⊥) × (3600 < be16_at x 0 → ⊥) × (3600 < be16_at y 0 → ⊥))

-- The program. 2: more than 2,050 bytes of input; 4: fewer than two; 12: the second byte is above 2; then the number of the walk that
-- is named, whose strip buffer has 65,536 bytes.
abbrev pub walk_number : List ℕ → ℕ
walk_number input = (answer_of (named_walk input) 65536).number

-- The conditions of the program's own refusals, in their order.
abbrev pub TooLong : List ℕ → Type 0
TooLong input = 2050 < length input

abbrev pub TooShort : List ℕ → Type 0
TooShort input = length input < 2

abbrev pub NoWalk : List ℕ → Type 0
NoWalk input = 2 < get_or input 1 0

-- Each is answered exactly when its condition holds and none before it does; then come the walk's.
pub record ProgramRefusals (input : List ℕ) (number : ℕ) : Type 0 where
  pub two : (number ≡ 2) ↔ TooLong input
  pub four : (number ≡ 4) ↔ ((TooLong input → ⊥) × (TooShort input ⊎ ((TooShort input → ⊥) × (NoWalk input → ⊥) × (walk_number input ≡ 4))))
  pub twelve : (number ≡ 12) ↔ ((TooLong input → ⊥) × (TooShort input → ⊥) × NoWalk input)
  pub walks : (TooLong input → ⊥) → (TooShort input → ⊥) → (NoWalk input → ⊥) → number ≡ walk_number input
