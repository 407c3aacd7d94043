-- The program: what it makes of its input, and the text that it prints. Text is a list of ASCII codes.
use Rattle.std.specs.Prelude.{ℕ, zero, suc, ◌+◌, ◌/◌, ◌%◌, cond, length, get_or, drop, ltb, eqb}
use mathlib.Core.List.{List, [], ◌∷◌, ◌++◌, flat_map}
use Rattle.format.specs.Bytes.{be32_at}
use Rattle.format.specs.Strip.{Entry}
use Rattle.format.specs.Strip.Entry.{opens, closes, u8, u16, u32, ip4, ip6, bytes, unreachable, u64}
use Rattle.format.specs.Walks.{Outcome, Answer, named_of, answer_of, first_lsa}
use Rattle.format.specs.Walks.Outcome.{refused, accepted}

-- The most bytes of input, and the room of the program's strip buffer.
abbrev pub max_input : ℕ
max_input = 2050

abbrev pub strip_room : ℕ
strip_room = 65536

-- An update's count is its first four bytes, 0 if they are not there.
abbrev pub count_of : List ℕ → ℕ
count_of d = cond (ltb (length d) first_lsa) 0 (be32_at d 0)

-- The walk that the second byte names, at the offset 0. 12: it names none.
abbrev pub named_walk : List ℕ → Outcome
named_walk input = named_of (get_or input 0 0) (get_or input 1 0) (drop 2 input) (count_of (drop 2 input)) 0

-- Version, walk, data. 2: too much input; 4: no version or no walk; then the refusals of the walk that is named.
unfoldable pub program_of : List ℕ → Outcome
program_of input =
    cond (ltb max_input (length input)) (refused 2)
    (cond (ltb (length input) 2) (refused 4)
    (named_walk input))

-- A number in decimal. The first argument is one less than the most digits.
unfoldable pub digits : ℕ → ℕ → List ℕ
digits zero n = (48 + n % 10) ∷ []
digits (suc k) n = cond (ltb n 10) ((48 + n % 10) ∷ []) (digits k (n / 10) ++ ((48 + n % 10) ∷ []))

-- Twenty digits hold every number of 64 bits.
abbrev pub decimal : ℕ → List ℕ
decimal n = digits 19 n

-- A number after a space.
abbrev pub spaced : ℕ → List ℕ
spaced n = 32 ∷ decimal n

-- The last k digits in base 16, in lower case.
abbrev pub hex_digit : ℕ → ℕ
hex_digit d = cond (ltb d 10) (48 + d) (87 + d)

unfoldable pub hex : ℕ → ℕ → List ℕ
hex zero n = []
hex (suc k) n = hex k (n / 16) ++ (hex_digit (n % 16) ∷ [])

-- The four bytes of an address in decimal, joined by dots.
abbrev pub dot : ℕ → List ℕ
dot n = decimal n ++ (46 ∷ [])

abbrev pub dotted : ℕ → List ℕ
dotted a = dot (a / 16777216) ++ (dot (a / 65536 % 256) ++ (dot (a / 256 % 256) ++ decimal (a % 256)))

-- Id, start and end.
abbrev pub place : ℕ → ℕ → ℕ → List ℕ
place i s e = spaced i ++ (spaced s ++ spaced e)

abbrev pub newline : List ℕ
newline = 10 ∷ []

-- The kind words.
abbrev pub open_word : List ℕ
open_word = 111 ∷ 112 ∷ 101 ∷ 110 ∷ []

abbrev pub close_word : List ℕ
close_word = 99 ∷ 108 ∷ 111 ∷ 115 ∷ 101 ∷ []

abbrev pub u8_word : List ℕ
u8_word = 117 ∷ 56 ∷ []

abbrev pub u16_word : List ℕ
u16_word = 117 ∷ 49 ∷ 54 ∷ []

abbrev pub u32_word : List ℕ
u32_word = 117 ∷ 51 ∷ 50 ∷ []

abbrev pub ip4_word : List ℕ
ip4_word = 105 ∷ 112 ∷ 52 ∷ []

abbrev pub ip6_word : List ℕ
ip6_word = 105 ∷ 112 ∷ 54 ∷ []

abbrev pub bytes_word : List ℕ
bytes_word = 98 ∷ 121 ∷ 116 ∷ 101 ∷ 115 ∷ []

abbrev pub unreachable_word : List ℕ
unreachable_word = 110 ∷ 101 ∷ 118 ∷ 101 ∷ 114 ∷ []

abbrev pub u64_word : List ℕ
u64_word = 117 ∷ 54 ∷ 52 ∷ []

-- Kind word, id, start and end.
abbrev pub field : List ℕ → ℕ → ℕ → ℕ → List ℕ
field word i s e = word ++ place i s e

-- An entry in words: its field, and the value or the count where it has one.
abbrev pub text : Entry → List ℕ
text (opens i s e n) = field open_word i s e ++ spaced n
text closes = close_word
text (u8 i s e v) = field u8_word i s e ++ spaced v
text (u16 i s e v) = field u16_word i s e ++ spaced v
text (u32 i s e v) = field u32_word i s e ++ spaced v
text (ip4 i s e a) = field ip4_word i s e ++ (32 ∷ dotted a)
text (ip6 i s e h l) = field ip6_word i s e ++ (32 ∷ (hex 16 h ++ hex 16 l))
text (bytes i s e) = field bytes_word i s e
text (unreachable i s e) = field unreachable_word i s e
text (u64 i s e v) = field u64_word i s e ++ spaced v

-- The line of an entry.
unfoldable pub line : Entry → List ℕ
line x = text x ++ newline

-- No line is longer.
abbrev pub line_room : ℕ
line_room = 160

abbrev pub ok_word : List ℕ
ok_word = 111 ∷ 107 ∷ []

abbrev pub refused_word : List ℕ
refused_word = 114 ∷ 101 ∷ 102 ∷ 117 ∷ 115 ∷ 101 ∷ 100 ∷ []

-- The first line: `ok`, records, tail, strip length; or `refused`, number, length needed or 0.
unfoldable pub first_line : Answer → List ℕ
first_line a = cond (eqb a.number 0)
    (ok_word ++ (spaced a.records ++ (spaced a.tail ++ (spaced a.size ++ newline))))
    (refused_word ++ (spaced a.number ++ (spaced a.size ++ newline)))

-- The entries whose lines follow.
abbrev pub shown_of : Outcome → (room : ℕ) → List Entry
shown_of (refused n) room = []
shown_of (accepted es r t) room = cond (eqb (answer_of (accepted es r t) room).number 0) es []

-- All that the program prints.
unfoldable pub printed : List ℕ → List ℕ
printed input = first_line (answer_of (program_of input) strip_room) ++ flat_map line (shown_of (program_of input) strip_room)
