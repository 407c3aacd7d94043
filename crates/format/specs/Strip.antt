-- The strip: its entries, their bytes, and how they are read back.
use Rattle.std.specs.Prelude.{ℕ, zero, suc, ◌+◌, ◌-◌, ◌/◌, ◌%◌, cond, List, [], ◌∷◌, ◌++◌, length, get_or, leb, ltb, eqb}
use Rattle.std.proofs.Math.Option.{Option, none, some}
use Rattle.format.specs.Bytes.{be16, be32, be64, be16_at, be24_at, be32_at, be64_at}
use Rattle.format.specs.Metric.{Metric, metric_at}
use Rattle.format.specs.Metric.Metric.{cost, unreachable as infinite}

-- Field id, start and end come first in each, and then the value, or of an opening the number of entries directly inside. An
-- IPv4 address is the number of its four bytes, an IPv6 address the two numbers of its halves. A metric that is no cost has no value: it is unreachable.
pub data Entry : Type 0 where
  opens : (id start end entries : ℕ) → Entry
  closes : Entry
  u8 : (id start end value : ℕ) → Entry
  u16 : (id start end value : ℕ) → Entry
  u32 : (id start end value : ℕ) → Entry
  ip4 : (id start end address : ℕ) → Entry
  ip6 : (id start end high low : ℕ) → Entry
  bytes : (id start end : ℕ) → Entry
  unreachable : (id start end : ℕ) → Entry
  u64 : (id start end value : ℕ) → Entry

-- The kinds, each the first byte of an entry.
abbrev pub open_kind : ℕ
open_kind = 1

abbrev pub close_kind : ℕ
close_kind = 2

abbrev pub u8_kind : ℕ
u8_kind = 3

abbrev pub u16_kind : ℕ
u16_kind = 4

abbrev pub u32_kind : ℕ
u32_kind = 5

abbrev pub ip4_kind : ℕ
ip4_kind = 6

abbrev pub ip6_kind : ℕ
ip6_kind = 7

abbrev pub bytes_kind : ℕ
bytes_kind = 8

abbrev pub unreachable_kind : ℕ
unreachable_kind = 9

abbrev pub u64_kind : ℕ
u64_kind = 10

abbrev pub head : ℕ → ℕ → ℕ → List ℕ
head i s e = i ∷ (be32 s ++ be32 e)

-- What an entry is, whatever its kind: the start or the end of a container, a field with a value, a range alone, or a
-- metric without a cost. Of a number of 32 bits, which may be the cost of a metric, it says the value.
pub data Shape : Type 0 where
  opening : Shape
  closing : Shape
  valued : Shape
  numbered : (value : ℕ) → Shape
  ranged : Shape
  costless : Shape

-- What an entry says. The body is what follows the kind's byte.
pub record Content : Type 0 where
  pub kind : ℕ
  pub shape : Shape
  pub id : ℕ
  pub start : ℕ
  pub end : ℕ
  pub body : List ℕ

-- Every body but a close's begins with the id, the start and the end; the value, or an opening's count, follows.
abbrev says : ℕ → Shape → ℕ → ℕ → ℕ → List ℕ → Content
says k f i s e value = record { kind = k; shape = f; id = i; start = s; end = e; body = head i s e ++ value }

-- A row for each kind. A close has no id, start and end: the zeros say nothing.
abbrev pub content : Entry → Content
content (opens i s e n) = says open_kind opening i s e (be32 n)
content closes = record { kind = close_kind; shape = closing; id = 0; start = 0; end = 0; body = [] }
content (u8 i s e v) = says u8_kind valued i s e (v ∷ [])
content (u16 i s e v) = says u16_kind valued i s e (be16 v)
content (u32 i s e v) = says u32_kind (numbered v) i s e (be32 v)
content (ip4 i s e a) = says ip4_kind valued i s e (be32 a)
content (ip6 i s e h l) = says ip6_kind valued i s e (be64 h ++ be64 l)
content (bytes i s e) = says bytes_kind ranged i s e []
content (unreachable i s e) = says unreachable_kind costless i s e []
content (u64 i s e v) = says u64_kind valued i s e (be64 v)

-- An entry's bytes: its kind, then a body whose length the kind fixes.
unfoldable pub code : Entry → List ℕ
code x = (content x).kind ∷ (content x).body

-- The bytes of entries, one after another.
unfoldable pub encode : List Entry → List ℕ
encode [] = []
encode (x ∷ xs) = code x ++ encode xs

-- How many containers are open after an entry, where so many are open before it.
abbrev pub depth_after : Shape → ℕ → ℕ
depth_after opening d = suc d
depth_after closing d = d - 1
depth_after valued d = d
depth_after (numbered v) d = d
depth_after ranged d = d
depth_after costless d = d

-- The number of entries that stand directly in a list that is well nested: those before which none of its containers is open. So
-- a container counts once, by its opening; what is inside it does not count, and neither does its close. The first argument is
-- how many are open.
unfoldable pub direct : (depth : ℕ) → List Entry → ℕ
direct d [] = 0
direct d (x ∷ xs) = cond (eqb d 0) 1 0 + direct (depth_after (content x).shape d) xs

-- A container with what is inside it, whose number of direct entries its opening says. Nothing else opens or closes.
unfoldable pub container : ℕ → ℕ → ℕ → List Entry → List Entry
container i s e inside = opens i s e (direct 0 inside) ∷ (inside ++ (closes ∷ []))

-- Fields by where they lie: the bytes of b at p, the first byte of b being at the place o.
abbrev pub u8_at : ℕ → List ℕ → ℕ → ℕ → Entry
u8_at i b o p = u8 i (o + p) (o + p + 1) (get_or b p 0)

-- The bit of the byte at p that has the weight w.
abbrev pub bit_at : ℕ → List ℕ → ℕ → ℕ → ℕ → Entry
bit_at i b o p w = u8 i (o + p) (o + p + 1) (get_or b p 0 / w % 2)

-- The bits of the byte at p below the weight w.
abbrev pub low_bits_at : ℕ → List ℕ → ℕ → ℕ → ℕ → Entry
low_bits_at i b o p w = u8 i (o + p) (o + p + 1) (get_or b p 0 % w)

abbrev pub u16_at : ℕ → List ℕ → ℕ → ℕ → Entry
u16_at i b o p = u16 i (o + p) (o + p + 2) (be16_at b p)

-- A number of 24 bits that is no metric: an opaque id, or options. It has no kind of its own.
abbrev pub u24_at : ℕ → List ℕ → ℕ → ℕ → Entry
u24_at i b o p = u32 i (o + p) (o + p + 3) (be24_at b p)

-- A metric of 24 bits: a cost is shown as a number of 32.
abbrev pub metric_entry : (id start end : ℕ) → Metric → Entry
metric_entry i s e (cost v) = u32 i s e v
metric_entry i s e infinite = unreachable i s e

abbrev pub metric24_at : ℕ → List ℕ → ℕ → ℕ → Entry
metric24_at i b o p = metric_entry i (o + p) (o + p + 3) (metric_at b p)

-- A number of 16 bits that is shown as one of 32: a link's TOS metric, and a count of prefixes.
abbrev pub wide16_at : ℕ → List ℕ → ℕ → ℕ → Entry
wide16_at i b o p = u32 i (o + p) (o + p + 2) (be16_at b p)

abbrev pub u32_at : ℕ → List ℕ → ℕ → ℕ → Entry
u32_at i b o p = u32 i (o + p) (o + p + 4) (be32_at b p)

abbrev pub u64_at : ℕ → List ℕ → ℕ → ℕ → Entry
u64_at i b o p = u64 i (o + p) (o + p + 8) (be64_at b p)

abbrev pub ip4_at : ℕ → List ℕ → ℕ → ℕ → Entry
ip4_at i b o p = ip4 i (o + p) (o + p + 4) (be32_at b p)

-- The n bytes from p on, by their range alone.
abbrev pub bytes_at : ℕ → ℕ → ℕ → ℕ → Entry
bytes_at i o p n = bytes i (o + p) (o + p + n)

-- What stands at a place of a strip: an entry and the next place, the end, or a refusal's number.
pub data Step : Type 0 where
  entry : Entry → (next : ℕ) → Step
  end : Step
  refused : (number : ℕ) → Step

-- The kinds, and the lengths of their bodies.
abbrev pub bodies : List (ℕ × ℕ)
bodies =
    (open_kind, 13) ∷
    (close_kind, 0) ∷
    (u8_kind, 10) ∷
    (u16_kind, 11) ∷
    (u32_kind, 13) ∷
    (ip4_kind, 13) ∷
    (ip6_kind, 25) ∷
    (bytes_kind, 9) ∷
    (unreachable_kind, 9) ∷
    (u64_kind, 17) ∷
    []

abbrev pub length_in : List (ℕ × ℕ) → ℕ → Option ℕ
length_in [] k = none
length_in (b ∷ bs) k = cond (eqb k b.0) (some b.1) (length_in bs k)

-- The length of a kind's body.
abbrev pub body_length : ℕ → Option ℕ
body_length k = length_in bodies k

-- The entry of a kind with this id, start and end. Its value or count, if the kind has one, stands in the body at q after them.
abbrev pub entry_of_kind : (kind id start end : ℕ) → List ℕ → ℕ → Entry
entry_of_kind k i b e s q =
    cond (eqb k open_kind) (opens i b e (be32_at s (q + 9)))
    (cond (eqb k close_kind) closes
    (cond (eqb k u8_kind) (u8 i b e (get_or s (q + 9) 0))
    (cond (eqb k u16_kind) (u16 i b e (be16_at s (q + 9)))
    (cond (eqb k u32_kind) (u32 i b e (be32_at s (q + 9)))
    (cond (eqb k ip4_kind) (ip4 i b e (be32_at s (q + 9)))
    (cond (eqb k ip6_kind) (ip6 i b e (be64_at s (q + 9)) (be64_at s (q + 17)))
    (cond (eqb k bytes_kind) (bytes i b e)
    (cond (eqb k unreachable_kind) (unreachable i b e)
    (u64 i b e (be64_at s (q + 9)))))))))))

-- The entry of a kind whose body stands at q.
abbrev pub entry_at : ℕ → List ℕ → ℕ → Entry
entry_at k s q = entry_of_kind k (get_or s q 0) (be32_at s (q + 1)) (be32_at s (q + 5)) s q

-- What stands where the kind's byte has been read, and its body begins at q. 7: no kind; 8: the body is cut by the end.
abbrev pub body_at : ℕ → List ℕ → ℕ → Step
body_at k s q = elim (body_length k) [
  | none ↦ refused 7
  | some n ↦ cond (leb (q + n) (length s)) (entry (entry_at k s q) (q + n)) (refused 8)
]

-- The step of the strip reader. 6: the place is beyond the strip's length; then 7 and 8.
unfoldable pub step_at : List ℕ → ℕ → Step
step_at s p =
    cond (ltb (length s) p) (refused 6)
    (cond (eqb p (length s)) end
    (body_at (get_or s p 0) s (p + 1)))

-- The entries from a place to the strip's end, and nothing where a step is refused before that. The first argument
-- bounds the number of steps.
unfoldable pub read_from : ℕ → List ℕ → ℕ → Option (List Entry)
read_from zero s p = none
read_from (suc k) s p = elim (step_at s p) [
  | entry e q ↦ elim (read_from k s q) [ none ↦ none | some es ↦ some (e ∷ es) ]
  | end ↦ some []
  | refused n ↦ none
]

-- The whole strip. An entry has a byte at least, so one step more than there are bytes is enough.
unfoldable pub read_all : List ℕ → Option (List Entry)
read_all s = read_from (suc (length s)) s 0
