-- The three walks: a header list, a link-state update, a single LSA. What each makes of its data, or which refusal.
use Rattle.std.specs.Prelude.{ℕ, ◌+◌, ◌-◌, cond, List, ◌++◌, length, ltb, eqb}
use Rattle.std.proofs.Math.Option.{Option, none, some}
use Rattle.std.proofs.lemmas.List.Edits.{sets}
use Rattle.format.specs.Bytes.{part}
use Rattle.format.specs.Strip.{Entry, encode, container}
use Rattle.format.specs.Cut.{Span, cut, after, record_rule}
use Rattle.format.specs.Header.{header_size, header_entries2, header_entries3}
pub use Rattle.format.specs.Header.{is_known}
use Rattle.format.specs.Body.{listing, whole, leftover}
use Rattle.format.specs.V2.{lsa_entries2, lsa_tail2, unparsed_id2}
use Rattle.format.specs.V3.{lsa_entries3, lsa_tail3, unparsed_id3}

-- A choice on the version, 2 or 3.
abbrev pub header_entries : ℕ → List ℕ → ℕ → List Entry
header_entries v d o = cond (eqb v 2) (header_entries2 d o) (header_entries3 d o)

abbrev pub lsa_entries : ℕ → List ℕ → ℕ → List Entry
lsa_entries v d o = cond (eqb v 2) (lsa_entries2 d o) (lsa_entries3 d o)

abbrev pub lsa_tail : ℕ → List ℕ → ℕ
lsa_tail v d = cond (eqb v 2) (lsa_tail2 d) (lsa_tail3 d)

abbrev pub unparsed_id : ℕ → ℕ
unparsed_id v = cond (eqb v 2) unparsed_id2 unparsed_id3

-- A header in a header list, and an LSA in an update, each as an object around its entries.
unfoldable pub header_object : ℕ → List ℕ → ℕ → Span → List Entry
header_object v d o s = container 112 (o + s.at) (o + s.at + s.len) (header_entries v (part d s.at s.len) (o + s.at))

unfoldable pub lsa_object : ℕ → List ℕ → ℕ → Span → List Entry
lsa_object v d o s = container 113 (o + s.at) (o + s.at + s.len) (lsa_entries v (part d s.at s.len) (o + s.at))

-- The outer array of a list that begins at p, and the tail after it.
unfoldable pub outer : ℕ → (Span → List Entry) → List ℕ → ℕ → ℕ → List Span → List Entry
outer v f d o p ss = listing 114 f o p ss ++ leftover (unparsed_id v) d o (after p ss)

-- The headers of a list.
abbrev pub headers : List ℕ → List Span
headers d = whole header_size d 0

-- The first LSA of an update follows the number of LSAs (RFC 2328 A.3.5).
abbrev pub first_lsa : ℕ
first_lsa = 4

-- The LSAs of an update, under its count.
abbrev pub lsas : List ℕ → ℕ → List Span
lsas d count = cut record_rule d count first_lsa

-- The limits of a call: data of 16 bits of length, and an offset that keeps every place within 32 bits.
abbrev pub max_data : ℕ
max_data = 65535

abbrev pub max_offset : ℕ
max_offset = 4294901760

-- The number of the refusal of a call that needs this many bytes at least, 0 where there is none. 1: the version is
-- neither 2 nor 3; 2: too much data; 3: the offset is too large; 4: too little data.
abbrev pub refusal : (version : ℕ) → List ℕ → (offset least : ℕ) → ℕ
refusal v d o least =
    cond (is_known v)
    (cond (ltb max_data (length d)) 2
    (cond (ltb max_offset o) 3
    (cond (ltb (length d) least) 4
    0)))
    1

-- What a walk comes to, whatever the room: a refusal, or entries with the number of records and of tail bytes.
pub data Outcome : Type 0 where
  refused : (number : ℕ) → Outcome
  accepted : (entries : List Entry) (records tail : ℕ) → Outcome

unfoldable pub unless : ℕ → Outcome → Outcome
unless n x = cond (eqb n 0) x (refused n)

unfoldable pub headers_of : ℕ → List ℕ → ℕ → Outcome
headers_of v d o = unless (refusal v d o 0) (accepted (outer v (header_object v d o) d o 0 (headers d)) (length (headers d)) (length d - after 0 (headers d)))

unfoldable pub update_of : ℕ → List ℕ → (count : ℕ) → ℕ → Outcome
update_of v d count o = unless (refusal v d o first_lsa) (accepted (outer v (lsa_object v d o) d o first_lsa (lsas d count)) (length (lsas d count)) (length d - after first_lsa (lsas d count)))

unfoldable pub lsa_of : ℕ → List ℕ → ℕ → Outcome
lsa_of v d o = unless (refusal v d o header_size) (accepted (lsa_entries v d o) 1 (lsa_tail v d))

-- The walks, and the numbers that name them.
pub data Walk : Type 0 where
  header_list : Walk
  update : Walk
  single : Walk

abbrev pub walk_named : ℕ → Option Walk
walk_named n = cond (eqb n 0) (some header_list) (cond (eqb n 1) (some update) (cond (eqb n 2) (some single) none))

-- The count is an update's alone.
unfoldable pub walk_of : (version : ℕ) → Walk → List ℕ → (count offset : ℕ) → Outcome
walk_of v header_list d count o = headers_of v d o
walk_of v update d count o = update_of v d count o
walk_of v single d count o = lsa_of v d o

-- The walk that a number names. 12: it names none.
unfoldable pub named_of : (version walk : ℕ) → List ℕ → (count offset : ℕ) → Outcome
named_of v n d count o = elim (walk_named n) [ none ↦ refused 12 | some w ↦ walk_of v w d count o ]

-- A walk's answer.
pub record Answer : Type 0 where
  pub number : ℕ
  pub size : ℕ
  pub records : ℕ
  pub tail : ℕ

abbrev pub answer : ℕ → ℕ → ℕ → ℕ → Answer
answer n l r t = record { number = n; size = l; records = r; tail = t }

-- The answer where the lent buffer has this much room. 5: the whole strip is longer; then its length is answered too.
unfoldable pub answer_of : Outcome → (room : ℕ) → Answer
answer_of (refused n) room = answer n 0 0 0
answer_of (accepted es r t) room = cond (ltb room (length (encode es))) (answer 5 (length (encode es)) 0 0) (answer 0 (length (encode es)) r t)

-- The buffer after the call: the strip at its front, or as it was.
unfoldable pub strip_of : Outcome → List ℕ → List ℕ
strip_of (refused n) before = before
strip_of (accepted es r t) before = cond (ltb (length before) (length (encode es))) before (sets before 0 (encode es))
