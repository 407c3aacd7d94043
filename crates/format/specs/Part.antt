-- The part of a packet that a kind 8 entry names by its range; and what a strip gives back of the data it was made from.
use Rattle.std.specs.Prelude.{ℕ, ◌+◌, ◌-◌, ◌≡◌, Bool, false, cond, length, ltb, leb}
use mathlib.Core.List.{List, [], ◌∷◌, ◌++◌, Memᴰ}
use Rattle.format.specs.Bytes.{part}
use Rattle.format.specs.Strip.{Entry, step_at}
use Rattle.format.specs.Strip.Entry.{bytes}
use Rattle.format.specs.Strip.Step.{entry, end}
use Rattle.format.specs.Laid.{Laid, anything}

-- Whether the places from start to end lie in a packet of n bytes whose first byte is at the place offset.
unfoldable pub lies_in : (n offset start end : ℕ) → Bool
lies_in n o s e = cond (ltb s o) false (cond (ltb e s) false (leb e (o + n)))

-- The number that is asked for. 9: the places do not lie in the packet.
unfoldable pub part_number : (n offset start end : ℕ) → ℕ
part_number n o s e = cond (lies_in n o s e) 0 9

-- Where the part begins in the packet: at its front where it is refused.
unfoldable pub part_place : (n offset start end : ℕ) → ℕ
part_place n o s e = cond (lies_in n o s e) (s - o) 0

-- The part itself, and the empty one where it is refused.
unfoldable pub part_of : List ℕ → (offset start end : ℕ) → List ℕ
part_of packet o s e = cond (lies_in (length packet) o s e) (part packet (s - o) (e - s)) []

-- The places from s to e name a part of the data d, whose first byte is at the place o: it is accepted, and it is those
-- bytes; also out of a packet that has the data after its front, and whose own first byte is at the place base.
pub record Names (d : List ℕ) (o s e : ℕ) : Type 0 where
  pub number : part_number (length d) o s e ≡ 0
  pub part_is : part_of d o s e ≡ part d (s - o) (e - s)
  pub size : length (part_of d o s e) ≡ e - s
  pub packet_number : (front back : List ℕ) (base : ℕ) → base + length front ≡ o → part_number (length (front ++ (d ++ back))) base s e ≡ 0
  pub packet_part : (front back : List ℕ) (base : ℕ) → base + length front ≡ o → part_of (front ++ (d ++ back)) base s e ≡ part d (s - o) (e - s)

-- The entries that the steps of the strip reader give from a place on until the end, with no refusal on the way.
pub data Reads (strip : List ℕ) : (place : ℕ) → List Entry → Type 0 where
  ends : {p : ℕ} → step_at strip p ≡ end → Reads strip p []
  steps : {p q : ℕ} {x : Entry} {es : List Entry} → step_at strip p ≡ entry x q → Reads strip q es → Reads strip p (x ∷ es)

-- A strip reads as the entries es, which are laid out in the places of the data d at the place o; and each of those of kind
-- 8 names a part of the data.
pub record GivesBack (d : List ℕ) (o : ℕ) (strip : List ℕ) (es : List Entry) : Type 0 where
  pub reads : Reads strip 0 es
  pub laid : Laid anything o (o + length d) es
  pub parts : (i s e : ℕ) → Memᴰ (bytes i s e) es → Names d o s e
