-- Entries that are laid out in a range: every entry's start and end lie in it, in order, what is inside a container lies in the
-- container's own range, and the opening says how many entries are directly inside. So every place of a strip lies in the
-- container around it and in the data.
use Rattle.std.specs.Prelude.{ℕ, ◌-◌, ◌≤◌, ◌<◌, ◌≡◌, Bool, true, false, cond, List, [], ◌∷◌, ◌++◌, eqb}
use Rattle.std.proofs.Math.Option.{some}
use Rattle.format.specs.Inside.{scan}
use Rattle.format.specs.Strip.{Entry, Shape, content}
use Rattle.format.specs.Strip.Entry.{opens, closes, bytes}
use Rattle.format.specs.Strip.Shape.{opening, closing, valued, numbered, ranged, costless}

-- Whether an entry neither opens nor closes a container.
abbrev pub field_shape : Shape → Bool
field_shape opening = false
field_shape closing = false
field_shape valued = true
field_shape (numbered v) = true
field_shape ranged = true
field_shape costless = true

abbrev pub is_field : Entry → Bool
is_field x = field_shape (content x).shape

-- The start and the end of an entry. A close has none.
abbrev pub start : Entry → ℕ
start x = (content x).start

abbrev pub end : Entry → ℕ
end x = (content x).end

-- Every field and every opening passes the test, and lies from lo to hi; each opening has its close, which scanning forward finds
-- with the number that the opening says, and what stands between the two lies in that container's range.
pub data Laid (has : Entry → Bool) : (lo hi : ℕ) → List Entry → Type 0 where
  none : {lo hi : ℕ} → Laid has lo hi []
  field : {lo hi : ℕ} {x : Entry} {es : List Entry} → is_field x ≡ true → has x ≡ true → lo ≤ start x → start x ≤ end x → end x ≤ hi → Laid has lo hi es → Laid has lo hi (x ∷ es)
  group : {lo hi : ℕ} {inside es : List Entry} (i s e n : ℕ) → has (opens i s e n) ≡ true → scan 0 0 (inside ++ (closes ∷ [])) ≡ some (n, []) → lo ≤ s → s ≤ e → e ≤ hi
      → Laid has s e inside → Laid has lo hi es → Laid has lo hi (opens i s e n ∷ (inside ++ (closes ∷ es)))

-- Whether an id is one of a list.
abbrev pub among : List ℕ → ℕ → Bool
among [] i = false
among (x ∷ xs) i = cond (eqb i x) true (among xs i)

-- Tests of entries: containers, kind 9 entries and kind 8 entries with these ids each, and every field that has a value. A
-- number of 32 bits with the id of a metric is not LSInfinity.
abbrev pub passes : (containers metrics ranges : List ℕ) → Shape → ℕ → Bool
passes c m r opening i = among c i
passes c m r closing i = true
passes c m r valued i = true
passes c m r (numbered v) i = cond (among m i) (cond (eqb v 16777215) false true) true
passes c m r ranged i = among r i
passes c m r costless i = among m i

abbrev pub only : (containers metrics ranges : List ℕ) → Entry → Bool
only c m r x = passes c m r (content x).shape (content x).id

-- A test of kind 9 entries alone.
abbrev pub reaches : (metrics : List ℕ) → Shape → ℕ → Bool
reaches m opening i = true
reaches m closing i = true
reaches m valued i = true
reaches m (numbered v) i = true
reaches m ranged i = true
reaches m costless i = among m i

abbrev pub unreachable_only : (metrics : List ℕ) → Entry → Bool
unreachable_only m x = reaches m (content x).shape (content x).id

-- A test that every entry passes.
abbrev pub anything : Entry → Bool
anything x = true

-- How the entries of an LSA end, and what its tail is. At most one entry is of kind 8: the last one, to the end of the
-- range, which all others lie before. Where it is the unparsed bytes, the tail is its length; a raw body or a tlvs range,
-- which have the ids r, is no tail. The containers have the ids c, and the kind 9 entries the ids m.
pub data Ending (c m r : List ℕ) (unparsed lo hi : ℕ) (es : List Entry) (tail : ℕ) : Type 0 where
  nothing_left : Laid (only c m []) lo hi es → tail ≡ 0 → Ending c m r unparsed lo hi es tail
  unparsed_left : (front : List Entry) (s : ℕ) → es ≡ front ++ (bytes unparsed s hi ∷ []) → Laid (only c m []) lo s front
      → lo ≤ s → s < hi → tail ≡ hi - s → Ending c m r unparsed lo hi es tail
  raw-or-tlvs : (front : List Entry) (i s : ℕ) → among r i ≡ true → es ≡ front ++ (bytes i s hi ∷ []) → Laid (only c m []) lo s front
      → lo ≤ s → s ≤ hi → tail ≡ 0 → Ending c m r unparsed lo hi es tail
