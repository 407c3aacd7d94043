-- Where the containers of a strip lie.
use Rattle.std.specs.Prelude.{ℕ, ◌+◌, Bool, cond, List, [], ◌∷◌, ◌++◌, map, eqb}
use Rattle.format.specs.Strip.{Entry, Shape, content}
use Rattle.format.specs.Strip.Shape.{opening, closing, valued, numbered, ranged, costless}
use Rattle.format.specs.Cut.{Span}

-- Where a container begins and ends.
pub record Range : Type 0 where
  pub start : ℕ
  pub end : ℕ

abbrev pub range : ℕ → ℕ → Range
range s e = record { start = s; end = e }

-- The range of a container that begins, if it is the one asked for.
abbrev pub begun : Shape → Bool → Range → List Range
begun opening t r = cond t (r ∷ []) []
begun closing t r = []
begun valued t r = []
begun (numbered v) t r = []
begun ranged t r = []
begun costless t r = []

-- The range of an entry that opens a container with this id.
abbrev pub opened : ℕ → Entry → List Range
opened i x = begun (content x).shape (eqb i (content x).id) (range (content x).start (content x).end)

-- The ranges of the containers with this id, in their order.
unfoldable pub ranges : ℕ → List Entry → List Range
ranges i [] = []
ranges i (x ∷ xs) = opened i x ++ ranges i xs

-- The ranges of spans of a body whose first byte is at the place o.
abbrev pub placed : ℕ → List Span → List Range
placed o ss = map (λ (s : Span). range (o + s.at) (o + s.at + s.len)) ss
