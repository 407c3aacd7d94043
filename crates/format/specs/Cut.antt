-- The cut of a body into entries end to end, for any rule that says how long an entry is; and the rules of the three
-- lists that are cut by a count: the LSAs of an update, the links of a Router-LSA, and prefixes.
use Rattle.std.specs.Prelude.{ℕ, zero, suc, ◌+◌, ◌*◌, ◌≤◌, ◌<◌, ◌≡◌, cond, List, [], ◌∷◌, length, get_or, leb}
use Rattle.std.proofs.Math.Option.{Option, none, some}
use Rattle.format.specs.Bytes.{be16_at}
use Rattle.format.specs.Prefix.{octets}
use Rattle.format.specs.Header.{header_size}

-- Where an entry lies.
pub record Span : Type 0 where
  pub at : ℕ
  pub len : ℕ

-- The length of the entry that stands at a place of a body, if one does.
abbrev pub Rule : Type 0
Rule = List ℕ → ℕ → Option ℕ

-- Entries end to end from p, at most as many as the count.
unfoldable pub cut : Rule → List ℕ → ℕ → ℕ → List Span
cut r b zero p = []
cut r b (suc k) p = elim (r b p) [ none ↦ [] | some n ↦ record { at = p; len = n } ∷ cut r b k (p + n) ]

-- The place after the last of them.
unfoldable pub after : ℕ → List Span → ℕ
after p [] = p
after p (s ∷ ss) = after (p + s.len) ss

-- Spans that are end to end from p, each as long as the entry that stands there.
pub data Stands (r : Rule) (b : List ℕ) : ℕ → List Span → Type 0 where
  done : {p : ℕ} → Stands r b p []
  next : {p : ℕ} {s : Span} {ss : List Span} → s.at ≡ p → r b p ≡ some s.len → Stands r b (p + s.len) ss → Stands r b p (s ∷ ss)

-- What makes spans the cut of b from p under a count.
pub record IsCut (r : Rule) (b : List ℕ) (count p : ℕ) (ss : List Span) : Type 0 where
  pub most : length ss ≤ count
  pub stands : Stands r b p ss
  pub full : length ss < count → r b (after p ss) ≡ none

-- An entry of a declared length stands at p unless fewer bytes than the least are left, the length is below the least,
-- or the entry would run past the body's end.
abbrev pub fitting : ℕ → List ℕ → ℕ → ℕ → Option ℕ
fitting least b p n = cond (leb least n) (cond (leb (p + n) (length b)) (some n) none) none

unfoldable pub standing : ℕ → Rule → Rule
standing least declared b p = cond (leb (p + least) (length b)) (elim (declared b p) [ none ↦ none | some n ↦ fitting least b p n ]) none

-- RFC 2328 A.4.1 and RFC 5340 A.4.2: the length of an LSA is the 16 bits at 18 of its header.
abbrev pub record_rule : Rule
record_rule = standing header_size (λ b p. some (be16_at b (p + 18)))

-- RFC 2328 A.4.2: a link has 12 bytes, and 4 for each TOS metric, whose number is its byte 9.
abbrev pub link_rule : Rule
link_rule = standing 12 (λ b p. some (12 + get_or b (p + 9) 0 * 4))

-- RFC 5340 A.4.1: a prefix has 4 bytes before its octets. Above 128 bits there is no entry.
abbrev pub prefix_rule : Rule
prefix_rule = standing 4 (λ b p. elim (octets (get_or b p 0)) [ none ↦ none | some n ↦ some (4 + n) ])

-- Entries of one length n.
abbrev pub fixed_rule : ℕ → Rule
fixed_rule n = standing n (λ b p. some n)
