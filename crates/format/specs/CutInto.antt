-- The cut in plain words, without a rule: when an entry stands at a place of a body, in the numbers of each list, and
-- when spans are the cut of a list.
use Rattle.std.specs.Prelude.{ℕ, ◌+◌, ◌*◌, ◌-◌, ◌%◌, ◌≤◌, ◌<◌, ◌≡◌, length, get_or}
use mathlib.Core.List.{List, [], ◌∷◌, Memᴰ}
use Rattle.format.specs.Cut.{Span}

-- An entry of n bytes stands at p, in a list whose entries all have one length, as headers have 20: it lies in the body.
pub record FixedAt (one : ℕ) (b : List ℕ) (p n : ℕ) : Type 0 where
  pub declared : n ≡ one
  pub inside : p + n ≤ length b

-- An LSA of n bytes stands at p: n is the length that it declares, in 16 bits at 18 (RFC 2328 A.4.1, RFC 5340 A.4.2), it
-- has 20 bytes or more, and it lies in the body.
pub record RecordAt (b : List ℕ) (p n : ℕ) : Type 0 where
  pub declared : n ≡ get_or b (p + 18) 0 * 256 + get_or b (p + 19) 0
  pub least : 20 ≤ n
  pub inside : p + n ≤ length b

-- A link of n bytes: 12, and 4 for each TOS metric, whose number is its byte 9 (RFC 2328 A.4.2).
pub record LinkAt (b : List ℕ) (p n : ℕ) : Type 0 where
  pub declared : n ≡ 12 + 4 * get_or b (p + 9) 0
  pub inside : p + n ≤ length b

-- A prefix of n bytes (RFC 5340 A.4.1): its length, the first byte, is at most 128 bits; after 4 bytes come whole words of
-- 32 bits, the fewest that hold so many bits.
pub record PrefixAt (b : List ℕ) (p n : ℕ) : Type 0 where
  pub most : get_or b p 0 ≤ 128
  pub least : 4 ≤ n
  pub words : (n - 4) % 4 ≡ 0
  pub enough : get_or b p 0 ≤ (n - 4) * 8
  pub fewest : (n - 4) * 8 < get_or b p 0 + 32
  pub inside : p + n ≤ length b

-- Spans end to end from p to q.
pub data EndToEnd : ℕ → List Span → ℕ → Type 0 where
  done : {p : ℕ} → EndToEnd p [] p
  next : {p q : ℕ} {s : Span} {ss : List Span} → s.at ≡ p → EndToEnd (p + s.len) ss q → EndToEnd p (s ∷ ss) q

-- The cut of a body of `size` bytes into a list's entries and a tail: entries end to end from the first place to `end`, no
-- more than the count, each of which stands where it is; then the tail, to the body's end; and, short of the count, no
-- entry stands where the tail begins.
pub record CutInto (standsAt : ℕ → ℕ → Type 0) (size first count : ℕ) (ss : List Span) (end tail : ℕ) : Type 0 where
  pub end_to_end : EndToEnd first ss end
  pub most : length ss ≤ count
  pub each : (s : Span) → Memᴰ s ss → standsAt s.at s.len
  pub rest : end + tail ≡ size
  pub stopped : length ss < count → (n : ℕ) → standsAt end n → ⊥
