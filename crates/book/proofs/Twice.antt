-- Rows gone through in their order, with a bit set for the identity of each used one: no two of them share an identity.
use Prim.Native.Nat.{ℕ, ◌+◌, ◌<◌}
use native.Mathlib.Omega.{arith}
use mathlib.Core.Path.{◌≡◌, refl, sym, ap, ◌∙◌}
use mathlib.Core.Bool.{Bool, true, false}
use mathlib.Core.List.{List, map}
use lib.ListN.{length, get_or, take}
use Rattle.std.proofs.lemmas.List.{get_or-map, get_or-take, take-map, length-map, length-take}
use Rattle.std.specs.List.{list_any}
use Rattle.format.specs.Book.{Row, is_free, is_of, is_twice}
use Rattle.format.specs.Takes.{Used, Same, HasAt, Twice, no_row, row_at}
use Rattle.format.proofs.Book.{same_swap, passed, failed, truth}
use Rattle.format.proofs.BookRefusals.{twice}
use Rattle.format.proofs.Identities.{has}
use Rattle.format.proofs.Takes.{within}
use Rattle.format.proofs.Decided.{Decided, equal}
use Rattle.format.proofs.Decided.Decided.{holds, fails}
use Rattle.book.specs.Filter.{is_set, bit_of}
use Rattle.book.specs.Rows.{meaning}
use Rattle.book.specs.declared.row.Row as code
use Rattle.book.proofs.Places.{any_rows}

pub record Met (ws : List ℕ) (t : List Row) (n : ℕ) : Type 0 where
  pub apart : (i j : ℕ) → i < j → j < n → Used (row_at t i) → HasAt t (row_at t i) j → ⊥
  pub seen : (i : ℕ) → i < n → Used (row_at t i) → is_set ws (bit_of (row_at t i)) ≡ true

pub met_none : (ws : List ℕ) (t : List Row) → Met ws t 0
met_none ws t = record { apart = λ i j l h. absurd (omega arith); seen = λ i h. absurd (omega arith) }

-- One row more, unused, or used with an identity that none before it has.
met_next : (ws us : List ℕ) (t : List Row) (n : ℕ) → Met ws t n → ((m : ℕ) → is_set ws m ≡ true → is_set us m ≡ true) → (Used (row_at t n) → is_set us (bit_of (row_at t n)) ≡ true)
    → (Used (row_at t n) → (i : ℕ) → i < n → Used (row_at t i) → Same (row_at t i) (row_at t n) → ⊥) → Met us t (n + 1)
met_next ws us t n m k s f = record { apart = λ i j l h. pair i j (equal j n) l h; seen = λ i h. each i (equal i n) h }
  where
    pair : (i j : ℕ) {b : Bool} → Decided (j ≡ n) b → i < j → j < n + 1 → Used (row_at t i) → HasAt t (row_at t i) j → ⊥
    pair i j (holds e) l h u w = f (rw e at w.0) i (omega arith) u (rw e at w.1)
    pair i j (fails e) l h u w = m.apart i j l (omega arith) u w

    each : (i : ℕ) {b : Bool} → Decided (i ≡ n) b → i < n + 1 → Used (row_at t i) → is_set us (bit_of (row_at t i)) ≡ true
    each i (holds e) h u = rw e (s (rw e at u))
    each i (fails e) h u = k _ (m.seen i (omega arith) u)

pub met_all : (ws : List ℕ) (t : List Row) → Met ws t (length t) → is_twice t ≡ false
met_all ws t m = go (twice t)
  where
    go : {b : Bool} → Decided (Twice t) b → b ≡ false
    go (holds w) = absurd (m.apart w.0 w.1 w.2 (within t w.1 w.4.0) w.3 w.4)
    go (fails f) = refl

-- One identity, one bit.
one_bit : {r s : Row} → Same r s → bit_of r ≡ bit_of s
one_bit h = rw (h.version, h.ls_type, h.link_state_id, h.advertising_router) refl

-- A look back from a row at those before it.
module _ (xs : List code.Row) (i : ℕ) (d : code.Row) (h : i < length xs) where
  abbrev t : List Row
  t = map meaning xs

  abbrev before : List Row
  before = map meaning (take i xs)

  abbrev r : Row
  r = meaning (get_or xs i d)

  own : row_at t i ≡ r
  own = get_or-map meaning xs i d no_row h

  earlier : (j : ℕ) → j < i → row_at before j ≡ row_at t j
  earlier j l = ap (λ u. row_at u j) (sym (take-map meaning i xs)) ∙ get_or-take i t j no_row l

  pub twice_at : Used r → list_any (λ s. is_of r (meaning s)) (take i xs) ≡ true → is_twice t ≡ true
  twice_at u e = go (twice t)
    where
      w : (j : ℕ) × HasAt before r j
      w = passed (has before r) (sym (any_rows (is_of r) (take i xs)) ∙ e)

      l : w.0 < i
      l = omega (arith, within before w.0 w.1.0, length-map (take i xs) meaning, length-take i xs)

      go : {b : Bool} → Decided (Twice t) b → b ≡ true
      go (holds x) = refl
      go (fails f) = absurd (f (w.0, i, l, rw (earlier w.0 l) at w.1.0, (rw own u, rw own (same_swap (rw (earlier w.0 l) at w.1.1)))))

  alone : list_any (λ s. is_of r (meaning s)) (take i xs) ≡ false → (j : ℕ) → j < i → Used (row_at t j) → Same (row_at t j) (row_at t i) → ⊥
  alone e j l v a = failed (has before r) (sym (any_rows (is_of r) (take i xs)) ∙ e) (j, (rw (earlier j l) v, rw (earlier j l) (same_swap (rw own at a))))

  -- So one row more is gone through: unused, or with a bit that no row before it has set, or with no row of its identity before it.
  module _ (ws : List ℕ) (m : Met ws t i) where
    pub next_free : is_free r ≡ true → Met ws t (i + 1)
    next_free e =
        let no : Used (row_at t i) → ⊥ = λ u. u (passed (equal _ 0) (rw own e)) in
        met_next ws ws t i m (λ n k. k) (λ u. absurd (no u)) (λ u. absurd (no u))

    module _ (us : List ℕ) (k : (n : ℕ) → is_set ws n ≡ true → is_set us n ≡ true) (s : is_set us (bit_of r) ≡ true) where
      pub next_unset : is_set ws (bit_of r) ≡ false → Met us t (i + 1)
      next_unset e = met_next ws us t i m k (λ u. rw own s) (λ u j l v a. truth (sym (m.seen j l v) ∙ ap (is_set ws) (one_bit a ∙ ap bit_of own) ∙ e))

      pub next_alone : list_any (λ s. is_of r (meaning s)) (take i xs) ≡ false → Met us t (i + 1)
      next_alone e = met_next ws us t i m k (λ u. rw own s) (λ u j l v a. alone e j l v a)
