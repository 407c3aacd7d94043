-- Blocks after a packet: when one stands at the front of the data, and how a call ends.
use Prim.Native.Nat.{ℕ, ◌≤◌, ◌<◌}
use native.Mathlib.Omega.{arith}
use mathlib.Core.Path.{◌≡◌, refl}
use mathlib.Core.Bool.{Bool, true, false, cond}
use mathlib.Core.List.{List}
use mathlib.Core.Option.{Option, none, some}
use lib.ListN.{length}
use lib.Seq.{sets}
use lib.Dec.{ltb, eqb}
use borrow.Author.Tests.{ltb-true, ltb-false, eqb-true, eqb-false}
use Rattle.format.specs.Strip.{Entry, code, encode, container}
use Rattle.format.specs.Cut.{standing}
use Rattle.format.specs.Trailer.{Block, BlockAnswer, lls_header, lls_size, lls_rule, lls_entries, auth_trailer_header, auth_trailer_size, auth_trailer_rule, auth_trailer_entries, limit, block_of, block_answer, block_strip}
use Rattle.format.proofs.Rules.{inside as in_Body}
use Rattle.format.proofs.CutInto.{stands_where}
use Rattle.format.specs.Trailer.Block.{absent, found, refused}
use Rattle.format.specs.Trailer.BlockAnswer.{absent as answers_absent, found as answers_found, refused as answers_refused}

-- A block of this length, with this fixed part, stands in the data.
pub record Stands (fixed size : ℕ) (d : List ℕ) : Type 0 where
  pub covers : fixed ≤ size
  pub inside : size ≤ length d

-- So says the rule of the lists, at the front.
module _ (fixed : ℕ) (declared : List ℕ → ℕ → ℕ) (d : List ℕ) where
  abbrev pub front : Option ℕ
  front = standing fixed (λ b p. some (declared b p)) d 0

  pub stood : (n : ℕ) → front ≡ some n → (n ≡ declared d 0) × Stands fixed (declared d 0) d
  stood n e =
      let i = in_Body fixed (λ b p. some (declared b p)) d 0 n e in
      let z : n ≡ declared d 0 = cc i.length_declared in
      (z, record { covers = omega (arith, z, i.enough); inside = omega (arith, z, i.within) })

  pub stands_there : Stands fixed (declared d 0) d → front ≡ some (declared d 0)
  stands_there h = stands_where fixed (λ b p. some (declared b p)) d 0 (declared d 0) refl h.covers (omega (arith, h.inside))

  pub none_stands : (Stands fixed (declared d 0) d → ⊥) → front ≡ none
  none_stands h = go front refl
    where
      go : (x : Option ℕ) → front ≡ x → front ≡ none
      go none e = e
      go (some n) e = absurd (h (stood n e).1)

-- A block that stands has its fixed part, and lies in the data.
pub lls_stands : (d : List ℕ) (n : ℕ) → lls_rule d 0 ≡ some n → (lls_header ≤ n) × (n ≤ length d)
lls_stands d n e = let s = stood lls_header lls_size d n e in rw s.0 (s.1.covers, s.1.inside)

pub auth_trailer_stands : (d : List ℕ) (n : ℕ) → auth_trailer_rule d 0 ≡ some n → (auth_trailer_header ≤ n) × (n ≤ length d)
auth_trailer_stands d n e = let s = stood auth_trailer_header auth_trailer_size d n e in rw s.0 (s.1.covers, s.1.inside)

-- The strips, whatever the block's length.
pub lls_strip_length : (d : List ℕ) (o n : ℕ) → length (encode (lls_entries d o n)) ≡ 49
unfolding lls_entries container encode code
lls_strip_length d o n = refl

pub trailer_strip_length : (d : List ℕ) (o n : ℕ) → length (encode (auth_trailer_entries d o n)) ≡ 79
unfolding auth_trailer_entries container encode code
trailer_strip_length d o n = refl

-- A call that is not refused has data and offset within their limits.
pub within : (d : List ℕ) (o : ℕ) → limit d o ≡ 0 → (length d ≤ 65535) × (o ≤ 4294901760)
within d o e = go (ltb 65535 (length d)) refl (ltb 4294901760 o) refl e
  where
    go : (a : Bool) → ltb 65535 (length d) ≡ a → (b : Bool) → ltb 4294901760 o ≡ b → ◌≡◌ {A = ℕ} (cond a 2 (cond b 3 0)) 0 → (length d ≤ 65535) × (o ≤ 4294901760)
    go true p b q e = absurd (omega arith)
    go false p true q e = absurd (omega arith)
    go false p false q e = (ltb-false _ _ p, ltb-false _ _ q)

-- How a call ends, by its answer and the buffer after it: it is refused; no block is there; the block's strip has no room; or it
-- is written.
pub data Ends (number : ℕ) (size : Option ℕ) (entries : ℕ → List Entry) (before : List ℕ) : BlockAnswer → List ℕ → Type 0 where
  turned_down : (number ≡ 0 → ⊥) → Ends number size entries before (answers_refused number 0) before
  none_there : number ≡ 0 → size ≡ none → Ends number size entries before answers_absent before
  no_room : (n : ℕ) → number ≡ 0 → size ≡ some n → length before < length (encode (entries n))
      → Ends number size entries before (answers_refused 5 (length (encode (entries n)))) before
  written : (n : ℕ) → number ≡ 0 → size ≡ some n → length (encode (entries n)) ≤ length before
      → Ends number size entries before (answers_found (length (encode (entries n))) n) (sets before 0 (encode (entries n)))

module _ (number : ℕ) (size : Option ℕ) (entries : ℕ → List Entry) (before : List ℕ) where
  abbrev End : Block → Type 0
  End x = Ends number size entries before (block_answer x (length before)) (block_strip x before)

  is_refused : eqb number 0 ≡ false → block_of number size entries ≡ refused number
  unfolding block_of
  is_refused q = rw q

  is_absent : eqb number 0 ≡ true → size ≡ none → block_of number size entries ≡ absent
  unfolding block_of
  is_absent q p = rw (q, p)

  is_found : (n : ℕ) → eqb number 0 ≡ true → size ≡ some n → block_of number size entries ≡ found (entries n) n
  unfolding block_of
  is_found n q p = rw (q, p)

  pub ends : End (block_of number size entries)
  unfolding block_answer block_strip
  ends = go (eqb number 0) refl size refl
    where
      room : (n : ℕ) → eqb number 0 ≡ true → size ≡ some n → (t : Bool) → ltb (length before) (length (encode (entries n))) ≡ t → End (found (entries n) n)
      room n q p true r = rw r (no_room n (eqb-true number 0 q) p (ltb-true _ _ r))
      room n q p false r = rw r (written n (eqb-true number 0 q) p (ltb-false _ _ r))

      go : (t : Bool) → eqb number 0 ≡ t → (o : Option ℕ) → size ≡ o → End (block_of number size entries)
      go false q o p = rw (is_refused q) (turned_down (eqb-false number 0 q))
      go true q none p = rw (is_absent q p) (none_there (eqb-true number 0 q) p)
      go true q (some n) p = rw (is_found n q p) (room n q p (ltb (length before) (length (encode (entries n)))) refl)
