-- The ways that a reading ends: it refuses; no block is there; the block's strip has no room; or it has written it.
use Prim.Native.Nat.{ℕ, ◌≤◌, ◌<◌}
use native.Mathlib.Omega.{arith}
use mathlib.Core.Path.{◌≡◌, refl}
use mathlib.Core.List.{List}
use mathlib.Core.Option.{Option, none, some}
use lib.ListN.{length}
use borrow.Author.Tests.{ne_eqb, lt-ltb, le-ltb}
use Rattle.std.proofs.lemmas.List.Edits.{sets}
use Rattle.std.specs.Prelude as rust
use Rattle.format.specs.Strip.{Entry, encode}
use Rattle.format.specs.Trailer.{block_of, block_answer, block_strip}
use Rattle.refusal.proofs.Numbers.{number_positive}
use Rattle.refusal.specs.Numbers.{number_of, needed_of}
use Rattle.refusal.specs.declared.Refusal.{Refusal}
use Rattle.refusal.specs.declared.Refusal.TheVariants.{NoRoom}
use Rattle.trailer.specs.Answers.{Reads}

module _ (number : ℕ) (size : Option ℕ) (entries : ℕ → List Entry) (before : List ℕ) where
  pub refuses : (r : Refusal) → number_of r ≡ number → needed_of r ≡ 0 → Reads (block_of number size entries) before (rust.Err r) before
  unfolding block_of block_answer block_strip
  refuses r e z =
      let h = number_positive r in
      rw (ne_eqb number 0 (λ q. omega arith)) (record { value = rw (e, z) refl; strip_after = refl; small = omega (arith, z) })

  module _ (h : 0 ≡ number) where
    pub none_there : size ≡ none → Reads (block_of number size entries) before (rust.Ok rust.None) before
    unfolding block_of block_answer block_strip
    none_there e = rw (← h, e) (record { value = refl; strip_after = refl; small = omega arith })

    module _ {n l : ℕ} (e : size ≡ some n) (measured : length (encode (entries n)) ≡ l) (fits : l < 4294967296) where
      pub has_no_room : length before < l → Reads (block_of number size entries) before (rust.Err (NoRoom l)) before
      unfolding block_of block_answer block_strip
      has_no_room r =
          let f = lt-ltb (length before) l r in
          rw (← h, e) (record { value = rw (measured, f) refl; strip_after = rw (measured, f) refl; small = fits })

      pub is_written : n < 16777216 → l ≤ length before → {after : List ℕ} → after ≡ sets before 0 (encode (entries n))
          → Reads (block_of number size entries) before (rust.Ok (rust.Some (record { strip = l; block = n }))) after
      unfolding block_of block_answer block_strip
      is_written i r w =
          let f = le-ltb (length before) l r in
          rw (← h, e) (record { value = rw (measured, f) refl; strip_after = rw (measured, f) w; small = (fits, i) })
