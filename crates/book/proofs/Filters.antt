-- A bit that was set in a filter is set, and those set before are.
use Prim.Native.Nat.{ℕ, ◌*◌, ◌/◌, ◌%◌, ◌^◌, ◌<◌}
use native.Mathlib.Omega.{arith}
use mathlib.Core.Path.{◌≡◌, refl}
use mathlib.Core.Bool.{Bool, true}
use mathlib.Core.List.{List}
use lib.ListN.{length, get_or, set}
use lib.Seq.{get_or-set_same, get_or-set_other}
use Rattle.std.specs.Int.Bits.{bit_or}
use Rattle.std.specs.Int.{w64}
use Rattle.std.proofs.lemmas.Nat.Bits.{bit_at_set_same, bit_at_set_other}
use Rattle.format.proofs.Decided.{Decided, equal}
use Rattle.format.proofs.Decided.Decided.{holds, fails}
use Rattle.book.specs.Filter.{is_set}

module _ (ws : List ℕ) (n : ℕ) (h : n / 64 < length ws) where
  abbrev with_bit : List ℕ
  with_bit = set ws (n / 64) (bit_or (get_or ws (n / 64) 0) (1 * 2 ^ (n % 64) % 18446744073709551616))

  pub set_now : is_set with_bit n ≡ true
  set_now = rw (get_or-set_same ws (n / 64) (bit_or (get_or ws (n / 64) 0) (1 * 2 ^ (n % 64) % 18446744073709551616)) 0 h, bit_at_set_same w64 (get_or ws (n / 64) 0) (n % 64) (omega arith)) refl

  pub set_kept : (m : ℕ) → is_set ws m ≡ true → is_set with_bit m ≡ true
  set_kept m e = go (equal (m / 64) (n / 64)) (equal (m % 64) (n % 64))
    where
      go : {a b : Bool} → Decided (m / 64 ≡ n / 64) a → Decided (m % 64 ≡ n % 64) b → is_set with_bit m ≡ true
      go (holds f) (holds g) = rw (f, g) set_now
      go (holds f) (fails g) =
          rw (f, get_or-set_same ws (n / 64) (bit_or (get_or ws (n / 64) 0) (1 * 2 ^ (n % 64) % 18446744073709551616)) 0 h, bit_at_set_other w64 (get_or ws (n / 64) 0) (n % 64) (omega arith) (m % 64) g) (rw f at e)
      go (fails f) b = rw (get_or-set_other ws (n / 64) (m / 64) (bit_or (get_or ws (n / 64) 0) (1 * 2 ^ (n % 64) % 18446744073709551616)) 0 f) e
