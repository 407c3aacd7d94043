-- A number is what its bytes say.
use Prim.Native.Nat.{ℕ, ◌+◌, ◌*◌, ◌/◌, ◌%◌}
use native.Mathlib.Omega.{arith}
use native.Mathlib.Nat.{add_assoc}
use mathlib.Core.Path.{◌≡◌}
use mathlib.Core.List.{List, ◌∷◌, ◌++◌}
use lib.Seq.{get_or-append-add, get_or-append_seam}
use lib.ListN.{length}
use Rattle.format.specs.Bytes.{be16_at, be24_at, be32_at, be64_at}

-- The readers at any place: each byte after the front, by its weight.
module _ (front rest : List ℕ) where
  pub reads16 : (a b : ℕ) → be16_at (front ++ (a ∷ b ∷ rest)) (length front) ≡ a * 256 + b
  reads16 a b = simp (get_or-append-add, get_or-append_seam)

  pub reads24 : (a b c : ℕ) → be24_at (front ++ (a ∷ b ∷ c ∷ rest)) (length front) ≡ a * 65536 + b * 256 + c
  reads24 a b c = simp (add_assoc, get_or-append-add, get_or-append_seam) (omega arith)

  pub reads32 : (a b c d : ℕ) → be32_at (front ++ (a ∷ b ∷ c ∷ d ∷ rest)) (length front) ≡ a * 16777216 + b * 65536 + c * 256 + d
  reads32 a b c d = simp (add_assoc, get_or-append-add, get_or-append_seam) (omega arith)

  pub reads64 : (a b c d e f g h : ℕ) → be64_at (front ++ (a ∷ b ∷ c ∷ d ∷ e ∷ f ∷ g ∷ h ∷ rest)) (length front)
      ≡ a * 72057594037927936 + b * 281474976710656 + c * 1099511627776 + d * 4294967296 + e * 16777216 + f * 65536 + g * 256 + h
  reads64 a b c d e f g h = simp (add_assoc, get_or-append-add, get_or-append_seam) (omega arith)

-- One law for every width: the quotient and the remainder make the number again.
pub back16 : (n : ℕ) → n / 256 * 256 + n % 256 ≡ n
back16 n = omega arith

pub back32 : (n : ℕ) → (n / 65536 / 256 * 256 + n / 65536 % 256) * 65536 + (n % 65536 / 256 * 256 + n % 65536 % 256) ≡ n
back32 n = rw (back16 (n / 65536), back16 (n % 65536)) (omega arith)

pub back64 : (n : ℕ) → ((n / 4294967296 / 65536 / 256 * 256 + n / 4294967296 / 65536 % 256) * 65536 + (n / 4294967296 % 65536 / 256 * 256 + n / 4294967296 % 65536 % 256)) * 4294967296
    + ((n % 4294967296 / 65536 / 256 * 256 + n % 4294967296 / 65536 % 256) * 65536 + (n % 4294967296 % 65536 / 256 * 256 + n % 4294967296 % 65536 % 256)) ≡ n
back64 n = rw (back32 (n / 4294967296), back32 (n % 4294967296)) (omega arith)
