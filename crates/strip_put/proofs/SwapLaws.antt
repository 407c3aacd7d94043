-- The bytes of a reversed number, least significant first, are those of the number, most significant first. So a number can be
-- stored in one step on a machine that stores the least significant byte first.
use Prim.Native.Nat.{ℕ, zero, suc, ◌+◌, ◌*◌, ◌/◌, ◌%◌, ◌<◌}
use native.Mathlib.Omega.{arith}
use mathlib.Core.Path.{◌≡◌, refl}
use lib.ListN.{get_or}
use mathlib.Core.List.{List, [], ◌∷◌, ◌++◌}
use Rattle.format.specs.Bytes.{be16, be32, be64}
use Rattle.std.specs.Int.{w16, w32, w64, to_le_bytes, swap_bytes}
use Rattle.std.proofs.lemmas.Nat.{le_bytes_2, le_bytes_4, le_bytes_8}
use Rattle.strip_put.specs.Swap.{swap16, swap32, swap64, le16, le32, le64}

-- the parts of a number made of two, of 16 and of 32 bits
low16 : (a b : ℕ) → b < 65536 → (a * 65536 + b) % 65536 ≡ b
low16 a b h = omega arith

high16 : (a b : ℕ) → b < 65536 → (a * 65536 + b) / 65536 ≡ a
high16 a b h = omega arith

low32 : (a b : ℕ) → b < 4294967296 → (a * 4294967296 + b) % 4294967296 ≡ b
low32 a b h = omega arith

high32 : (a b : ℕ) → b < 4294967296 → (a * 4294967296 + b) / 4294967296 ≡ a
high32 a b h = omega arith

pub bound16 : (x : ℕ) → x < 65536 → swap16 x < 65536
unfolding swap16
bound16 x h = omega arith

pub bound32 : (x : ℕ) → x < 4294967296 → swap32 x < 4294967296
unfolding swap32
bound32 x h =
    let a = bound16 (x % 65536) (omega arith) in
    let b = bound16 (x / 65536) (omega arith) in
    omega arith

-- the two bytes of a reversed number of 16 bits
first16 : (x : ℕ) → x < 65536 → swap16 x % 256 ≡ x / 256
unfolding swap16
first16 x h = omega arith

second16 : (x : ℕ) → x < 65536 → swap16 x / 256 ≡ x % 256
unfolding swap16
second16 x h = omega arith

pub swapped16 : (x : ℕ) → x < 65536 → le16 (swap16 x) ≡ be16 x
swapped16 x h = rw (first16 x h, second16 x h)

-- the two halves of a reversed number of 32 bits
first32 : (x : ℕ) → x < 4294967296 → swap32 x % 65536 ≡ swap16 (x / 65536)
unfolding swap32
first32 x h = low16 (swap16 (x % 65536)) (swap16 (x / 65536)) (bound16 (x / 65536) (omega arith))

second32 : (x : ℕ) → x < 4294967296 → swap32 x / 65536 ≡ swap16 (x % 65536)
unfolding swap32
second32 x h = high16 (swap16 (x % 65536)) (swap16 (x / 65536)) (bound16 (x / 65536) (omega arith))

pub swapped32 : (x : ℕ) → x < 4294967296 → le32 (swap32 x) ≡ be32 x
swapped32 x h =
    let q : x / 65536 < 65536 = omega arith in
    let r : x % 65536 < 65536 = omega arith in
    rw (first32 x h, second32 x h, first16 (x / 65536) q, second16 (x / 65536) q, first16 (x % 65536) r, second16 (x % 65536) r)

-- the same for two numbers of 32 bits, the first in the high half of one of 64
first64 : (s e : ℕ) → s < 4294967296 → e < 4294967296 → swap64 (s * 4294967296 + e) % 4294967296 ≡ swap32 s
unfolding swap64
first64 s e h k = rw (low32 s e k, high32 s e k) (low32 (swap32 e) (swap32 s) (bound32 s h))

second64 : (s e : ℕ) → s < 4294967296 → e < 4294967296 → swap64 (s * 4294967296 + e) / 4294967296 ≡ swap32 e
unfolding swap64
second64 s e h k = rw (low32 s e k, high32 s e k) (high32 (swap32 e) (swap32 s) (bound32 s h))

pub swapped_pair : (s e : ℕ) → s < 4294967296 → e < 4294967296 → le64 (swap64 (s * 4294967296 + e)) ≡ be32 s ++ be32 e
swapped_pair s e h k = rw (first64 s e h k, second64 s e h k) (ap2 (swapped32 s h) (swapped32 e k))
  where
    ap2 : {a b c d : List ℕ} → a ≡ b → c ≡ d → a ++ c ≡ b ++ d
    ap2 p q = rw (p, q)

-- the range of the n bytes from p on of what begins at o, as a sum of parts
as_pair : (o p n : ℕ) → o * 4294967297 + (p * 4294967297 + n) ≡ (o + p) * 4294967296 + (o + p + n)
as_pair o p n = omega arith

pub swapped_range : (o p n : ℕ) → o + (p + n) < 4294967296 → le64 (swap64 (o * 4294967297 + (p * 4294967297 + n))) ≡ be32 (o + p) ++ be32 (o + p + n)
swapped_range o p n h = rw (as_pair o p n) (swapped_pair (o + p) (o + p + n) (omega arith) (omega arith))

-- The same in the library's words.
small_2 : {a b : ℕ} → a < 256 → b < 256 → (i : ℕ) → get_or (a ∷ b ∷ []) i 0 < 256
small_2 p q zero = p
small_2 p q (suc zero) = q
small_2 p q (suc (suc i)) = omega arith

small_4 : {a b c d : ℕ} → a < 256 → b < 256 → c < 256 → d < 256 → (i : ℕ) → get_or (a ∷ b ∷ c ∷ d ∷ []) i 0 < 256
small_4 p q r s zero = p
small_4 p q r s (suc zero) = q
small_4 p q r s (suc (suc zero)) = r
small_4 p q r s (suc (suc (suc zero))) = s
small_4 p q r s (suc (suc (suc (suc i)))) = omega arith

small_8 : {a b c d e f g h : ℕ} → a < 256 → b < 256 → c < 256 → d < 256 → e < 256 → f < 256 → g < 256 → h < 256
    → (i : ℕ) → get_or (a ∷ b ∷ c ∷ d ∷ e ∷ f ∷ g ∷ h ∷ []) i 0 < 256
small_8 p q r s t u v w zero = p
small_8 p q r s t u v w (suc zero) = q
small_8 p q r s t u v w (suc (suc zero)) = r
small_8 p q r s t u v w (suc (suc (suc zero))) = s
small_8 p q r s t u v w (suc (suc (suc (suc i)))) = small_4 t u v w i

pub stored16 : (n : ℕ) → n < 65536 → to_le_bytes w16 (swap_bytes w16 n) ≡ be16 n
stored16 n h = le_bytes_2 (be16 n) (swap_bytes w16 n) refl (small_2 (omega arith) (omega arith)) (omega arith)

pub stored32 : (n : ℕ) → n < 4294967296 → to_le_bytes w32 (swap_bytes w32 n) ≡ be32 n
stored32 n h = le_bytes_4 (be32 n) (swap_bytes w32 n) refl (small_4 (omega arith) (omega arith) (omega arith) (omega arith)) (omega arith)

pub stored64 : (n : ℕ) → n < 18446744073709551616 → to_le_bytes w64 (swap_bytes w64 n) ≡ be64 n
stored64 n h =
    le_bytes_8 (be64 n) (swap_bytes w64 n) refl
    (small_8 (omega arith) (omega arith) (omega arith) (omega arith) (omega arith) (omega arith) (omega arith) (omega arith))
    (omega arith)

-- Two numbers of 32 bits are stored as one of 64, the first in its high half.
pub stored_pair : (s e : ℕ) → e < 4294967296 → be64 (s * 4294967296 + e) ≡ be32 s ++ be32 e
stored_pair s e h = rw (high32 s e h, low32 s e h) refl
