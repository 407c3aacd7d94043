-- How numbers and addresses are written, digit by digit, and how long they are.
use Prim.Native.Nat.{ℕ, zero, suc, ◌+◌, ◌-◌, ◌/◌, ◌%◌, ◌≤◌, ◌<◌}
use native.Mathlib.Nat.{add-zero}
use native.Mathlib.Omega.{arith}
use mathlib.Core.Path.{◌≡◌, refl}
use mathlib.Core.Logic.{◌⊎◌}
use mathlib.Core.Bool.{Bool, true, false, cond}
use mathlib.Core.List.{List, [], ◌∷◌, ◌++◌}
use lib.ListN.{length, length-append, set}
use lib.Dec.{ltb}
use borrow.Author.Tests.{lt-ltb, le-ltb}
use Rattle.format.specs.Wrote.{Wrote}
use Rattle.format.proofs.Wrote.{then}
use Rattle.format.specs.Print.{digits, hex_digit, hex, spaced, dot, place, dotted}
use Rattle.std.proofs.lemmas.Grind.{common_steps}

pub digits_one : (k n : ℕ) → (k ≡ 0) ⊎ (n < 10) → digits k n ≡ (48 + n % 10) ∷ []
unfolding digits
digits_one zero n h = refl
digits_one (suc k) n h = rw (lt-ltb n 10 (grind arith))

pub digits_more : (k n : ℕ) → 0 < k → 10 ≤ n → digits k n ≡ digits (k - 1) (n / 10) ++ ((48 + n % 10) ∷ [])
unfolding digits
digits_more zero n p h = absurd (omega arith)
digits_more (suc k) n p h = let q : suc k - 1 ≡ k = omega arith in rw (q, digits, le-ltb n 10 h)

pub length_digits : (k n : ℕ) → length (digits k n) ≤ k + 1
unfolding digits
length_digits zero n = omega arith
length_digits (suc k) n = pick (length_digits k (n / 10)) (ltb n 10)
  where
    pick : length (digits k (n / 10)) ≤ k + 1 → (t : Bool) → length (cond t ((48 + n % 10) ∷ []) (digits k (n / 10) ++ ((48 + n % 10) ∷ []))) ≤ suc k + 1
    pick ih true = omega arith
    pick ih false = rw length-append (omega arith)

pub hex_more : (k n : ℕ) → 0 < k → hex k n ≡ hex (k - 1) (n / 16) ++ (hex_digit (n % 16) ∷ [])
unfolding hex
hex_more zero n p = absurd (omega arith)
hex_more (suc k) n p = let q : suc k - 1 ≡ k = omega arith in rw q

pub length-hex : (k n : ℕ) → length (hex k n) ≡ k
unfolding hex
length-hex zero n = refl
length-hex (suc k) n = rw (length-append, length-hex k (n / 16)) (omega arith)

-- a digit after those that are written, and none yet
pub one_more : {l l' : List ℕ} {a a' : ℕ} {xs : List ℕ} (x : ℕ) → Wrote l a xs l' a' → Wrote l a (xs ++ (x ∷ [])) (set l' a' x) (a' + 1)
one_more x w = then w (record { place = omega arith; contents = refl })

pub none_yet : {l l' : List ℕ} {a a' : ℕ} → l' ≡ l → a' ≡ a → Wrote l a [] l' a'
none_yet e f = record { place = rw add-zero f; contents = e }

-- a number after a space, and one before a dot
pub length-spaced : (n : ℕ) → length (spaced n) ≤ 21
length-spaced n = let h = length_digits 19 n in omega arith

pub length-dot : (n : ℕ) → length (dot n) ≤ 21
length-dot n = let h = length_digits 19 n in rw length-append (omega arith)

pub length-place : (i s e : ℕ) → length (place i s e) ≤ 63
length-place i s e =
    let a = length-spaced i in
    let b = length-spaced s in
    let c = length-spaced e in
    rw (length-append, length-append) (omega arith)

pub length-dotted : (a : ℕ) → length (dotted a) ≤ 83
length-dotted a =
    let p = length-dot (a / 16777216) in
    let q = length-dot (a / 65536 % 256) in
    let r = length-dot (a / 256 % 256) in
    let s = length_digits 19 (a % 256) in
    let f = length-append (dot (a / 16777216)) (dot (a / 65536 % 256) ++ (dot (a / 256 % 256) ++ digits 19 (a % 256))) in
    let g = length-append (dot (a / 65536 % 256)) (dot (a / 256 % 256) ++ digits 19 (a % 256)) in
    let h = length-append (dot (a / 256 % 256)) (digits 19 (a % 256)) in
    omega arith

-- What the search goes by where it shows that there is room.
pub ruleset lengths = (common_steps, length_digits, length-hex, length-spaced, length-dot)
