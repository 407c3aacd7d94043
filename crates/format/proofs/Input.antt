-- The program's input: what each of its bytes means, for all inputs, in the requirements' numbers.
use Prim.Native.Nat.{ℕ, suc, ◌+◌, ◌*◌, ◌≤◌, ◌<◌}
use native.Mathlib.Omega.{arith}
use mathlib.Core.Path.{◌≡◌, refl, ap}
use mathlib.Core.Bool.{false}
use mathlib.Core.List.{List, [], ◌∷◌}
use lib.ListN.{length}
use lib.Dec.{ltb}
use borrow.Author.Tests.{lt-ltb, le-ltb}
use Rattle.format.specs.Walks.{headers_of, update_of, lsa_of, walk_of, named_of}
use Rattle.format.specs.Walks.Outcome.{refused}
use Rattle.format.specs.Print.{program_of}
use Rattle.format.proofs.Bytes.{reads32}
use Rattle.format.proofs.Program.{walks_are}

-- At most 2,050 bytes: version, walk, data. The walk 0 is a header list, 1 an update whose count is its first four bytes (0 if they are
-- not there), 2 a single LSA; the offset is 0.
pub record InputMeans : Type 0 where
  pub too_much : (input : List ℕ) → 2050 < length input → program_of input ≡ refused 2
  pub no_version : program_of [] ≡ refused 4
  pub no_walk : (v : ℕ) → program_of (v ∷ []) ≡ refused 4
  pub no_such_walk : (v w : ℕ) (d : List ℕ) → length d ≤ 2048 → 2 < w → program_of (v ∷ w ∷ d) ≡ refused 12
  pub header_list_lem : (v : ℕ) (d : List ℕ) → length d ≤ 2048 → program_of (v ∷ 0 ∷ d) ≡ headers_of v d 0
  pub update : (v a b c e : ℕ) (d : List ℕ) → length d ≤ 2044
      → program_of (v ∷ 1 ∷ a ∷ b ∷ c ∷ e ∷ d) ≡ update_of v (a ∷ b ∷ c ∷ e ∷ d) (a * 16777216 + b * 65536 + c * 256 + e) 0
  pub update_uncounted : (v : ℕ) (d : List ℕ) → length d < 4 → program_of (v ∷ 1 ∷ d) ≡ update_of v d 0 0
  pub single_lsa : (v : ℕ) (d : List ℕ) → length d ≤ 2048 → program_of (v ∷ 2 ∷ d) ≡ lsa_of v d 0

-- With a version, a walk and no more data than that, the input is neither too long nor too short.
not_long : (d : List ℕ) → length d ≤ 2048 → ltb 2050 (suc (suc (length d))) ≡ false
not_long d h = le-ltb 2050 (suc (suc (length d))) (omega arith)

not_short : (d : List ℕ) → ltb (suc (suc (length d))) 2 ≡ false
not_short d = le-ltb (suc (suc (length d))) 2 (omega arith)

pub input_means : InputMeans
unfolding program_of walk_of named_of
input_means = record {
  too_much = λ input h. rw (lt-ltb 2050 (length input) h);
  no_version = refl;
  no_walk = λ v. refl;
  no_such_walk = λ v w d h k. rw (not_long d h, not_short d) ((walks_are v d _ 0).3 w k);
  header_list_lem = λ v d h. rw (not_long d h, not_short d);
  update = λ v a b c e d h.
      let x = a ∷ b ∷ c ∷ e ∷ d in
      rw (not_long x (omega arith), not_short x, le-ltb (length x) 4 (omega arith)) (ap (λ (n : ℕ). update_of v x n 0) (reads32 [] d a b c e));
  update_uncounted = λ v d h. rw (not_long d (omega arith), not_short d, lt-ltb (length d) 4 h);
  single_lsa = λ v d h. rw (not_long d h, not_short d);
}
