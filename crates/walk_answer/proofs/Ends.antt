-- The three ways that a walk ends: it refuses the call; the strip that it measured has no room; or it has written it.
use Prim.Native.Nat.{ℕ, ◌≤◌, ◌<◌}
use native.Mathlib.Omega.{arith}
use mathlib.Core.Bool.{Bool, true, false, cond}
use mathlib.Core.List.{List}
use mathlib.Core.Path.{◌≡◌, refl}
use lib.ListN.{length}
use lib.Dec.{eqb, ltb}
use borrow.Author.Tests.{eq-eqb, ne_eqb, eqb-true, lt-ltb, le-ltb}
use Rattle.std.proofs.lemmas.List.Edits.{sets}
use Rattle.std.specs.Prelude.{Result, Ok, Err}
use Rattle.format.specs.Strip.{Entry, encode}
use Rattle.format.specs.Walks.{Outcome, unless, answer_of, strip_of, refusal, max_data, max_offset}
use Rattle.format.specs.Walks.Outcome.{accepted}
use Rattle.refusal.specs.Numbers.{number_of, needed_of}
use Rattle.refusal.proofs.Numbers.{number_positive}
use Rattle.refusal.specs.declared.Refusal.{Refusal}
use Rattle.refusal.specs.declared.Refusal.TheVariants.{NoRoom}
use Rattle.walk_answer.specs.declared.Answer.{Answer}
use Rattle.walk_answer.specs.Answers.{Promised}

-- The call is refused.
pub ends_refused : (n : ℕ) (x : Outcome) (before : List ℕ) (r : Refusal) → number_of r ≡ n → needed_of r ≡ 0 → Promised (unless n x) before (Err r) before
unfolding unless answer_of strip_of
ends_refused n x before r e z =
    let h = number_positive r in
    let f = ne_eqb n 0 (λ q. omega arith) in
    record { value = rw (f, z, e) refl; strip_after = rw f refl; length_bound = omega (arith, z) }

-- It is not.
pub goes_on : (n : ℕ) (x : Outcome) {before after : List ℕ} {r : Result Answer Refusal} → n ≡ 0 → Promised x before r after → Promised (unless n x) before r after
unfolding unless
goes_on n x e h = rw (eq-eqb n 0 e) h

module _ (es : List Entry) (records tail : ℕ) (before : List ℕ) {l : ℕ} (measured : l ≡ length (encode es)) (small : l < 4294967296) where
  pub ends_full : length before < l → Promised (accepted es records tail) before (Err (NoRoom l)) before
  unfolding answer_of strip_of
  ends_full h =
      let f = lt-ltb (length before) (length (encode es)) (omega arith) in
      record { value = rw (f, ← measured) refl; strip_after = rw f refl; length_bound = small }

  pub ends_done : {after : List ℕ} → l ≤ length before → after ≡ sets before 0 (encode es) → Promised (accepted es records tail) before (Ok (record { length = l; records = records; tail = tail })) after
  unfolding answer_of strip_of
  ends_done h w =
      let f = le-ltb (length before) (length (encode es)) (omega arith) in
      record { value = rw (f, ← measured) refl; strip_after = rw f w; length_bound = small }

-- A version that is not refused, and is not 2, is 3.
pub version_3 : (v : ℕ) (d : List ℕ) (o least : ℕ) → refusal v d o least ≡ 0 → (v ≡ 2 → ⊥) → v ≡ 3
version_3 v d o least h n = go (eqb v 3) refl (rw (ne_eqb v 2 n) at h)
  where
    go : (k : Bool) → eqb v 3 ≡ k → ◌≡◌ {A = ℕ} (cond k (cond (ltb max_data (length d)) 2 (cond (ltb max_offset o) 3 (cond (ltb (length d) least) 4 0))) 1) 0 → v ≡ 3
    go true e q = eqb-true v 3 e
    go false e q = absurd (omega arith)
