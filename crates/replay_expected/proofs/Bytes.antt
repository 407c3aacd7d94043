-- How a buffer is compared with what is stored of it.
use Prim.Native.Nat.{ℕ, ◌+◌, ◌-◌, ◌<◌}
use native.Mathlib.Numerals.{add-one}
use native.Mathlib.Omega.{arith}
use mathlib.Core.Path.{◌≡◌, ap, ◌∙◌}
use mathlib.Core.Bool.{Bool, true, false}
use mathlib.Core.List.{List, [], ◌∷◌, ◌++◌}
use lib.ListN.{length, take, drop, set, replicate-append-replicate}
use lib.Seq.{take-suc-set}
use lib.Dec.{eqb}
use lib.Pointwise.{pointwise}
use denote.Bor.{Bor}
use Rattle.std.specs.Prelude.{IsTrue, ◌↔◌}
use Rattle.std.specs.Option.{MatchOption}
use Rattle.std.specs.declared.option.Option.{Option}
use Rattle.std.proofs.Common.{None, Some}
use Rattle.format.specs.Bytes.{same_bytes}
use Rattle.format.proofs.SameBytes.{same_parts, pointwise_same, same_told}
use Rattle.replay_expected.specs.Expected.{lent}

-- What is left of a buffer behind the bytes of a prefix decides, if they stand at its front.
pub prefix_then : (s x : List ℕ) {r : Bool} (o : Option (Bor (List ℕ)))
    → MatchOption o (pointwise eqb (take (length x) s) x ≡ false) (λ p. (pointwise eqb (take (length x) s) x ≡ true) × (p.now ≡ drop (length x) s) × (length p.now + length x ≡ length s))
    → MatchOption o (r ≡ false) (λ p. IsTrue r ↔ (p.now ≡ lent (length p.now)))
    → r ≡ same_bytes s (x ++ lent (length s - length x))
prefix_then s x None front rest = rw (same_parts, ← pointwise_same (take (length x) s) x, front, rest)
prefix_then s x {r} (Some p) front rest =
    let n : length s - length x ≡ length p.now = omega (arith, front.2) in
    rw (same_parts, ← pointwise_same (take (length x) s) x, front.0, ← front.1, n) (same_told r p.now (lent (length p.now)) rest)

-- A buffer that is filled up to a place, filled one byte more.
pub filled_next : (s : List ℕ) (i : ℕ) → i < length s → take i s ≡ lent i → take (i + 1) (set s i 165) ≡ lent (i + 1)
filled_next s i h e =
    let r : lent i ++ (165 ∷ []) ≡ lent (i + 1) = replicate-append-replicate {A = ℕ} i 1 165 in
    let t : take (i + 1) (set s i 165) ≡ take i s ++ (165 ∷ []) = rw (add-one i) (take-suc-set s i 165 h) in
    t ∙ (ap (λ (l : List ℕ). l ++ (165 ∷ [])) e ∙ r)
