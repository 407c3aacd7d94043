use Rattle.std.proofs.Common.{◌≡◌, ℕ, ◌+◌, ◌*◌, ◌/◌, ◌%◌, bit_and, nat_eq, eqb, not, arith, length}
use lib.ListN.{get_or}
use borrow.Author.Tests.{lt-ltb}
use Rattle.std.proofs.lemmas.Grind.{common_steps}
use Rattle.std.proofs.lemmas.Nat.Bits.{and_pow}
use Rattle.format.specs.V3.{external_end, external_lsa3}
use Rattle.util.proofs.Laws.{some_of}
use Rattle.v3_external.proofs.External.read.Goals as goal
use Rattle.v3_external.proofs.External.read.Goals.{After-len}

-- The bit F, by a mask and by a quotient.
bit_f : (x : ℕ) → not (nat_eq (bit_and x 2) 0) ≡ eqb (x / 2 % 2) 1
bit_f x = let e : bit_and x 2 ≡ x / 2 % 2 * 2 = and_pow x 1 in rw e (grind (arith, common_steps))

ends : (c : After-len) → 8 + c.in_ok-octets.octets + c.if-forwarding.end + c.if-tag.end + c.if-reference.end ≡ external_end c.args.body.bytes.now c.in_ok-octets.octets
ends c = grind (arith, common_steps, bit_f (get_or c.args.body.bytes.now 0 0))

pub returns-then-len-end : goal.returns-then-len-end
unfolding external_lsa3
returns-then-len-end c o =
    let b = c.args.body.bytes.now in
    let n = some_of _ _ _ c.fixed_prefix_fits.ensures.octets c.in_ok-octets.was in
    let e = ends (goal.at.returns-then-len-end c).After-len in
    rw (n, external_lsa3, lt-ltb (length b) (external_end b c.in_ok-octets.octets) (omega arith))

pub invariant_of-result-clause-forwarding_value : goal.invariant_of-result-clause-forwarding_value
invariant_of-result-clause-forwarding_value c = bit_f _

pub invariant_of-result-clause-end_value : goal.invariant_of-result-clause-end_value
invariant_of-result-clause-end_value c = ends (goal.at.invariant_of-result-clause-end_value c).After-len
