-- Of the words before this one the bits agree.
use Rattle.std.proofs.Common.{◌*◌}
use Rattle.format.specs.Refusals.{Agree}
use Rattle.tlv.proofs.same_bits.Given as goal

abbrev pub invariant-loop-i : goal.invariant-loop-i
invariant-loop-i l = Agree (l.i * 32) l.a l.b
