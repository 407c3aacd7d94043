use native.Mathlib.Omega.{arith}
use borrow.Author.Tests.{le-ltb}
use lib.ListN.{length}
use Rattle.format.specs.Strip.{code, encode}
use Rattle.format.specs.V3.{tlv_lsa, tlvs}
use Rattle.format.proofs.Lengths.{length_both}
use Rattle.body.proofs.Laws.{same_decoded}
use Rattle.v3_lsa.proofs.measure.measure_tlv_lsa.Goals as goal

pub returns : goal.returns
unfolding tlv_lsa encode code
returns c = λ o es e.
    let b = c.args.body.bytes.now in
    rw (le-ltb (length b) c.args.n (omega (arith, c.len.ensures))) (same_decoded (omega (arith, length_both es (tlvs b o c.args.n))) c.len-2.ensures)
