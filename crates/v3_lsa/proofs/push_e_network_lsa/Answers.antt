use native.Mathlib.Omega.{arith}
use mathlib.Core.Path.{sym, refl}
use Rattle.std.proofs.Common.{rules}
use borrow.Author.Tests.{le-ltb}
use lib.ListN.{length}
use Rattle.format.specs.Strip.{code, encode}
use Rattle.format.specs.V3.{tlv_lsa, network_rows}
use Rattle.format.proofs.Direct.{direct_tlvs}
use Rattle.body.proofs.Laws.{answered}
use Rattle.v3_lsa.proofs.push_e_network_lsa.Goals as goal

pub returns : goal.returns
unfolding code encode tlv_lsa
returns c =
    let b = c.args.body in
    let n = direct_tlvs b.bytes.now b.offset network_rows 4 in
    rw (le-ltb (length b.bytes.now) 4 (omega arith), c.push_tlv_body.ensures.answer) (record { answer = answered _ _ _ _ (sym n) refl; wrote = search rules })
