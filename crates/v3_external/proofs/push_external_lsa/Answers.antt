use native.Mathlib.Omega.{arith}
use borrow.Author.Tests.{le-ltb}
use lib.ListN.{length}
use Prim.Native.Nat.{ℕ, ◌+◌}
use mathlib.Core.Path.{sym, ap, ◌∙◌}
use Rattle.format.proofs.Direct.{direct_external3}
use Rattle.format.proofs.Wrote.{encode-append}
use Rattle.format.specs.V3.{external_flags, external_prefix, external_end, external_lsa3}
use Rattle.body.proofs.Laws.{pushed_decoded}
use Rattle.strip_put.proofs.Laws.{then}
use Rattle.v3_external.proofs.push_external_lsa.Goals as goal

pub returns : goal.returns
returns c =
    let x = c.in-Some.external in
    let b = x.body in
    rw (← c.in-Some.ensures)
    (unfold external_lsa3 in rw (x.octets_value, external_lsa3, le-ltb (length b.bytes.now) (external_end b.bytes.now x.octets) (omega arith))
    (pushed_decoded _ _ _ _ (ap (λ (k : ℕ). 9 + k) c.count_optional.ensures.count_value ∙ sym (direct_external3 b.bytes.now b.offset x.octets)) x.end_value
    (rw (encode-append (external_flags b.bytes.now b.offset), encode-append (external_prefix b.bytes.now b.offset _))
    (then c.push_flags.ensures (then c.push_prefix.ensures c.push_optional.ensures)))))
