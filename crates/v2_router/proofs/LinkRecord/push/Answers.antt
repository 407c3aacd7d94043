use Prim.Native.Nat.{◌+◌}
use native.Mathlib.Omega.{arith}
use mathlib.Core.Bool.{cond}
use mathlib.Core.Path.{◌≡◌, refl}
use borrow.Author.Tests.{ne_eqb}
use lib.Dec.{eqb}
use lib.ListN.{get_or}
use Rattle.format.proofs.Direct.{direct_link_inside}
use Rattle.format.proofs.Unique.{span}
use Rattle.v2_router.proofs.Links.{written}
use Rattle.v2_router.proofs.LinkRecord.push.Goals as goal
use Rattle.v2_router.proofs.LinkRecord.push.Goals.{then-num_tos-eq0, else-num_tos-eq0}

pub returns : goal.returns
returns c =
    let b = c.args.body in
    let tos = get_or b.bytes.now (c.args.p + 9) 0 in
    let arrays : c.if-num_tos-eq0.arrays ≡ cond (eqb tos 0) 0 1 = elim c.if-num_tos-eq0.branch [
      | then-num_tos-eq0 w ↦ let z : tos ≡ 0 = omega (arith, c.from-num_tos.ensures, w.if-num_tos-eq0.true) in rw (w.arrays-is, z) refl
      | else-num_tos-eq0 w ↦ rw (w.arrays-is, ne_eqb tos 0 (λ z. w.if-num_tos-eq0.false (omega (arith, c.from-num_tos.ensures, z)))) refl
    ] in
    let d = direct_link_inside b.bytes.now b.offset c.args.p c.args.n c.requires.stands in
    let h = rw (c.range.ensures.0, c.range.ensures.1) at c.begin_container.ensures in
    let m = rw c.from-num_tos.ensures at c.push_array_if_any.ensures.wrote in
    written b.bytes.now b.offset (span c.args.p c.args.n) _ (omega (arith, arrays, d)) h c.push_link_fields.ensures m c.end_container.ensures
