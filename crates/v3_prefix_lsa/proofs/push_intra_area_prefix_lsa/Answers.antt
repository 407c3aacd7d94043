use mathlib.Core.Bool.{true}
use native.Mathlib.Omega.{arith}
use mathlib.Core.Path.{sym}
use Rattle.std.proofs.Common.{rules}
use borrow.Author.Tests.{le-ltb}
use lib.ListN.{length}
use Rattle.format.specs.Strip.{code, encode}
use Rattle.format.specs.V3.{intra_area_prefix_lsa, intra_area_prefix_rows, area_prefixes, prefix, first_area_prefix}
use Rattle.format.proofs.Direct.{direct_listed, one_prefix}
use Rattle.body.proofs.Laws.{answered}
use Rattle.v3_prefix_lsa.proofs.push_intra_area_prefix_lsa.Goals as goal

pub returns : goal.returns
unfolding code encode intra_area_prefix_lsa
returns c =
    let b = c.args.body in
    let e = rw (c.from-count.ensures, c.read_be_u16.ensures) at c.push_prefixes-consumed.ensures.end_value in
    let n = direct_listed b.bytes.now b.offset intra_area_prefix_rows 0 29 (prefix true b.bytes.now b.offset) first_area_prefix (λ s. one_prefix b.bytes.now b.offset s true) (area_prefixes b.bytes.now) in
    rw (le-ltb (length b.bytes.now) first_area_prefix (omega arith)) (record { answer = answered _ _ _ _ (sym n) e; wrote = search rules })
