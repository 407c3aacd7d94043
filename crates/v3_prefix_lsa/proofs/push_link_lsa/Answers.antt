use mathlib.Core.Bool.{false}
use native.Mathlib.Omega.{arith}
use mathlib.Core.Path.{sym}
use Rattle.std.proofs.Common.{rules}
use borrow.Author.Tests.{le-ltb}
use lib.ListN.{length}
use Rattle.format.specs.Strip.{code, encode}
use Rattle.format.specs.V3.{link_lsa, link_lsa_rows, link_prefixes, prefix, first_link_prefix}
use Rattle.format.proofs.Direct.{direct_listed, one_prefix}
use Rattle.body.proofs.Laws.{answered}
use Rattle.v3_prefix_lsa.proofs.push_link_lsa.Goals as goal

pub returns : goal.returns
unfolding code encode link_lsa
returns c =
    let b = c.args.body in
    let e = rw (c.read_be_u32-count.ensures) at c.push_prefixes-consumed.ensures.end_value in
    let n = direct_listed b.bytes.now b.offset link_lsa_rows 0 29 (prefix false b.bytes.now b.offset) first_link_prefix (λ s. one_prefix b.bytes.now b.offset s false) (link_prefixes b.bytes.now) in
    rw (le-ltb (length b.bytes.now) first_link_prefix (omega arith)) (record { answer = answered _ _ _ _ (sym n) e; wrote = search rules })
