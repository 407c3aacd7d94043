use Prim.Native.Nat.{◌+◌}
use lib.ListN.{drop}
use native.Mathlib.Omega.{arith}
use Rattle.body.proofs.Laws.{lsa_decoded, lsa_raw, pushed_is_decoded, pushed_is_raw}
use Rattle.lsa.specs.Whole.{whole}
use Rattle.lsa.proofs.push_lsa.Goals as goal

pub returns-in-Decoded-clause-wrote : goal.returns-in-Decoded-clause-wrote
unfolding whole
returns-in-Decoded-clause-wrote g c =
    let w = rw (c.rest-body.ensures.0, c.rest-body.ensures.1, c.UNPARSED.ensures) at c.push_unparsed-rest.ensures.wrote in
    lsa_decoded _ _ _ _ _ _ _ _ _ c.push_header-header.ensures.wrote c.push_body.ensures c.in-Decoded.is w

pub returns-in-Decoded-clause-entries_value : goal.returns-in-Decoded-clause-entries_value
returns-in-Decoded-clause-entries_value g c =
    let v = g.V.Version in
    let d = c.args.lsa.part.bytes.now in
    let o = c.args.lsa.part.offset in
    let p = pushed_is_decoded (v.body d o) _ _ _ c.push_body.ensures.answer c.in-Decoded.is in
    let u = rw (c.rest-body.ensures.0, c.rest-body.ensures.1, c.UNPARSED.ensures) at c.push_unparsed-rest.ensures.entries_value in
    let q = rw (p.1 v.BODY v.UNPARSED (drop 20 d) (o + 20)) at (g.met.V.Version.parts d o) in
    omega (arith, c.from.ensures, c.from-in-Decoded.ensures, c.from-in-Decoded-2.ensures, c.push_header-header.ensures.entries_value, p.0, u, q)

pub returns-in-Raw-clause-wrote : goal.returns-in-Raw-clause-wrote
unfolding whole
returns-in-Raw-clause-wrote g c =
    let w = rw (c.rest-body.ensures.0, c.rest-body.ensures.1, c.BODY.ensures) at c.push_unparsed-rest-in-Raw.ensures.wrote in
    lsa_raw _ _ _ _ _ _ _ c.push_header-header.ensures.wrote c.push_body.ensures c.in-Raw.is w

pub returns-in-Raw-clause-entries_value : goal.returns-in-Raw-clause-entries_value
returns-in-Raw-clause-entries_value g c =
    let v = g.V.Version in
    let d = c.args.lsa.part.bytes.now in
    let o = c.args.lsa.part.offset in
    let p = pushed_is_raw (v.body d o) _ c.push_body.ensures.answer c.in-Raw.is in
    let u = rw (c.rest-body.ensures.0, c.rest-body.ensures.1, c.BODY.ensures) at c.push_unparsed-rest-in-Raw.ensures.entries_value in
    let q = rw (p.1 v.BODY v.UNPARSED (drop 20 d) (o + 20)) at (g.met.V.Version.parts d o) in
    omega (arith, c.from-in-Raw.ensures, c.from-in-Raw-2.ensures, c.push_header-header.ensures.entries_value, p.0, u, q)
