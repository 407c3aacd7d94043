use native.Mathlib.Omega.{arith}
use mathlib.Core.Path.{refl}
use borrow.Author.Tests.{le-ltb, lt-ltb}
use lib.ListN.{length}
use Rattle.format.specs.Body.{listing_if_any, whole}
use Rattle.format.proofs.Lengths.{length_both}
use Rattle.body.proofs.Laws.{same_decoded}
use Rattle.v2_routes.specs.Route.{route}
use Rattle.v2_routes.proofs.measure.measure_route.Goals as goal

pub returns-then-len-first : goal.returns-then-len-first
unfolding route
returns-then-len-first g c o es h = rw (lt-ltb (length c.args.body.bytes.now) c.args.first (omega (arith, c.len.ensures))) refl

pub returns : goal.returns
unfolding route whole
returns g c o es h =
    let b = c.args.body.bytes.now in
    let m = c.measure_array_if_any-metrics.ensures in
    let p = c.args.first in
    let a = rw (c.SIZE.ensures, c.len-2.ensures) at (m.by_index 20 o) in
    let e = rw (c.SIZE.ensures, c.len-2.ensures) at m.end_value in
    let k = c.measure_metric24.ensures.by_index 19 o in
    rw (le-ltb (length b) p (omega (arith, c.len.ensures))) (same_decoded (omega (arith, a, k, length_both es (listing_if_any 20 (g.I.Item.entries b o) o p (whole g.I.Item.SIZE b p)))) e)
