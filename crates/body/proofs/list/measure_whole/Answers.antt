use native.Mathlib.Omega.{arith}
use mathlib.Core.Path.{refl}
use borrow.Author.Tests.{le-ltb, lt-ltb}
use lib.ListN.{length}
use Rattle.format.specs.Body.{listing, whole}
use Rattle.format.proofs.Lengths.{length_both}
use Rattle.body.specs.List.{followed}
use Rattle.body.proofs.Laws.{same_decoded}
use Rattle.body.proofs.list.measure_whole.Goals as goal

pub returns-then-len-first : goal.returns-then-len-first
unfolding followed
returns-then-len-first g c id o es h = rw (lt-ltb (length c.args.body.bytes.now) c.args.first (omega (arith, c.len.ensures))) refl

pub returns : goal.returns
unfolding followed whole
returns g c id o es h =
    let b = c.args.body.bytes.now in
    let m = c.measure_array-array.ensures in
    let p = c.args.first in
    let a = rw (c.SIZE.ensures, c.len-2.ensures) at (m.by_index id o) in
    let e = rw (c.SIZE.ensures, c.len-2.ensures) at m.end_value in
    rw (le-ltb (length b) p (omega (arith, c.len.ensures))) (same_decoded (omega (arith, a, length_both es (listing id (g.I.Item.entries b o) o p (whole g.I.Item.SIZE b p)))) e)
