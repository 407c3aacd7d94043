use Prim.Native.Nat.{◌+◌}
use mathlib.Core.Path.{refl}
use Rattle.format.specs.Bytes.{part}
use Rattle.walk_list.specs.Object.{object}
use Rattle.walk_list.proofs.object.ObjectRecordRecord.push.Goals as goal

pub returns : goal.returns
unfolding object
returns g c =
    let n = c.args.n in
    let p = c.args.body.offset + c.args.p in
    let x = g.O.Object in
    let e = rw (c.new.ensures, c.part.ensures.0, c.part.ensures.1) at c.push-entries.ensures in
    let w = c.finish_container.ensures c.args.strip.now (x.inside (part c.args.body.bytes.now c.args.p n) p) refl e.entries_value e.wrote in
    rw (c.ID.ensures, c.range.ensures.0, c.range.ensures.1) at w
