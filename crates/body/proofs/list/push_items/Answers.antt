use Prim.Native.Nat.{◌+◌, ◌-◌}
use native.Mathlib.Nat.{sub-zero, add-zero, zero-mul}
use native.Mathlib.Omega.{arith}
use mathlib.Core.Path.{◌≡◌}
use Rattle.body.proofs.Loops.{fixed_begin, fixed_room, fixed_turn, fixed_finish, next_place}
use Rattle.body.proofs.list.push_items.Goals as goal

pub loop-i-init : goal.loop-i-init
loop-i-init g c = rw (sub-zero, zero-mul, add-zero) (fixed_begin c.requires.in_bounds c.requires.room)

pub push-requires-clause-room : goal.push-requires-clause-room
push-requires-clause-room g c = rw c.SIZE.ensures (fixed_room c.loop-i.invariant (omega arith))

pub loop-i-preserved : goal.loop-i-preserved
loop-i-preserved g c =
    let e : c.args.count - (c.loop-i.i + 1) ≡ c.args.count - c.loop-i.i - 1 = omega arith in
    let w = rw c.SIZE.ensures at c.push.ensures in
    rw (e, next_place g.I.Item.SIZE c.args.first c.loop-i.i) (fixed_turn c.loop-i.invariant (omega arith) w)

pub returns : goal.returns
returns g c = fixed_finish c.loop-i.invariant (omega arith)
