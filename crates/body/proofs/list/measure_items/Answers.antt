use Prim.Native.Nat.{◌+◌, ◌-◌}
use native.Mathlib.Nat.{sub-zero, add-zero, zero-mul}
use native.Mathlib.Omega.{arith}
use mathlib.Core.Path.{◌≡◌}
use Rattle.format.proofs.FixedLoop.{fixed_measure_begin, fixed_measure_next, fixed_measure_finish}
use Rattle.format.proofs.Loop.{spread}
use Rattle.body.proofs.Loops.{next_place}
use Rattle.body.proofs.list.measure_items.Goals as goal

pub loop-i-init : goal.loop-i-init
loop-i-init g c = (λ o. rw (sub-zero, zero-mul, add-zero) (fixed_measure_begin c.requires), omega arith)

pub loop-i-preserved : goal.loop-i-preserved
loop-i-preserved g c =
    let e : c.args.count - (c.loop-i.i + 1) ≡ c.args.count - c.loop-i.i - 1 = omega arith in
    let m = rw c.SIZE.ensures at c.measure-length.ensures.by_index in
    (λ o. rw (e, next_place g.I.Item.SIZE c.args.first c.loop-i.i, m o) (fixed_measure_next (c.loop-i.invariant.0 o) (omega arith)).summed, omega (arith, c.measure-length.ensures.upper_bound))

pub returns-clause-by_index : goal.returns-clause-by_index
unfolding spread
returns-clause-by_index g c o = fixed_measure_finish (c.loop-i.invariant.0 o) (omega arith)
