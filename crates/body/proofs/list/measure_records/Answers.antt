use Prim.Native.Nat.{◌+◌, ◌-◌}
use native.Mathlib.Nat.{sub-zero}
use native.Mathlib.Omega.{arith}
use mathlib.Core.Path.{◌≡◌, refl}
use Rattle.format.specs.Cut.{cut}
use Rattle.format.proofs.Loop.{spread, measure_begin, measure_turn, measure_finish}
use Rattle.format.proofs.Unique.{cut_none}
use Rattle.util.proofs.Laws.{some_of, none_of}
use Rattle.body.proofs.list.measure_records.Goals as goal

pub loop-init : goal.loop-init
loop-init g c = (λ o. rw sub-zero (measure_begin _ _ _ _ _), refl, omega arith, c.requires, omega arith)

pub loop-preserved : goal.loop-preserved
loop-preserved g c =
    let e = some_of _ _ _ c.fits.ensures c.in-Some.is in
    let w = g.met.R.Record.within _ _ _ e in
    let d : c.args.count - (c.loop.counter + 1) ≡ c.args.count - c.loop.counter - 1 = omega arith in
    (λ o. rw (d, c.measure.ensures.by_index o) (measure_turn _ _ _ _ _ _ (c.loop.invariant.0 o) (omega arith) e), omega arith, omega arith, w, omega (arith, c.measure.ensures.upper_bound))

pub returns-after-loop-clause-by_index : goal.returns-after-loop-clause-by_index
unfolding spread cut
returns-after-loop-clause-by_index g c o =
    let z : c.args.count - c.loop.counter ≡ 0 = omega arith in
    (measure_finish _ _ _ _ _ (c.loop.invariant.0 o) (rw z refl)).0

pub returns-after-loop-clause-count_value : goal.returns-after-loop-clause-count_value
unfolding cut
returns-after-loop-clause-count_value g c =
    let z : c.args.count - c.loop.counter ≡ 0 = omega arith in
    let f = measure_finish _ _ _ _ _ (c.loop.invariant.0 0) (rw z refl) in
    omega (arith, f.2)

pub returns-after-loop-clause-end_value : goal.returns-after-loop-clause-end_value
unfolding cut
returns-after-loop-clause-end_value g c =
    let z : c.args.count - c.loop.counter ≡ 0 = omega arith in
    (measure_finish _ _ _ _ _ (c.loop.invariant.0 0) (rw z refl)).1

pub returns-in_default-clause-by_index : goal.returns-in_default-clause-by_index
unfolding spread
returns-in_default-clause-by_index g c o =
    (measure_finish _ _ _ _ _ (c.loop.invariant.0 o) (cut_none _ _ _ _ (none_of _ _ c.fits.ensures c.in_default.is))).0

pub returns-in_default-clause-count_value : goal.returns-in_default-clause-count_value
returns-in_default-clause-count_value g c =
    let f = measure_finish _ _ _ _ _ (c.loop.invariant.0 0) (cut_none _ _ _ _ (none_of _ _ c.fits.ensures c.in_default.is)) in
    omega (arith, f.2)

pub returns-in_default-clause-end_value : goal.returns-in_default-clause-end_value
returns-in_default-clause-end_value g c =
    (measure_finish _ _ _ _ _ (c.loop.invariant.0 0) (cut_none _ _ _ _ (none_of _ _ c.fits.ensures c.in_default.is))).1
