use native.Mathlib.Omega.{arith}
use mathlib.Core.Path.{◌≡◌, refl, ◌∙◌}
use mathlib.Core.List.{[]}
use Rattle.format.specs.Cut.{cut}
use Rattle.format.proofs.Loop.{spread}
use Rattle.format.proofs.Unique.{cut_none}
use Rattle.body.proofs.Loops.{begin, turn, room, finish}
use Rattle.util.proofs.Laws.{some_of, none_of}
use Rattle.body.proofs.list.push_records.Given.{Over}
use Rattle.body.proofs.list.push_records.Goals as goal
use Rattle.body.proofs.list.push_records.Goals.{Joined-left-eq0, then-left-eq0, else-left-eq0+in_default}

pub loop-left-init : goal.loop-left-init
loop-left-init g c = (begin _ _ _ _ _ _, omega arith, c.requires.first_in_bounds)

pub push-requires-clause-room : goal.push-requires-clause-room
unfolding spread
push-requires-clause-room g c =
    room _ _ _ _ _ _ _ c.loop-left.invariant.0 (omega arith) (some_of _ _ _ c.fits.ensures c.in-Some.is) c.requires.room

pub loop-left-preserved : goal.loop-left-preserved
loop-left-preserved g c =
    let e = some_of _ _ _ c.fits.ensures c.in-Some.is in
    let w = g.met.R.Record.within _ _ _ e in
    (turn _ _ _ _ _ _ _ c.loop-left.invariant.0 (omega arith) e c.push.ensures, omega arith, w)

-- Where the loop ends, nothing more is due or stands, and the place is the list's end.
nothing_more : (g : Over) (c : Joined-left-eq0 g) → cut g.R.Record.rule c.args.body.bytes.now c.loop-left.left c.loop-left.pos ≡ []
unfolding cut
nothing_more g c = elim c.if-left-eq0.branch [
  | then-left-eq0 w ↦ let z : c.loop-left.left ≡ 0 = w.if-left-eq0.true in rw z refl
  | else-left-eq0+in_default w ↦ cut_none g.R.Record.rule c.args.body.bytes.now c.loop-left.left c.loop-left.pos (none_of _ _ w.fits.ensures w.in_default.is)
]

at_place : (g : Over) (c : Joined-left-eq0 g) → c.if-left-eq0.end ≡ c.loop-left.pos
at_place g c = elim c.if-left-eq0.branch [ then-left-eq0 w ↦ w.end-is | else-left-eq0+in_default w ↦ w.end-is ]

pub returns-clause-wrote : goal.returns-clause-wrote
unfolding spread
returns-clause-wrote g c = (finish _ _ _ _ _ _ c.loop-left.invariant.0 (nothing_more g c)).0

pub returns-clause-count_value : goal.returns-clause-count_value
returns-clause-count_value g c = let f = finish _ _ _ _ _ _ c.loop-left.invariant.0 (nothing_more g c) in omega (arith, f.2)

pub returns-clause-end_value : goal.returns-clause-end_value
returns-clause-end_value g c = at_place g c ∙ (finish _ _ _ _ _ _ c.loop-left.invariant.0 (nothing_more g c)).1
