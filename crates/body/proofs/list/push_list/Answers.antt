use Prim.Native.Nat.{◌+◌}
use native.Mathlib.Omega.{arith}
use mathlib.Core.Path.{◌≡◌, refl, sym, ◌∙◌}
use mathlib.Core.List.{flat_map}
use Rattle.format.specs.Body.{listing}
use Rattle.format.specs.Cut.{cut, after}
use Rattle.format.proofs.Inside.{direct_of, counts_each}
use Rattle.format.proofs.Lists.{length-listing}
use Rattle.format.proofs.Loop.{spread}
use Rattle.body.proofs.list.push_list.Goals as goal

pub push_records-list-requires-clause-room : goal.push_records-list-requires-clause-room
unfolding spread
push_records-list-requires-clause-room g c = omega (arith, length-listing c.args.id (g.R.Record.entries c.args.body.bytes.now c.args.body.offset) c.args.body.offset c.args.first (cut g.R.Record.rule c.args.body.bytes.now c.args.count c.args.first))

pub finish_container-requires-clause-room : goal.finish_container-requires-clause-room
unfolding spread
finish_container-requires-clause-room g c =
    let w = c.push_records-list.ensures.wrote in
    omega (arith, length-listing c.args.id (g.R.Record.entries c.args.body.bytes.now c.args.body.offset) c.args.body.offset c.args.first (cut g.R.Record.rule c.args.body.bytes.now c.args.count c.args.first), w.place, w.same_length)

pub returns-clause-wrote : goal.returns-clause-wrote
unfolding listing
returns-clause-wrote g c =
    let b = c.args.body in
    let ss = cut g.R.Record.rule b.bytes.now c.args.count c.args.first in
    let f = g.R.Record.entries b.bytes.now b.offset in
    let e = c.push_records-list.ensures in
    let q : c.range-range.result.end ≡ b.offset + after c.args.first ss = omega (arith, c.range-range.ensures.1, e.end_value, e.end_in_bounds.0) in
    let w = c.finish_container.ensures c.args.strip.now (flat_map f ss) refl (e.count_value ∙ sym (direct_of (counts_each f (g.met.R.Record.one b.bytes.now b.offset) ss))) e.wrote in
    rw (c.range-range.ensures.0, q) at w
