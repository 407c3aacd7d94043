use Rattle.std.proofs.Common.{ℕ, List, Bool, ◌∙◌, inl, refl, rules, arith}
use borrow.Author.Tests.{tests}
use Rattle.std.proofs.lemmas.List.{length-map}
use Rattle.std.proofs.lemmas.Iterator.Consumers.{YieldsList-from_first, YieldsList-from_filter, YieldsList-at, count_from_yields_List}
use Rattle.replay_call.specs.Stored.{is_of}
use Rattle.replay_call.specs.Calls.{left_of, place_of, places_from}
use Rattle.replay_tally.specs.Calls.{calls}
use Rattle.replay_tally.proofs.Turns.{calls_most, length_kept}
use Rattle.replay_tally.proofs.count_calls.Goals as goal

pub count-requires-clause-fits : goal.count-requires-clause-fits
count-requires-clause-fits c = inl (rw (c.filter.ensures.source, c.new.ensures, length-map) (omega (arith, calls_most c.args.most c.args.file.now)))

pub returns : goal.returns
returns c =
    let a = c.args in
    let test : List ℕ × ℕ → Bool = λ p. is_of p.0 a.walk a.number p.1 in
    let all = YieldsList-at c.filter.ensures.source (YieldsList-from_first place_of left_of (places_from a.most a.file.now 0) c.new.ensures) in
    count_from_yields_List c.filter.result c.count.result c.count.ensures.ran (YieldsList-from_filter _ test all c.filter.ensures.closure (λ x b q k. search (rules, tests)))
    ∙ length_kept (is_of a.file.now a.walk a.number) test a.file.now (calls a.most a.file.now) (λ p. refl)
