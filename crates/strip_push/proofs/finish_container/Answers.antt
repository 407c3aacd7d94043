use Rattle.strip_put.proofs.Laws.{contained_last}
use Rattle.strip_push.proofs.finish_container.Goals as goal

pub returns : goal.returns
returns c u inside e n w =
    let b = rw (e, n) at c.begin_container.ensures in
    contained_last c.args.id c.args.range.start c.args.range.end inside w b c.end_container.ensures
