use Rattle.book.proofs.Left.{rows_first}
use Rattle.book.proofs.lsas.Lsas.first.Goals as goal

pub returns : goal.returns
returns c = let s = c.args.self in rows_first s.version s.body.now c.args.count s.count s.place c.requires
