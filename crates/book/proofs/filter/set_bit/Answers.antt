use Rattle.std.proofs.Common.{arith}
use Rattle.book.proofs.Filters.{set_now, set_kept}
use Rattle.book.proofs.filter.set_bit.Goals as goal

pub returns-clause-now : goal.returns-clause-now
returns-clause-now c = set_now c.args.words.now c.args.bit (omega (arith, c.told-words, c.requires))

pub returns-clause-kept : goal.returns-clause-kept
returns-clause-kept c = set_kept c.args.words.now c.args.bit (omega (arith, c.told-words, c.requires))
