use Rattle.std.proofs.Common.{rules, tests, refl}
use Rattle.std.proofs.lemmas.Iterator.Consumers.{YieldsList-from_first}
use Rattle.std.proofs.lemmas.Iterator.Search.{any_from_yields_List}
use Rattle.format.specs.Book.{is_of}
use Rattle.book.specs.Rows.{meaning}
use Rattle.book.specs.Lsas.{left_of}
use Rattle.book.proofs.identities.is_met.Goals as goal

pub returns : goal.returns
returns c =
    any_from_yields_List (is_of (meaning c.args.row)) c.any.new.self _ _ c.any.ensures.ran (YieldsList-from_first meaning left_of _ refl) (λ x b q k. search (rules, tests))
