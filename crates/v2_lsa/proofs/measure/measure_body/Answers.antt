use mathlib.Core.Path.{refl}
use Rattle.format.specs.Layout.{entries_at}
use Rattle.format.specs.Strip.{code, encode}
use Rattle.format.specs.V2.{body2, network_lsa2, network_rows}
use Rattle.body.specs.List.{followed}
use Rattle.v2_lsa.proofs.measure.measure_body.Goals as goal

pub returns-in-2 : goal.returns-in-2
unfolding code encode body2 network_lsa2 followed
returns-in-2 c = λ o. rw c.in-2.is (c.measure_network_lsa.ensures 18 o (entries_at network_rows c.args.body.bytes.now o 0) refl)
