use mathlib.Core.Path.{refl}
use Rattle.format.specs.Layout.{entries_at}
use Rattle.format.specs.Strip.{code, encode}
use Rattle.format.specs.V3.{body3, router_lsa3, network_lsa3, router_rows, network_rows, e_link_rows, references}
use Rattle.body.specs.List.{followed}
use Rattle.v3_lsa.proofs.measure.measure_body.Goals as goal

pub returns-in-1 : goal.returns-in-1
unfolding code encode body3 router_lsa3 followed
returns-in-1 c = λ o. rw c.in-1.is (c.measure_whole.ensures 15 o (entries_at router_rows c.args.body.bytes.now o 0) refl)

pub returns-in-2 : goal.returns-in-2
unfolding code encode body3 network_lsa3 followed
returns-in-2 c = λ o. rw c.in-2.is (c.measure_network_lsa.ensures 16 o (entries_at network_rows c.args.body.bytes.now o 0) refl)

pub returns-in-33 : goal.returns-in-33
unfolding code encode body3
returns-in-33 c = λ o. rw c.in-33.is (c.measure_tlv_lsa.ensures o (entries_at router_rows c.args.body.bytes.now o 0) refl)

pub returns-in-34 : goal.returns-in-34
unfolding code encode body3
returns-in-34 c = λ o. rw c.in-34.is (c.measure_tlv_lsa-in-34.ensures o (entries_at network_rows c.args.body.bytes.now o 0) refl)

pub returns-in-40 : goal.returns-in-40
unfolding code encode body3
returns-in-40 c = λ o. rw c.in-40.is (c.measure_tlv_lsa-in-40.ensures o (entries_at e_link_rows c.args.body.bytes.now o 0) refl)

pub returns-in-41 : goal.returns-in-41
unfolding code encode body3
returns-in-41 c = λ o. rw c.in-41.is (c.measure_tlv_lsa-in-41.ensures o (references c.args.body.bytes.now o) refl)
