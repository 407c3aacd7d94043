use Rattle.std.proofs.Common.{rules}
use Rattle.format.specs.V3.{tlv_lsa, body3}
use Rattle.v3_lsa.proofs.push_body.Goals as goal

pub returns-in-12 : goal.returns-in-12
unfolding tlv_lsa body3
returns-in-12 c = search rules
