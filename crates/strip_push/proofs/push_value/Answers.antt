use Rattle.std.proofs.Common.{rules}
use Rattle.format.specs.Strip.{code}
use Rattle.strip_push.proofs.push_value.Goals as goal

pub returns-in-U16 : goal.returns-in-U16
unfolding code
returns-in-U16 c = rw c.in-U16.is (search rules)

pub returns-in-U32 : goal.returns-in-U32
unfolding code
returns-in-U32 c = rw c.in-U32.is (search rules)

pub returns-in-U64 : goal.returns-in-U64
unfolding code
returns-in-U64 c = rw c.in-U64.is (search rules)

pub returns-in-Ipv4 : goal.returns-in-Ipv4
unfolding code
returns-in-Ipv4 c = rw c.in-Ipv4.is (search rules)

pub returns-in-Ipv6 : goal.returns-in-Ipv6
unfolding code
returns-in-Ipv6 c = rw c.in-Ipv6.is (search rules)
