use Rattle.std.proofs.Common.{◌≡◌, refl, arith}
use Rattle.format.specs.Strip.{code, encode}
use Rattle.format.specs.V3.{tag_place, reference_place, forwarding_address, external_route_tag, referenced_link_state_id, external_optional}
use Rattle.format.proofs.Wrote.{encode-append}
use Rattle.strip_put.specs.declared.Writer.{Writer}
use Rattle.strip_put.specs.Writer.{Writes}
use Rattle.strip_put.proofs.Laws.{nothing, then}
use Rattle.v3_external.proofs.External.push_optional.Goals as goal
use Rattle.v3_external.proofs.External.push_optional.Goals.{Joined-self-2, then-self, else-self, then-self-2, else-self-2}

-- What the first part leaves, where it is there and where it is not; and then the second.
first : (c : Joined-self-2) → let x = c.args.self in
    Writes c.args.strip.now (encode (forwarding_address x.body.bytes.now x.body.offset x.octets)) c.if-self.strip
    × (c.if-self.p ≡ tag_place x.body.bytes.now x.octets)
unfolding code encode
first c =
    let f = c.args.self.forwarding_value in
    elim c.if-self.branch [
      | then-self w ↦ rw (← f, w.if-self.true, w.strip-is, w.p-is) (w.push_ipv6_at.ensures, refl)
      | else-self w ↦ rw (← f, w.if-self.false, w.strip-is, w.p-is) (nothing _, omega arith)
    ]

second : (c : Joined-self-2) → let x = c.args.self in
    Writes c.if-self.strip (encode (external_route_tag x.body.bytes.now x.body.offset x.octets)) c.if-self-2.strip
    × (c.if-self-2.p ≡ reference_place x.body.bytes.now x.octets)
unfolding code encode
second c =
    let t = c.args.self.tag_value in
    elim c.if-self-2.branch [
      | then-self-2 w ↦ rw (← t, w.if-self-2.true, w.strip-is, w.p-is, ← (first c).1) (w.push_at.ensures, refl)
      | else-self-2 w ↦ rw (← t, w.if-self-2.false, w.strip-is, w.p-is, ← (first c).1) (nothing _, omega arith)
    ]

-- All three, where the third is written after them.
all : (c : Joined-self-2) (new : Writer) → let x = c.args.self in
    Writes c.if-self-2.strip (encode (referenced_link_state_id x.body.bytes.now x.body.offset x.octets)) new
    → Writes c.args.strip.now (encode (external_optional x.body.bytes.now x.body.offset x.octets)) new
all c new third =
    let b = c.args.self.body in
    let n = c.args.self.octets in
    rw (encode-append (forwarding_address b.bytes.now b.offset n), encode-append (external_route_tag b.bytes.now b.offset n))
    (then (first c).0 (then (second c).0 third))

pub returns-then-self-3 : goal.returns-then-self-3
unfolding code encode
returns-then-self-3 c =
    let j = (goal.at.returns-then-self-3 c).Joined-self-2 in
    let w = rw (second j).1 at c.push_at-then-self-3.ensures in
    all j _ (rw (← c.args.self.reference_value, c.if-self-3.true) w)

pub returns-else-self-3 : goal.returns-else-self-3
unfolding encode
returns-else-self-3 c =
    let j = (goal.at.returns-else-self-3 c).Joined-self-2 in
    all j _ (rw (← c.args.self.reference_value, c.if-self-3.false) (nothing _))
