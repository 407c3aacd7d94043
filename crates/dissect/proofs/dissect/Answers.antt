use Rattle.std.proofs.Common.{◌≡◌, length, take, arith, length-take-le}
use Rattle.dissect.proofs.Input.{text_of_all}
use Rattle.dissect.proofs.dissect.Goals as goal

pub returns : goal.returns
returns g c =
    let r = c.in_ok-n.ensures in
    let long : length (take c.in_ok-n.n c.read_full.new.buffer) ≡ c.in_ok-n.n = length-take-le c.in_ok-n.n c.read_full.new.buffer r.bound.0 in
    text_of_all _ _ _ _ (take c.in_ok-n.n c.read_full.new.buffer) r.bytes (λ h. r.end (omega arith)) c.in_ok-write_text.ensures.bytes
