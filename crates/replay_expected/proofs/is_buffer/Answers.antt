use Rattle.std.proofs.Common.{◌≡◌, ◌+◌, ◌-◌, arith}
use Rattle.format.proofs.Lengths.{part_length}
use Rattle.replay_call.specs.Stored.{kept_at}
use Rattle.replay_expected.proofs.Bytes.{prefix_then}
use Rattle.replay_expected.proofs.is_buffer.Goals as goal

pub returns : goal.returns
returns c =
    let q = c.args.q in
    let j = c.kept_at.result in
    let w : q + 13 + j - (q + 13) ≡ j = omega arith in
    let n = part_length c.args.file.now (q + 13) j (omega arith) in
    let e : j ≡ kept_at c.args.file.now q = c.kept_at.ensures in
    rw e at (rw n at (rw w at (prefix_then c.args.strip.now _ c.strip_prefix.result c.strip_prefix.ensures.cases c.is_some_and.ensures)))
