use Rattle.std.proofs.Common.{arith}
use Rattle.format.proofs.Fletcher.{same_field}
use Rattle.checksum.proofs.Lsa.checksum.Goals as goal

pub returns : goal.returns
returns c =
    let f = same_field c.args.self.bytes.now (omega arith, omega arith) in
    rw (c.octet-x.ensures, c.octet-y.ensures, ← f.0, ← f.1, c.sums_of-s.ensures)
