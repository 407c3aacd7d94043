use Rattle.std.proofs.Common.{rules}
use Rattle.std.specs.Prelude.{length}
use Rattle.strip_put.proofs.Sets.{put_mid-sets}
use Rattle.strip_put.proofs.Writer.put.Goals as goal

pub returns : goal.returns
returns c = let p = put_mid-sets c.args.self.now.at (length c.args.bytes.now) c.args.self.now.buffer.now c.args.bytes.now in search rules
