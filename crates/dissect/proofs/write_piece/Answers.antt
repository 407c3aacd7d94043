use Rattle.std.proofs.Common.{arith}
use Rattle.dissect.proofs.Bound.{text_bound}
use Rattle.dissect.proofs.write_piece.Goals as goal

pub overflow_add-result : goal.overflow_add-result
overflow_add-result g c = omega (arith, text_bound c.args.input.now)
