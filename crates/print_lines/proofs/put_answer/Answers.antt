use native.Mathlib.Omega.{arith}
use borrow.Author.Tests.{eq-eqb, ne_eqb}
use Rattle.format.specs.Print.{first_line}
use Rattle.strip_put.proofs.Laws.{then}
use Rattle.print_lines.proofs.put_answer.Goals as goal
use Rattle.print_lines.proofs.put_answer.Goals.{then-answer-eq0, else-answer-eq0}

pub returns : goal.returns
unfolding first_line
returns c =
    let n = c.args.answer.number in
    elim c.if-answer-eq0.branch [
      | then-answer-eq0 w ↦
          let rest = then (rw (← w.out-is) at w.put_spaced-then-answer-eq0-2.ensures) c.put_u8.ensures in
          rw (eq-eqb n 0 w.if-answer-eq0.true) (then w.put.ensures (then w.put_spaced.ensures (then w.put_spaced-then-answer-eq0.ensures rest)))
      | else-answer-eq0 w ↦
          let rest = then (rw (← w.out-is) at w.put_spaced-else-answer-eq0-2.ensures) c.put_u8.ensures in
          rw (ne_eqb n 0 w.if-answer-eq0.false) (then w.put-else-answer-eq0.ensures (then w.put_spaced-else-answer-eq0.ensures rest))
    ]
