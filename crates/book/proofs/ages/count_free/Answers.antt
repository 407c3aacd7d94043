use Rattle.std.proofs.Common.{rules, refl, sym, ◌∙◌, arith}
use Rattle.format.specs.Book.{any, free_rows}
use Rattle.book.proofs.Turns.{rows_left, rows_end}
use Rattle.book.proofs.ages.count_free.Goals.{then-is_free, else-is_free}
use Rattle.book.proofs.ages.count_free.Goals as goal

pub loop-row-init : goal.loop-row-init
loop-row-init c = (refl, omega arith, omega arith)

pub overflow_add-count : goal.overflow_add-count
overflow_add-count c = let i = c.loop-row.invariant.2 in search rules

pub returns-then-is_used_old : goal.returns-then-is_used_old
unfolding any
returns-then-is_used_old c =
    sym c.loop-row.invariant.0 ∙ rw (rows_left c.args.rows.now c.loop-row.row-index c.loop-row-test.true, sym c.is_used_old.ensures, c.if-is_used_old.true) refl

pub loop-row-preserved : goal.loop-row-preserved
unfolding any free_rows
loop-row-preserved c =
    let i = c.loop-row.invariant in
    let e = rows_left c.args.rows.now c.loop-row.row-index c.loop-row-test.true in
    let o = rw (e, sym c.is_used_old.ensures, c.if-is_used_old.false) at i.0 in
    elim c.if-is_free.branch [
      | then-is_free w ↦
          (o, rw w.count-is (let z = (rw (e, sym c.is_free.ensures, w.if-is_free.true) at i.1) in omega arith), rw w.count-is (omega (arith, i.2)))
      | else-is_free w ↦
          (o, rw w.count-is (rw (e, sym c.is_free.ensures, w.if-is_free.false) at i.1), rw w.count-is (omega (arith, i.2)))
    ]

pub returns : goal.returns
unfolding any free_rows
returns c =
    let i = c.loop-row.invariant in
    let e = rows_end c.args.rows.now c.loop-row.row-index c.loop-row-test.false in
    (sym (rw e at i.0), omega (arith, rw e at i.1))
