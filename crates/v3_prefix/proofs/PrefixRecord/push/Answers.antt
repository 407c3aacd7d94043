use Rattle.std.proofs.Common.{rules}
use borrow.Author.Tests.{ne_eqb}
use Rattle.format.specs.Strip.{code, direct, encode, container}
use Rattle.format.specs.V3.{prefix}
use Rattle.v3_prefix.proofs.PrefixRecord.push.Goals as goal
use Rattle.v3_prefix.proofs.PrefixRecord.push.Goals.{then-this-ne0, else-this-ne0, then-this-ne0-2, else-this-ne0-2}

pub returns : goal.returns
unfolding code direct encode container prefix
returns g c = elim c.if-this-ne0.branch [
  | then-this-ne0 w ↦
      let opening = rw w.entries-is at c.begin_container.ensures in
      elim c.if-this-ne0-2.branch [
        | then-this-ne0-2 u ↦ rw (ne_eqb g.row.WITH_METRIC 0 u.if-this-ne0-2.true) (search (rules, opening))
        | else-this-ne0-2 u ↦ absurd (w.if-this-ne0.true u.if-this-ne0-2.false)
      ]
  | else-this-ne0 w ↦
      let opening = rw w.entries-is at c.begin_container.ensures in
      elim c.if-this-ne0-2.branch [
        | then-this-ne0-2 u ↦ absurd (u.if-this-ne0-2.true w.if-this-ne0.false)
        | else-this-ne0-2 u ↦ rw u.if-this-ne0-2.false (search (rules, opening))
      ]
]
