-- `sweep_word`: zero and what is told at once reach nothing.
use Rattle.std.proofs.Common.{eqb-true, sym, ◌∙◌}
use Rattle.form.proofs.Marks.{by_zero, by_plain}
use Rattle.form.proofs.LentPool.sweep_word.Goals as goal
use Rattle.form.proofs.LentPool.sweep_word.Goals.{then-w-eq0, else-w-eq0}

pub returns-then-flaws-eq0 : goal.returns-then-flaws-eq0
returns-then-flaws-eq0 c =
    rw c.if-flaws-eq0.true
    (elim c.if-w-eq0.branch [
      | then-w-eq0 w ↦ by_zero w.if-w-eq0.true
      | else-w-eq0 w ↦ by_plain c.requires.sure (w.flaws.ensures (eqb-true w.flaws.result 0 (sym w.value-is ∙ c.if-flaws-eq0.true)))
    ])
