use Rattle.std.proofs.Common.{sym, ◌∙◌, arith}
use Rattle.table_map_cont.specs.MapCont.{fits}
use Rattle.table_map_cont.proofs.Heights.{highest_here, highest_below, highest_none}
use Rattle.table_map_cont.proofs.page_level.Goals as goal

pub returns-then-is_fit : goal.returns-then-is_fit
returns-then-is_fit c =
    let a = c.args in
    sym (highest_here (fits a.vaddr a.paddr a.remains) c.loop-level.level c.loop-level-test.true (sym c.is_fit.ensures ∙ c.if-is_fit.true)) ∙ c.loop-level.invariant

pub loop-level-preserved : goal.loop-level-preserved
loop-level-preserved c =
    let a = c.args in
    sym (highest_below (fits a.vaddr a.paddr a.remains) c.loop-level.level c.loop-level-test.true (sym c.is_fit.ensures ∙ c.if-is_fit.false)) ∙ c.loop-level.invariant

pub returns : goal.returns
returns c =
    let a = c.args in
    sym (highest_none (fits a.vaddr a.paddr a.remains) c.loop-level.level (omega arith)) ∙ c.loop-level.invariant
