use Rattle.std.proofs.Common.{set, ◌∙◌, ap, List}
use Rattle.space.specs.Space.{blank_region}
use Rattle.space.specs.declared.Region.{Region}
use Rattle.vmar_prune.proofs.Parts.{regions_none, regions_gone, regions_kept}
use Rattle.vmar_prune.proofs.kept_regions.Goals as goal
use Rattle.vmar_prune.proofs.kept_regions.Goals.{then-is_doomed, else-is_doomed}

pub loop-i-init : goal.loop-i-init
loop-i-init c = regions_none _ _

pub loop-i-preserved : goal.loop-i-preserved
loop-i-preserved c =
    let a = c.args in
    let loop = c.loop-i in
    elim c.if-is_doomed.branch [
      | then-is_doomed w ↦ w.regions-is ∙ ap (λ (l : List Region). set l loop.i blank_region) loop.invariant ∙ regions_gone a.marks.now a.s.now.regions loop.i w.if-is_doomed.true
      | else-is_doomed w ↦ w.regions-is ∙ loop.invariant ∙ regions_kept a.marks.now a.s.now.regions loop.i w.if-is_doomed.false
    ]
