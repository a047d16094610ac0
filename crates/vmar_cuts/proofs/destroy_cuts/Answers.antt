-- `destroy_cuts`: what is below first, then the region's own mappings.
use Rattle.vmar_cuts.specs.Cuts.{END, parts, children}
use Rattle.vmar_cuts.proofs.Collects.{both_cut}
use Rattle.vmar_cuts.proofs.destroy_cuts.Goals as goal

pub returns-clause-value : goal.returns-clause-value
returns-clause-value c =
    let a = c.args in
    both_cut _ (children a.s.now 32 a.r 0 END) (parts a.s.now a.r 0 END) _ _ _ c.destroy_internal.ensures.value c.cut_parts.ensures.value
