-- `unmap_cuts`: the region's own mappings first, then what is below.
use Rattle.vmar_cuts.specs.Cuts.{parts, children}
use Rattle.vmar_cuts.proofs.Collects.{both_cut}
use Rattle.vmar_cuts.proofs.unmap_cuts.Goals as goal

pub returns-clause-value : goal.returns-clause-value
returns-clause-value c =
    let a = c.args in
    both_cut _ (parts a.s.now a.r a.span.begin a.span.end) (children a.s.now 32 a.r a.span.begin a.span.end) _ _ _ c.cut_parts.ensures.value c.destroy_internal.ensures.value
