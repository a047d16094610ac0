use Rattle.std.proofs.Common.{List, set, ◌∙◌, ap}
use Rattle.space.specs.declared.Mapping.{Mapping}
use Rattle.vmar_prune.specs.Prune.{mappings_to}
use Rattle.vmar_prune.proofs.Parts.{mappings_none, mappings_more}
use Rattle.vmar_prune.proofs.kept_mappings.Goals as goal

pub loop-i-init : goal.loop-i-init
loop-i-init c = mappings_none _ _ _ _ _

pub loop-i-preserved : goal.loop-i-preserved
loop-i-preserved c =
    let a = c.args in
    let i = c.loop-i.i in
    ap (λ (m : List Mapping). set m i c.kept_mapping.result) c.loop-i.invariant
    ∙ ap (set (mappings_to a.marks.now a.r a.begin a.end a.s.now.mappings i) i) c.kept_mapping.ensures
    ∙ mappings_more a.marks.now a.r a.begin a.end a.s.now.mappings i
