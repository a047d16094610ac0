-- `cut_flags`: the second part's pages are handed over, then each slot keeps its own.
use Rattle.std.proofs.Common.{List, sym, ◌∙◌, ap, subst, length, get_or}
use Rattle.space.specs.Space.{blank_mapping, mapping_at}
use Rattle.space.specs.declared.Mapping.{Mapping}
use Rattle.vmar_prune.specs.Steps.{Fitting}
use Rattle.vmar_prune.proofs.Parts.{hand_length, mappings_at, kept_fits, short_at}
use Rattle.vmar_prune.proofs.cut_flags.Goals as goal

pub retain_all-requires : goal.retain_all-requires
retain_all-requires c =
    let a = c.args in
    let s = a.s.now in
    let pre = c.requires in (
      ap length c.hand_over.ensures ∙ hand_length s a.r a.begin a.end a.flags.now ∙ pre.0.lent,
      λ i l.
          subst (λ (new : List Mapping). Fitting (mapping_at s i) (get_or new i blank_mapping)) (sym c.kept_mappings-new.ensures)
          (subst (Fitting (mapping_at s i)) (sym (mappings_at a.marks.now a.r a.begin a.end s.mappings 64 i l))
          (kept_fits (mapping_at s i) (short_at s a.flags.now pre.0 i l).2 a.marks.now a.r a.begin a.end)),
    )
