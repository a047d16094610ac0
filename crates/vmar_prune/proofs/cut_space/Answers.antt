-- `cut_space`: without what goes, and with the second part of a split.
use Rattle.std.proofs.Common.{refl, sym, ◌∙◌, ap, arith}
use Rattle.scan.proofs.Found.{below_some, below_none}
use Rattle.space.specs.Space.{mapping_at, with_mapping}
use Rattle.space.specs.declared.Mapping.{Mapping}
use Rattle.space.specs.declared.Space.{Space}
use Rattle.vmar_offset.specs.Offset.{free_mapping}
use Rattle.vmar_prune.specs.Prune.{pruned, split_slot}
use Rattle.vmar_prune.proofs.Parts.{short_at, after_most, list_room, cut_whole, cut_split}
use Rattle.vmar_prune.proofs.cut_space.Goals as goal

pub returns-in_default : goal.returns-in_default
returns-in_default c =
    let a = c.args in
    c.prune.ensures.value ∙ cut_whole a.s.now a.marks.now a.r a.begin a.end _ refl (below_none 64 _ (sym c.split_slot.ensures ∙ c.in_default.is))

pub right-part-requires : goal.right-part-requires
right-part-requires c =
    let a = c.args in
    let i = c.in-Some.i in
    let at = below_some 64 (split_slot a.s.now a.r a.begin a.end) i (sym c.split_slot.ensures ∙ c.in-Some.is) in (
      rw c.after.ensures (after_most (mapping_at a.s.now i) a.end),
      (short_at a.s.now c.requires.0.flags c.requires.0.passes i at.1).0,
    )

pub add_mapping-requires : goal.add_mapping-requires
add_mapping-requires c =
    let a = c.args in
    let free = below_some 64 (free_mapping a.s.now) c.unwrap-slot.result (sym c.free_mapping.ensures ∙ c.unwrap-slot.ensures) in
    let room = list_room a.s.now c.requires.0.flags c.requires.0.passes c.unwrap-slot.result (sym free.0) (omega (arith, free.0, free.1)) in
    (room.0, omega (arith, room.1, c.prune-2.ensures.most))

pub returns : goal.returns
returns c =
    let a = c.args in
    let at = below_some 64 (split_slot a.s.now a.r a.begin a.end) c.in-Some.i (sym c.split_slot.ensures ∙ c.in-Some.is) in
    let free = below_some 64 (free_mapping a.s.now) c.unwrap-slot.result (sym c.free_mapping.ensures ∙ c.unwrap-slot.ensures) in
    let slot = c.unwrap-slot.result in
    c.add_mapping.ensures
    ∙ ap (λ (s : Space). with_mapping s slot c.right-part.result) c.prune-2.ensures.value
    ∙ ap (λ (m : Mapping). with_mapping (pruned a.s.now a.marks.now a.r a.begin a.end) slot m) c.right-part.ensures
    ∙ cut_split a.s.now a.marks.now a.r a.begin a.end c.in-Some.i (sym at.0) at.1 c.after.result c.after.ensures slot (sym free.0)
