-- `has_frames_for_unmap`: what is left of the room after all non-empty cuts.
use Rattle.vmar_cuts.specs.Cuts.{parts, children}
use Rattle.vmar_cuts.proofs.Collects.{both_room}
use Rattle.vmar_cuts.proofs.has_frames_for_unmap.Goals as goal

pub returns : goal.returns
returns c =
    let a = c.args in
    both_room (parts a.s.now a.r a.span.begin a.span.end) (children a.s.now 32 a.r a.span.begin a.span.end) a.free _ _ c.room_in_parts-own.ensures c.room_in_children.ensures
