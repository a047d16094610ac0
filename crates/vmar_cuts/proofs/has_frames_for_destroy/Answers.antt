-- `has_frames_for_destroy`: what is left of the room after all non-empty cuts.
use Rattle.vmar_cuts.specs.Cuts.{END, parts, children}
use Rattle.vmar_cuts.proofs.Collects.{both_room}
use Rattle.vmar_cuts.proofs.has_frames_for_destroy.Goals as goal

pub returns : goal.returns
returns c =
    let a = c.args in
    both_room (children a.s.now 32 a.r 0 END) (parts a.s.now a.r 0 END) a.free _ _ c.room_in_children-below.ensures c.room_in_parts.ensures
