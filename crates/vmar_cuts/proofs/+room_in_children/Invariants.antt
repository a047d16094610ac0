-- `room_in_children`: the room that is left at the end stays that of all places.
use Rattle.std.proofs.Common.{◌≡◌, ◌-◌}
use Rattle.table_cuts.specs.Cuts.{non_empty}
use Rattle.vmar_cuts.specs.Cuts.{collect, children}
use Rattle.vmar_cuts.proofs.Children.{below}
use Rattle.vmar_cuts.proofs.+room_in_children.Given as goal

abbrev pub decreases-room_in_children : goal.decreases-room_in_children
decreases-room_in_children l = l.depth

abbrev pub invariant-loop-slot : goal.invariant-loop-slot
invariant-loop-slot l =
    l.left - non_empty (collect (below l.s l.depth l.r l.span.begin l.span.end) l.slot-index (l.s.regcount - l.slot-index)) ≡ l.room - non_empty (children l.s l.depth l.r l.span.begin l.span.end)
