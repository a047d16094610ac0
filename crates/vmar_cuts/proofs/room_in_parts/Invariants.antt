-- `room_in_parts`: the room that is left at the end stays that of all places.
use Rattle.std.proofs.Common.{◌≡◌, ◌-◌}
use Rattle.table_cuts.specs.Cuts.{non_empty}
use Rattle.vmar_cuts.specs.Cuts.{collect, part_at, parts}
use Rattle.vmar_cuts.proofs.room_in_parts.Given as goal

abbrev pub invariant-loop-slot : goal.invariant-loop-slot
invariant-loop-slot l =
    l.left - non_empty (collect (part_at l.s l.r l.span.begin l.span.end) l.slot-index (l.s.mapcount - l.slot-index)) ≡ l.room - non_empty (parts l.s l.r l.span.begin l.span.end)
