-- `first_end`: the places passed are not taken.
use Rattle.std.proofs.Common.{◌≡◌, length}
use Rattle.scan.specs.Scan.{first}
use Rattle.vmar_offset.specs.Ends.{takes_at}
use Rattle.vmar_offset.proofs.first_end.Given as goal

abbrev pub invariant-loop-slot : goal.invariant-loop-slot
invariant-loop-slot g l = (d : g.row.P.Denot) → first (takes_at g.P.Part.owner g.P.Part.addr g.P.Part.size l.parts l.list d l.s l.r l.len l.align) 0 (length l.list) ≡ first (takes_at g.P.Part.owner g.P.Part.addr g.P.Part.size l.parts l.list d l.s l.r l.len l.align) l.slot-index (length l.list)
