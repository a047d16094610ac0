-- `first_holding`: the places passed do not hold the address.
use Rattle.std.proofs.Common.{◌≡◌, length}
use Rattle.scan.specs.Scan.{first}
use Rattle.vmar_lookup.specs.Lookup.{holds_at}
use Rattle.vmar_lookup.proofs.first_holding.Given as goal

abbrev pub invariant-loop-slot : goal.invariant-loop-slot
invariant-loop-slot g l =
    (d : g.row.P.Denot)
    → first (holds_at g.P.Part.owner g.P.Part.addr g.P.Part.size l.parts l.list d l.r l.vaddr) 0 (length l.list) ≡ first (holds_at g.P.Part.owner g.P.Part.addr g.P.Part.size l.parts l.list d l.r l.vaddr) l.slot-index (length l.list)
