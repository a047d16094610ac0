-- `has_dead`: the places passed hold live regions.
use Rattle.std.proofs.Common.{◌≡◌}
use Rattle.scan.specs.Scan.{some}
use Rattle.vmar_unmap.specs.Unmap.{dead_at, has_dead}
use Rattle.vmar_unmap.proofs.has_dead.Given as goal

abbrev pub invariant-loop-slot : goal.invariant-loop-slot
invariant-loop-slot l = has_dead l.s ≡ some (dead_at l.s) l.slot-index l.s.regcount
