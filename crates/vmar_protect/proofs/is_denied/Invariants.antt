-- `is_denied`: the places passed do not deny.
use Rattle.std.proofs.Common.{◌≡◌}
use Rattle.scan.specs.Scan.{some}
use Rattle.vmar_protect.specs.Protect.{denies_at, denied}
use Rattle.vmar_protect.proofs.is_denied.Given as goal

abbrev pub invariant-loop-slot : goal.invariant-loop-slot
invariant-loop-slot l = denied l.s l.r l.begin l.end l.flags.0 ≡ some (denies_at l.s l.r l.begin l.end l.flags.0) l.slot-index l.s.mapcount
