-- `is_child_touching`: the places passed do not touch.
use Rattle.std.proofs.Common.{◌≡◌}
use Rattle.scan.specs.Scan.{some}
use Rattle.vmar_protect.specs.Protect.{touches_child, child_touched}
use Rattle.vmar_protect.proofs.is_child_touching.Given as goal

abbrev pub invariant-loop-slot : goal.invariant-loop-slot
invariant-loop-slot l = child_touched l.s l.r l.begin l.end ≡ some (touches_child l.s l.r l.begin l.end) l.slot-index l.s.regcount
