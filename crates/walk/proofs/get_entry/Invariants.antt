-- `get_entry`: the loop stands where the walk of the address does, and stops where it ends.
use Rattle.std.proofs.Common.{◌/◌}
use Rattle.walk.proofs.Steps.{Stands}
use Rattle.walk.proofs.get_entry.Given as goal

abbrev pub invariant-loop-entry : goal.invariant-loop-entry
invariant-loop-entry l = Stands l.pool (l.base / 4096) l.used l.vaddr l.level l.frame

abbrev pub decreases-loop-entry : goal.decreases-loop-entry
decreases-loop-entry l = l.level
