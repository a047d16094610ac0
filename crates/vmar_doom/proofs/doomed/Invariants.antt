-- `doomed`: the places passed are marked.
use Rattle.std.proofs.Common.{◌≡◌}
use Rattle.vmar_doom.specs.Doomed.{marked_to}
use Rattle.vmar_doom.proofs.doomed.Given as goal

abbrev pub invariant-loop-slot : goal.invariant-loop-slot
invariant-loop-slot l = l.marks ≡ marked_to l.s l.r l.begin l.end l.slot-index
