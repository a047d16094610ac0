-- `kept_mappings`: slot after slot.
use Rattle.std.proofs.Common.{◌≡◌}
use Rattle.vmar_prune.specs.Prune.{mappings_to}
use Rattle.vmar_prune.proofs.kept_mappings.Given as goal

abbrev pub invariant-loop-i : goal.invariant-loop-i
invariant-loop-i l = l.maps ≡ mappings_to l.marks l.r l.begin l.end l.s.mappings l.i
