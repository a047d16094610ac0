-- `kept_regions`: slot after slot.
use Rattle.std.proofs.Common.{◌≡◌}
use Rattle.vmar_prune.specs.Prune.{regions_to}
use Rattle.vmar_prune.proofs.kept_regions.Given as goal

abbrev pub invariant-loop-i : goal.invariant-loop-i
invariant-loop-i l = l.regions ≡ regions_to l.marks l.s.regions l.i
