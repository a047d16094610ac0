-- `retain_all`: slot after slot.
use Rattle.std.proofs.Common.{◌≡◌}
use Rattle.vmar_prune.specs.Prune.{retained_to}
use Rattle.vmar_prune.proofs.retain_all.Given as goal

abbrev pub invariant-loop-i : goal.invariant-loop-i
invariant-loop-i l = l.flags ≡ retained_to l.old l.new l.initial.flags l.i
