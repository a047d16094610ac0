-- `split_slot`: the slots passed are not split.
use Rattle.std.proofs.Common.{◌≡◌}
use Rattle.scan.specs.Scan.{first}
use Rattle.vmar_prune.specs.Prune.{split_at, split_slot}
use Rattle.vmar_prune.proofs.split_slot.Given as goal

abbrev pub invariant-loop-i : goal.invariant-loop-i
invariant-loop-i l = split_slot l.s l.r l.begin l.end ≡ first (split_at l.s l.r l.begin l.end) l.i 64
