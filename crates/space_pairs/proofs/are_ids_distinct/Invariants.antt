-- `are_ids_distinct`: pairs below the row, then rows.
use Rattle.std.proofs.Common.{ℕ, ◌<◌}
use Rattle.space.specs.Space.{region_at}
use Rattle.space_pairs.specs.Pairs.{IdsDiffer}
use Rattle.space_pairs.proofs.are_ids_distinct.Given as goal

abbrev pub invariant-loop-j : goal.invariant-loop-j
invariant-loop-j l = (k : ℕ) → k < l.j → IdsDiffer (region_at l.s l.i) (region_at l.s k)

abbrev pub invariant-loop-i : goal.invariant-loop-i
invariant-loop-i l = (i : ℕ) → i < l.i → (j : ℕ) → j < i → IdsDiffer (region_at l.s i) (region_at l.s j)
