-- `are_all_pages`: slot after slot.
use Rattle.std.proofs.Common.{ℕ, ◌/◌, ◌<◌}
use Rattle.space.specs.Space.{mapping_at}
use Rattle.space.specs.Passes.{Pages}
use Rattle.space_pages.proofs.are_all_pages.Given as goal

abbrev pub invariant-loop-i : goal.invariant-loop-i
invariant-loop-i l = (j : ℕ) → j < l.i → Pages l.flags j ((mapping_at l.s j).size / 4096)
