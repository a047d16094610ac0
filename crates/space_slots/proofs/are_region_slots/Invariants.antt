-- `are_region_slots`: slot after slot.
use Rattle.std.proofs.Common.{ℕ, ◌<◌}
use Rattle.space.specs.Space.{region_at}
use Rattle.space_slots.specs.Slots.{RegionSlot}
use Rattle.space_slots.proofs.are_region_slots.Given as goal

abbrev pub invariant-loop-i : goal.invariant-loop-i
invariant-loop-i l = (j : ℕ) → j < l.i → RegionSlot l.s.reglist l.s.regcount (region_at l.s j) (region_at l.s (region_at l.s j).parent) l.s.nextid j
