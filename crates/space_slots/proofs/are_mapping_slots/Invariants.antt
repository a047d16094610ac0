-- `are_mapping_slots`: slot after slot.
use Rattle.std.proofs.Common.{ℕ, ◌<◌}
use Rattle.space.specs.Space.{region_at, mapping_at}
use Rattle.space_slots.specs.Slots.{MappingSlot}
use Rattle.space_slots.proofs.are_mapping_slots.Given as goal

abbrev pub invariant-loop-i : goal.invariant-loop-i
invariant-loop-i l = (j : ℕ) → j < l.i → MappingSlot l.s.maplist l.s.mapcount (mapping_at l.s j) (region_at l.s (mapping_at l.s j).region) j
