-- `is_list`: places of slots.
use Rattle.std.proofs.Common.{ℕ, ◌<◌, length, get_or}
use Rattle.space.specs.Passes.{In}
use Rattle.space_slots.proofs.is_list.Given as goal

abbrev pub invariant-loop-k : goal.invariant-loop-k
invariant-loop-k l = (j : ℕ) → j < l.k → (get_or l.list j 0 < length l.list) × (In l.list j (get_or l.list j 0) → ⊥)
