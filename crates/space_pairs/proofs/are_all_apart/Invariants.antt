-- `are_all_apart`: pairs below the row, then rows.
use Rattle.std.proofs.Common.{ℕ, ◌<◌}
use Rattle.space_parts.specs.Parts.{place_at}
use Rattle.space_pairs.specs.Pairs.{PlacesApart}
use Rattle.space_pairs.proofs.are_all_apart.Given as goal

abbrev pub invariant-loop-j : goal.invariant-loop-j
invariant-loop-j l = (k : ℕ) → k < l.j → PlacesApart (place_at l.places k) (place_at l.places l.i)

abbrev pub invariant-loop-i : goal.invariant-loop-i
invariant-loop-i l = (i : ℕ) → i < l.i → (j : ℕ) → j < i → PlacesApart (place_at l.places j) (place_at l.places i)
