-- `parts_of`: the places of the slots passed are filled.
use Rattle.std.proofs.Common.{◌≡◌, ℕ, ◌+◌, ◌<◌, length}
use Rattle.space.specs.Space.{region_at, mapping_at}
use Rattle.space_parts.specs.Parts.{place_at, place_of}
use Rattle.space_parts.proofs.parts_of.Given as goal

abbrev pub invariant-loop-i : goal.invariant-loop-i
invariant-loop-i l = record {
  many : length l.places ≡ 96;
  region : (k : ℕ) → k < l.i → place_at l.places k ≡ place_of (region_at l.s k).parent (region_at l.s k).addr (region_at l.s k).size;
}

abbrev pub invariant-loop-j : goal.invariant-loop-j
invariant-loop-j l = record {
  many : length l.places ≡ 96;
  region : (k : ℕ) → k < 32 → place_at l.places k ≡ place_of (region_at l.s k).parent (region_at l.s k).addr (region_at l.s k).size;
  mapping : (k : ℕ) → k < l.j → place_at l.places (32 + k) ≡ place_of (mapping_at l.s k).region (mapping_at l.s k).addr (mapping_at l.s k).size;
}
