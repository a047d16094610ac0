-- Where everything in a space lies, in numbers: place i is region slot i, place 32 + i is mapping slot i.
use Rattle.std.specs.Prelude.{ℕ, ◌+◌, ◌^◌, ◌<◌, ◌≡◌, Bool, false, not, List, leb, length, get_or}
use Rattle.paging.specs.Choice.{pick}
use Rattle.space.specs.Space.{region_at, mapping_at}
use Rattle.space.specs.declared.Space.{Space}
use Rattle.space_parts.specs.declared.Place.{Place}

-- ends are numbers below 2^64
pub record Fitting (s : Space) : Type 0 where
  pub region : (i : ℕ) → i < 32 → (region_at s i).addr + (region_at s i).size < 2 ^ 64
  pub mapping : (i : ℕ) → i < 64 → (mapping_at s i).addr + (mapping_at s i).size < 2 ^ 64

-- where a part lies
abbrev pub place_of : ℕ → ℕ → ℕ → Place
place_of owner addr size = record { owner = owner; begin = addr; end = addr + size }

-- what stands at place i; a place past the last is [0, 0)
abbrev pub place_at : List Place → ℕ → Place
place_at places i = get_or places i (place_of 0 0 0)

pub record PartsOf (s : Space) (places : List Place) : Type 0 where
  pub many : length places ≡ 96
  pub region : (i : ℕ) → i < 32 → place_at places i ≡ place_of (region_at s i).parent (region_at s i).addr (region_at s i).size
  pub mapping : (i : ℕ) → i < 64 → place_at places (32 + i) ≡ place_of (mapping_at s i).region (mapping_at s i).addr (mapping_at s i).size

-- [a, e) and [b, f) overlap: `overlap` by ends
unfoldable pub meet : ℕ → ℕ → ℕ → ℕ → Bool
meet a e b f = pick (leb f a) false (not (leb e b))
