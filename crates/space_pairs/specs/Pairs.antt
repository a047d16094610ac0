-- What is asked of two regions and of two parts, for the proof of the check. What it decides as a whole is Passes, of crate space.
use Rattle.std.specs.Prelude.{ℕ, ◌<◌, ◌≡◌, true, false, List}
use Rattle.space.specs.Space.{region_at}
use Rattle.space.specs.declared.Region.{Region}
use Rattle.space.specs.declared.Space.{Space}
use Rattle.space_parts.specs.declared.Place.{Place}
use Rattle.space_parts.specs.Parts.{place_at, meet}

abbrev pub IdsDiffer : Region → Region → Type 0
IdsDiffer g h = g.live ≡ true → h.live ≡ true → g.id ≡ h.id → ⊥

abbrev pub IdsDistinct : Space → Type 0
IdsDistinct s = (i : ℕ) → i < 32 → (j : ℕ) → j < i → IdsDiffer (region_at s i) (region_at s j)

-- two places do not overlap, where they belong to one region
abbrev pub PlacesApart : Place → Place → Type 0
PlacesApart p q = p.owner ≡ q.owner → meet p.begin p.end q.begin q.end ≡ false

abbrev pub AllApart : List Place → Type 0
AllApart places = (i : ℕ) → i < 96 → (j : ℕ) → j < i → PlacesApart (place_at places j) (place_at places i)
