-- The halves of the check, for its proof: what each decides. What the check decides as a whole is Passes, of crate space.
use Rattle.std.specs.Prelude.{ℕ, ◌-◌, ◌^◌, ◌≤◌, ◌≡◌, List, length}
use Rattle.space.specs.declared.Space.{Space}
use Rattle.space_slots.specs.Slots.{Places, RegionSlots, TreePlaces, MappingSlots}
use Rattle.space_pairs.specs.Pairs.{IdsDistinct}
use Rattle.space_pages.specs.Pages.{AllPages}

-- the halves of the check
pub record GoodRegions (s : Space) : Type 0 where
  pub most : s.nextid ≤ 2 ^ 32 - 1
  pub places : Places s.reglist s.regcount
  pub slots : RegionSlots s
  pub tree : TreePlaces s
  pub ids : IdsDistinct s

pub record GoodMappings (s : Space) (flags : List ℕ) : Type 0 where
  pub lent : length flags ≡ 32768
  pub places : Places s.maplist s.mapcount
  pub slots : MappingSlots s
  pub pages : AllPages s flags
