-- What is given where [b, e) is cut out of region r: unmap and overwrite cut the range asked for, clear and destroy all of r. Document 01, 'Regions': "A split needs a slot
-- free before the call". `marks` tells the regions that go.
use Rattle.std.specs.Prelude.{ℕ, ◌%◌, ◌≤◌, ◌<◌, ◌≡◌, Bool, true, false, List, length, get_or}
use Rattle.space.specs.Space.{region_at, is_region}
use Rattle.space.specs.Passes.{Passes}
use Rattle.space.specs.Arrays.{Arrays}
use Rattle.space.specs.declared.Space.{Space}
use Rattle.vmar_offset.specs.Offset.{free_mapping}
use Rattle.vmar_prune.specs.Prune.{split_slot}

pub record Cutting (s : Space) (f : List ℕ) (marks : List Bool) (r b e : ℕ) : Type 0 where
  -- s and its flags pass the check
  pub arrays : Arrays s
  pub passes : Passes s f
  -- r lives
  pub slot : r < 32
  pub live : is_region s r ≡ true
  -- a range of whole pages
  pub range : b ≤ e
  pub begin : b % 4096 ≡ 0
  pub end : e % 4096 ≡ 0
  -- a mark for each region; what lies below one that goes, goes too
  pub long : length marks ≡ 32
  pub closed : (i : ℕ) → i < 32 → is_region s i ≡ true → get_or marks (region_at s i).parent false ≡ true → get_or marks i false ≡ true
  -- where r itself goes, the cut begins at 0, so that nothing is split
  pub all : get_or marks r false ≡ true → b ≡ 0
  -- "a slot free before the call"
  pub room : split_slot s r b e < 64 → free_mapping s < 64
