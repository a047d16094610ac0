-- The space, read: what a slot holds and what stands at a place of a list.
--
--     slot       0         1         2         3                 place      0   1   2   3 ..  31
--     regions    root      child     (free)    child    ..       reglist    0   3   1   0 ..   0      regcount 3
--     parent     32        3                   0                            root, its child, and that one's
--
-- A region's children are the regions whose `parent` is its slot, its mappings those whose `region` is its slot, both in the order of their list. The
-- Rust appends to a list and removes from it, so that one list for all regions, and one for all mappings, keeps the order of each.
use Rattle.std.specs.Prelude.{ℕ, ◌+◌, Bool, false, get_or, set}
use Rattle.space.specs.declared.Region.{Region}
use Rattle.space.specs.declared.Mapping.{Mapping}
use Rattle.space.specs.declared.Space.{Space}

-- a free slot
abbrev pub blank_region : Region
blank_region = record { live = false; id = 0; addr = 0; size = 0; flags = 0; parent = 0 }

abbrev pub blank_mapping : Mapping
blank_mapping = record { live = false; region = 0; addr = 0; size = 0; vmo = 0; offset = 0; permissions = 0 }

-- what slot i holds; a slot past the last reads as a free one
abbrev pub region_at : Space → ℕ → Region
region_at s i = get_or s.regions i blank_region

abbrev pub mapping_at : Space → ℕ → Mapping
mapping_at s i = get_or s.mappings i blank_mapping

abbrev pub is_region : Space → ℕ → Bool
is_region s i = (region_at s i).live

abbrev pub is_mapping : Space → ℕ → Bool
is_mapping s i = (mapping_at s i).live

-- the slot at place k of a list
abbrev pub region_place : Space → ℕ → ℕ
region_place s k = get_or s.reglist k 0

abbrev pub mapping_place : Space → ℕ → ℕ
mapping_place s k = get_or s.maplist k 0

-- the parent of the root
abbrev pub no_region : ℕ
no_region = 32

-- a new region in slot i, last in the list, with the next id; a new mapping in slot i, last in the list
abbrev pub with_region : Space → ℕ → Region → Space
with_region s i g = record {
  regions = set s.regions i g;
  mappings = s.mappings;
  reglist = set s.reglist s.regcount i;
  regcount = s.regcount + 1;
  maplist = s.maplist;
  mapcount = s.mapcount;
  nextid = s.nextid + 1;
}

abbrev pub with_mapping : Space → ℕ → Mapping → Space
with_mapping s i m = record {
  regions = s.regions;
  mappings = set s.mappings i m;
  reglist = s.reglist;
  regcount = s.regcount;
  maplist = set s.maplist s.mapcount i;
  mapcount = s.mapcount + 1;
  nextid = s.nextid;
}
