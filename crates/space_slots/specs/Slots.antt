-- What is asked of the lists, the slots and the tree, for the proof of the check. What the check decides as a whole is Passes, of crate space.
use Rattle.std.specs.Prelude.{ℕ, ◌+◌, ◌^◌, ◌≤◌, ◌<◌, ◌≡◌, true, false, List, length, get_or}
use Rattle.common.specs.Flags.{known_page, known_region}
use Rattle.space.specs.Range.{inside}
use Rattle.space.specs.Space.{region_at, mapping_at, region_place, blank_region, blank_mapping}
use Rattle.space.specs.Passes.{In, RootRange, Paged}
use Rattle.space.specs.declared.Region.{Region}
use Rattle.space.specs.declared.Mapping.{Mapping}
use Rattle.space.specs.declared.Space.{Space}

-- a list's places
pub record Places (list : List ℕ) (count : ℕ) : Type 0 where
  pub room : count ≤ length list
  pub slot : (k : ℕ) → k < count → get_or list k 0 < length list
  pub once : (k : ℕ) → k < count → In list k (get_or list k 0) → ⊥
  pub rest : (k : ℕ) → count ≤ k → k < length list → get_or list k 0 ≡ 0

-- a live region, and its parent's record; that it ends below 2^64 follows from the whole, since the root does
pub record GoodRegion (g p : Region) (nextid : ℕ) : Type 0 where
  pub known : known_region g.flags ≡ true
  pub issued : g.id < nextid
  pub end : g.addr + g.size < 2 ^ 64
  pub slot : g.parent ≤ 32
  pub range : g.parent ≡ 32 → RootRange g.addr g.size
  pub inner : (g.parent ≡ 32 → ⊥) → inside g.addr g.size p.addr p.size ≡ true

pub record RegionSlot (list : List ℕ) (count : ℕ) (g p : Region) (nextid i : ℕ) : Type 0 where
  pub listed : g.live ≡ true → In list count i
  pub good : g.live ≡ true → GoodRegion g p nextid
  pub unlisted : g.live ≡ false → In list count i → ⊥
  pub blank : g.live ≡ false → g ≡ blank_region

abbrev pub RegionSlots : Space → Type 0
RegionSlots s = (i : ℕ) → i < 32 → RegionSlot s.reglist s.regcount (region_at s i) (region_at s (region_at s i).parent) s.nextid i

-- the region at place k, of this parent
pub record TreePlace (list : List ℕ) (k parent : ℕ) : Type 0 where
  pub root : parent ≡ 32 → k ≡ 0
  pub below : (parent ≡ 32 → ⊥) → In list k parent

abbrev pub TreePlaces : Space → Type 0
TreePlaces s = (k : ℕ) → k < s.regcount → TreePlace s.reglist k (region_at s (region_place s k)).parent

-- a live mapping, and its region's record
pub record GoodMapping (m : Mapping) (p : Region) : Type 0 where
  pub slot : m.region < 32
  pub live : p.live ≡ true
  pub inner : inside m.addr m.size p.addr p.size ≡ true
  pub paged : Paged m
  pub known : known_page m.permissions ≡ true

pub record MappingSlot (list : List ℕ) (count : ℕ) (m : Mapping) (p : Region) (i : ℕ) : Type 0 where
  pub listed : m.live ≡ true → In list count i
  pub good : m.live ≡ true → GoodMapping m p
  pub unlisted : m.live ≡ false → In list count i → ⊥
  pub blank : m.live ≡ false → m ≡ blank_mapping

abbrev pub MappingSlots : Space → Type 0
MappingSlots s = (i : ℕ) → i < 64 → MappingSlot s.maplist s.mapcount (mapping_at s i) (region_at s (mapping_at s i).region) i
