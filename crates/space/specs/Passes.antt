-- When a space passes its check: everything that BAD_SPACE (12) tests. Document 01, 'Sizes and buffers': "A space passes its check when no region lives, or
-- the live ones form one tree under a root of a range below, every child and mapping is in one list and inside its region, no two of a region overlap,
-- mappings and their VMO ranges are page-aligned and do not overflow, a mapping's pages differ in READ, WRITE, EXECUTE only, flags are known, ids issued and
-- distinct, and free slots blank"; and "at most 512 pages in a mapping; 32,768 bytes of lent page flags", "2^32 − 1 is never issued", "Flags of free slots
-- and past a mapping's last page are zero".
use Rattle.std.specs.Prelude.{ℕ, ◌+◌, ◌-◌, ◌*◌, ◌/◌, ◌%◌, ◌^◌, ◌≤◌, ◌<◌, ◌≡◌, Bool, true, false, ◌⊎◌, List, length, get_or}
use Rattle.common.specs.Flags.{has, USER, HUGE_PAGE, known_page, known_region}
use Rattle.space.specs.Range.{overlap, inside}
use Rattle.space.specs.Space.{region_at, mapping_at, is_region, is_mapping, region_place, blank_region, blank_mapping, no_region}
use Rattle.space.specs.declared.Mapping.{Mapping}
use Rattle.space.specs.declared.Space.{Space}

-- x stands among the first n places of the list
abbrev pub In : List ℕ → ℕ → ℕ → Type 0
In list n x = (k : ℕ) × (k < n) × (get_or list k 0 ≡ x)

-- "every child and mapping is in one list": the first `count` places hold each live slot once and nothing else; the places after them hold 0
pub record Listed (slots : ℕ) (list : List ℕ) (count : ℕ) (lives : ℕ → Bool) : Type 0 where
  pub room : count ≤ slots
  pub slot : (k : ℕ) → k < count → get_or list k 0 < slots
  pub once : (j k : ℕ) → j < k → k < count → get_or list j 0 ≡ get_or list k 0 → ⊥
  pub rest : (k : ℕ) → count ≤ k → k < slots → get_or list k 0 ≡ 0
  pub live : (i : ℕ) → i < slots → In list count i → lives i ≡ true
  pub whole : (i : ℕ) → i < slots → lives i ≡ true → In list count i

-- "User root 0x200000 up to 2^47 − 4096; kernel root 0xffffff0200000000, size 0x8000000000"
abbrev pub RootRange : ℕ → ℕ → Type 0
RootRange addr size = ((addr ≡ 0x200000) × (addr + size ≡ 2 ^ 47 - 4096)) ⊎ ((addr ≡ 0xffffff0200000000) × (size ≡ 0x8000000000))

-- "the live ones form one tree under a root of a range below": the first in the list is the root, and each other stands after its parent
pub record Tree (s : Space) : Type 0 where
  pub root : (k : ℕ) → k < s.regcount → (region_at s (region_place s k)).parent ≡ no_region → k ≡ 0
  pub range : (k : ℕ) → k < s.regcount → (region_at s (region_place s k)).parent ≡ no_region
      → RootRange (region_at s (region_place s k)).addr (region_at s (region_place s k)).size
  pub parent : (k : ℕ) → k < s.regcount → ((region_at s (region_place s k)).parent ≡ no_region → ⊥)
      → In s.reglist k (region_at s (region_place s k)).parent

-- "inside its region"
pub record Inside (s : Space) : Type 0 where
  pub child : (i : ℕ) → i < 32 → is_region s i ≡ true → ((region_at s i).parent ≡ no_region → ⊥)
      → inside (region_at s i).addr (region_at s i).size (region_at s (region_at s i).parent).addr (region_at s (region_at s i).parent).size ≡ true
  pub region : (i : ℕ) → i < 64 → is_mapping s i ≡ true → ((mapping_at s i).region < 32) × (is_region s (mapping_at s i).region ≡ true)
  pub mapping : (i : ℕ) → i < 64 → is_mapping s i ≡ true
      → inside (mapping_at s i).addr (mapping_at s i).size (region_at s (mapping_at s i).region).addr (region_at s (mapping_at s i).region).size ≡ true

-- "no two of a region overlap": two children, two mappings, a child and a mapping
pub record Apart (s : Space) : Type 0 where
  pub children : (i j : ℕ) → j < i → i < 32 → is_region s i ≡ true → is_region s j ≡ true → (region_at s i).parent ≡ (region_at s j).parent
      → overlap (region_at s i).addr (region_at s i).size (region_at s j).addr (region_at s j).size ≡ false
  pub mappings : (i j : ℕ) → j < i → i < 64 → is_mapping s i ≡ true → is_mapping s j ≡ true → (mapping_at s i).region ≡ (mapping_at s j).region
      → overlap (mapping_at s i).addr (mapping_at s i).size (mapping_at s j).addr (mapping_at s j).size ≡ false
  pub both : (i j : ℕ) → i < 32 → j < 64 → is_region s i ≡ true → is_mapping s j ≡ true → (region_at s i).parent ≡ (mapping_at s j).region
      → overlap (region_at s i).addr (region_at s i).size (mapping_at s j).addr (mapping_at s j).size ≡ false

-- "mappings and their VMO ranges are page-aligned and do not overflow", an end of 2^64 being an overflow; "at most 512 pages in a mapping"
pub record Paged (m : Mapping) : Type 0 where
  pub addr : m.addr % 4096 ≡ 0
  pub size : m.size % 4096 ≡ 0
  pub offset : m.offset % 4096 ≡ 0
  pub end : m.addr + m.size < 2 ^ 64
  pub vmo_end : m.offset + m.size < 2 ^ 64
  pub few : m.size / 4096 ≤ 512

-- what page flags hold beside READ, WRITE and EXECUTE
abbrev pub others : ℕ → ℕ
others f = has USER f * USER + has HUGE_PAGE f * HUGE_PAGE

-- the flags of page j of the mapping in slot i
abbrev pub page_at : List ℕ → ℕ → ℕ → ℕ
page_at flags i j = get_or flags (i * 512 + j) 0

-- "a mapping's pages differ in READ, WRITE, EXECUTE only, flags are known"; "Flags .. past a mapping's last page are zero", and of free slots, whose
-- size is 0
pub record Pages (flags : List ℕ) (i pages : ℕ) : Type 0 where
  pub known : (j : ℕ) → j < pages → known_page (page_at flags i j) ≡ true
  pub alike : (j : ℕ) → j < pages → others (page_at flags i j) ≡ others (page_at flags i 0)
  pub past : (j : ℕ) → pages ≤ j → j < 512 → page_at flags i j ≡ 0

-- "flags are known", of regions, and the permissions of mappings
pub record Known (s : Space) : Type 0 where
  pub region : (i : ℕ) → i < 32 → is_region s i ≡ true → known_region (region_at s i).flags ≡ true
  pub mapping : (i : ℕ) → i < 64 → is_mapping s i ≡ true → known_page (mapping_at s i).permissions ≡ true

-- "ids issued and distinct"; "2^32 − 1 is never issued"
pub record Ids (s : Space) : Type 0 where
  pub most : s.nextid ≤ 2 ^ 32 - 1
  pub issued : (i : ℕ) → i < 32 → is_region s i ≡ true → (region_at s i).id < s.nextid
  pub distinct : (i j : ℕ) → j < i → i < 32 → is_region s i ≡ true → is_region s j ≡ true → (region_at s i).id ≡ (region_at s j).id → ⊥

-- "free slots blank"
pub record Blank (s : Space) : Type 0 where
  pub region : (i : ℕ) → i < 32 → is_region s i ≡ false → region_at s i ≡ blank_region
  pub mapping : (i : ℕ) → i < 64 → is_mapping s i ≡ false → mapping_at s i ≡ blank_mapping

-- "A space passes its check when .."
pub record Passes (s : Space) (flags : List ℕ) : Type 0 where
  pub lent : length flags ≡ 32768
  pub regions : Listed 32 s.reglist s.regcount (is_region s)
  pub mappings : Listed 64 s.maplist s.mapcount (is_mapping s)
  pub tree : Tree s
  pub inner : Inside s
  pub apart : Apart s
  pub paged : (i : ℕ) → i < 64 → is_mapping s i ≡ true → Paged (mapping_at s i)
  pub pages : (i : ℕ) → i < 64 → Pages flags i ((mapping_at s i).size / 4096)
  pub known : Known s
  pub ids : Ids s
  pub blank : Blank s

-- slot r holds a live region of a space that passes its check
pub record LiveIn (s : Space) (r : ℕ) : Type 0 where
  pub slot : r < 32
  pub live : is_region s r ≡ true
  pub flags : List ℕ
  pub passes : Passes s flags

-- a space that passes its check, whatever the flags
pub record Passing (s : Space) : Type 0 where
  pub flags : List ℕ
  pub passes : Passes s flags
