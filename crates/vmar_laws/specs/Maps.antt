-- What `map_ext` on a space that passes its check does. Document 01: "A refusal gives value 0 and changes nothing anywhere"; "every child and mapping is in one list
-- and inside its region, no two of a region overlap"; "Slots .. are used again, the lowest free one first"; "Flags of free slots and past a mapping's last page are
-- zero"; "A mapping whose address is not page-aligned is 1"; 'Regions' on the offset.
use Rattle.std.specs.Prelude.{ℕ, ◌+◌, ◌/◌, ◌%◌, ◌≤◌, ◌<◌, ◌≡◌, Bool, true, false, List, Option, Some, None, Result, Ok, Err}
use Rattle.common.specs.Flags.{grants, rights}
use Rattle.refusal.specs.declared.Refusal.{Refusal}
use Rattle.refusal.specs.declared.Refusal.TheVariants.{NoMemory}
use Rattle.space.specs.Space.{region_at, mapping_at, is_mapping, mapping_place}
use Rattle.space.specs.Passes.{Passes, page_at}
use Rattle.space.specs.declared.Space.{Space}
use Rattle.vmar_offset.specs.Offset.{slot_of, free_mapping}
use Rattle.vmar_map.specs.Map.{mapped}
use Rattle.space.specs.Arrays.{Arrays}
use Rattle.vmar_laws.specs.Later.{Later}
use Rattle.vmar_laws.specs.Search.{FreeIn, FirstFit, NoFit}
use Rattle.vmar_laws.specs.Answers.{MapAnswers}

-- t has in slot i a new mapping of the region in slot r of s: of VMO v from `at` on, of this length, with permissions p
pub record NewMapping (s t : Space) (r i v at len p : ℕ) : Type 0 where
  -- "the lowest free one first"
  pub slot : i < 64
  pub free : is_mapping s i ≡ false
  pub lowest : (j : ℕ) → j < i → is_mapping s j ≡ true
  -- what stands there
  pub live : is_mapping t i ≡ true
  pub region : (mapping_at t i).region ≡ r
  pub size : (mapping_at t i).size ≡ len
  pub vmo : (mapping_at t i).vmo ≡ v
  pub offset : (mapping_at t i).offset ≡ at
  pub permissions : (mapping_at t i).permissions ≡ p
  -- it lies in that region and overlaps nothing there
  pub fits : FreeIn s r (mapping_at t i).addr (mapping_at t i).size
  -- it is last in the list
  pub count : t.mapcount ≡ s.mapcount + 1
  pub last : mapping_place t s.mapcount ≡ i

-- all but slot i and the end of the list of mappings is as it was
pub record MappingsKept (s t : Space) (i : ℕ) : Type 0 where
  pub mappings : (j : ℕ) → (j ≡ i → ⊥) → mapping_at t j ≡ mapping_at s j
  pub maplist : (k : ℕ) → k < s.mapcount → mapping_place t k ≡ mapping_place s k
  pub regions : t.regions ≡ s.regions
  pub reglist : t.reglist ≡ s.reglist
  pub regcount : t.regcount ≡ s.regcount
  pub nextid : t.nextid ≡ s.nextid

-- the page flags f have become g: the pages of slot i have these flags, those of other slots what they had
pub record PagesGiven (f g : List ℕ) (i pages flags : ℕ) : Type 0 where
  pub given : (j : ℕ) → j < pages → page_at g i j ≡ flags
  pub past : (j : ℕ) → pages ≤ j → j < 512 → page_at g i j ≡ 0
  pub kept : (k j : ℕ) → (k ≡ i → ⊥) → j < 512 → page_at g k j ≡ page_at f k j

-- s and f have become t and g: addr is where a new mapping of the region in slot r stands
pub record Accepted (s t : Space) (f g : List ℕ) (r addr : ℕ) (o : Option ℕ) (vmo vmo-len at len permissions flags : ℕ) (faults : Bool) : Type 0 where
  pub passes : Passes t g
  pub arrays : Arrays t
  pub mapping : NewMapping s t r (free_mapping s) vmo at len permissions
  pub kept : MappingsKept s t (free_mapping s)
  pub pages : PagesGiven f g (free_mapping s) (len / 4096) flags
  -- the permissions grant the rights, and the range lies in the VMO unless faults are allowed
  pub granted : grants permissions (rights flags) ≡ true
  pub within : faults ≡ false → at + len ≤ vmo-len
  -- the answer is its address, of a whole page
  pub address : (mapping_at t (free_mapping s)).addr ≡ addr
  pub aligned : addr % 4096 ≡ 0
  -- at the offset asked for, a whole number of pages
  pub hinted : (off : ℕ) → o ≡ Some off → (addr ≡ (region_at s r).addr + off) × (off % 4096 ≡ 0)
  -- or at the first that fits
  pub unhinted : o ≡ None → (off : ℕ) × (addr ≡ (region_at s r).addr + off) × FirstFit s r len 4096 off

-- What is proved of every call on a space that passes its check: `MapsAll`, below.
pub record Maps (s : Space) (f : List ℕ) (id : ℕ) (o : Option ℕ) (vmo vmo-len at len permissions flags : ℕ) (faults : Bool) : Type 0 where
  -- "A refusal .. changes nothing anywhere"
  pub refused : (why : Refusal) → (mapped s f id o vmo vmo-len at len permissions flags faults).result ≡ Err why
      → ((mapped s f id o vmo vmo-len at len permissions flags faults).space ≡ s) × ((mapped s f id o vmo vmo-len at len permissions flags faults).flags ≡ f)
  -- 3 only where "the unhinted search finds nothing"
  pub nowhere : (mapped s f id o vmo vmo-len at len permissions flags faults).result ≡ Err NoMemory → (o ≡ None) × NoFit s (slot_of s id) len 4096
  pub accepted : (addr : ℕ) → (mapped s f id o vmo vmo-len at len permissions flags faults).result ≡ Ok addr
      → Accepted s (mapped s f id o vmo vmo-len at len permissions flags faults).space f (mapped s f id o vmo vmo-len at len permissions flags faults).flags
      (slot_of s id) addr o vmo vmo-len at len permissions flags faults
  -- ids "never come back", refused or not
  pub later : Later s (mapped s f id o vmo vmo-len at len permissions flags faults).space
  -- what the call answers, and no second answer fits
  pub answers : MapAnswers s id o vmo-len at len permissions flags faults (mapped s f id o vmo vmo-len at len permissions flags faults).result
  pub only : (x : Result ℕ Refusal) → MapAnswers s id o vmo-len at len permissions flags faults x → x ≡ (mapped s f id o vmo vmo-len at len permissions flags faults).result

pub record MapsAll : Type 0 where
  pub holds : (s : Space) (f : List ℕ) → Arrays s → Passes s f → (id : ℕ) (o : Option ℕ) (vmo vmo-len at len permissions flags : ℕ) (faults : Bool)
      → Maps s f id o vmo vmo-len at len permissions flags faults
