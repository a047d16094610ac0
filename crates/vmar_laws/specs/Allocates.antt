-- What `allocate` on a space that passes its check does. Document 01: "A refusal gives value 0 and changes nothing anywhere"; "every child and mapping is in one list
-- and inside its region, no two of a region overlap"; "Slots .. are used again, the lowest free one first"; "Region ids count up from 0 (the root)"; 'Regions' on the
-- offset.
use Rattle.std.specs.Prelude.{ℕ, ◌+◌, ◌<◌, ◌≡◌, true, false, List, Option, Some, None, Result, Ok, Err}
use Rattle.vm.specs.Align.{multiple}
use Rattle.refusal.specs.declared.Refusal.{Refusal}
use Rattle.refusal.specs.declared.Refusal.TheVariants.{NoMemory}
use Rattle.space.specs.Space.{region_at, is_region, region_place}
use Rattle.space.specs.Passes.{Passes}
use Rattle.space.specs.declared.Space.{Space}
use Rattle.vmar_offset.specs.Offset.{slot_of, free_region}
use Rattle.vmar_allocate.specs.Allocate.{allocated}
use Rattle.space.specs.Arrays.{Arrays}
use Rattle.vmar_laws.specs.Later.{Later}
use Rattle.vmar_laws.specs.Search.{FreeIn, FirstFit, NoFit}
use Rattle.vmar_laws.specs.Answers.{AllocateAnswers}

-- t has in slot i a new child of the region in slot r of s, of this length and these flags
pub record NewChild (s t : Space) (r i len f : ℕ) : Type 0 where
  -- "the lowest free one first"
  pub slot : i < 32
  pub free : is_region s i ≡ false
  pub lowest : (j : ℕ) → j < i → is_region s j ≡ true
  -- what stands there
  pub live : is_region t i ≡ true
  pub id : (region_at t i).id ≡ s.nextid
  pub size : (region_at t i).size ≡ len
  pub flags : (region_at t i).flags ≡ f
  pub parent : (region_at t i).parent ≡ r
  -- it lies in that region and overlaps nothing there
  pub fits : FreeIn s r (region_at t i).addr (region_at t i).size
  -- it is last in the list
  pub count : t.regcount ≡ s.regcount + 1
  pub last : region_place t s.regcount ≡ i
  -- the id is this region's, and the next call's is another
  pub found : slot_of t s.nextid ≡ i
  pub next : t.nextid ≡ s.nextid + 1

-- all but slot i and the end of the list of regions is as it was
pub record RegionsKept (s t : Space) (i : ℕ) : Type 0 where
  pub regions : (j : ℕ) → (j ≡ i → ⊥) → region_at t j ≡ region_at s j
  pub reglist : (k : ℕ) → k < s.regcount → region_place t k ≡ region_place s k
  pub mappings : t.mappings ≡ s.mappings
  pub maplist : t.maplist ≡ s.maplist
  pub mapcount : t.mapcount ≡ s.mapcount

-- s has become t: n is the id of a new child of the region in slot r
pub record Accepted (s t : Space) (pages : List ℕ) (r n : ℕ) (o : Option ℕ) (len flags align : ℕ) : Type 0 where
  pub passes : Passes t pages
  pub arrays : Arrays t
  pub id : n ≡ s.nextid
  pub child : NewChild s t r (free_region s) len flags
  pub kept : RegionsKept s t (free_region s)
  -- at the offset asked for, a multiple of the alignment
  pub hinted : (at : ℕ) → o ≡ Some at → ((region_at t (free_region s)).addr ≡ (region_at s r).addr + at) × (multiple at align ≡ true)
  -- or at the first that fits
  pub unhinted : o ≡ None → (at : ℕ) × ((region_at t (free_region s)).addr ≡ (region_at s r).addr + at) × FirstFit s r len align at

-- What is proved of every call on a space that passes its check: `AllocatesAll`, below.
pub record Allocates (s : Space) (pages : List ℕ) (id : ℕ) (o : Option ℕ) (len flags align : ℕ) : Type 0 where
  -- "A refusal .. changes nothing anywhere"
  pub refused : (why : Refusal) → (allocated s id o len flags align).result ≡ Err why → (allocated s id o len flags align).space ≡ s
  -- 3 only where "the unhinted search finds nothing"
  pub nowhere : (allocated s id o len flags align).result ≡ Err NoMemory → (o ≡ None) × NoFit s (slot_of s id) len align
  pub accepted : (n : ℕ) → (allocated s id o len flags align).result ≡ Ok n
      → Accepted s (allocated s id o len flags align).space pages (slot_of s id) n o len flags align
  -- ids "never come back", refused or not
  pub later : Later s (allocated s id o len flags align).space
  -- what the call answers, and no second answer fits
  pub answers : AllocateAnswers s id o len flags align (allocated s id o len flags align).result
  pub only : (x : Result ℕ Refusal) → AllocateAnswers s id o len flags align x → x ≡ (allocated s id o len flags align).result

pub record AllocatesAll : Type 0 where
  pub holds : (s : Space) (pages : List ℕ) → Arrays s → Passes s pages → (id : ℕ) (o : Option ℕ) (len flags align : ℕ) → Allocates s pages id o len flags align
