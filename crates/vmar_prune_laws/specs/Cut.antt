-- What cutting [b, e) out of region r of a space that passes its check does to the space and to its page flags. Document 01: "A space passes its check when .."; "Region
-- ids .. never come back within a space", "An id once issued whose region is gone is 5"; "Lists keep the Rust's order"; "any accepted unmap drops all empty mappings of its
-- region"; "Flags of free slots and past a mapping's last page are zero"; of slots, "the lowest free one first; slots freed by a call do not count for that call".
use Rattle.std.specs.Prelude.{ℕ, ◌+◌, ◌-◌, ◌/◌, ◌≤◌, ◌<◌, ◌≡◌, Bool, true, false, not, List, ◌⊎◌, get_or}
use Rattle.space.specs.Range.{contains}
use Rattle.space.specs.Space.{region_at, mapping_at, is_region, is_mapping, blank_region}
use Rattle.space.specs.Passes.{Passes, page_at}
use Rattle.space.specs.Arrays.{Arrays}
use Rattle.space.specs.declared.Space.{Space}
use Rattle.vmar_offset.specs.Offset.{slot_of, free_mapping}
use Rattle.vmar_laws.specs.Later.{Later}
use Rattle.vmar_prune.specs.Prune.{split_slot, cut_space, cut_flags}
use Rattle.vmar_prune_laws.specs.Cutting.{Cutting}
use Rattle.vmar_prune_laws.specs.Order.{InOrder}
use Rattle.vmar_prune_laws.specs.Part.{Taken}
use Rattle.vmar_prune_laws.specs.Lists.{MapList}

-- the regions of s have become those of t
pub record RegionsCut (s t : Space) (marks : List Bool) : Type 0 where
  -- one with no mark is as it was, one with a mark is gone
  pub kept : (i : ℕ) → i < 32 → get_or marks i false ≡ false → region_at t i ≡ region_at s i
  pub gone : (i : ℕ) → i < 32 → get_or marks i false ≡ true → region_at t i ≡ blank_region
  -- "Lists keep the Rust's order"
  pub list : InOrder (λ (i : ℕ). not (get_or marks i false)) s.reglist s.regcount t.reglist t.regcount
  -- no id is issued; "An id once issued whose region is gone is 5"
  pub next : t.nextid ≡ s.nextid
  pub dead : (i : ℕ) → i < 32 → is_region s i ≡ true → get_or marks i false ≡ true → slot_of t (region_at s i).id ≡ 32

-- slot j of t and g holds the address x as slot i of s and f did
pub record SameAt (s : Space) (f : List ℕ) (i : ℕ) (t : Space) (g : List ℕ) (j x : ℕ) : Type 0 where
  -- it lives and holds x
  pub slot : j < 64
  pub live : is_mapping t j ≡ true
  pub holds : contains (mapping_at t j).addr (mapping_at t j).size x ≡ true
  -- in the same region, of the same VMO, with the same permissions
  pub region : (mapping_at t j).region ≡ (mapping_at s i).region
  pub vmo : (mapping_at t j).vmo ≡ (mapping_at s i).vmo
  pub permissions : (mapping_at t j).permissions ≡ (mapping_at s i).permissions
  -- the same address in the VMO, and the flags of the same page
  pub offset : (mapping_at t j).offset + (x - (mapping_at t j).addr) ≡ (mapping_at s i).offset + (x - (mapping_at s i).addr)
  pub flags : page_at g j ((x - (mapping_at t j).addr) / 4096) ≡ page_at f i ((x - (mapping_at s i).addr) / 4096)

-- the mappings of s and their page flags f have become those of t and g
pub record MappingsCut (s : Space) (f : List ℕ) (marks : List Bool) (r b e : ℕ) (t : Space) (g : List ℕ) : Type 0 where
  -- one of another region that stays is as it was, with all its flags
  pub others : (i : ℕ) → i < 64 → is_mapping s i ≡ true → get_or marks (mapping_at s i).region false ≡ false → ((mapping_at s i).region ≡ r → ⊥)
      → (mapping_at t i ≡ mapping_at s i) × ((p : ℕ) → p < 512 → page_at g i p ≡ page_at f i p)
  -- of region r every address outside the range is held as it was
  pub kept : (i x : ℕ) → i < 64 → is_mapping s i ≡ true → (mapping_at s i).region ≡ r → get_or marks r false ≡ false
      → contains (mapping_at s i).addr (mapping_at s i).size x ≡ true → (x < b) ⊎ (e ≤ x) → (j : ℕ) × SameAt s f i t g j x
  -- and none in it
  pub gone : (j x : ℕ) → j < 64 → is_mapping t j ≡ true → (mapping_at t j).region ≡ r → contains (mapping_at t j).addr (mapping_at t j).size x ≡ true → b ≤ x → x < e → ⊥
  -- "drops all empty mappings of its region"
  pub empty : (j : ℕ) → j < 64 → is_mapping t j ≡ true → (mapping_at t j).region ≡ r → 0 < (mapping_at t j).size
  -- no mapping of a region that goes is left
  pub dropped : (j : ℕ) → j < 64 → is_mapping t j ≡ true → get_or marks (mapping_at t j).region false ≡ false
  -- nothing is new: each is a part of one of s, in its slot or, the second part of a split, in the lowest that was free
  pub part : (j : ℕ) → j < 64 → is_mapping t j ≡ true → (i : ℕ) × Taken s f i t g j × ((j ≡ i) ⊎ ((j ≡ free_mapping s) × (i ≡ split_slot s r b e)))
  -- "Lists keep the Rust's order"
  pub list : MapList s t r b e

-- s and f have become t and g
pub record Cut (s : Space) (f : List ℕ) (marks : List Bool) (r b e : ℕ) (t : Space) (g : List ℕ) : Type 0 where
  -- t "passes its check", its arrays as long as they were
  pub passes : Passes t g
  pub arrays : Arrays t
  -- ids "never come back"
  pub later : Later s t
  -- what goes and what stays
  pub regions : RegionsCut s t marks
  pub mappings : MappingsCut s f marks r b e t g

-- What is proved of every cut.
pub record CutAll : Type 0 where
  pub holds : (s : Space) (f : List ℕ) (marks : List Bool) (r b e : ℕ) → Cutting s f marks r b e → Cut s f marks r b e (cut_space s marks r b e) (cut_flags s f marks r b e)
