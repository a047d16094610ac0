-- The cuts that the calls make. unmap and overwrite cut the range asked for, by vmar_doom's marks; clear cuts [0, END), and so does destroy, with a mark for the region
-- itself. Document 01: "User root 0x200000 up to 2^47 − 4096; kernel root 0xffffff0200000000, size 0x8000000000", so that all lies before END; "An id once issued whose
-- region is gone is 5".
use Rattle.std.specs.Prelude.{ℕ, ◌%◌, ◌≤◌, ◌<◌, ◌≡◌, Bool, true, false, List, length, get_or, set}
use Rattle.space.specs.Space.{region_at, mapping_at, is_region, is_mapping, no_region}
use Rattle.space.specs.Passes.{Passes}
use Rattle.space.specs.Arrays.{Arrays}
use Rattle.space.specs.declared.Space.{Space}
use Rattle.vmar_offset.specs.Offset.{slot_of, free_mapping}
use Rattle.vmar_doom.specs.Doomed.{Marks, marked}
use Rattle.vmar_prune.specs.Prune.{split_slot, cut_space}
use Rattle.vmar_prune_laws.specs.Cutting.{Cutting}

abbrev pub END : ℕ
END = 0xffff_ffff_ffff_f000

-- a live region r, and marks of the regions that go when [b, e) is cut out of it
pub record Marking (s : Space) (f : List ℕ) (marks : List Bool) (r b e : ℕ) : Type 0 where
  pub arrays : Arrays s
  pub passes : Passes s f
  -- r lives
  pub slot : r < 32
  pub live : is_region s r ≡ true
  -- a mark for each slot
  pub long : length marks ≡ 32
  pub doomed : Marks s r b e marks

-- slot i holds a region below r
pub data Under (s : Space) (r : ℕ) : ℕ → Type 0 where
  -- a child of r
  child : (i : ℕ) → i < 32 → is_region s i ≡ true → (region_at s i).parent ≡ r → Under s r i
  -- one whose parent is below r
  deeper : (i : ℕ) → i < 32 → is_region s i ≡ true → Under s r (region_at s i).parent → Under s r i

-- t is s with region r empty
pub record Cleared (s t : Space) (r : ℕ) : Type 0 where
  -- it has no mapping
  pub mappings : (j : ℕ) → j < 64 → is_mapping t j ≡ true → (mapping_at t j).region ≡ r → ⊥
  -- the ids of all below it are without a region
  pub below : (i : ℕ) → Under s r i → slot_of t (region_at s i).id ≡ 32
  -- every other region is as it was, r too
  pub kept : (i : ℕ) → i < 32 → (Under s r i → ⊥) → region_at t i ≡ region_at s i

-- t is s without region r and all below it
pub record Destroyed (s t : Space) (r : ℕ) : Type 0 where
  -- its id and those of all below it are without a region
  pub own : slot_of t (region_at s r).id ≡ 32
  pub below : (i : ℕ) → Under s r i → slot_of t (region_at s i).id ≡ 32
  -- every other region is as it was
  pub kept : (i : ℕ) → i < 32 → (Under s r i → ⊥) → (i ≡ r → ⊥) → region_at t i ≡ region_at s i
  -- nothing is left where r is the root
  pub root : (region_at s r).parent ≡ no_region → (t.regcount ≡ 0) × (t.mapcount ≡ 0)

-- What is proved of the calls' cuts: they are cuts, of which `CutAll` tells, and what is left of r.
pub record CallsAll : Type 0 where
  -- the marks that the calls make
  pub marks : (s : Space) (f : List ℕ) (r b e : ℕ) → Arrays s → Passes s f → r < 32 → is_region s r ≡ true → Marking s f (marked s r b e) r b e
  -- unmap and overwrite; "A split needs a slot free before the call"
  pub range : (s : Space) (f : List ℕ) (marks : List Bool) (r b e : ℕ) → Marking s f marks r b e → b ≤ e → b % 4096 ≡ 0 → e % 4096 ≡ 0
      → (split_slot s r b e < 64 → free_mapping s < 64) → Cutting s f marks r b e
  -- there the region itself has no mark
  pub stays : (s : Space) (f : List ℕ) (marks : List Bool) (r b e : ℕ) → Marking s f marks r b e → get_or marks r false ≡ false
  -- clear leaves the region
  pub clear : (s : Space) (f : List ℕ) (marks : List Bool) (r : ℕ) → Marking s f marks r 0 END → Cutting s f marks r 0 END × Cleared s (cut_space s marks r 0 END) r
  -- destroy does not
  pub destroy : (s : Space) (f : List ℕ) (marks : List Bool) (r : ℕ) → Marking s f marks r 0 END
      → Cutting s f (set marks r true) r 0 END × Destroyed s (cut_space s (set marks r true) r 0 END) r
