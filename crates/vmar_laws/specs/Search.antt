-- Where a child or a mapping may go, and which offset the unhinted search finds. Document 01, 'Regions': "Lists keep the Rust's order; the search tries offset 0,
-- then child ends, then mapping ends. A candidate that is no multiple of the alignment is passed over"; 'Refusal numbers': 3 where "the unhinted search finds
-- nothing". What a candidate is and when it is taken is `candidate` and `taken` of vmar_offset/specs/Offset; offset 0 is a multiple of everything.
use Rattle.std.specs.Prelude.{ℕ, ◌<◌, ◌≡◌, true, false}
use Rattle.space.specs.Range.{overlap, inside}
use Rattle.space.specs.Space.{region_at, mapping_at, is_region, is_mapping}
use Rattle.space.specs.declared.Space.{Space}
use Rattle.vmar_offset.specs.Offset.{test_map, takes_child, takes_mapping, child_end, mapping_end}

-- [a, a + n) may go to the region in slot r, which lives: it lies "inside its region", and "no two of a region overlap"
pub record FreeIn (s : Space) (r a n : ℕ) : Type 0 where
  pub slot : r < 32
  pub live : is_region s r ≡ true
  pub inner : inside a n (region_at s r).addr (region_at s r).size ≡ true
  pub children : (j : ℕ) → j < 32 → is_region s j ≡ true → (region_at s j).parent ≡ r → overlap (region_at s j).addr (region_at s j).size a n ≡ false
  pub mappings : (j : ℕ) → j < 64 → is_mapping s j ≡ true → (mapping_at s j).region ≡ r → overlap (mapping_at s j).addr (mapping_at s j).size a n ≡ false

-- offset 0 is not free, and no child's end before place k is taken; the same of mappings
pub record NoChild (s : Space) (r len align k : ℕ) : Type 0 where
  pub start : test_map s r 0 len ≡ false
  pub before : (j : ℕ) → j < k → takes_child s r len align j ≡ false

abbrev pub NoMapping : Space → ℕ → ℕ → ℕ → ℕ → Type 0
NoMapping s r len align k = (j : ℕ) → j < k → takes_mapping s r len align j ≡ false

-- the first candidate for `len` bytes in region r that is taken, in the Rust's order
pub data FirstFit (s : Space) (r len align : ℕ) : ℕ → Type 0 where
  -- offset 0
  start : test_map s r 0 len ≡ true → FirstFit s r len align 0
  -- the end of the child at place k
  child : (k : ℕ) → k < s.regcount → NoChild s r len align k → takes_child s r len align k ≡ true → FirstFit s r len align (child_end s r k)
  -- the end of the mapping at place k
  mapping : (k : ℕ) → k < s.mapcount → NoChild s r len align s.regcount → NoMapping s r len align k → takes_mapping s r len align k ≡ true
      → FirstFit s r len align (mapping_end s r k)

-- no candidate is taken
pub record NoFit (s : Space) (r len align : ℕ) : Type 0 where
  pub children : NoChild s r len align s.regcount
  pub mappings : NoMapping s r len align s.mapcount

-- What is proved of them: they fix the offset.
pub record OneFit : Type 0 where
  pub only : (s : Space) (r len align a b : ℕ) → FirstFit s r len align a → FirstFit s r len align b → a ≡ b
  pub none : (s : Space) (r len align a : ℕ) → NoFit s r len align → FirstFit s r len align a → ⊥
