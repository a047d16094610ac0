-- What lookups mean on a space that passes its check; proofs/Laws has the proof. Document 01, 'Regions': "A lookup descends into the first child that contains the address,
-- before mappings"; 'Refusal numbers': 9 where "a flags lookup finds neither child nor mapping".
use Rattle.std.specs.Prelude.{ℕ, ◌+◌, ◌-◌, ◌/◌, ◌≤◌, ◌<◌, ◌≡◌, true, false, List, Result, Ok, Err}
use Rattle.space.specs.Range.{contains}
use Rattle.space.specs.Space.{region_at, mapping_at, is_region, is_mapping, region_place}
use Rattle.space.specs.Passes.{Passes, page_at}
use Rattle.space.specs.declared.Space.{Space}
use Rattle.common.specs.declared.defs.MMUFlags.{MMUFlags}
use Rattle.refusal.specs.declared.Refusal.{Refusal}
use Rattle.refusal.specs.declared.Refusal.TheVariants.{NotMapped, NothingThere}
use Rattle.table.specs.Table.{queried}
use Rattle.vmar_lookup.specs.Lookup.{look, mapping_flags, answered, vaddr_flags}

-- slot m holds a live mapping, and it holds x
pub record Holds (s : Space) (x m : ℕ) : Type 0 where
  pub slot : m < 64
  pub live : is_mapping s m ≡ true
  pub holds : contains (mapping_at s m).addr (mapping_at s m).size x ≡ true

-- what a lookup of x in the region in slot r answers: 6 outside the region, the value of the mapping that holds x, 9 where none does
pub data FlagsAnswers (s : Space) (x r : ℕ) (value : ℕ → Result MMUFlags Refusal) : Result MMUFlags Refusal → Type 0 where
  outside : contains (region_at s r).addr (region_at s r).size x ≡ false → FlagsAnswers s x r value (Err NotMapped)
  held : contains (region_at s r).addr (region_at s r).size x ≡ true → (m : ℕ) → Holds s x m → FlagsAnswers s x r value (value m)
  bare : contains (region_at s r).addr (region_at s r).size x ≡ true → ((m : ℕ) → Holds s x m → ⊥) → FlagsAnswers s x r value (Err NothingThere)

-- y is that answer, and no second fits
pub record OneAnswer (s : Space) (x r : ℕ) (value : ℕ → Result MMUFlags Refusal) (y : Result MMUFlags Refusal) : Type 0 where
  pub answers : FlagsAnswers s x r value y
  pub only : (z : Result MMUFlags Refusal) → FlagsAnswers s x r value z → z ≡ y

-- the flags of the page of mapping m that holds x
abbrev pub of_page : Space → List ℕ → ℕ → ℕ → Result MMUFlags Refusal
of_page s f x m = Ok (record { 0 = page_at f m ((x - (mapping_at s m).addr) / 4096) })

-- What is proved of every space that passes its check: `LookupsAll`, below.
pub record Lookups (s : Space) (flags : List ℕ) : Type 0 where
  -- a lookup in a live region that holds x finds the mapping that holds x, wherever in the tree it is
  pub finds : (x r m : ℕ) → r < 32 → is_region s r ≡ true → contains (region_at s r).addr (region_at s r).size x ≡ true → Holds s x m → look s x 32 r ≡ Ok m
  -- what a lookup finds lives and holds x
  pub found_holds : (x r m : ℕ) → r < 32 → is_region s r ≡ true → look s x 32 r ≡ Ok m → Holds s x m
  -- and lies in the region that was asked
  pub found_inside : (x r m : ℕ) → r < 32 → is_region s r ≡ true → look s x 32 r ≡ Ok m
      → ((region_at s r).addr ≤ (mapping_at s m).addr) × ((mapping_at s m).addr + (mapping_at s m).size ≤ (region_at s r).addr + (region_at s r).size)
  -- the depth of 32 never bites: no greater one finds another thing
  pub depth : (x d k : ℕ) → k < s.regcount → 32 ≤ d → look s x 32 (region_place s k) ≡ look s x d (region_place s k)
  -- `get_mapping_flags` in a live region answers the flags of the page, `get_vaddr_flags` what the table answers at x
  pub mapping : (x r : ℕ) → r < 32 → is_region s r ≡ true → OneAnswer s x r (of_page s flags x) (mapping_flags s flags x r)
  pub vaddr : (x r : ℕ) → r < 32 → is_region s r ≡ true → (p : List ℕ) (b : ℕ) → OneAnswer s x r (λ m. answered (queried p b x)) (vaddr_flags s p b x r)

pub record LookupsAll : Type 0 where
  pub holds : (s : Space) (flags : List ℕ) → Passes s flags → Lookups s flags
