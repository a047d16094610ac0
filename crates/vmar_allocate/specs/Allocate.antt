-- `allocate` on a space that passes its check: its refusals in document 01's order ("11, unknown flag bits (1), .. then the Rust's own order, then 10"), then the
-- new child. "Region ids count up from 0 (the root) and never come back within a space; 2^32 − 1 is never issued"; "the lowest free one first".
use Rattle.std.specs.Prelude.{ℕ, ◌+◌, ◌-◌, ◌^◌, true, ltb, eqb, Option, Result, Ok, Err}
use Rattle.paging.specs.Choice.{pick}
use Rattle.common.specs.Flags.{known_region}
use Rattle.refusal.specs.declared.Refusal.{Refusal}
use Rattle.refusal.specs.declared.Refusal.TheVariants.{InvalidArgs, BadState, NoSlot, BadHandle}
use Rattle.space.specs.Space.{region_at, with_region}
use Rattle.space.specs.declared.Region.{Region}
use Rattle.space.specs.declared.Space.{Space}
use Rattle.vmar_offset.specs.Offset.{slot_of, free_region, determine_offset}

-- the new region's id, or why there is none; and the space afterwards
pub record Allocation : Type 0 where
  pub result : Result ℕ Refusal
  pub space : Space

abbrev pub done : Result ℕ Refusal → Space → Allocation
done x s = record { result = x; space = s }

-- a refusal changes nothing
abbrev pub refused : Space → Refusal → Allocation
refused s why = done (Err why) s

-- the child of region r at this offset
abbrev pub child : Space → ℕ → ℕ → ℕ → ℕ → Region
child s r off len flags = record { live = true; id = s.nextid; addr = (region_at s r).addr + off; size = len; flags = flags; parent = r }

-- "a pool of slots or ids is short" (10), else the child in the lowest free slot, last in the list
unfoldable pub placed : Space → ℕ → ℕ → ℕ → ℕ → Allocation
placed s r off len flags =
    pick (eqb (free_region s) 32)
    (refused s NoSlot)
    (pick (ltb s.nextid (2 ^ 32 - 1))
    (done (Ok s.nextid) (with_region s (free_region s) (child s r off len flags)))
    (refused s NoSlot))

-- at the offset that was found
abbrev pub settled : Space → ℕ → ℕ → ℕ → Result ℕ Refusal → Allocation
settled s r len flags (Ok off) = placed s r off len flags
settled s r len flags (Err why) = refused s why

unfoldable pub allocated : Space → ℕ → Option ℕ → ℕ → ℕ → ℕ → Allocation
allocated s id o len flags align =
    pick (ltb id s.nextid)
    (pick (known_region flags)
    (pick (eqb (slot_of s id) 32) (refused s BadState) (settled s (slot_of s id) len flags (determine_offset s (slot_of s id) o len align)))
    (refused s InvalidArgs))
    (refused s BadHandle)
