-- The half of `map_ext` that never overwrites, on a space that passes its check: its refusals in document 01's order ("11, unknown flag bits (1), .. then the Rust's
-- own order, then 10"), then the new mapping and its page flags.
use Rattle.std.specs.Prelude.{ℕ, zero, suc, ◌+◌, ◌*◌, ◌/◌, Bool, true, List, leb, ltb, eqb, set, Option, Result, Ok, Err}
use Rattle.paging.specs.Choice.{pick}
use Rattle.common.specs.Flags.{known_page, grants, rights}
use Rattle.vm.specs.Align.{multiple}
use Rattle.refusal.specs.declared.Refusal.{Refusal}
use Rattle.refusal.specs.declared.Refusal.TheVariants.{InvalidArgs, AccessDenied, BadState, NoSlot, BadHandle}
use Rattle.space.specs.Space.{region_at, with_mapping}
use Rattle.space.specs.declared.Mapping.{Mapping}
use Rattle.space.specs.declared.Space.{Space}
use Rattle.vmar_offset.specs.Offset.{slot_of, free_mapping, determine_offset}

-- the answer, the space and the lent page flags after a map
pub record MapDone : Type 0 where
  pub result : Result ℕ Refusal
  pub space : Space
  pub flags : List ℕ

abbrev pub done : Result ℕ Refusal → Space → List ℕ → MapDone
done x s f = record { result = x; space = s; flags = f }

-- a refusal changes nothing
abbrev pub refused : Space → List ℕ → Refusal → MapDone
refused s f why = done (Err why) s f

-- the n bytes from `at` on are b
unfoldable pub filled : List ℕ → ℕ → ℕ → ℕ → List ℕ
filled f at zero b = f
filled f at (suc n) b = set (filled f at n b) (at + n) b

-- the Rust's first tests: the VMO's range is page-aligned and does not overflow (1), the permissions grant the rights (2), the range lies in the VMO unless
-- faults are allowed (1)
unfoldable pub tested : ℕ → ℕ → ℕ → ℕ → ℕ → Bool → Result (Unit {0}) Refusal
tested vmo-len at len permissions flags faults =
    pick (multiple at 4096)
    (pick (multiple len 4096)
    (pick (leb (at + len) 0xffff_ffff_ffff_ffff)
    (pick (grants permissions (rights flags))
    (pick faults (Ok tt) (pick (leb (at + len) vmo-len) (Ok tt) (Err InvalidArgs)))
    (Err AccessDenied))
    (Err InvalidArgs))
    (Err InvalidArgs))
    (Err InvalidArgs)

-- the mapping of region r at this offset
abbrev pub mapping : Space → ℕ → ℕ → ℕ → ℕ → ℕ → ℕ → Mapping
mapping s r off vmo at len permissions = record {
  live = true;
  region = r;
  addr = (region_at s r).addr + off;
  size = len;
  vmo = vmo;
  offset = at;
  permissions = permissions;
}

-- "A mapping whose address is not page-aligned is 1, tested once its offset is found"; then 10, "a pool of slots .. is short, or a mapping exceeds 2 MiB"; else the
-- mapping in the lowest free slot, last in the list, each of its pages with the flags
unfoldable pub placed : Space → List ℕ → ℕ → ℕ → ℕ → ℕ → ℕ → ℕ → ℕ → MapDone
placed s f r off vmo at len permissions flags =
    pick (multiple ((region_at s r).addr + off) 4096)
    (pick (ltb 0x200000 len)
    (refused s f NoSlot)
    (pick (eqb (free_mapping s) 64)
    (refused s f NoSlot)
    (done (Ok ((region_at s r).addr + off)) (with_mapping s (free_mapping s) (mapping s r off vmo at len permissions)) (filled f (free_mapping s * 512) (len / 4096) flags))))
    (refused s f InvalidArgs)

-- at the offset that was found
abbrev pub settled : Space → List ℕ → ℕ → ℕ → ℕ → ℕ → ℕ → ℕ → Result ℕ Refusal → MapDone
settled s f r vmo at len permissions flags (Ok off) = placed s f r off vmo at len permissions flags
settled s f r vmo at len permissions flags (Err why) = refused s f why

-- in the region of this id, unless it is dead (5)
unfoldable pub in_region : Space → List ℕ → ℕ → Option ℕ → ℕ → ℕ → ℕ → ℕ → ℕ → MapDone
in_region s f id o vmo at len permissions flags =
    pick (eqb (slot_of s id) 32)
    (refused s f BadState)
    (settled s f (slot_of s id) vmo at len permissions flags (determine_offset s (slot_of s id) o len 4096))

-- where the first tests find nothing
abbrev pub after_tests : Space → List ℕ → ℕ → Option ℕ → ℕ → ℕ → ℕ → ℕ → ℕ → Result (Unit {0}) Refusal → MapDone
after_tests s f id o vmo at len permissions flags (Ok _) = in_region s f id o vmo at len permissions flags
after_tests s f id o vmo at len permissions flags (Err why) = refused s f why

unfoldable pub mapped : Space → List ℕ → ℕ → Option ℕ → ℕ → ℕ → ℕ → ℕ → ℕ → ℕ → Bool → MapDone
mapped s f id o vmo vmo-len at len permissions flags faults =
    pick (ltb id s.nextid)
    (pick (known_page permissions)
    (pick (known_page flags)
    (after_tests s f id o vmo at len permissions flags (tested vmo-len at len permissions flags faults))
    (refused s f InvalidArgs))
    (refused s f InvalidArgs))
    (refused s f BadHandle)
