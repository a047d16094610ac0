-- The half of `map_ext` that overwrites, on a space that passes its check and a good pool: its refusals in document 01's order ("11, unknown flag bits (1), .. then the
-- Rust's own order, then 10, then 8"), then the cut, the new mapping and its page flags. "An unmap, overwrite, clear or destroy requires four free frames for each
-- non-empty mapping it will cut or drop, those in destroyed children included; otherwise 8. A split needs a slot free before the call and a new mapping one more, after
-- it"; "slots freed by a call do not count for that call"; "A refusal gives value 0 and changes nothing anywhere". Where nothing is met nothing is cut, and the call is
-- that of vmar_map.
use Rattle.std.specs.Prelude.{Result, Ok, Err, Option, Some, None}
use Rattle.std.specs.Prelude.{ℕ, ◌+◌, ◌*◌, ◌/◌, Bool, true, List, leb, ltb, eqb}
use Rattle.paging.specs.Choice.{pick}
use Rattle.common.specs.Flags.{known_page}
use Rattle.scan.specs.Scan.{first}
use Rattle.vm.specs.Align.{multiple}
use Rattle.refusal.specs.declared.Refusal.{Refusal}
use Rattle.refusal.specs.declared.Refusal.TheVariants.{InvalidArgs, BadState, BadHandle}
use Rattle.space.specs.Space.{region_at, with_mapping}
use Rattle.space.specs.declared.Mapping.{Mapping}
use Rattle.space.specs.declared.Space.{Space}
use Rattle.vmar_offset.specs.Offset.{slot_of, is_free_mapping, free_mapping, test_map}
use Rattle.vmar_map.specs.Map.{MapDone, filled, tested, mapping, placed}
use Rattle.vmar_prune.specs.Prune.{split_slot}
use Rattle.vmar_unmap.specs.Unmap.{State, state, CutDone, cut_range}

-- the answer, and what is there afterwards
pub record OverwriteDone : Type 0 where
  pub result : Result ℕ Refusal
  pub state : State

-- what a function hands back, and the space, the flags, the pool and the frames in use that it left
abbrev pub done : Result ℕ Refusal → Space → List ℕ → List ℕ → ℕ → OverwriteDone
done x s f p u = record { result = x; state = state s f p u }

-- a refusal changes nothing
abbrev pub refused : State → Refusal → OverwriteDone
refused st why = record { result = Err why; state = st }

-- the lowest slot but one that is free before the call
abbrev pub second_free : Space → ℕ
second_free s = first (is_free_mapping s) (free_mapping s + 1) 64

-- the new mapping's slot, 64 or more where none is left: a split's second part takes the lowest that is free before the call, and the new mapping "one more, after it"
unfoldable pub new_slot : Space → ℕ → ℕ → ℕ → ℕ
new_slot s r b e = pick (ltb (split_slot s r b e) 64) (second_free s) (free_mapping s)

-- 10: "a pool of slots .. is short, or a mapping exceeds 2 MiB"
unfoldable pub is_short : ℕ → ℕ → Bool
is_short len slot = pick (ltb 0x200000 len) true (leb 64 slot)

-- what was cut, with the mapping m in its slot, last in the list, each of its pages with the flags
abbrev pub with_new : State → ℕ → Mapping → ℕ → State
with_new st slot m flags = record {
  space = with_mapping st.space slot m;
  flags = filled st.flags (slot * 512) (m.size / 4096) flags;
  pool = st.pool;
  used = st.used;
}

-- after the cut, unless that is refused; the answer is the address
abbrev pub after_cut : State → ℕ → Mapping → ℕ → Result (Unit {0}) Refusal → OverwriteDone
after_cut st slot m flags (Ok _) = record { result = Ok m.addr; state = with_new st slot m flags }
after_cut st slot m flags (Err why) = refused st why

-- the range of the mapping m to be is cut out of its region
abbrev pub cut_for : ℕ → State → Mapping → ℕ → CutDone
cut_for base st m slot = cut_range base st m.region m.addr (m.addr + m.size) (is_short m.size slot)

abbrev pub slot_for : Space → Mapping → ℕ
slot_for s m = new_slot s m.region m.addr (m.addr + m.size)

-- where something is met: the Rust's `unmap_inner` refuses length 0 (1)
unfoldable pub replaced : ℕ → State → Mapping → ℕ → OverwriteDone
replaced base st m flags =
    let slot = slot_for st.space m in
    let c = cut_for base st m slot in
    pick (eqb m.size 0) (refused st InvalidArgs) (after_cut c.state slot m flags c.result)

-- where nothing is met: no table is cut
abbrev pub uncut : State → MapDone → OverwriteDone
uncut st d = record { result = d.result; state = record { space = d.space; flags = d.flags; pool = st.pool; used = st.used } }

-- at this offset of region r, the Rust's `test_map` telling whether something is met
unfoldable pub overlaid : ℕ → State → ℕ → ℕ → ℕ → ℕ → ℕ → ℕ → ℕ → OverwriteDone
overlaid base st r off vmo at len permissions flags =
    pick (test_map st.space r off len)
    (uncut st (placed st.space st.flags r off vmo at len permissions flags))
    (replaced base st (mapping st.space r off vmo at len permissions) flags)

-- the offset is of a whole page and the range lies in the region, else 1; sums do not wrap. "A mapping whose address is not page-aligned is 1, tested once its offset is
-- found"
unfoldable pub at_offset : ℕ → State → ℕ → ℕ → ℕ → ℕ → ℕ → ℕ → ℕ → OverwriteDone
at_offset base st r off vmo at len permissions flags =
    pick (multiple off 4096)
    (pick (leb (off + len) (region_at st.space r).size)
    (pick (multiple ((region_at st.space r).addr + off) 4096)
    (overlaid base st r off vmo at len permissions flags)
    (refused st InvalidArgs))
    (refused st InvalidArgs))
    (refused st InvalidArgs)

-- overwriting needs an offset (1)
abbrev pub by_offset : ℕ → State → ℕ → ℕ → ℕ → ℕ → ℕ → ℕ → Option ℕ → OverwriteDone
by_offset base st r vmo at len permissions flags (Some off) = at_offset base st r off vmo at len permissions flags
by_offset base st r vmo at len permissions flags None = refused st InvalidArgs

-- in the region of this id, unless it is dead (5)
unfoldable pub in_region : ℕ → State → ℕ → Option ℕ → ℕ → ℕ → ℕ → ℕ → ℕ → OverwriteDone
in_region base st id o vmo at len permissions flags =
    pick (eqb (slot_of st.space id) 32) (refused st BadState) (by_offset base st (slot_of st.space id) vmo at len permissions flags o)

-- where the first tests, those of vmar_map, find nothing
abbrev pub after_tests : ℕ → State → ℕ → Option ℕ → ℕ → ℕ → ℕ → ℕ → ℕ → Result (Unit {0}) Refusal → OverwriteDone
after_tests base st id o vmo at len permissions flags (Ok _) = in_region base st id o vmo at len permissions flags
after_tests base st id o vmo at len permissions flags (Err why) = refused st why

-- from 11 on
unfoldable pub overwritten : ℕ → State → ℕ → Option ℕ → ℕ → ℕ → ℕ → ℕ → ℕ → ℕ → Bool → OverwriteDone
overwritten base st id o vmo vmo-len at len permissions flags faults =
    pick (ltb id st.space.nextid)
    (pick (known_page permissions)
    (pick (known_page flags)
    (after_tests base st id o vmo at len permissions flags (tested vmo-len at len permissions flags faults))
    (refused st InvalidArgs))
    (refused st InvalidArgs))
    (refused st BadHandle)
