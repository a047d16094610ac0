-- `protect` on a space that passes its check and a good pool. Document 01, 'Regions': "`protect` compares with closed ends: a child that merely touches gives 1, a
-- touching mapping must grant the rights too"; 'Refusal numbers': "11, unknown flag bits (1), .. then the Rust's own order". The rest is the Rust: the parts of the
-- region's mappings in the range must make up its length (4), then each page in the range gets the rights, in its page flags and by the table's `update`, whose refusal
-- is passed over. The records of the space do not change.
use Rattle.std.specs.Prelude.{None, Some, Result, Ok, Err, min, max}
use Rattle.std.specs.Prelude.{ℕ, zero, suc, ◌+◌, ◌-◌, ◌*◌, ◌/◌, Bool, false, not, List, leb, ltb, eqb, set}
use Rattle.paging.specs.Choice.{pick}
use Rattle.common.specs.Flags.{known_page, grants, rights}
use Rattle.scan.specs.Scan.{some}
use Rattle.vm.specs.Align.{multiple}
use Rattle.refusal.specs.declared.Refusal.{Refusal}
use Rattle.refusal.specs.declared.Refusal.TheVariants.{InvalidArgs, AccessDenied, NotFound, BadState, BadHandle}
use Rattle.table.specs.Table.{updated}
use Rattle.space.specs.Space.{region_at, mapping_at, region_place, mapping_place}
use Rattle.space.specs.Passes.{page_at}
use Rattle.space.specs.declared.Mapping.{Mapping}
use Rattle.space.specs.declared.Space.{Space}
use Rattle.vmar_offset.specs.Offset.{slot_of}

-- what belongs to `owner` belongs to region r, and its range [a, a + n] touches [begin, end], both closed
unfoldable pub touches : ℕ → ℕ → ℕ → ℕ → ℕ → ℕ → Bool
touches owner r a n begin end = pick (eqb owner r) (pick (ltb (a + n) begin) false (leb a end)) false

-- the region at place k is a child of r that touches; some child does
abbrev pub touches_child : Space → ℕ → ℕ → ℕ → ℕ → Bool
touches_child s r begin end k = touches (region_at s (region_place s k)).parent r (region_at s (region_place s k)).addr (region_at s (region_place s k)).size begin end

abbrev pub child_touched : Space → ℕ → ℕ → ℕ → Bool
child_touched s r begin end = some (touches_child s r begin end) 0 s.regcount

-- m is a mapping of r that touches
abbrev pub touching : Mapping → ℕ → ℕ → ℕ → Bool
touching m r begin end = touches m.region r m.addr m.size begin end

-- the part of a touching mapping in the range: where it begins, where it ends
unfoldable pub part_from : Mapping → ℕ → ℕ
part_from m begin = max begin m.addr

unfoldable pub part_to : Mapping → ℕ → ℕ
part_to m end = min end (m.addr + m.size)

-- a mapping's changed pages are one range, so many from the first on: those of its part
pub record Changed : Type 0 where
  pub first : ℕ
  pub count : ℕ

abbrev pub changed : Mapping → ℕ → ℕ → Changed
changed m begin end = record { first = (part_from m begin - m.addr) / 4096; count = (part_to m end - part_from m begin) / 4096 }

-- what a mapping adds to the length that is covered; and what those at the first n places do
unfoldable pub part_in : Mapping → ℕ → ℕ → ℕ → ℕ
part_in m r begin end = pick (touching m r begin end) (part_to m end - part_from m begin) 0

unfoldable pub total : Space → ℕ → ℕ → ℕ → ℕ → ℕ
total s r begin end zero = 0
total s r begin end (suc k) = total s r begin end k + part_in (mapping_at s (mapping_place s k)) r begin end

-- m touches and does not grant the rights; some mapping does so
unfoldable pub denies : Mapping → ℕ → ℕ → ℕ → ℕ → Bool
denies m r begin end access = pick (touching m r begin end) (not (grants m.permissions (rights access))) false

abbrev pub denies_at : Space → ℕ → ℕ → ℕ → ℕ → ℕ → Bool
denies_at s r begin end access k = denies (mapping_at s (mapping_place s k)) r begin end access

abbrev pub denied : Space → ℕ → ℕ → ℕ → ℕ → Bool
denied s r begin end access = some (denies_at s r begin end access) 0 s.mapcount

-- page flags without their READ, WRITE and EXECUTE, and with those of `access`
abbrev pub with_rights : ℕ → ℕ → ℕ
with_rights old access = old - rights old + rights access

-- the two lent buffers: the page flags and the pool
pub record Lent : Type 0 where
  pub flags : List ℕ
  pub pool : List ℕ

abbrev pub lent : List ℕ → List ℕ → Lent
lent f p = record { flags = f; pool = p }

-- page i of mapping m in slot j gets its new flags, and the leaf over it the same by `update`, unless there is none
unfoldable pub page_done : Lent → ℕ → Mapping → ℕ → ℕ → ℕ → Lent
page_done t b m j access i =
    lent (set t.flags (j * 512 + i) (with_rights (page_at t.flags j i) access))
    (updated t.pool b (m.addr + i * 4096) None (Some (record { 0 = with_rights (page_at t.flags j i) access }))).pool

-- the n pages from `first` on, one after the other
unfoldable pub pages_done : Lent → ℕ → Mapping → ℕ → ℕ → ℕ → ℕ → Lent
pages_done t b m j access first zero = t
pages_done t b m j access first (suc n) = page_done (pages_done t b m j access first n) b m j access (first + n)

-- the changed pages of the mapping at place k, where it touches
unfoldable pub mapping_done : Lent → ℕ → Space → ℕ → ℕ → ℕ → ℕ → ℕ → Lent
mapping_done t b s r begin end access k =
    let m = mapping_at s (mapping_place s k) in
    pick (touching m r begin end) (pages_done t b m (mapping_place s k) access (changed m begin end).first (changed m begin end).count) t

-- those at the first n places, in the list's order
unfoldable pub mappings_done : Lent → ℕ → Space → ℕ → ℕ → ℕ → ℕ → ℕ → Lent
mappings_done t b s r begin end access zero = t
mappings_done t b s r begin end access (suc k) = mapping_done (mappings_done t b s r begin end access k) b s r begin end access k

-- the answer and the two buffers after a protect
pub record ProtectDone : Type 0 where
  pub result : Result (Unit {0}) Refusal
  pub flags : List ℕ
  pub pool : List ℕ

abbrev pub done : Result (Unit {0}) Refusal → Lent → ProtectDone
done x t = record { result = x; flags = t.flags; pool = t.pool }

-- a refusal changes nothing
abbrev pub refused : Lent → Refusal → ProtectDone
refused t why = done (Err why) t

-- the range [begin, begin + len) in the live region r
unfoldable pub in_region : Space → Lent → ℕ → ℕ → ℕ → ℕ → ℕ → ProtectDone
in_region s t b r begin len access =
    pick (child_touched s r begin (begin + len))
    (refused t InvalidArgs)
    (pick (eqb (total s r begin (begin + len) s.mapcount) len)
    (pick (denied s r begin (begin + len) access)
    (refused t AccessDenied)
    (done (Ok tt) (mappings_done t b s r begin (begin + len) access s.mapcount)))
    (refused t NotFound))

-- the call, from 11 on; b is the number of the pool's first frame
unfoldable pub protected : Space → Lent → ℕ → ℕ → ℕ → ℕ → ℕ → ProtectDone
protected s t b id begin len access =
    pick (ltb id s.nextid)
    (pick (known_page access)
    (pick (multiple begin 4096)
    (pick (multiple len 4096)
    (pick (eqb (slot_of s id) 32)
    (refused t BadState)
    (pick (leb (begin + len) 0xffff_ffff_ffff_ffff) (in_region s t b (slot_of s id) begin len access) (refused t InvalidArgs)))
    (refused t InvalidArgs))
    (refused t InvalidArgs))
    (refused t InvalidArgs))
    (refused t BadHandle)
