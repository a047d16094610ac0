-- Lookups in a live region of a space that passes its check. Document 01, 'Regions': "A lookup descends into the first child that contains the address, before
-- mappings"; 'Refusal numbers': NOTHING_THERE where "a flags lookup finds neither child nor mapping", NOT_MAPPED outside the region or "as
-- PagingError::NotMapped" from the table.
use Rattle.std.specs.Prelude.{ℕ, zero, suc, ◌-◌, ◌/◌, Bool, false, List, length, get_or, ltb, eqb, Option, Some, None, Result, Ok, Err}
use Rattle.paging.specs.Choice.{pick}
use Rattle.common.specs.declared.defs.MMUFlags.{MMUFlags}
use Rattle.common.specs.declared.vm.PageSize.{PageSize}
use Rattle.scan.specs.Scan.{first}
use Rattle.refusal.specs.declared.Refusal.{Refusal}
use Rattle.refusal.specs.declared.Refusal.TheVariants.{NotMapped, NothingThere}
use Rattle.space.specs.Range.{contains}
use Rattle.space.specs.Space.{region_at, mapping_at, region_place, mapping_place}
use Rattle.space.specs.Passes.{page_at}
use Rattle.space.specs.declared.Space.{Space}
use Rattle.table.specs.Table.{queried}

-- what belongs to `owner` belongs to region r and holds x
unfoldable pub owned : ℕ → ℕ → ℕ → ℕ → ℕ → Bool
owned owner r addr size x = pick (eqb owner r) (contains addr size x) false

-- the region at place k is a child of r that holds x; the first place of such a one
abbrev pub holds_child : Space → ℕ → ℕ → ℕ → Bool
holds_child s r x k = owned (region_at s (region_place s k)).parent r (region_at s (region_place s k)).addr (region_at s (region_place s k)).size x

abbrev pub child_holding : Space → ℕ → ℕ → ℕ
child_holding s r x = first (holds_child s r x) 0 s.regcount

-- the same of mappings
abbrev pub holds_mapping : Space → ℕ → ℕ → ℕ → Bool
holds_mapping s r x k = owned (mapping_at s (mapping_place s k)).region r (mapping_at s (mapping_place s k)).addr (mapping_at s (mapping_place s k)).size x

abbrev pub mapping_holding : Space → ℕ → ℕ → ℕ
mapping_holding s r x = first (holds_mapping s r x) 0 s.mapcount

-- any listed parts: the part at place k, whether it is of r and holds x, and the slot of the first such
abbrev pub part : {P : Type 0} → List P → List ℕ → P → ℕ → P
part parts list d k = get_or parts (get_or list k 0) d

abbrev pub holds_at : {P : Type 0} → (P → ℕ) → (P → ℕ) → (P → ℕ) → List P → List ℕ → P → ℕ → ℕ → ℕ → Bool
holds_at owner addr size parts list d r x k = owned (owner (part parts list d k)) r (addr (part parts list d k)) (size (part parts list d k)) x

abbrev pub slot_there : List ℕ → ℕ → Option ℕ
slot_there list k = pick (ltb k (length list)) (Some (get_or list k 0)) None

abbrev pub first_holding : {P : Type 0} → (P → ℕ) → (P → ℕ) → (P → ℕ) → List P → List ℕ → P → ℕ → ℕ → Option ℕ
first_holding owner addr size parts list d r x = slot_there list (first (holds_at owner addr size parts list d r x) 0 (length list))

-- one level of a lookup: it goes on in the child in this slot, ends at the mapping in this slot, or is refused
pub data Next : Type 0 where
  Down : ℕ → Next
  Here : ℕ → Next
  Refused : Refusal → Next

-- one level: outside the region, into a child, at a mapping, or nothing there
unfoldable pub step_at : Space → ℕ → ℕ → Next
step_at s x r =
    pick (contains (region_at s r).addr (region_at s r).size x)
    (pick (ltb (child_holding s r x) s.regcount)
    (Down (region_place s (child_holding s r x)))
    (pick (ltb (mapping_holding s r x) s.mapcount) (Here (mapping_place s (mapping_holding s r x))) (Refused NothingThere)))
    (Refused NotMapped)

abbrev pub follow : (ℕ → Result ℕ Refusal) → Next → Result ℕ Refusal
follow deeper (Down c) = deeper c
follow deeper (Here m) = Ok m
follow deeper (Refused why) = Err why

-- the mapping that a lookup of x in region r ends at, with so much depth left
unfoldable pub look : Space → ℕ → ℕ → ℕ → Result ℕ Refusal
look s x zero r = Err NothingThere
look s x (suc d) r = follow (look s x d) (step_at s x r)

-- the flags of the mapping's page
abbrev pub page_flags : Space → List ℕ → ℕ → Result ℕ Refusal → Result MMUFlags Refusal
page_flags s f x (Ok m) = Ok (record { 0 = page_at f m ((x - (mapping_at s m).addr) / 4096) })
page_flags s f x (Err why) = Err why

abbrev pub mapping_flags : Space → List ℕ → ℕ → ℕ → Result MMUFlags Refusal
mapping_flags s f x r = page_flags s f x (look s x 32 r)

-- the flags that the table answers where there is a mapping
abbrev pub answered : Result (ℕ × MMUFlags × PageSize) Refusal → Result MMUFlags Refusal
answered (Ok page) = Ok page.1
answered (Err why) = Err why

abbrev pub table_flags : List ℕ → ℕ → ℕ → Result ℕ Refusal → Result MMUFlags Refusal
table_flags p b x (Ok m) = answered (queried p b x)
table_flags p b x (Err why) = Err why

abbrev pub vaddr_flags : Space → List ℕ → ℕ → ℕ → ℕ → Result MMUFlags Refusal
vaddr_flags s p b x r = table_flags p b x (look s x 32 r)
