-- `place`: page-aligned, short enough, a slot; then the record and its page flags.
use Rattle.std.proofs.Common.{◌≡◌, ◌+◌, None, Some, Err, sym, ◌∙◌, le-ltb, leb-true, arith, rules}
use Rattle.common.proofs.Sets.{byte}
use Rattle.refusal.specs.declared.Refusal.TheVariants.{NoSlot}
use Rattle.scan.specs.Scan.{below}
use Rattle.space.specs.Space.{region_at}
use Rattle.space.proofs.Facts.{region_end, mapping_room}
use Rattle.vmar_offset.specs.Offset.{free_mapping}
use Rattle.vmar_offset.proofs.Found.{free_mapping_is, free_mapping_none}
use Rattle.vmar_map.proofs.Maps.{no_slot, made}
use Rattle.vmar_map.proofs.place.Goals as goal

pub overflow_add-addr : goal.overflow_add-addr
overflow_add-addr c =
    let a = c.args in
    let end = region_end c.requires.0.passes a.r c.requires.0.slot c.requires.0.live in
    let room = leb-true (a.offset + a.m.len) (region_at a.s.now a.r).size c.requires.1 in
    record { fits = omega arith }

pub returns-in_err-slot : goal.returns-in_err-slot
returns-in_err-slot c =
    let a = c.args in
    let none : below 64 (free_mapping a.s.now) ≡ None = search rules in
    let e : c.from_residual.result ≡ Err NoSlot = search rules in
    rw e (no_slot a.s.now a.pages.now a.r a.offset a.m.vmo.id a.m.vmo_offset a.m.len a.m.permissions.0 a.m.flags.0 (sym c.page_aligned.ensures ∙ c.if-not-page_aligned.false) (le-ltb _ _ c.if-m-gt-MOST.false) (free_mapping_none a.s.now none))

pub add_mapping-requires : goal.add_mapping-requires
add_mapping-requires c =
    let some : below 64 (free_mapping c.args.s.now) ≡ Some c.in_ok-slot.slot = search rules in
    let free = free_mapping_is c.args.s.now _ some in
    (free.slot, mapping_room c.requires.0.passes c.in_ok-slot.slot free.slot free.free)

pub overflow_cast-m : goal.overflow_cast-m
overflow_cast-m c = record { fits = byte c.args.m.flags.0 c.requires.3 }

pub fill-requires : goal.fill-requires
fill-requires c =
    let some : below 64 (free_mapping c.args.s.now) ≡ Some c.in_ok-slot.slot = search rules in
    let l = (free_mapping_is c.args.s.now _ some).slot in
    let n = c.requires.4 in
    let h = c.if-m-gt-MOST.false in
    omega arith

pub returns : goal.returns
returns c =
    let a = c.args in
    let some : below 64 (free_mapping a.s.now) ≡ Some c.in_ok-slot.slot = search rules in
    let free = free_mapping_is a.s.now _ some in
    made a.s.now a.pages.now a.r a.offset a.m.vmo.id a.m.vmo_offset a.m.len a.m.permissions.0 a.m.flags.0 (sym c.page_aligned.ensures ∙ c.if-not-page_aligned.false) (le-ltb _ _ c.if-m-gt-MOST.false) _ _ _ free.at free.is c.add_mapping.ensures c.fill.ensures
