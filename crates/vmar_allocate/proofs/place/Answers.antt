-- `place`: a slot, an id, the child.
use Rattle.std.proofs.Common.{◌≡◌, ◌+◌, None, Some, Ok, Err, ◌∙◌, ap, leb-true, lt-ltb, arith, rules}
use Rattle.refusal.specs.declared.Refusal.TheVariants.{NoSlot}
use Rattle.scan.specs.Scan.{below}
use Rattle.space.specs.Space.{region_at}
use Rattle.space.specs.declared.Space.{Space}
use Rattle.space.proofs.Facts.{region_end, region_room}
use Rattle.vmar_offset.specs.Offset.{free_region}
use Rattle.vmar_offset.proofs.Found.{free_region_is, free_region_none}
use Rattle.vmar_allocate.specs.Allocate.{done}
use Rattle.vmar_allocate.proofs.Allocates.{no_slot, made}
use Rattle.vmar_allocate.proofs.place.Goals as goal

pub returns-in_err-slot : goal.returns-in_err-slot
returns-in_err-slot c =
    let a = c.args in
    let none : below 32 (free_region a.s.now) ≡ None = search rules in
    let e : c.from_residual.result ≡ Err NoSlot = search rules in
    rw e (no_slot a.s.now a.r a.offset a.len a.flags.0 (free_region_none a.s.now none))

pub overflow_add-child : goal.overflow_add-child
overflow_add-child c =
    let pre = c.requires in
    let a = c.args in
    let end = region_end pre.0.passes a.r pre.0.slot pre.0.live in
    let room = leb-true (a.offset + a.len) (region_at a.s.now a.r).size pre.1 in
    record { fits = omega arith }

pub add_region-requires : goal.add_region-requires
add_region-requires c =
    let some : below 32 (free_region c.args.s.now) ≡ Some c.in_ok-slot.slot = search rules in
    let free = free_region_is c.args.s.now _ some in
    (free.slot, region_room c.requires.0.passes c.in_ok-slot.slot free.slot free.free, omega arith)

pub returns : goal.returns
returns c =
    let a = c.args in
    let some : below 32 (free_region a.s.now) ≡ Some c.in_ok-slot.slot = search rules in
    let free = free_region_is a.s.now _ some in
    ap (λ (x : Space). done (Ok a.s.now.nextid) x) c.add_region.ensures ∙ made a.s.now a.r a.offset a.len a.flags.0 _ free.at free.is (lt-ltb _ _ c.if-s-ge-IDS.false)
