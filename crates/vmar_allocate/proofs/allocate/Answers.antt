-- `allocate`: 11, unknown flags, 5, then where it goes.
use Rattle.std.proofs.Common.{◌≡◌, None, Some, Ok, Err, sym, ◌∙◌, ap, lt-ltb, rules}
use Rattle.refusal.specs.declared.Refusal.TheVariants.{BadState}
use Rattle.scan.specs.Scan.{below}
use Rattle.space.specs.Passes.{LiveIn}
use Rattle.vmar_offset.specs.Offset.{slot_of, determine_offset}
use Rattle.vmar_offset.proofs.Found.{slot_is, slot_none, determined_free, free_fits}
use Rattle.vmar_allocate.specs.Allocate.{settled}
use Rattle.vmar_allocate.proofs.Allocates.{dead, alive}
use Rattle.vmar_allocate.proofs.allocate.Goals as goal

pub returns-in_err-r : goal.returns-in_err-r
returns-in_err-r c =
    let a = c.args in
    let none : below 32 (slot_of a.s.now a.id) ≡ None = search rules in
    let e : c.from_residual.result ≡ Err BadState = search rules in
    rw e (dead a.s.now a.id a.offset a.len a.flags.0 a.align (lt-ltb _ _ c.if-s-id.false) (sym c.is_known.ensures ∙ c.if-not-is_known.false) (slot_none a.s.now a.id none))

pub determine_offset-requires : goal.determine_offset-requires
determine_offset-requires c =
    let some : below 32 (slot_of c.args.s.now c.args.id) ≡ Some c.in_ok-r.r = search rules in
    let at = slot_is c.args.s.now c.args.id c.in_ok-r.r some in
    record { slot = at.slot; live = at.live; flags = c.requires.flags; passes = c.requires.passes }

pub returns-in_err-at : goal.returns-in_err-at
returns-in_err-at c =
    let a = c.args in
    let some : below 32 (slot_of a.s.now a.id) ≡ Some c.in_ok-r.r = search rules in
    let at = slot_is a.s.now a.id c.in_ok-r.r some in
    let e : c.from_residual-in_err-at.result ≡ Err c.in_err-at.field-0.0 = search rules in
    let d : determine_offset a.s.now c.in_ok-r.r a.offset a.len a.align ≡ Err c.in_err-at.field-0.0 = search rules in
    rw e (ap (settled a.s.now c.in_ok-r.r a.len a.flags.0) (sym d) ∙ alive a.s.now a.id a.offset a.len a.flags.0 a.align (lt-ltb _ _ c.if-s-id.false) (sym c.is_known.ensures ∙ c.if-not-is_known.false) c.in_ok-r.r at.at at.is)

pub place-requires : goal.place-requires
place-requires c =
    let a = c.args in
    let some : below 32 (slot_of a.s.now a.id) ≡ Some c.in_ok-r.r = search rules in
    let at = slot_is a.s.now a.id c.in_ok-r.r some in
    let live : LiveIn a.s.now c.in_ok-r.r = record { slot = at.slot; live = at.live; flags = c.requires.flags; passes = c.requires.passes } in
    let d : determine_offset a.s.now c.in_ok-r.r a.offset a.len a.align ≡ Ok c.in_ok-at.at = search rules in
    (live, free_fits a.s.now c.in_ok-r.r _ _ (determined_free a.s.now c.in_ok-r.r a.len a.align a.offset c.in_ok-at.at d))

pub returns : goal.returns
returns c =
    let a = c.args in
    let some : below 32 (slot_of a.s.now a.id) ≡ Some c.in_ok-r.r = search rules in
    let at = slot_is a.s.now a.id c.in_ok-r.r some in
    let d : determine_offset a.s.now c.in_ok-r.r a.offset a.len a.align ≡ Ok c.in_ok-at.at = search rules in
    c.place.ensures ∙ ap (settled a.s.now c.in_ok-r.r a.len a.flags.0) (sym d) ∙ alive a.s.now a.id a.offset a.len a.flags.0 a.align (lt-ltb _ _ c.if-s-id.false) (sym c.is_known.ensures ∙ c.if-not-is_known.false) c.in_ok-r.r at.at at.is
