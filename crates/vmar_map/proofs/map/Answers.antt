-- `map`: 11, unknown flags, the first tests, 5, then where it goes.
use Rattle.std.proofs.Common.{◌≡◌, None, Some, Ok, Err, sym, ◌∙◌, ap, lt-ltb, rules}
use Rattle.refusal.specs.declared.Refusal.TheVariants.{BadState}
use Rattle.scan.specs.Scan.{below}
use Rattle.space.specs.Passes.{LiveIn}
use Rattle.vmar_offset.specs.Offset.{slot_of, determine_offset}
use Rattle.vmar_offset.proofs.Found.{slot_is, slot_none, determined_free, free_fits}
use Rattle.vmar_map.specs.Map.{tested, settled, after_tests}
use Rattle.vmar_map.proofs.Maps.{fine_length, known_all, dead, alive}
use Rattle.vmar_map.proofs.map.Goals as goal

pub returns-in_err-test_args : goal.returns-in_err-test_args
returns-in_err-test_args c =
    let a = c.args in
    let m = a.m in
    let e : c.from_residual.result ≡ Err c.in_err-test_args.field-0.0 = search rules in
    let t : tested m.vmo.len m.vmo_offset m.len m.permissions.0 m.flags.0 a.allow_faults ≡ Err c.in_err-test_args.field-0.0 = search rules in
    rw e (ap (after_tests a.s.now a.pages.now a.id a.offset m.vmo.id m.vmo_offset m.len m.permissions.0 m.flags.0) (sym t)
    ∙ known_all a.s.now a.pages.now a.id a.offset m.vmo.id m.vmo_offset m.len m.permissions.0 m.flags.0 m.vmo.len a.allow_faults (lt-ltb _ _ c.if-s-id.false) (sym c.is_known.ensures ∙ c.if-not-is_known.false) (sym c.is_known-2.ensures ∙ c.if-not-is_known-2.false))

pub returns-in_err-r : goal.returns-in_err-r
returns-in_err-r c =
    let a = c.args in
    let m = a.m in
    let none : below 32 (slot_of a.s.now a.id) ≡ None = search rules in
    let e : c.from_residual-in_err-r.result ≡ Err BadState = search rules in
    let t : tested m.vmo.len m.vmo_offset m.len m.permissions.0 m.flags.0 a.allow_faults ≡ Ok tt = search rules in
    rw e (dead a.s.now a.pages.now a.id a.offset m.vmo.id m.vmo_offset m.len m.permissions.0 m.flags.0 (slot_none a.s.now a.id none)
    ∙ ap (after_tests a.s.now a.pages.now a.id a.offset m.vmo.id m.vmo_offset m.len m.permissions.0 m.flags.0) (sym t)
    ∙ known_all a.s.now a.pages.now a.id a.offset m.vmo.id m.vmo_offset m.len m.permissions.0 m.flags.0 m.vmo.len a.allow_faults (lt-ltb _ _ c.if-s-id.false) (sym c.is_known.ensures ∙ c.if-not-is_known.false) (sym c.is_known-2.ensures ∙ c.if-not-is_known-2.false))

pub determine_offset-requires : goal.determine_offset-requires
determine_offset-requires c =
    let some : below 32 (slot_of c.args.s.now c.args.id) ≡ Some c.in_ok-r.r = search rules in
    let at = slot_is c.args.s.now c.args.id c.in_ok-r.r some in
    record { slot = at.slot; live = at.live; flags = c.args.pages.now; passes = c.requires }

pub returns-in_err-at : goal.returns-in_err-at
returns-in_err-at c =
    let a = c.args in
    let m = a.m in
    let some : below 32 (slot_of a.s.now a.id) ≡ Some c.in_ok-r.r = search rules in
    let at = slot_is a.s.now a.id c.in_ok-r.r some in
    let e : c.from_residual-in_err-at.result ≡ Err c.in_err-at.field-0.0 = search rules in
    let d : determine_offset a.s.now c.in_ok-r.r a.offset m.len 4096 ≡ Err c.in_err-at.field-0.0 = search rules in
    let t : tested m.vmo.len m.vmo_offset m.len m.permissions.0 m.flags.0 a.allow_faults ≡ Ok tt = search rules in
    rw e (ap (settled a.s.now a.pages.now c.in_ok-r.r m.vmo.id m.vmo_offset m.len m.permissions.0 m.flags.0) (sym d)
    ∙ alive a.s.now a.pages.now a.id a.offset m.vmo.id m.vmo_offset m.len m.permissions.0 m.flags.0 c.in_ok-r.r at.at at.is
    ∙ ap (after_tests a.s.now a.pages.now a.id a.offset m.vmo.id m.vmo_offset m.len m.permissions.0 m.flags.0) (sym t)
    ∙ known_all a.s.now a.pages.now a.id a.offset m.vmo.id m.vmo_offset m.len m.permissions.0 m.flags.0 m.vmo.len a.allow_faults (lt-ltb _ _ c.if-s-id.false) (sym c.is_known.ensures ∙ c.if-not-is_known.false) (sym c.is_known-2.ensures ∙ c.if-not-is_known-2.false))

pub place-requires : goal.place-requires
place-requires c =
    let a = c.args in
    let m = a.m in
    let some : below 32 (slot_of a.s.now a.id) ≡ Some c.in_ok-r.r = search rules in
    let at = slot_is a.s.now a.id c.in_ok-r.r some in
    let live : LiveIn a.s.now c.in_ok-r.r = record { slot = at.slot; live = at.live; flags = a.pages.now; passes = c.requires } in
    let d : determine_offset a.s.now c.in_ok-r.r a.offset m.len 4096 ≡ Ok c.in_ok-at.at = search rules in
    let t : tested m.vmo.len m.vmo_offset m.len m.permissions.0 m.flags.0 a.allow_faults ≡ Ok tt = search rules in (
      live,
      free_fits a.s.now c.in_ok-r.r _ _ (determined_free a.s.now c.in_ok-r.r m.len 4096 a.offset c.in_ok-at.at d),
      fine_length m.vmo.len m.vmo_offset m.len m.permissions.0 m.flags.0 a.allow_faults t,
      sym c.is_known-2.ensures ∙ c.if-not-is_known-2.false,
      c.requires.lent,
    )

pub returns : goal.returns
returns c =
    let a = c.args in
    let m = a.m in
    let some : below 32 (slot_of a.s.now a.id) ≡ Some c.in_ok-r.r = search rules in
    let at = slot_is a.s.now a.id c.in_ok-r.r some in
    let d : determine_offset a.s.now c.in_ok-r.r a.offset m.len 4096 ≡ Ok c.in_ok-at.at = search rules in
    let t : tested m.vmo.len m.vmo_offset m.len m.permissions.0 m.flags.0 a.allow_faults ≡ Ok tt = search rules in
    c.place.ensures
    ∙ ap (settled a.s.now a.pages.now c.in_ok-r.r m.vmo.id m.vmo_offset m.len m.permissions.0 m.flags.0) (sym d)
    ∙ alive a.s.now a.pages.now a.id a.offset m.vmo.id m.vmo_offset m.len m.permissions.0 m.flags.0 c.in_ok-r.r at.at at.is
    ∙ ap (after_tests a.s.now a.pages.now a.id a.offset m.vmo.id m.vmo_offset m.len m.permissions.0 m.flags.0) (sym t)
    ∙ known_all a.s.now a.pages.now a.id a.offset m.vmo.id m.vmo_offset m.len m.permissions.0 m.flags.0 m.vmo.len a.allow_faults (lt-ltb _ _ c.if-s-id.false) (sym c.is_known.ensures ∙ c.if-not-is_known.false) (sym c.is_known-2.ensures ∙ c.if-not-is_known-2.false)
