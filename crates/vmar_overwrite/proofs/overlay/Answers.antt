-- `overlay`: the mapping lies in its region, on whole pages.
use Rattle.std.proofs.Common.{◌+◌, sym, ◌∙◌, ap, arith, leb-true}
use Rattle.space.specs.Space.{region_at}
use Rattle.space.proofs.Facts.{region_end}
use Rattle.vmar_unmap.specs.Unmap.{State, state}
use Rattle.vmar_overwrite.specs.Overwrite.{uncut}
use Rattle.vmar_overwrite.proofs.Calls.{nothing_met}
use Rattle.vmar_overwrite.proofs.overlay.Goals as goal

pub returns-then-test_map : goal.returns-then-test_map
returns-then-test_map c =
    let a = c.args in
    let st : State = state a.s.now a.pages.now a.pool.now a.used.now in
    ap (uncut st) c.place.ensures ∙ nothing_met a.base st a.r a.offset a.m.vmo.id a.m.vmo_offset a.m.len a.m.permissions.0 a.m.flags.0 (sym c.test_map.ensures ∙ c.if-test_map.true)

pub overflow_add-mapping : goal.overflow_add-mapping
overflow_add-mapping c =
    let a = c.args in
    let pre = c.requires in
    let end = region_end pre.0.passes a.r pre.0.slot pre.0.live in
    let room = leb-true (a.offset + a.m.len) (region_at a.s.now a.r).size pre.3 in
    record { fits = omega arith }

pub replace-requires : goal.replace-requires
replace-requires c =
    let a = c.args in
    let pre = c.requires in
    let end = region_end pre.0.passes a.r pre.0.slot pre.0.live in
    let room = leb-true (a.offset + a.m.len) (region_at a.s.now a.r).size pre.3 in
    let begin = pre.4 in
    let whole = pre.5 in
    (pre.1, pre.2, record { order = omega arith; begin = pre.4; end = omega arith }, omega arith, pre.6)
