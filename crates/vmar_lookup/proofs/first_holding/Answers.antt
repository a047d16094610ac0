use Rattle.std.proofs.Common.{length, get_or, refl, sym, ◌∙◌}
use Rattle.std.proofs.lemmas.List.{get_or_read_under}
use Rattle.vmar_lookup.proofs.Holding.{holding_nowhere, holding_passed, holding_here}
use Rattle.vmar_lookup.proofs.first_holding.Goals as goal

pub returns-then-is_owned : goal.returns-then-is_owned
returns-then-is_owned g c d =
    let a = c.args in
    let P = g.P.Part in
    let at = c.loop-slot.slot-index in
    let p = c.index-parts-slot.result in
    let same = get_or_read_under a.parts.now (get_or a.list.now at 0) (length a.parts.now) p d c.index-parts-slot.is (c.requires at c.loop-slot-test.true) refl in
    holding_here P.owner P.addr P.size a.parts.now a.list.now d a.r a.vaddr at c.loop-slot-test.true (c.loop-slot.invariant d) p same (sym c.is_owned.ensures ∙ c.if-is_owned.true)

pub loop-slot-preserved : goal.loop-slot-preserved
loop-slot-preserved g c d =
    let a = c.args in
    let P = g.P.Part in
    let at = c.loop-slot.slot-index in
    let p = c.index-parts-slot.result in
    let same = get_or_read_under a.parts.now (get_or a.list.now at 0) (length a.parts.now) p d c.index-parts-slot.is (c.requires at c.loop-slot-test.true) refl in
    holding_passed P.owner P.addr P.size a.parts.now a.list.now d a.r a.vaddr at c.loop-slot-test.true (c.loop-slot.invariant d) p same (sym c.is_owned.ensures ∙ c.if-is_owned.false)

pub returns : goal.returns
returns g c d =
    let a = c.args in
    let P = g.P.Part in
    holding_nowhere P.owner P.addr P.size a.parts.now a.list.now d a.r a.vaddr c.loop-slot.slot-index c.loop-slot-test.false (c.loop-slot.invariant d)
