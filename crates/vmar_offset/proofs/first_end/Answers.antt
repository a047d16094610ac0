use Rattle.std.proofs.Common.{◌≡◌, ◌+◌, ◌-◌, length, get_or, refl, sym, ◌∙◌}
use Rattle.std.proofs.lemmas.List.{get_or_read_under}
use Rattle.space.specs.Space.{region_at}
use Rattle.vmar_offset.proofs.Ends.{end_nowhere, end_other, end_passed, end_here}
use Rattle.vmar_offset.proofs.first_end.Goals as goal
use Rattle.vmar_offset.proofs.first_end.Goals.{then-owner-r+else-is_taken, else-owner-r}

pub returns-then-is_taken : goal.returns-then-is_taken
returns-then-is_taken g c d =
    let a = c.args in
    let P = g.P.Part in
    let at = c.loop-slot.slot-index in
    let p = c.index-parts-slot.result in
    let same = get_or_read_under a.parts.now (get_or a.list.now at 0) (length a.parts.now) p d c.index-parts-slot.is (c.requires.1.slot at c.loop-slot-test.true) refl in
    let own : P.owner p ≡ a.r = cc in
    let off = c.addr.result + c.size.result - (region_at a.s.now a.r).addr in
    let end : off ≡ P.addr p + P.size p - (region_at a.s.now a.r).addr = cc in
    end_here P.owner P.addr P.size a.parts.now a.list.now d a.s.now a.r a.len a.align at c.loop-slot-test.true (c.loop-slot.invariant d) p same own off end (sym c.is_taken.ensures ∙ c.if-is_taken.true)

pub loop-slot-preserved : goal.loop-slot-preserved
loop-slot-preserved g c d =
    let a = c.args in
    let P = g.P.Part in
    let at = c.loop-slot.slot-index in
    let p = c.index-parts-slot.result in
    let same = get_or_read_under a.parts.now (get_or a.list.now at 0) (length a.parts.now) p d c.index-parts-slot.is (c.requires.1.slot at c.loop-slot-test.true) refl in
    elim c.if-owner-r.branch [
      | then-owner-r+else-is_taken w ↦
          let own : P.owner p ≡ a.r = cc in
          let off = w.addr.result + w.size.result - (region_at a.s.now a.r).addr in
          let end : off ≡ P.addr p + P.size p - (region_at a.s.now a.r).addr = cc in
          end_passed P.owner P.addr P.size a.parts.now a.list.now d a.s.now a.r a.len a.align at c.loop-slot-test.true (c.loop-slot.invariant d) p same own off end (sym w.is_taken.ensures ∙ w.if-is_taken.false)
      | else-owner-r w ↦
          end_other P.owner P.addr P.size a.parts.now a.list.now d a.s.now a.r a.len a.align at c.loop-slot-test.true (c.loop-slot.invariant d) p same (λ e. w.if-owner-r.false (c.owner.ensures ∙ e))
    ]

pub returns : goal.returns
returns g c d =
    let a = c.args in
    let P = g.P.Part in
    end_nowhere P.owner P.addr P.size a.parts.now a.list.now d a.s.now a.r a.len a.align c.loop-slot.slot-index c.loop-slot-test.false (c.loop-slot.invariant d)
