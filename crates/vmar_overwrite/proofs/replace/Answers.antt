-- `replace`: length 0, then the cut, then the mapping in its slot.
use Rattle.std.proofs.Common.{◌≡◌, ◌+◌, Err, refl, sym, ◌∙◌, ap, rules, lt-ltb}
use Rattle.scan.specs.Scan.{below}
use Rattle.scan.proofs.Found.{below_some}
use Rattle.vmar_unmap.specs.Unmap.{State, CutDone, state, cut_range}
use Rattle.vmar_unmap.specs.Unmap as unmap
use Rattle.vmar_overwrite.specs.Overwrite.{cut_for, slot_for}
use Rattle.vmar_overwrite.proofs.Calls.{empty, put_made, put_refused, some_bytes}
use Rattle.vmar_overwrite.proofs.Room.{not_short, split_room, cut_fits}
use Rattle.vmar_overwrite.proofs.replace.Goals as goal

pub returns-then-m-eq0 : goal.returns-then-m-eq0
returns-then-m-eq0 c = let a = c.args in empty a.base (state a.s.now a.pages.now a.pool.now a.used.now) a.m a.flags.0 c.if-m-eq0.true

pub unmap_inner-requires : goal.unmap_inner-requires
unmap_inner-requires c =
    let a = c.args in
    let slot = slot_for a.s.now a.m in
    let short = c.is_short-is_short.ensures slot c.new_slot-slot.ensures in
    (c.requires.0, c.requires.1, λ z. split_room a.s.now a.m.region a.m.addr (a.m.addr + a.m.size) (not_short a.m.size slot (sym short ∙ z)).1)

pub returns-in_err-unmap_inner : goal.returns-in_err-unmap_inner
returns-in_err-unmap_inner c =
    let a = c.args in
    let st : State = state a.s.now a.pages.now a.pool.now a.used.now in
    let slot = slot_for a.s.now a.m in
    let short = c.is_short-is_short.ensures slot c.new_slot-slot.ensures in
    let cut : CutDone = unmap.done c.unmap_inner.result c.unmap_inner.new.s c.unmap_inner.new.pages c.unmap_inner.new.pool c.unmap_inner.new.used in
    let is : cut ≡ cut_for a.base st a.m slot = c.unmap_inner.ensures ∙ ap (cut_range a.base st a.m.region a.m.addr (a.m.addr + a.m.size)) short in
    let why = c.in_err-unmap_inner.field-0.0 in
    let e : c.from_residual.result ≡ Err why = search rules in
    rw e (put_refused cut.state slot a.m a.flags.0 cut.result why c.in_err-unmap_inner.was ∙ some_bytes a.base st a.m a.flags.0 c.if-m-eq0.false slot refl cut is)

pub unwrap-requires : goal.unwrap-requires
unwrap-requires c =
    let a = c.args in
    let st : State = state a.s.now a.pages.now a.pool.now a.used.now in
    let slot = slot_for a.s.now a.m in
    let short = c.is_short-is_short.ensures slot c.new_slot-slot.ensures in
    let cut : CutDone = unmap.done c.unmap_inner.result c.unmap_inner.new.s c.unmap_inner.new.pages c.unmap_inner.new.pool c.unmap_inner.new.used in
    let fits = cut_fits a.base st c.requires.0 a.m slot refl c.is_short-is_short.result short cut c.unmap_inner.ensures c.in_ok-unmap_inner.was in
    rw (c.new_slot-slot.ensures, lt-ltb slot 64 fits.0)

pub put-requires : goal.put-requires
put-requires c =
    let a = c.args in
    let st : State = state a.s.now a.pages.now a.pool.now a.used.now in
    let slot = slot_for a.s.now a.m in
    let short = c.is_short-is_short.ensures slot c.new_slot-slot.ensures in
    let cut : CutDone = unmap.done c.unmap_inner.result c.unmap_inner.new.s c.unmap_inner.new.pages c.unmap_inner.new.pool c.unmap_inner.new.used in
    let fits = cut_fits a.base st c.requires.0 a.m slot refl c.is_short-is_short.result short cut c.unmap_inner.ensures c.in_ok-unmap_inner.was in
    let at = below_some 64 slot c.unwrap.result (sym c.new_slot-slot.ensures ∙ c.unwrap.ensures) in
    (at.1, fits.1, fits.2, c.unmap_inner.auto.pages ∙ c.requires.0.lent, c.requires.4)

pub returns : goal.returns
returns c =
    let a = c.args in
    let st : State = state a.s.now a.pages.now a.pool.now a.used.now in
    let at = below_some 64 (slot_for a.s.now a.m) c.unwrap.result (sym c.new_slot-slot.ensures ∙ c.unwrap.ensures) in
    let slot = c.unwrap.result in
    let short = c.is_short-is_short.ensures slot (c.new_slot-slot.ensures ∙ ap (below 64) at.0) in
    let cut : CutDone = unmap.done c.unmap_inner.result c.unmap_inner.new.s c.unmap_inner.new.pages c.unmap_inner.new.pool c.unmap_inner.new.used in
    let is : cut ≡ cut_for a.base st a.m slot = c.unmap_inner.ensures ∙ ap (cut_range a.base st a.m.region a.m.addr (a.m.addr + a.m.size)) short in
    put_made cut.state slot a.m a.flags.0 cut.result c.put.new.s c.put.new.pages c.put.ensures.0 c.put.ensures.1 c.in_ok-unmap_inner.was
    ∙ some_bytes a.base st a.m a.flags.0 c.if-m-eq0.false slot (sym at.0) cut is
