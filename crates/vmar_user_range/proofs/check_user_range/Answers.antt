-- `check_user_range`: its tests in document 01's order, then the pages.
use Rattle.std.proofs.Common.{◌≡◌, ◌-◌, None, Some, Err, sym, ◌∙◌, lt-ltb, ne_eqb, arith, rules}
use Rattle.refusal.specs.declared.Refusal.TheVariants.{BadState}
use Rattle.scan.specs.Scan.{below}
use Rattle.space.proofs.Ranges.{sum_fits}
use Rattle.vmar_offset.specs.Offset.{slot_of}
use Rattle.vmar_offset.proofs.Found.{slot_is, slot_none}
use Rattle.vmar_user_range.proofs.Calls.{dead, live}
use Rattle.vmar_user_range.proofs.check_user_range.Goals as goal

pub returns-in_err-r : goal.returns-in_err-r
returns-in_err-r c =
    let a = c.args in
    let none : below 32 (slot_of a.s.now a.id) ≡ None = search rules in
    let e : c.from_residual.result ≡ Err BadState = search rules in
    rw e (dead a.s.now a.flags.now a.id a.addr a.len a.access.0 (lt-ltb _ _ c.if-s-id.false) (ne_eqb _ _ c.if-len-eq0.false) (sym c.is_known.ensures ∙ c.if-not-is_known.false) (sym c.sum_le.ensures ∙ c.if-not-sum_le.false) (slot_none a.s.now a.id none))

pub overflow_add-addr : goal.overflow_add-addr
overflow_add-addr c =
    let a = c.args in
    record { fits = sum_fits a.addr (a.len - 1) (sym c.sum_le.ensures ∙ c.if-not-sum_le.false) }

pub check_pages-requires : goal.check_pages-requires
check_pages-requires c =
    let a = c.args in
    let some : below 32 (slot_of a.s.now a.id) ≡ Some c.in_ok-r.r = search rules in
    let at = slot_is a.s.now a.id c.in_ok-r.r some in
    (record { slot = at.slot; live = at.live; flags = a.flags.now; passes = c.requires }, c.requires, omega arith, sym c.is_known.ensures ∙ c.if-not-is_known.false)

pub returns : goal.returns
returns c =
    let a = c.args in
    let some : below 32 (slot_of a.s.now a.id) ≡ Some c.in_ok-r.r = search rules in
    let at = slot_is a.s.now a.id c.in_ok-r.r some in
    c.check_pages.ensures ∙ live a.s.now a.flags.now a.id a.addr a.len a.access.0 (lt-ltb _ _ c.if-s-id.false) (ne_eqb _ _ c.if-len-eq0.false) (sym c.is_known.ensures ∙ c.if-not-is_known.false) (sym c.sum_le.ensures ∙ c.if-not-sum_le.false) c.in_ok-r.r at.at at.is
