use Rattle.std.proofs.Common.{◌≡◌, ◌/◌, None, Some, Err, refl, sym, ◌∙◌, ap, subst, arith, rules}
use Rattle.common.proofs.Sets.{byte}
use Rattle.refusal.specs.declared.Refusal.TheVariants.{NotFound}
use Rattle.scan.specs.Scan.{below}
use Rattle.space.specs.Range.{contains}
use Rattle.space.specs.Space.{region_at}
use Rattle.vmar_user_range.specs.UserRange.{start_of, verdict, holder_of}
use Rattle.vmar_user_range.proofs.Runs.{stops_here, none_left}
use Rattle.vmar_user_range.proofs.Stretches.{Stretched, no_holder, holder, outside_region, unheld, page_of, told}
use Rattle.vmar_user_range.proofs.check_pages.Goals as goal

pub loop-page-init : goal.loop-page-init
loop-page-init c = record { from = omega arith; to = omega arith; passed = refl }

pub returns-in_err-slot : goal.returns-in_err-slot
returns-in_err-slot c =
    let a = c.args in
    let pre = c.requires in
    let loop = c.loop-page in
    let none : below 64 (holder_of a.s.now c.start_of-vaddr.result) ≡ None = search rules in
    let e : c.from_residual.result ≡ Err NotFound = search rules in
    rw e
    (sym (loop.invariant.passed ∙ stops_here (verdict a.s.now a.flags.now a.r a.addr a.access.0) NotFound loop.page (a.end / 4096) c.loop-page-test.true
    (unheld a.s.now a.flags.now pre.1 a.r pre.0.slot pre.0.live a.addr a.access.0 loop.page (no_holder a.s.now _ _ c.start_of-vaddr.ensures none))))

pub returns-then-not-contains : goal.returns-then-not-contains
returns-then-not-contains c =
    let a = c.args in
    let pre = c.requires in
    let loop = c.loop-page in
    let out = ap (contains (region_at a.s.now a.r).addr (region_at a.s.now a.r).size) (sym c.start_of-vaddr.ensures) ∙ sym c.contains.ensures ∙ c.if-not-contains.true in
    sym
    (loop.invariant.passed
    ∙ stops_here (verdict a.s.now a.flags.now a.r a.addr a.access.0) NotFound loop.page (a.end / 4096) c.loop-page-test.true (outside_region a.s.now a.flags.now pre.1 a.r pre.0.slot pre.0.live a.addr a.access.0 loop.page out))

pub bounds-s-slot : goal.bounds-s-slot
bounds-s-slot c =
    let some : below 64 (holder_of c.args.s.now c.start_of-vaddr.result) ≡ Some c.in_ok-slot.slot = search rules in
    (holder c.args.s.now _ _ c.in_ok-slot.slot c.start_of-vaddr.ensures some).slot

pub test_pages-requires : goal.test_pages-requires
test_pages-requires c =
    let a = c.args in
    let pre = c.requires in
    let loop = c.loop-page in
    let some : below 64 (holder_of a.s.now c.start_of-vaddr.result) ≡ Some c.in_ok-slot.slot = search rules in
    let h = holder a.s.now _ (start_of a.addr loop.page) c.in_ok-slot.slot c.start_of-vaddr.ensures some in
    let inside = ap (contains (region_at a.s.now a.r).addr (region_at a.s.now a.r).size) (sym c.start_of-vaddr.ensures) ∙ sym c.contains.ensures ∙ c.if-not-contains.false in
    (pre.1.lent, h.slot, page_of a.s.now a.flags.now pre.1 a.r pre.0.slot pre.0.live a.addr a.access.0 loop.page (a.end / 4096) c.in_ok-slot.slot loop.invariant.from c.loop-page-test.true inside h, c.loop-page-test.true, omega arith, byte a.access.0 pre.3)

pub returns-in_err-n : goal.returns-in_err-n
returns-in_err-n c =
    let a = c.args in
    let pre = c.requires in
    let loop = c.loop-page in
    let some : below 64 (holder_of a.s.now c.start_of-vaddr.result) ≡ Some c.in_ok-slot.slot = search rules in
    let h = holder a.s.now _ (start_of a.addr loop.page) c.in_ok-slot.slot c.start_of-vaddr.ensures some in
    let inside = ap (contains (region_at a.s.now a.r).addr (region_at a.s.now a.r).size) (sym c.start_of-vaddr.ensures) ∙ sym c.contains.ensures ∙ c.if-not-contains.false in
    let went = told a.s.now a.flags.now pre.1 a.r pre.0.slot pre.0.live a.addr a.access.0 loop.page (a.end / 4096) c.in_ok-slot.slot loop.invariant.from c.loop-page-test.true inside h c.test_pages.result c.test_pages.ensures in
    let is : c.test_pages.result ≡ Err c.in_err-n.field-0.0 = c.in_err-n.was in
    let e : c.from_residual-in_err-n.result ≡ Err c.in_err-n.field-0.0 = search rules in
    rw e (sym (loop.invariant.passed ∙ subst (Stretched (verdict a.s.now a.flags.now a.r a.addr a.access.0) loop.page (a.end / 4096)) is went))

pub overflow_add-page : goal.overflow_add-page
overflow_add-page c =
    let a = c.args in
    let pre = c.requires in
    let loop = c.loop-page in
    let some : below 64 (holder_of a.s.now c.start_of-vaddr.result) ≡ Some c.in_ok-slot.slot = search rules in
    let h = holder a.s.now _ (start_of a.addr loop.page) c.in_ok-slot.slot c.start_of-vaddr.ensures some in
    let inside = ap (contains (region_at a.s.now a.r).addr (region_at a.s.now a.r).size) (sym c.start_of-vaddr.ensures) ∙ sym c.contains.ensures ∙ c.if-not-contains.false in
    let went = told a.s.now a.flags.now pre.1 a.r pre.0.slot pre.0.live a.addr a.access.0 loop.page (a.end / 4096) c.in_ok-slot.slot loop.invariant.from c.loop-page-test.true inside h c.test_pages.result c.test_pages.ensures in
    let part = subst (Stretched (verdict a.s.now a.flags.now a.r a.addr a.access.0) loop.page (a.end / 4096)) c.in_ok-n.was went in
    record { fits = omega (arith, part.1) }

pub loop-page-smaller : goal.loop-page-smaller
loop-page-smaller c =
    let a = c.args in
    let pre = c.requires in
    let loop = c.loop-page in
    let some : below 64 (holder_of a.s.now c.start_of-vaddr.result) ≡ Some c.in_ok-slot.slot = search rules in
    let h = holder a.s.now _ (start_of a.addr loop.page) c.in_ok-slot.slot c.start_of-vaddr.ensures some in
    let inside = ap (contains (region_at a.s.now a.r).addr (region_at a.s.now a.r).size) (sym c.start_of-vaddr.ensures) ∙ sym c.contains.ensures ∙ c.if-not-contains.false in
    let went = told a.s.now a.flags.now pre.1 a.r pre.0.slot pre.0.live a.addr a.access.0 loop.page (a.end / 4096) c.in_ok-slot.slot loop.invariant.from c.loop-page-test.true inside h c.test_pages.result c.test_pages.ensures in
    let part = subst (Stretched (verdict a.s.now a.flags.now a.r a.addr a.access.0) loop.page (a.end / 4096)) c.in_ok-n.was went in
    omega (arith, part.0, part.1)

pub loop-page-preserved : goal.loop-page-preserved
loop-page-preserved c =
    let a = c.args in
    let pre = c.requires in
    let loop = c.loop-page in
    let some : below 64 (holder_of a.s.now c.start_of-vaddr.result) ≡ Some c.in_ok-slot.slot = search rules in
    let h = holder a.s.now _ (start_of a.addr loop.page) c.in_ok-slot.slot c.start_of-vaddr.ensures some in
    let inside = ap (contains (region_at a.s.now a.r).addr (region_at a.s.now a.r).size) (sym c.start_of-vaddr.ensures) ∙ sym c.contains.ensures ∙ c.if-not-contains.false in
    let went = told a.s.now a.flags.now pre.1 a.r pre.0.slot pre.0.live a.addr a.access.0 loop.page (a.end / 4096) c.in_ok-slot.slot loop.invariant.from c.loop-page-test.true inside h c.test_pages.result c.test_pages.ensures in
    let part = subst (Stretched (verdict a.s.now a.flags.now a.r a.addr a.access.0) loop.page (a.end / 4096)) c.in_ok-n.was went in
    record { from = omega (arith, part.0, part.1); to = omega (arith, part.1); passed = loop.invariant.passed ∙ part.2 }

pub returns : goal.returns
returns c =
    let a = c.args in
    sym (c.loop-page.invariant.passed ∙ none_left (verdict a.s.now a.flags.now a.r a.addr a.access.0) c.loop-page.page (a.end / 4096) (omega (arith, c.loop-page-test.false)))
