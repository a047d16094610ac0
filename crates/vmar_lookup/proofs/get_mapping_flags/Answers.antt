-- `get_mapping_flags`: the page's byte stands among the lent ones.
use Rattle.std.proofs.Common.{◌≡◌, Ok, arith, rules}
use Rattle.vmar_lookup.specs.Lookup.{look}
use Rattle.vmar_lookup.proofs.Lookups.{found_holds, page_in}
use Rattle.vmar_lookup.proofs.get_mapping_flags.Goals as goal

pub offset_bounds-s-slot : goal.offset_bounds-s-slot
offset_bounds-s-slot c =
    let a = c.args in
    let at : look a.s.now a.vaddr 32 a.r ≡ Ok c.in_ok-slot.slot = search rules in
    let h = found_holds a.s.now a.vaddr 32 a.r c.in_ok-slot.slot c.requires.0 at in
    let page = page_in a.s.now a.flags.now a.vaddr c.in_ok-slot.slot c.requires.1 h in
    record { fits = omega (arith, h.slot) }

pub bounds-s-slot : goal.bounds-s-slot
bounds-s-slot c =
    let a = c.args in
    let at : look a.s.now a.vaddr 32 a.r ≡ Ok c.in_ok-slot.slot = search rules in
    let h = found_holds a.s.now a.vaddr 32 a.r c.in_ok-slot.slot c.requires.0 at in
    let page = page_in a.s.now a.flags.now a.vaddr c.in_ok-slot.slot c.requires.1 h in
    h.slot

pub overflow_sub-page : goal.overflow_sub-page
overflow_sub-page c =
    let a = c.args in
    let at : look a.s.now a.vaddr 32 a.r ≡ Ok c.in_ok-slot.slot = search rules in
    let h = found_holds a.s.now a.vaddr 32 a.r c.in_ok-slot.slot c.requires.0 at in
    let page = page_in a.s.now a.flags.now a.vaddr c.in_ok-slot.slot c.requires.1 h in
    page.0

pub overflow_mul-f : goal.overflow_mul-f
overflow_mul-f c =
    let a = c.args in
    let at : look a.s.now a.vaddr 32 a.r ≡ Ok c.in_ok-slot.slot = search rules in
    let h = found_holds a.s.now a.vaddr 32 a.r c.in_ok-slot.slot c.requires.0 at in
    let page = page_in a.s.now a.flags.now a.vaddr c.in_ok-slot.slot c.requires.1 h in
    record { fits = omega (arith, h.slot, page.2) }

pub overflow_add-f : goal.overflow_add-f
overflow_add-f c =
    let a = c.args in
    let at : look a.s.now a.vaddr 32 a.r ≡ Ok c.in_ok-slot.slot = search rules in
    let h = found_holds a.s.now a.vaddr 32 a.r c.in_ok-slot.slot c.requires.0 at in
    let page = page_in a.s.now a.flags.now a.vaddr c.in_ok-slot.slot c.requires.1 h in
    record { fits = omega (arith, h.slot, page.2) }

pub bounds-flags-slot : goal.bounds-flags-slot
bounds-flags-slot c =
    let a = c.args in
    let at : look a.s.now a.vaddr 32 a.r ≡ Ok c.in_ok-slot.slot = search rules in
    let h = found_holds a.s.now a.vaddr 32 a.r c.in_ok-slot.slot c.requires.0 at in
    let page = page_in a.s.now a.flags.now a.vaddr c.in_ok-slot.slot c.requires.1 h in
    omega (arith, h.slot, page.2, c.requires.1.lent)
