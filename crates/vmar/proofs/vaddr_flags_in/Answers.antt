-- `vaddr_flags_in`: 5, or the lookup in a live region.
use Rattle.std.proofs.Common.{sym, ◌∙◌, rules}
use Rattle.vmar_offset.proofs.Found.{slot_none, slot_is}
use Rattle.vmar.specs.Calls.{vaddr_call}
use Rattle.vmar.proofs.vaddr_flags_in.Goals as goal

pub returns-in_err-r : goal.returns-in_err-r
unfolding vaddr_call
returns-in_err-r c = let gone = slot_none c.args.s.now c.args.id (sym c.slot_of.ensures ∙ c.in_err-r.ensures.ok_part) in search (rules, gone)

pub get_vaddr_flags-requires : goal.get_vaddr_flags-requires
get_vaddr_flags-requires c =
    let found = slot_is c.args.s.now c.args.id c.in_ok-r.r (sym c.slot_of.ensures ∙ c.in_ok-r.ensures.ok_part) in
    (record { slot = found.slot; live = found.live; flags = c.requires.0.flags; passes = c.requires.0.passes }, c.requires.1)
