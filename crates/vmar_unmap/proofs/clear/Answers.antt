-- `clear`: in a live region.
use Rattle.std.proofs.Common.{sym, ◌∙◌, rules}
use Rattle.vmar_unmap.specs.Unmap.{cleared_call}
use Rattle.vmar_offset.proofs.Found.{slot_none, slot_is}
use Rattle.vmar_unmap.proofs.clear.Goals as goal

pub returns-in_err-r : goal.returns-in_err-r
unfolding cleared_call
returns-in_err-r c = let gone = slot_none c.args.s.now c.args.id (sym c.slot_of.ensures ∙ c.in_err-r.ensures.ok_part) in search (rules, gone)

pub clear_in-requires : goal.clear_in-requires
clear_in-requires c =
    let found = slot_is c.args.s.now c.args.id c.in_ok-r.r (sym c.slot_of.ensures ∙ c.in_ok-r.ensures.ok_part) in
    (record { slot = found.slot; live = found.live; flags = c.args.pages.now; passes = c.requires.0 }, c.requires.0, c.requires.1)
