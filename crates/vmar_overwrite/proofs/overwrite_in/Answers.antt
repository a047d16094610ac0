-- `overwrite_in`: in a live region.
use Rattle.std.proofs.Common.{sym, ◌∙◌, rules}
use Rattle.vmar_offset.proofs.Found.{slot_none, slot_is}
use Rattle.vmar_overwrite.specs.Overwrite.{in_region}
use Rattle.vmar_overwrite.proofs.overwrite_in.Goals as goal

pub returns-in_err-r : goal.returns-in_err-r
unfolding in_region
returns-in_err-r c = let gone = slot_none c.args.s.now c.args.id (sym c.slot_of.ensures ∙ c.in_err-r.ensures.ok_part) in search (rules, gone)

pub at_offset-requires : goal.at_offset-requires
at_offset-requires c =
    let found = slot_is c.args.s.now c.args.id c.in_ok-r.r (sym c.slot_of.ensures ∙ c.in_ok-r.ensures.ok_part) in
    (record { slot = found.slot; live = found.live; flags = c.args.pages.now; passes = c.requires.0 }, c.requires.0, c.requires.1, c.requires.2, c.requires.3)
