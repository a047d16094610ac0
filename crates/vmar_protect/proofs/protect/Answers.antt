-- `protect`: in a live region, where the end does not overflow.
use Rattle.std.proofs.Common.{sym, ◌∙◌, rules}
use Rattle.space.proofs.Ranges.{sum_fits}
use Rattle.vmar_offset.proofs.Found.{slot_none, slot_is}
use Rattle.vmar_protect.specs.Protect.{protected}
use Rattle.vmar_protect.proofs.protect.Goals as goal

pub returns-in_err-r : goal.returns-in_err-r
unfolding protected
returns-in_err-r c = let gone = slot_none c.args.s.now c.args.id (sym c.slot_of.ensures ∙ c.in_err-r.ensures.ok_part) in search (rules, gone)

pub protect_in-requires : goal.protect_in-requires
protect_in-requires c =
    let a = c.args in
    let found = slot_is a.s.now a.id c.in_ok-r.r (sym c.slot_of.ensures ∙ c.in_ok-r.ensures.ok_part) in (
      record { slot = found.slot; live = found.live; flags = a.pages.now; passes = c.requires.0 },
      c.requires.0.lent,
      c.requires.1,
      sum_fits a.begin a.len (sym c.sum_le.ensures ∙ c.if-not-sum_le.false),
    )
