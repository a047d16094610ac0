-- `unmap_in`: in a live region, where the end does not overflow.
use Rattle.std.proofs.Common.{sym, ◌∙◌, rules}
use Rattle.vmar_unmap.specs.Unmap.{in_region}
use Rattle.vmar_offset.proofs.Found.{slot_none}
use Rattle.vmar_unmap.proofs.Calls.{has_slot}
use Rattle.vmar_unmap.proofs.unmap_in.Goals as goal

pub unmap_inner-requires : goal.unmap_inner-requires
unmap_inner-requires c =
    let a = c.args in (
      c.requires.0,
      c.requires.1,
      λ z. has_slot a.s.now c.in_ok-r.r a.addr c.in_ok-end.end (sym c.lacks_slot-is_short.ensures ∙ z),
    )

pub returns-in_err-r : goal.returns-in_err-r
unfolding in_region
returns-in_err-r c = let gone = slot_none c.args.s.now c.args.id (sym c.slot_of.ensures ∙ c.in_err-r.ensures.ok_part) in search (rules, gone)
