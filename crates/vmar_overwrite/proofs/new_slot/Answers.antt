-- `new_slot`: only a split takes one before it.
use Rattle.std.proofs.Common.{ℕ, ◌≡◌, ◌+◌, None, refl, sym, ◌∙◌, ap, rules}
use Rattle.scan.specs.Scan.{first, below}
use Rattle.scan.proofs.Found.{below_some, below_none}
use Rattle.vmar_offset.specs.Offset.{is_free_mapping, free_mapping}
use Rattle.vmar_prune.specs.Prune.{split_slot}
use Rattle.vmar_overwrite.proofs.Room.{no_new_slot, slot_alone, slot_second}
use Rattle.vmar_overwrite.proofs.new_slot.Goals as goal

pub returns-in_err-slot : goal.returns-in_err-slot
returns-in_err-slot c =
    let a = c.args in
    let none = no_new_slot a.s.now a.r a.begin a.end (sym c.in_err-slot.was ∙ c.free_mapping.ensures) in
    let e : c.from_residual.result ≡ None = search rules in
    e ∙ sym none

pub returns-in-Some : goal.returns-in-Some
returns-in-Some c =
    let a = c.args in
    let s = a.s.now in
    let free = below_some 64 (free_mapping s) c.in_ok-slot.slot (sym c.free_mapping.ensures ∙ c.in_ok-slot.was) in
    let split = below_some 64 (split_slot s a.r a.begin a.end) c.in-Some.field-0 (sym c.split_slot.ensures ∙ c.in-Some.is) in
    c.free_from.ensures
    ∙ ap (λ (x : ℕ). below 64 (first (is_free_mapping s) (x + 1) 64)) (sym free.0)
    ∙ ap (below 64) (slot_second s a.r a.begin a.end c.in-Some.field-0 (sym split.0) split.1)

pub returns-in-None : goal.returns-in-None
returns-in-None c =
    let a = c.args in
    let s = a.s.now in
    sym (sym c.free_mapping.ensures ∙ c.in_ok-slot.was)
    ∙ ap (below 64) (slot_alone s a.r a.begin a.end (split_slot s a.r a.begin a.end) refl (below_none 64 _ (sym c.split_slot.ensures ∙ c.in-None.is)))
