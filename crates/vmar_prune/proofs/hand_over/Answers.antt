-- `hand_over`: the second part's pages, where there is one.
use Rattle.std.proofs.Common.{ℕ, ◌≤◌, ◌<◌, refl, sym, ◌∙◌, subst, arith, inl, inr}
use mathlib.Core.Logic.{⊎_elim}
use Rattle.paging.proofs.Cases.{below?}
use Rattle.scan.proofs.Found.{below_some, below_none}
use Rattle.space.specs.Space.{mapping_at}
use Rattle.vmar_offset.specs.Offset.{free_mapping}
use Rattle.vmar_prune.specs.Prune.{split_slot}
use Rattle.vmar_prune.proofs.Parts.{short_at, after_most, hand_whole, hand_split}
use Rattle.vmar_prune.proofs.hand_over.Goals as goal

pub returns-in_default : goal.returns-in_default
returns-in_default c =
    let a = c.args in
    hand_whole a.s.now a.r a.begin a.end _ refl a.flags.now (below_none 64 _ (sym c.split_slot.ensures ∙ c.in_default.is))

pub overflow_sub-skip : goal.overflow_sub-skip
overflow_sub-skip c = let a = c.args in rw c.after-n.ensures (after_most (mapping_at a.s.now c.in-Some.i) a.end)

pub copy_pages-requires : goal.copy_pages-requires
copy_pages-requires c =
    let a = c.args in
    let i = c.in-Some.i in
    let at = below_some 64 (split_slot a.s.now a.r a.begin a.end) i (sym c.split_slot.ensures ∙ c.in-Some.is) in
    let l = at.1 in
    let free = below_some 64 (free_mapping a.s.now) c.unwrap-slot.result (sym c.free_mapping.ensures ∙ c.unwrap-slot.ensures) in
    let slot = free.1 in
    let few = (short_at a.s.now a.flags.now c.requires.0 i l).2 in
    let most = subst (λ (x : ℕ). x ≤ (mapping_at a.s.now i).size) (sym c.after-n.ensures) (after_most (mapping_at a.s.now i) a.end) in
    (c.requires.0.lent, omega arith, omega arith, omega arith)

pub returns : goal.returns
returns c =
    let a = c.args in
    let at = below_some 64 (split_slot a.s.now a.r a.begin a.end) c.in-Some.i (sym c.split_slot.ensures ∙ c.in-Some.is) in
    let free = below_some 64 (free_mapping a.s.now) c.unwrap-slot.result (sym c.free_mapping.ensures ∙ c.unwrap-slot.ensures) in
    c.copy_pages.ensures
    ∙ hand_split a.s.now a.r a.begin a.end c.in-Some.i (sym at.0) a.flags.now at.1 c.after-n.result c.after-n.ensures c.unwrap-slot.result (sym free.0)
