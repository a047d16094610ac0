-- `lacks_slot`: by the split, then by the free slot.
use Rattle.std.proofs.Common.{sym, ◌∙◌}
use Rattle.vmar_unmap.proofs.Calls.{no_split, a_split}
use Rattle.vmar_unmap.proofs.lacks_slot.Goals as goal

pub returns-then-is_some : goal.returns-then-is_some
returns-then-is_some c =
    let a = c.args in
    a_split a.s.now a.r a.begin a.end c.split_slot.result c.split_slot.ensures (sym c.if-is_some.ensures) c.free_mapping.result c.free_mapping.ensures c.is_none.result c.is_none.ensures

pub returns-else-is_some : goal.returns-else-is_some
returns-else-is_some c =
    let a = c.args in
    c.if-is_some.false ∙ no_split a.s.now a.r a.begin a.end c.split_slot.result c.split_slot.ensures (sym c.if-is_some.ensures)
