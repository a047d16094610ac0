-- `part_in`: the part of a mapping that touches does not end before it begins.
use Rattle.std.proofs.Common.{sym, ◌∙◌, arith}
use Rattle.vmar_protect.proofs.Parts.{touch_means}
use Rattle.vmar_protect.proofs.part_in.Goals as goal

pub overflow_sub-result : goal.overflow_sub-result
overflow_sub-result c =
    let a = c.args in
    let t = touch_means _ a.r _ _ a.begin a.end (sym c.is_touching.ensures ∙ c.if-not-is_touching.false) in
    omega (arith, c.min.ensures, c.max.ensures, c.requires.1, t.1, t.2)
