-- `at_offset`: where the range lies in the region, no end overflows.
use Rattle.std.proofs.Common.{◌+◌, sym, ◌∙◌, arith, leb-true}
use Rattle.space.specs.Space.{region_at}
use Rattle.space.proofs.Facts.{region_end}
use Rattle.vmar_overwrite.proofs.at_offset.Goals as goal

pub overflow_add-region : goal.overflow_add-region
overflow_add-region c =
    let a = c.args in
    let pre = c.requires in
    let end = region_end pre.0.passes a.r pre.0.slot pre.0.live in
    let room = leb-true (a.offset + a.m.len) (region_at a.s.now a.r).size (sym c.sum_le.ensures ∙ c.if-not-sum_le.false) in
    record { fits = omega arith }
