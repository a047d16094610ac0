-- `room_in_part`: whether there is a part, and whether it is empty.
use Rattle.std.proofs.Common.{ap, arith}
use Rattle.table_cuts.specs.Cuts.{non_empty}
use Rattle.table_cuts.proofs.Append.{count_none}
use Rattle.vmar_cuts.proofs.Parts.{count_empty, count_some}
use Rattle.vmar_cuts.proofs.room_in_part.Goals as goal

pub returns-in-Some : goal.returns-in-Some
returns-in-Some c =
    let a = c.args in
    let s = c.saturating_sub.ensures in
    omega (arith, count_some a.m a.r a.span.begin a.span.end c.in-Some.part c.in-Some.ensures.value c.if-part-ne0.true)

pub returns-in_default : goal.returns-in_default
returns-in_default c =
    let a = c.args in
    omega (arith, count_empty a.m a.r a.span.begin a.span.end c.in-Some.part c.in-Some.ensures.value c.if-part-ne0.false)

pub returns-in_default-2 : goal.returns-in_default-2
returns-in_default-2 c = let e = ap non_empty c.in_default.ensures.value in omega (arith, count_none)
