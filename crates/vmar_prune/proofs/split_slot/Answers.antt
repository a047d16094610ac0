use Rattle.std.proofs.Common.{sym, ◌∙◌, lt-ltb, le-ltb}
use Rattle.scan.proofs.Scans.{first_here, first_later, first_none}
use Rattle.vmar_prune.specs.Prune.{split_at}
use Rattle.vmar_prune.proofs.split_slot.Goals as goal

pub returns-then-is_split : goal.returns-then-is_split
returns-then-is_split c =
    let a = c.args in
    let h = c.loop-i-test.true in
    let here = c.loop-i.invariant ∙ first_here (split_at a.s.now a.r a.begin a.end) c.loop-i.i 64 h (sym c.is_split.ensures ∙ c.if-is_split.true) in
    rw (here, lt-ltb _ _ h)

pub loop-i-preserved : goal.loop-i-preserved
loop-i-preserved c =
    let a = c.args in
    c.loop-i.invariant ∙ first_later (split_at a.s.now a.r a.begin a.end) c.loop-i.i 64 c.loop-i-test.true (sym c.is_split.ensures ∙ c.if-is_split.false)

pub returns : goal.returns
returns c =
    let a = c.args in
    let h = c.loop-i-test.false in
    let none = c.loop-i.invariant ∙ first_none (split_at a.s.now a.r a.begin a.end) c.loop-i.i 64 h in
    rw (none, le-ltb _ _ h)
