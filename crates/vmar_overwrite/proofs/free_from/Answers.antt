use Rattle.std.proofs.Common.{not, ◌∙◌, ap, lt-ltb, le-ltb}
use Rattle.scan.proofs.Scans.{first_here, first_later, first_none}
use Rattle.vmar_offset.specs.Offset.{is_free_mapping}
use Rattle.vmar_overwrite.proofs.free_from.Goals as goal

pub returns-then-not-s-i : goal.returns-then-not-s-i
returns-then-not-s-i c =
    let h = c.loop-i-test.true in
    let here = c.loop-i.invariant ∙ first_here (is_free_mapping c.args.s.now) c.loop-i.i 64 h (ap not c.if-not-s-i.true) in
    rw (here, lt-ltb _ _ h)

pub loop-i-preserved : goal.loop-i-preserved
loop-i-preserved c = c.loop-i.invariant ∙ first_later (is_free_mapping c.args.s.now) c.loop-i.i 64 c.loop-i-test.true (ap not c.if-not-s-i.false)

pub returns : goal.returns
returns c =
    let h = c.loop-i-test.false in
    let none = c.loop-i.invariant ∙ first_none (is_free_mapping c.args.s.now) c.loop-i.i 64 h in
    rw (none, le-ltb _ _ h)
