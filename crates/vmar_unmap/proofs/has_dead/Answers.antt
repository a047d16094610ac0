use Rattle.std.proofs.Common.{sym, ◌∙◌, ap, not, arith}
use Rattle.std.proofs.lemmas.List.{length-take}
use Rattle.scan.proofs.Scans.{some_later, some_none}
use Rattle.vmar_doom.proofs.Places.{below_count, listed}
use Rattle.vmar_unmap.specs.Unmap.{dead_at}
use Rattle.vmar_unmap.proofs.has_dead.Goals as goal

pub loop-slot-preserved : goal.loop-slot-preserved
loop-slot-preserved c =
    let s = c.args.s.now in
    let k = c.loop-slot.slot-index in
    let here = listed s.regcount s.reglist k c.loop-slot-test.true in
    let lives = rw here at c.if-not-s-slot.false in
    c.loop-slot.invariant ∙ some_later (dead_at s) k s.regcount (below_count s.regcount s.reglist k c.loop-slot-test.true) (ap not lives)

pub returns : goal.returns
returns c =
    let s = c.args.s.now in
    let end = c.loop-slot-test.false in
    sym (c.loop-slot.invariant ∙ some_none (dead_at s) c.loop-slot.slot-index s.regcount (omega (arith, length-take s.regcount s.reglist, c.requires.passes.regions.room)))
