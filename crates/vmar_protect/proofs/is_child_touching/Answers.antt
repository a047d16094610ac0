use Rattle.std.proofs.Common.{sym, ◌∙◌, arith}
use Rattle.std.proofs.lemmas.List.{length-take}
use Rattle.scan.proofs.Scans.{some_here, some_later, some_none}
use Rattle.space.proofs.Facts.{region_place_lem, region_end}
use Rattle.vmar_doom.proofs.Places.{below_count, listed}
use Rattle.vmar_protect.specs.Protect.{touches_child}
use Rattle.vmar_protect.proofs.is_child_touching.Goals as goal

pub is_touching-requires : goal.is_touching-requires
is_touching-requires c =
    let s = c.args.s.now in
    let k = c.loop-slot.slot-index in
    let here = listed s.regcount s.reglist k c.loop-slot-test.true in
    let at = region_place_lem c.requires.passes k (below_count s.regcount s.reglist k c.loop-slot-test.true) in
    rw here (region_end c.requires.passes _ at.0 at.1)

pub returns-then-is_touching : goal.returns-then-is_touching
returns-then-is_touching c =
    let a = c.args in
    let s = a.s.now in
    let k = c.loop-slot.slot-index in
    let here = listed s.regcount s.reglist k c.loop-slot-test.true in
    let touches = rw here at c.is_touching.ensures in
    sym (c.loop-slot.invariant ∙ some_here (touches_child s a.r a.begin a.end) k s.regcount (below_count s.regcount s.reglist k c.loop-slot-test.true) (sym touches ∙ c.if-is_touching.true))

pub loop-slot-preserved : goal.loop-slot-preserved
loop-slot-preserved c =
    let a = c.args in
    let s = a.s.now in
    let k = c.loop-slot.slot-index in
    let here = listed s.regcount s.reglist k c.loop-slot-test.true in
    let touches = rw here at c.is_touching.ensures in
    c.loop-slot.invariant ∙ some_later (touches_child s a.r a.begin a.end) k s.regcount (below_count s.regcount s.reglist k c.loop-slot-test.true) (sym touches ∙ c.if-is_touching.false)

pub returns : goal.returns
returns c =
    let a = c.args in
    let s = a.s.now in
    let end = c.loop-slot-test.false in
    sym (c.loop-slot.invariant ∙ some_none (touches_child s a.r a.begin a.end) c.loop-slot.slot-index s.regcount (omega (arith, length-take s.regcount s.reglist, c.requires.passes.regions.room)))
