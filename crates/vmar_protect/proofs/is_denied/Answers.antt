use Rattle.std.proofs.Common.{sym, ◌∙◌, arith}
use Rattle.std.proofs.lemmas.List.{length-take}
use Rattle.scan.proofs.Scans.{some_here, some_later, some_none}
use Rattle.vmar_doom.proofs.Places.{below_count, listed}
use Rattle.vmar_protect.specs.Protect.{denies_at}
use Rattle.vmar_protect.proofs.is_denied.Goals as goal

pub returns-then-is_denying : goal.returns-then-is_denying
returns-then-is_denying c =
    let a = c.args in
    let s = a.s.now in
    let k = c.loop-slot.slot-index in
    let here = listed s.mapcount s.maplist k c.loop-slot-test.true in
    let denies = rw here at c.is_denying.ensures in
    sym (c.loop-slot.invariant ∙ some_here (denies_at s a.r a.begin a.end a.flags.0) k s.mapcount (below_count s.mapcount s.maplist k c.loop-slot-test.true) (sym denies ∙ c.if-is_denying.true))

pub loop-slot-preserved : goal.loop-slot-preserved
loop-slot-preserved c =
    let a = c.args in
    let s = a.s.now in
    let k = c.loop-slot.slot-index in
    let here = listed s.mapcount s.maplist k c.loop-slot-test.true in
    let denies = rw here at c.is_denying.ensures in
    c.loop-slot.invariant ∙ some_later (denies_at s a.r a.begin a.end a.flags.0) k s.mapcount (below_count s.mapcount s.maplist k c.loop-slot-test.true) (sym denies ∙ c.if-is_denying.false)

pub returns : goal.returns
returns c =
    let a = c.args in
    let s = a.s.now in
    let end = c.loop-slot-test.false in
    sym (c.loop-slot.invariant ∙ some_none (denies_at s a.r a.begin a.end a.flags.0) c.loop-slot.slot-index s.mapcount (omega (arith, length-take s.mapcount s.maplist, c.requires.passes.mappings.room)))
