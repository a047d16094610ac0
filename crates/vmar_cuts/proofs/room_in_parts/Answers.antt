use Rattle.std.proofs.Common.{◌∙◌, arith}
use Rattle.std.proofs.lemmas.List.{length-take}
use Rattle.vmar_doom.proofs.Places.{below_count, listed}
use Rattle.vmar_cuts.specs.Cuts.{part_at}
use Rattle.vmar_cuts.proofs.Collects.{room_more, room_end}
use Rattle.vmar_cuts.proofs.Parts.{place_fits}
use Rattle.vmar_cuts.proofs.room_in_parts.Goals as goal

pub room_in_part-left-requires : goal.room_in_part-left-requires
room_in_part-left-requires c =
    let s = c.args.s.now in
    let k = c.loop-slot.slot-index in
    let here = listed s.mapcount s.maplist k c.loop-slot-test.true in
    rw here (place_fits c.requires.passes k (below_count s.mapcount s.maplist k c.loop-slot-test.true))

pub loop-slot-preserved : goal.loop-slot-preserved
loop-slot-preserved c =
    let a = c.args in
    let s = a.s.now in
    let k = c.loop-slot.slot-index in
    let here = listed s.mapcount s.maplist k c.loop-slot-test.true in
    room_more (part_at s a.r a.span.begin a.span.end) k s.mapcount _ _ (below_count s.mapcount s.maplist k c.loop-slot-test.true) (rw here at c.room_in_part-left.ensures) ∙ c.loop-slot.invariant

pub returns : goal.returns
returns c =
    let a = c.args in
    let s = a.s.now in
    let end = c.loop-slot-test.false in
    room_end (part_at s a.r a.span.begin a.span.end) c.loop-slot.slot-index s.mapcount _ (omega (arith, length-take s.mapcount s.maplist, c.requires.passes.mappings.room)) ∙ c.loop-slot.invariant
