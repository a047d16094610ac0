use Rattle.std.proofs.Common.{◌∙◌, arith, rules}
use Rattle.std.proofs.lemmas.List.{length-take}
use Rattle.vmar_doom.proofs.Places.{below_count, listed}
use Rattle.vmar_cuts.specs.Cuts.{part_at}
use Rattle.vmar_cuts.proofs.Collects.{cuts_more, cuts_end}
use Rattle.vmar_cuts.proofs.Parts.{place_fits}
use Rattle.vmar_cuts.proofs.cut_parts.Goals as goal

pub cut_part-requires-clause-fits : goal.cut_part-requires-clause-fits
cut_part-requires-clause-fits c =
    let s = c.args.s.now in
    let k = c.loop-slot.slot-index in
    let here = listed s.mapcount s.maplist k c.loop-slot-test.true in
    rw here (place_fits c.requires.passing.passes k (below_count s.mapcount s.maplist k c.loop-slot-test.true))

pub loop-slot-preserved : goal.loop-slot-preserved
loop-slot-preserved c =
    let a = c.args in
    let s = a.s.now in
    let k = c.loop-slot.slot-index in
    let here = listed s.mapcount s.maplist k c.loop-slot-test.true in
    let cut = c.cut_part.ensures in
    record {
      good = cut.stays_good;
      long = search rules;
      left = cuts_more (part_at s a.r a.span.begin a.span.end) k s.mapcount _ _ _ (below_count s.mapcount s.maplist k c.loop-slot-test.true) (rw here at cut.value) ∙ c.loop-slot.invariant.left;
    }

pub returns-clause-value : goal.returns-clause-value
returns-clause-value c =
    let a = c.args in
    let s = a.s.now in
    let all = c.loop-slot-test.false in
    cuts_end (part_at s a.r a.span.begin a.span.end) c.loop-slot.slot-index s.mapcount _ _ (omega (arith, length-take s.mapcount s.maplist, c.requires.passing.passes.mappings.room)) ∙ c.loop-slot.invariant.left
