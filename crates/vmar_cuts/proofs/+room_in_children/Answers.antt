use Rattle.std.proofs.Common.{◌-◌, List, sym, ◌∙◌, ap, arith}
use Rattle.std.proofs.lemmas.List.{length-take}
use Rattle.vmar_doom.proofs.Places.{below_count, listed, region_below}
use Rattle.table_cuts.specs.Cuts.{Cut, non_empty}
use Rattle.table_cuts.proofs.Append.{count_none}
use Rattle.vmar_cuts.proofs.Collects.{room_more, room_end}
use Rattle.vmar_cuts.proofs.Children.{below, no_depth, all_left, room_no_child, room_child}
use Rattle.vmar_cuts.proofs.+room_in_children.Goals as goal

pub returns-then-depth-eq0 : goal.returns-then-depth-eq0
returns-then-depth-eq0 t c =
    let a = c.args in
    let z = ap non_empty (no_depth a.s.now a.depth a.r a.span.begin a.span.end c.if-depth-eq0.true) ∙ count_none in
    omega arith

pub loop-slot-init : goal.loop-slot-init
loop-slot-init t c = let a = c.args in ap (λ (xs : List Cut). a.room - non_empty xs) (all_left a.s.now a.depth a.r a.span.begin a.span.end c.if-depth-eq0.false)

pub bounds-s-slot : goal.bounds-s-slot
bounds-s-slot t c = region_below c.requires.passes c.loop-slot.slot-index c.loop-slot-test.true

pub loop-slot-preserved-then-not-is_child_in : goal.loop-slot-preserved-then-not-is_child_in
loop-slot-preserved-then-not-is_child_in t c =
    let a = c.args in
    let s = a.s.now in
    let k = c.loop-slot.slot-index in
    let here = listed s.regcount s.reglist k c.loop-slot-test.true in
    let child = rw here at c.is_child_in.ensures in
    room_more (below s a.depth a.r a.span.begin a.span.end) k s.regcount _ _ (below_count s.regcount s.reglist k c.loop-slot-test.true)
    (room_no_child s a.depth a.r a.span.begin a.span.end k _ (sym child ∙ c.if-not-is_child_in.true)) ∙ c.loop-slot.invariant

pub loop-slot-preserved : goal.loop-slot-preserved
loop-slot-preserved t c =
    let a = c.args in
    let s = a.s.now in
    let k = c.loop-slot.slot-index in
    let here = listed s.regcount s.reglist k c.loop-slot-test.true in
    let child = rw here at c.is_child_in.ensures in
    let children = rw here at c.room_in_children-left.ensures in
    let parts = rw here at c.room_in_parts-left.ensures in
    room_more (below s a.depth a.r a.span.begin a.span.end) k s.regcount _ _ (below_count s.regcount s.reglist k c.loop-slot-test.true)
    (room_child s a.depth a.r a.span.begin a.span.end k _ _ _ (sym child ∙ c.if-not-is_child_in.false) children parts) ∙ c.loop-slot.invariant

pub returns : goal.returns
returns t c =
    let a = c.args in
    let s = a.s.now in
    let end = c.loop-slot-test.false in
    room_end (below s a.depth a.r a.span.begin a.span.end) c.loop-slot.slot-index s.regcount _ (omega (arith, length-take s.regcount s.reglist, c.requires.passes.regions.room)) ∙ c.loop-slot.invariant
