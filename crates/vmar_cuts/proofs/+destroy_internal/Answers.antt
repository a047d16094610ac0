use Rattle.std.proofs.Common.{◌/◌, List, refl, sym, ◌∙◌, ap, arith, rules}
use Rattle.std.proofs.lemmas.List.{length-take}
use Rattle.vmar_doom.proofs.Places.{below_count, listed, region_below}
use Rattle.table_cuts.specs.Cuts.{Cut, cut_all}
use Rattle.table_cuts.proofs.Append.{cut_none}
use Rattle.vmar_cuts.proofs.Collects.{cuts_more, cuts_end}
use Rattle.vmar_cuts.proofs.Children.{below, no_depth, all_left, cut_no_child, cut_child}
use Rattle.vmar_cuts.proofs.+destroy_internal.Goals as goal

pub returns-then-depth-eq0-clause-value : goal.returns-then-depth-eq0-clause-value
returns-then-depth-eq0-clause-value t c =
    let a = c.args in
    sym (ap (λ (xs : List Cut). cut_all (a.base / 4096) xs (record { pool = a.pool.now; used = a.used.now })) (no_depth a.s.now a.depth a.r a.span.begin a.span.end c.if-depth-eq0.true) ∙ cut_none _ _)

pub loop-slot-init : goal.loop-slot-init
loop-slot-init t c = let a = c.args in record {
  good = c.requires.good;
  long = refl;
  left = ap (λ (xs : List Cut). cut_all (a.base / 4096) xs (record { pool = a.pool.now; used = a.used.now })) (all_left a.s.now a.depth a.r a.span.begin a.span.end c.if-depth-eq0.false);
}

pub bounds-s-slot : goal.bounds-s-slot
bounds-s-slot t c = region_below c.requires.passing.passes c.loop-slot.slot-index c.loop-slot-test.true

pub loop-slot-preserved-then-not-is_child_in : goal.loop-slot-preserved-then-not-is_child_in
loop-slot-preserved-then-not-is_child_in t c =
    let a = c.args in
    let s = a.s.now in
    let k = c.loop-slot.slot-index in
    let here = listed s.regcount s.reglist k c.loop-slot-test.true in
    let child = rw here at c.is_child_in.ensures in
    record {
      good = c.loop-slot.invariant.good;
      long = c.loop-slot.invariant.long;
      left = cuts_more (below s a.depth a.r a.span.begin a.span.end) k s.regcount _ _ _ (below_count s.regcount s.reglist k c.loop-slot-test.true)
          (cut_no_child s a.depth a.r a.span.begin a.span.end k _ _ (sym child ∙ c.if-not-is_child_in.true)) ∙ c.loop-slot.invariant.left;
    }

pub loop-slot-preserved : goal.loop-slot-preserved
loop-slot-preserved t c =
    let a = c.args in
    let s = a.s.now in
    let k = c.loop-slot.slot-index in
    let here = listed s.regcount s.reglist k c.loop-slot-test.true in
    let child = rw here at c.is_child_in.ensures in
    let children = rw here at c.destroy_internal.ensures.value in
    let parts = rw here at c.cut_parts.ensures.value in
    record {
      good = c.cut_parts.ensures.stays_good;
      long = search rules;
      left = cuts_more (below s a.depth a.r a.span.begin a.span.end) k s.regcount _ _ _ (below_count s.regcount s.reglist k c.loop-slot-test.true)
          (cut_child s a.depth a.r a.span.begin a.span.end k _ _ _ _ (sym child ∙ c.if-not-is_child_in.false) children parts) ∙ c.loop-slot.invariant.left;
    }

pub returns-clause-value : goal.returns-clause-value
returns-clause-value t c =
    let a = c.args in
    let s = a.s.now in
    let end = c.loop-slot-test.false in
    cuts_end (below s a.depth a.r a.span.begin a.span.end) c.loop-slot.slot-index s.regcount _ _ (omega (arith, length-take s.regcount s.reglist, c.requires.passing.passes.regions.room)) ∙ c.loop-slot.invariant.left
