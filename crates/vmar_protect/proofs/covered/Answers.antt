use Rattle.std.proofs.Common.{◌≤◌, ◌<◌, List, ◌∙◌, ap, ℕ, ◌+◌, arith}
use Rattle.space.specs.Space.{mapping_at, mapping_place}
use Rattle.space.specs.Passes.{Passes}
use Rattle.space.specs.declared.Space.{Space}
use Rattle.space.proofs.Facts.{mapping_place_lem}
use Rattle.vmar_doom.proofs.Places.{below_count, listed}
use Rattle.vmar_protect.specs.Protect.{part_in, total}
use Rattle.vmar_protect.proofs.Parts.{part_most, total_none, total_more}
use Rattle.vmar_protect.proofs.covered.Goals as goal

small : {s : Space} {f : List ℕ} (p : Passes s f) (r begin end k : ℕ) → k < s.mapcount → part_in (mapping_at s (mapping_place s k)) r begin end ≤ 0x200000
small {s} {f} p r begin end k h =
    let at = mapping_place_lem p k h in
    let g = p.paged _ at.0 at.1 in
    omega (arith, part_most (mapping_at s (mapping_place s k)) r begin end, g.few, g.size)

pub loop-slot-init : goal.loop-slot-init
loop-slot-init c = record { most = omega arith; sum = total_none _ _ _ _ }

pub overflow_add-sum : goal.overflow_add-sum
overflow_add-sum c =
    let a = c.args in
    let s = a.s.now in
    let k = c.loop-slot.slot-index in
    let p = c.requires.0.passes in
    let h = below_count s.mapcount s.maplist k c.loop-slot-test.true in
    let here = listed s.mapcount s.maplist k c.loop-slot-test.true in
    let part = rw here at c.part_in-sum.ensures in
    record { fits = omega (arith, part, small p a.r a.begin a.end k h, c.loop-slot.invariant.most, h, p.mappings.room) }

pub loop-slot-preserved : goal.loop-slot-preserved
loop-slot-preserved c =
    let a = c.args in
    let s = a.s.now in
    let k = c.loop-slot.slot-index in
    let h = below_count s.mapcount s.maplist k c.loop-slot-test.true in
    let here = listed s.mapcount s.maplist k c.loop-slot-test.true in
    let part = rw here at c.part_in-sum.ensures in
    record {
      most = omega (arith, part, small c.requires.0.passes a.r a.begin a.end k h, c.loop-slot.invariant.most);
      sum = ap (λ (x : ℕ). x + c.part_in-sum.result) c.loop-slot.invariant.sum ∙ ap (λ (x : ℕ). total s a.r a.begin a.end k + x) part ∙ total_more s a.r a.begin a.end k;
    }
