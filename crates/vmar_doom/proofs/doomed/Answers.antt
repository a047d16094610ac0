use Rattle.std.proofs.Common.{◌≡◌, Bool, ◌||◌, true, false, get_or, sym, ◌∙◌}
use Rattle.space.specs.Space.{region_at, region_place}
use Rattle.vmar_doom.specs.Doomed.{is_child_in, marked_to}
use Rattle.vmar_doom.proofs.Dooms.{no_marks, more_marked}
use Rattle.vmar_doom.proofs.Places.{listed, region_below}
use Rattle.vmar_doom.proofs.doomed.Goals as goal
use Rattle.vmar_doom.proofs.doomed.Goals.{then-goes, else-goes}

or_true : (x y m : Bool) → m ≡ x → x ≡ true → m ≡ (x || y)
or_true x y m e h = rw h (e ∙ h)

or_false : (x y m : Bool) → m ≡ y → x ≡ false → m ≡ (x || y)
or_false x y m e h = rw h e

pub loop-slot-init : goal.loop-slot-init
loop-slot-init c = let a = c.args in no_marks a.s.now a.r a.begin a.end

pub bounds-s-slot : goal.bounds-s-slot
bounds-s-slot c = region_below c.requires.0.passes c.loop-slot.slot-index c.loop-slot-test.true

pub loop-slot-preserved : goal.loop-slot-preserved
loop-slot-preserved c =
    let a = c.args in
    let s = a.s.now in
    let k = c.loop-slot.slot-index in
    let i = region_place s k in
    let here = listed s.regcount s.reglist k c.loop-slot-test.true in
    let goes = rw here at c.is_child_in-goes.ensures in
    let marked = c.loop-slot.invariant in
    let mark : c.if-goes.marks ≡ (is_child_in (region_at s i) a.r a.begin a.end || get_or (marked_to s a.r a.begin a.end k) (region_at s i).parent false) =
    elim c.if-goes.branch [
      | then-goes w ↦ or_true _ _ _ (w.marks-is ∙ goes) (sym goes ∙ w.if-goes.true)
      | else-goes w ↦ or_false _ _ _ (w.marks-is ∙ rw (here, marked) at w.mark_of.ensures) (sym goes ∙ w.if-goes.false)
    ]
    in
    rw (here, mark, marked) (more_marked s a.r a.begin a.end k)
