use Rattle.std.proofs.Common.{below_more}
use Rattle.form.proofs.Flawless.{or_zero}
use Rattle.form.proofs.all_plain.Goals as goal

pub loop-w-preserved : goal.loop-w-preserved
loop-w-preserved c = λ e.
    let z = or_zero c.loop-w.found c.flaws-found.result e in
    below_more _ _ (c.loop-w.invariant z.0) (c.flaws-found.ensures z.1)
