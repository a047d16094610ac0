use Rattle.std.proofs.Common.{◌≡◌, ◌+◌, ◌*◌, arith}
use Rattle.form.specs.Sweep.{goes, stops}
use Rattle.form.proofs.Answers.{passed, refused}
use Rattle.form.proofs.LentPool.sweep_rank.Goals as goal

pub returns-then-not-sweep_frame : goal.returns-then-not-sweep_frame
returns-then-not-sweep_frame c = stops (refused c.if-not-sweep_frame.ensures)

pub loop-frame-preserved : goal.loop-frame-preserved
loop-frame-preserved c =
    let e : (c.loop-frame.frame + 1) * 512 ≡ c.loop-frame.frame * 512 + 512 = omega arith in
    rw e (passed c.if-not-sweep_frame.ensures)

pub returns : goal.returns
returns c =
    let e : c.loop-frame.frame ≡ c.args.self.now.used = omega arith in
    goes (rw e at c.loop-frame.invariant)
