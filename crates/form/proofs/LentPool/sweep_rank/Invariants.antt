-- `sweep_rank`: what is known when the turn of the rank has come to the frame.
use Rattle.std.proofs.Common.{◌*◌}
use Rattle.form.specs.Lent.{SweepOf}
use Rattle.form.proofs.LentPool.sweep_rank.Given as goal

abbrev pub invariant-loop-frame : goal.invariant-loop-frame
invariant-loop-frame l = SweepOf l.self l.at l.rank (l.frame * 512)
