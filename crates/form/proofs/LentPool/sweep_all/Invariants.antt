-- `sweep_all`: the ranks above the present one have been read.
use Rattle.form.specs.Lent.{SweepOf}
use Rattle.form.proofs.LentPool.sweep_all.Given as goal

abbrev pub invariant-loop-rank : goal.invariant-loop-rank
invariant-loop-rank l = SweepOf l.self l.at l.rank 0
