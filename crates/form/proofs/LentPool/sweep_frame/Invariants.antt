-- `sweep_frame`: what is known when the turn of the rank has come to a word of the frame, whose rank stays.
use Rattle.std.proofs.Common.{◌≡◌, ◌+◌, ◌*◌, get_or}
use Rattle.form.specs.Lent.{SweepOf}
use Rattle.form.proofs.LentPool.sweep_frame.Given as goal

abbrev pub invariant-loop-w : goal.invariant-loop-w
invariant-loop-w l = record {
  ranked : get_or l.at l.frame 0 ≡ l.rank;
  sweep : SweepOf l.self l.at l.rank (l.frame * 512 + l.w-index);
}
