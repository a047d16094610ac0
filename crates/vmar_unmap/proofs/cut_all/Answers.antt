-- `cut_all`: where all is cut out nothing is split.
use Rattle.vmar_cuts.specs.Cuts.{END}
use Rattle.vmar_unmap.proofs.Calls.{all_slot}
use Rattle.vmar_unmap.proofs.cut_all.Goals as goal

pub prune-requires : goal.prune-requires
prune-requires c = (c.requires.1, all_slot c.args.s.now c.args.r END)
