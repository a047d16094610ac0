-- `split_at`: each call splits once more.
use Rattle.table_split.proofs.+split_at.Given as goal

abbrev pub decreases-split_at : goal.decreases-split_at
decreases-split_at l = l.depth
