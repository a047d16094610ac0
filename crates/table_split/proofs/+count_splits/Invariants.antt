-- `count_splits`: each call looks one level lower.
use Rattle.table_split.proofs.+count_splits.Given as goal

abbrev pub decreases-count_splits : goal.decreases-count_splits
decreases-count_splits l = l.level
