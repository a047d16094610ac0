-- `level_left`: each call looks one level lower.
use Rattle.table_split.proofs.+level_left.Given as goal

abbrev pub decreases-level_left : goal.decreases-level_left
decreases-level_left l = l.level
