-- `fill`: each call makes one table less.
use Rattle.table_map.proofs.+fill.Given as goal

abbrev pub decreases-fill : goal.decreases-fill
decreases-fill l = l.spot.level
