-- `lookup`: a step, and the rest of the way.
use Rattle.vmar_lookup.proofs.+lookup.Given as goal

abbrev pub decreases-lookup : goal.decreases-lookup
decreases-lookup l = l.depth
