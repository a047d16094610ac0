use Rattle.scan.proofs.Gather.{nothing, more}
use Rattle.space_pages.proofs.are_zero.Goals as goal

pub loop-byte-init : goal.loop-byte-init
loop-byte-init c = nothing _

pub loop-byte-preserved : goal.loop-byte-preserved
loop-byte-preserved c = more _ _ _ _ c.loop-byte.invariant (λ e. e) (λ e. e)
