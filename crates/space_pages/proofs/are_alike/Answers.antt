use Rattle.scan.proofs.Gather.{nothing, more}
use Rattle.space_pages.proofs.Alike.{page_to, page_from}
use Rattle.space_pages.proofs.are_alike.Goals as goal

pub loop-page-init : goal.loop-page-init
loop-page-init c = nothing _

pub loop-page-preserved : goal.loop-page-preserved
loop-page-preserved c = more _ _ _ _ c.loop-page.invariant (page_to _ _) (page_from _ _)
