-- `are_alike`: what is unknown or differs in more than READ, WRITE and EXECUTE is gathered.
use Rattle.std.proofs.Common.{◌≡◌, ℕ, true, get_or}
use Rattle.common.specs.Flags.{known_page}
use Rattle.space.specs.Passes.{others}
use Rattle.scan.proofs.Gather.{Gathered}
use Rattle.space_pages.proofs.are_alike.Given as goal

abbrev pub invariant-loop-page : goal.invariant-loop-page
invariant-loop-page l = Gathered (λ (k : ℕ). (known_page (get_or l.pages k 0) ≡ true) × (others (get_or l.pages k 0) ≡ l.others)) l.wrong l.page-index
