-- `are_zero`: what is not 0 is gathered.
use Rattle.std.proofs.Common.{◌≡◌, ℕ, get_or}
use Rattle.scan.proofs.Gather.{Gathered}
use Rattle.space_pages.proofs.are_zero.Given as goal

abbrev pub invariant-loop-byte : goal.invariant-loop-byte
invariant-loop-byte l = Gathered (λ (k : ℕ). get_or l.bytes k 0 ≡ 0) l.wrong l.byte-index
