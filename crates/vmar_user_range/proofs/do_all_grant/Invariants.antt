-- `do_all_grant`: what is missing is gathered.
use Rattle.std.proofs.Common.{◌≡◌, ℕ, ◌+◌, ◌-◌, true, get_or}
use Rattle.common.specs.Flags.{grants}
use Rattle.scan.proofs.Gather.{Gathered}
use Rattle.vmar_user_range.proofs.do_all_grant.Given as goal

abbrev pub invariant-loop-j : goal.invariant-loop-j
invariant-loop-j l = Gathered (λ (k : ℕ). grants (get_or l.flags (l.at + k) 0) l.access ≡ true) l.lacking (l.j - l.at)
