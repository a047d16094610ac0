-- `check_pages`: the pages passed are allowed.
use Rattle.std.proofs.Common.{◌≡◌, ◌+◌, ◌-◌, ◌/◌, ◌≤◌}
use Rattle.vmar_user_range.specs.UserRange.{verdict, checked_to}
use Rattle.vmar_user_range.proofs.check_pages.Given as goal

abbrev pub invariant-loop-page : goal.invariant-loop-page
invariant-loop-page l = record {
  from : l.addr / 4096 ≤ l.page;
  to : l.page ≤ l.last + 1;
  passed : checked_to (verdict l.s l.flags l.r l.addr l.access.0) (l.addr / 4096) l.last ≡ checked_to (verdict l.s l.flags l.r l.addr l.access.0) l.page l.last;
}

abbrev pub decreases-loop-page : goal.decreases-loop-page
decreases-loop-page l = l.last + 1 - l.page
