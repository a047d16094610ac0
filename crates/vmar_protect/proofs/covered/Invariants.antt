-- `covered`: each place adds its part, at most 2 MiB.
use Rattle.std.proofs.Common.{◌≡◌, ◌*◌, ◌≤◌}
use Rattle.vmar_protect.specs.Protect.{total}
use Rattle.vmar_protect.proofs.covered.Given as goal

abbrev pub invariant-loop-slot : goal.invariant-loop-slot
invariant-loop-slot l = record {
  most : l.sum ≤ l.slot-index * 0x200000;
  sum : l.sum ≡ total l.s l.r l.begin l.end l.slot-index;
}
