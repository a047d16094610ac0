-- `pack`: the places passed are packed.
use Rattle.std.proofs.Common.{◌≡◌, ◌≤◌}
use Rattle.vmar_prune.specs.Prune.{packed, kept_slots}
use Rattle.vmar_prune.specs.Steps.{packed_of}
use Rattle.vmar_prune.proofs.pack.Given as goal

abbrev pub invariant-loop-slot : goal.invariant-loop-slot
invariant-loop-slot l = record {
  few : l.n ≤ l.slot-index;
  order : packed_of l.list l.n ≡ packed (kept_slots l.goes) l.initial.list l.old l.slot-index;
}
