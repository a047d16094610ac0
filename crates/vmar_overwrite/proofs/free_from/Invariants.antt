-- `free_from`: the slots passed are live.
use Rattle.std.proofs.Common.{◌≡◌}
use Rattle.scan.specs.Scan.{first}
use Rattle.vmar_offset.specs.Offset.{is_free_mapping}
use Rattle.vmar_overwrite.proofs.free_from.Given as goal

abbrev pub invariant-loop-i : goal.invariant-loop-i
invariant-loop-i l = first (is_free_mapping l.s) l.from 64 ≡ first (is_free_mapping l.s) l.i 64
