-- `clear`: what is left to empty stays what it was at the start.
use Prim.Native.Nat.{◌-◌, ◌*◌, ◌/◌}
use mathlib.Core.Path.{◌≡◌}
use lib.ListN.{length}
use Rattle.form.specs.Form.{Good}
use Rattle.table_unmap_cont.specs.UnmapCont.{cleared}
use Rattle.table_unmap_cont.proofs.clear.Given as goal

abbrev pub invariant-loop-vaddr : goal.invariant-loop-vaddr
invariant-loop-vaddr l =
    Good l.pool l.base l.used × (length l.pool ≡ length l.initial.pool) × (cleared (l.end - l.vaddr) l.pool (l.base / 4096) l.vaddr l.end ≡ cleared (l.used * 512) l.initial.pool (l.base / 4096) l.start l.end)

abbrev pub decreases-loop-vaddr : goal.decreases-loop-vaddr
decreases-loop-vaddr l = l.end - l.vaddr
