-- `count`: each turn counts one page.
use Prim.Native.Nat.{◌/◌, ◌≤◌}
use Rattle.form.specs.Form.{Good}
use Rattle.table_map_cont.specs.Count.{counted}
use Rattle.table_map_cont.proofs.Runs.{Counting}
use Rattle.table_map_cont.proofs.count.Given as goal

abbrev pub invariant-loop-remains : goal.invariant-loop-remains
invariant-loop-remains l =
    Good l.pool l.base l.used × (l.top ≤ 2) × Counting l.pool (l.base / 4096) l.top (counted (l.size / 4096) l.pool (l.base / 4096) l.used 3 l.from l.to l.size l.top) l.taken l.made l.vaddr l.paddr l.remains

abbrev pub decreases-loop-remains : goal.decreases-loop-remains
decreases-loop-remains l = l.remains
