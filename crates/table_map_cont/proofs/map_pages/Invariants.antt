-- `map_pages`: each turn maps one page.
use Prim.Native.Nat.{◌/◌, ◌≤◌}
use mathlib.Core.Path.{◌≡◌}
use lib.ListN.{length}
use Rattle.table_map_cont.specs.MapCont.{pages}
use Rattle.table_map_cont.proofs.Runs.{Writing}
use Rattle.table_map_cont.proofs.map_pages.Given as goal

abbrev pub invariant-loop-remains : goal.invariant-loop-remains
invariant-loop-remains l =
    (l.top ≤ 2) × (length l.pool ≡ length l.initial.pool) × Writing l.base l.top l.flags.0 (pages (l.size / 4096) l.initial.pool (l.base / 4096) l.used l.from l.to l.size l.top l.flags.0) l.pool l.taken l.vaddr l.paddr l.remains

abbrev pub decreases-loop-remains : goal.decreases-loop-remains
decreases-loop-remains l = l.remains
