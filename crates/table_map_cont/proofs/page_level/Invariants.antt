-- `page_level`: the levels from the top down.
use Rattle.std.specs.Prelude.{◌≡◌}
use Rattle.table_map_cont.specs.MapCont.{page_level}
use Rattle.table_map_cont.proofs.page_level.Given as goal

abbrev pub invariant-loop-level : goal.invariant-loop-level
invariant-loop-level l = page_level l.level l.vaddr l.paddr l.remains ≡ page_level l.top l.vaddr l.paddr l.remains
