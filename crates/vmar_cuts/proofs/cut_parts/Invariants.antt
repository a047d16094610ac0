-- `cut_parts`: the cuts that are left stay those of all places.
use Rattle.std.proofs.Common.{◌≡◌, ◌-◌, ◌/◌, length}
use Rattle.form.specs.Form.{Good}
use Rattle.table_cuts.specs.Cuts.{cut_all}
use Rattle.vmar_cuts.specs.Cuts.{collect, part_at, parts}
use Rattle.vmar_cuts.proofs.cut_parts.Given as goal

abbrev pub invariant-loop-slot : goal.invariant-loop-slot
invariant-loop-slot l = record {
  good : Good l.pool l.base l.used;
  long : length l.pool ≡ length l.initial.pool;
  left : cut_all (l.base / 4096) (collect (part_at l.s l.r l.span.begin l.span.end) l.slot-index (l.s.mapcount - l.slot-index)) (record { pool = l.pool; used = l.used })
      ≡ cut_all (l.base / 4096) (parts l.s l.r l.span.begin l.span.end) (record { pool = l.initial.pool; used = l.initial.used });
}
