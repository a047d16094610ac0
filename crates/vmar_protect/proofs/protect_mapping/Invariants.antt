-- `protect_mapping`: the pages passed are done.
use Rattle.std.proofs.Common.{◌≡◌, ◌/◌, ◌-◌, length}
use Rattle.form.specs.Form.{Good}
use Rattle.vmar_protect.specs.Protect.{lent, pages_done}
use Rattle.vmar_protect.proofs.protect_mapping.Given as goal

abbrev pub invariant-loop-page : goal.invariant-loop-page
invariant-loop-page l = record {
  pages : length l.pages ≡ length l.initial.pages;
  pool : length l.pool ≡ length l.initial.pool;
  good : Good l.pool l.base l.used;
  done : lent l.pages l.pool ≡ pages_done (lent l.initial.pages l.initial.pool) (l.base / 4096) l.m l.slot l.flags.0 l.fn.changed.start (l.page - l.fn.changed.start);
}
