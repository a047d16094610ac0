-- `protect_all`: the places passed are done.
use Rattle.std.proofs.Common.{◌≡◌, ◌/◌, length}
use Rattle.form.specs.Form.{Good}
use Rattle.vmar_protect.specs.Protect.{lent, mappings_done}
use Rattle.vmar_protect.proofs.protect_all.Given as goal

abbrev pub invariant-loop-k : goal.invariant-loop-k
invariant-loop-k l = record {
  pages : length l.pages ≡ length l.initial.pages;
  pool : length l.pool ≡ length l.initial.pool;
  good : Good l.pool l.base l.used;
  done : lent l.pages l.pool ≡ mappings_done (lent l.initial.pages l.initial.pool) (l.base / 4096) l.s l.r l.begin l.end l.flags.0 l.k;
}
