-- `split_ends`: what the second split needs is what the first leaves.
use Prim.Native.Nat.{◌+◌, ◌/◌, ◌≤◌}
use mathlib.Core.Path.{◌≡◌, sym, ap, ◌∙◌, subst}
use lib.ListN.{length}
use Rattle.paging.specs.Need.{splits}
use Rattle.form.specs.Form.{Good}
use Rattle.table_split.specs.Split.{leaf_over, Tables, split_at}
use Rattle.table_split.specs.Split.{split_ends}
use Rattle.table_split.proofs.Ends.{end_at, end_room, D₁, D₂}
use Rattle.table_split.proofs.split_ends.Goals as goal

pub split_at-requires : goal.split_at-requires
split_at-requires c =
    let a = c.args in
    let r = c.requires.range in
    let p = a.pool.now in
    let e : record { pool = c.split_at-after_start.new.pool; used = c.split_at-after_start.result } ≡ split_at 2 p (a.base / 4096) a.used a.start = c.split_at-after_start.ensures in record { good = subst (λ (t : Tables). Good t.pool a.base t.used) (sym e) (D₁ p a.base a.used c.requires.good a.start a.end r.0 r.1 r.2 r.3 c.requires.room).good; aligned = (r.1, end_at p a.base a.used c.requires.good a.start a.end r.0 r.1 r.2 r.3 c.requires.room); room = subst (λ (t : Tables). t.used + splits a.end (leaf_over t.pool (a.base / 4096) a.end) ≤ length t.pool / 512) (sym e) (end_room p a.base a.used c.requires.good a.start a.end r.0 r.1 r.2 r.3 c.requires.room) }

pub returns : goal.returns
returns c =
    let a = c.args in
    let r = c.requires.range in
    let p = a.pool.now in
    let e : record { pool = c.split_at-after_start.new.pool; used = c.split_at-after_start.result } ≡ split_at 2 p (a.base / 4096) a.used a.start = c.split_at-after_start.ensures in
    let f : record { pool = c.split_at.new.pool; used = c.split_at.result } ≡ split_ends p (a.base / 4096) a.used a.start a.end =
    c.split_at.ensures ∙ ap (λ (t : Tables). split_at 2 t.pool (a.base / 4096) t.used a.end) e in record { value = f; stays_good = subst (λ (t : Tables). Good t.pool a.base t.used) (sym f) (D₂ p a.base a.used c.requires.good a.start a.end r.0 r.1 r.2 r.3 c.requires.room).good }
