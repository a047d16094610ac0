use Prim.Native.Nat.{ℕ, ◌+◌, ◌-◌, ◌/◌, ◌<◌}
use mathlib.Core.Path.{◌≡◌, ap, ◌∙◌}
use mathlib.Core.List.{List}
use native.Mathlib.Omega.{arith}
use Rattle.walk.specs.declared.OpenEntry.{OpenEntry}
use Rattle.table_map.specs.Map.{grown, filled}
use Rattle.table_map.proofs.Fills.{fill_none, fill_more}
use Rattle.table_map.proofs.+fill.Goals as goal

pub returns-then-spot-target : goal.returns-then-spot-target
returns-then-spot-target t c =
    let a = c.args in
    c.set_entry.ensures
    ∙ fill_none (a.spot.level - a.target) a.pool.now (a.base / 4096) a.next a.vaddr a.spot a.word (omega (arith, c.if-spot-target.true))

pub returns : goal.returns
returns t c =
    let a = c.args in
    let n : ℕ = a.spot.level - a.target in
    let h : 0 < n = omega (arith, c.if-spot-target.false) in
    let l : c.create_table-below.result.level - a.target ≡ n - 1 = ap (λ (x : OpenEntry). x.level - a.target) c.create_table-below.ensures.1 ∙ omega arith in
    c.fill.ensures
    ∙ ap (λ (x : ℕ). filled x c.create_table-below.new.pool (a.base / 4096) (a.next + 1) a.vaddr c.create_table-below.result a.word) l
    ∙ ap (λ (x : List ℕ). filled (n - 1) x (a.base / 4096) (a.next + 1) a.vaddr c.create_table-below.result a.word) c.create_table-below.ensures.0
    ∙ ap (λ (x : OpenEntry). filled (n - 1) (grown a.pool.now (a.base / 4096) a.next a.spot) (a.base / 4096) (a.next + 1) a.vaddr x a.word) c.create_table-below.ensures.1
    ∙ fill_more n a.pool.now (a.base / 4096) a.next a.vaddr a.spot a.word h
