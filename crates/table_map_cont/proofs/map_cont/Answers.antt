-- `map_cont`: the count's answer is the pages'.
use Rattle.std.specs.Prelude.{Result, Err}
use Rattle.std.proofs.lemmas.Result.{err_from_is_err_and}
use Prim.Native.Nat.{ℕ, ◌/◌}
use mathlib.Core.Path.{◌≡◌, sym, ap, ◌∙◌}
use native.Mathlib.Omega.{arith}
use Rattle.table_map_cont.specs.MapCont.{top_level, pages}
use Rattle.table_map_cont.proofs.Counted.{by_count}
use Rattle.table_map_cont.proofs.Runs.{top_low, cont_refused, cont_mapped}
use Rattle.table_map_cont.proofs.map_cont.Goals as goal
use Rattle.refusal.specs.declared.Refusal.{Refusal}

pub returns-in_err-count : goal.returns-in_err-count
returns-in_err-count c =
    let right : (let a = c.args in (pages (a.size / 4096) a.pool.now (a.base / 4096) a.used a.vaddr a.paddr a.size (top_level a.flags.0) a.flags.0).result ≡ c.count.result) = let a = c.args in
    let e = c.top_level-top.ensures in
    ap (λ (t : ℕ). (pages (a.size / 4096) a.pool.now (a.base / 4096) a.used a.vaddr a.paddr a.size t a.flags.0).result) (sym e)
    ∙ by_count (a.size / 4096) a.pool.now a.base a.used a.vaddr a.size a.paddr c.top_level-top.result a.flags.0 c.requires.good c.requires.range (omega (arith, e, top_low a.flags.0))
    ∙ sym c.count.ensures in
    let a = c.args in
    let p = err_from_is_err_and c.from_residual.result c.from_residual.ensures.1 in
    ap (λ (r : Result ℕ Refusal). record { result = r; pool = a.pool.now }) (p.1 ∙ ap Err p.2) ∙ cont_refused a.pool.now _ _ (right ∙ c.in_err-count.was)

pub returns : goal.returns
returns c =
    let right : (let a = c.args in (pages (a.size / 4096) a.pool.now (a.base / 4096) a.used a.vaddr a.paddr a.size (top_level a.flags.0) a.flags.0).result ≡ c.count.result) = let a = c.args in
    let e = c.top_level-top.ensures in
    ap (λ (t : ℕ). (pages (a.size / 4096) a.pool.now (a.base / 4096) a.used a.vaddr a.paddr a.size t a.flags.0).result) (sym e)
    ∙ by_count (a.size / 4096) a.pool.now a.base a.used a.vaddr a.size a.paddr c.top_level-top.result a.flags.0 c.requires.good c.requires.range (omega (arith, e, top_low a.flags.0))
    ∙ sym c.count.ensures in
    let a = c.args in
    c.map_pages.ensures
    ∙ ap (λ (t : ℕ). pages (a.size / 4096) a.pool.now (a.base / 4096) a.used a.vaddr a.paddr a.size t a.flags.0) c.top_level-top.ensures
    ∙ cont_mapped a.pool.now _ c.in_ok-count.field-0 (right ∙ c.in_ok-count.was)
