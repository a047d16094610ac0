use Rattle.std.specs.Prelude.{Err}
use Prim.Native.Nat.{ℕ, ◌+◌, ◌/◌}
use mathlib.Core.Path.{◌≡◌, sym, ap, ◌∙◌}
use Rattle.std.proofs.lemmas.Result.{err_from_is_err_and}
use native.Mathlib.Omega.{arith}
use Rattle.paging.specs.Level.{span}
use Rattle.common.specs.Page.{size_of}
use Rattle.walk.proofs.Sizes.{size_bytes}
use Rattle.table_map_cont.specs.Count.{begins}
use Rattle.table_map_cont.proofs.Heights.{Fits}
use Rattle.table_map_cont.proofs.Pages.{range_below}
use Rattle.table_map_cont.proofs.Runs.{fits_now, count_end, count_fail, count_next}
use Rattle.table_map_cont.proofs.count.Goals as goal

pub count_page-requires : goal.count_page-requires
count_page-requires c =
    let chosen : (let x = c.loop-remains in Fits c.args.top x.vaddr x.paddr x.remains c.page_level-level.result) = let x = c.loop-remains in
    fits_now c.args.top x.vaddr x.paddr x.remains c.page_level-level.result x.invariant.2.range c.loop-remains-test.true c.page_level-level.ensures in
    let i = c.loop-remains.invariant in record { good = i.0; counted = (i.2.few, i.2.high c.page_level-level.result (omega (arith, chosen.low, i.1)) chosen.virt) }

pub returns-in_err-taken : goal.returns-in_err-taken
returns-in_err-taken c =
    let a = c.args in
    let x = c.loop-remains in
    let p = err_from_is_err_and c.from_residual.result c.from_residual.ensures.1 in
    p.1 ∙ ap Err p.2
    ∙ count_fail a.pool.now (a.base / 4096) a.top _ x.taken x.made x.vaddr x.paddr x.remains x.invariant.2 c.loop-remains-test.true c.page_level-level.result c.page_level-level.ensures
    _ (sym c.count_page.ensures ∙ c.in_err-taken.was)

pub overflow_add-vaddr : goal.overflow_add-vaddr
overflow_add-vaddr c =
    let chosen : (let x = c.loop-remains in Fits c.args.top x.vaddr x.paddr x.remains c.page_level-level.result) = let x = c.loop-remains in
    fits_now c.args.top x.vaddr x.paddr x.remains c.page_level-level.result x.invariant.2.range c.loop-remains-test.true c.page_level-level.ensures in
    let bytes : c.size-step.result ≡ span c.page_level-level.result = c.size-step.ensures ∙ ap size_of c.size_at.ensures ∙ size_bytes c.page_level-level.result (omega (arith, chosen.low, c.loop-remains.invariant.1)) in
    let x = c.loop-remains in
    omega (arith, range_below x.vaddr x.remains x.paddr x.invariant.2.range, chosen.room, bytes)

pub overflow_sub-remains : goal.overflow_sub-remains
overflow_sub-remains c =
    let chosen : (let x = c.loop-remains in Fits c.args.top x.vaddr x.paddr x.remains c.page_level-level.result) = let x = c.loop-remains in
    fits_now c.args.top x.vaddr x.paddr x.remains c.page_level-level.result x.invariant.2.range c.loop-remains-test.true c.page_level-level.ensures in
    let bytes : c.size-step.result ≡ span c.page_level-level.result = c.size-step.ensures ∙ ap size_of c.size_at.ensures ∙ size_bytes c.page_level-level.result (omega (arith, chosen.low, c.loop-remains.invariant.1)) in
    omega (arith, chosen.room, bytes)

pub loop-remains-preserved : goal.loop-remains-preserved
loop-remains-preserved c =
    let chosen : (let x = c.loop-remains in Fits c.args.top x.vaddr x.paddr x.remains c.page_level-level.result) = let x = c.loop-remains in
    fits_now c.args.top x.vaddr x.paddr x.remains c.page_level-level.result x.invariant.2.range c.loop-remains-test.true c.page_level-level.ensures in
    let bytes : c.size-step.result ≡ span c.page_level-level.result = c.size-step.ensures ∙ ap size_of c.size_at.ensures ∙ size_bytes c.page_level-level.result (omega (arith, chosen.low, c.loop-remains.invariant.1)) in
    let a = c.args in
    let x = c.loop-remains in (
      x.invariant.0,
      x.invariant.1,
      rw bytes (count_next a.pool.now (a.base / 4096) a.top _ x.taken x.made x.vaddr x.paddr x.remains x.invariant.2 c.loop-remains-test.true c.page_level-level.result c.page_level-level.ensures
          c.in_ok-taken.taken c.begins_at-made.result (sym c.count_page.ensures ∙ c.in_ok-taken.was) (c.begins_at-made.ensures ∙ ap (λ (z : ℕ). begins (x.vaddr + z)) bytes)),
    )

pub returns : goal.returns
returns c =
    let a = c.args in
    let x = c.loop-remains in
    count_end a.pool.now (a.base / 4096) a.top _ x.taken x.made x.vaddr x.paddr x.remains x.invariant.2 (omega arith)
