use Rattle.std.specs.Prelude.{ℕ, Result, Err}
use Rattle.std.proofs.lemmas.Result.{err_from_is_err_and}
use Rattle.refusal.specs.declared.Refusal.{Refusal}
use Prim.Native.Nat.{◌/◌}
use mathlib.Core.Path.{◌≡◌, sym, ap, ◌∙◌}
use native.Mathlib.Omega.{arith}
use Rattle.paging.specs.Level.{span}
use Rattle.common.specs.Page.{size_of}
use Rattle.common.specs.declared.vm.PageSize.{PageSize}
use Rattle.walk.specs.Walk.{size_at}
use Rattle.table_map.specs.Map.{mapped, Mapping}
use Rattle.walk.proofs.Sizes.{size_bytes}
use Rattle.table_map_cont.proofs.Pages.{range_below}
use Rattle.table_map_cont.proofs.Runs.{fits_now, write_end, write_fail, write_next}
use Rattle.table_map_cont.proofs.map_pages.Goals as goal

pub returns-in_err-taken : goal.returns-in_err-taken
returns-in_err-taken c =
    let a = c.args in
    let x = c.loop-remains in
    let came : Mapping = record { result = c.map.result; pool = c.map.new.pool } in
    let mapped_page : came ≡ mapped x.pool (a.base / 4096) x.taken x.vaddr x.paddr (size_at c.page_level-level.result) a.flags.0 =
    c.map.ensures ∙ ap (λ (s : PageSize). mapped x.pool (a.base / 4096) x.taken x.vaddr x.paddr s a.flags.0) c.size_at-page_size.ensures in
    let p = err_from_is_err_and c.from_residual.result c.from_residual.ensures.1 in
    ap (λ (r : Result ℕ Refusal). record { result = r; pool = c.map.new.pool }) (p.1 ∙ ap Err p.2 ∙ sym c.in_err-taken.was)
    ∙ write_fail a.base a.top a.flags.0 _ x.pool x.taken x.vaddr x.paddr x.remains x.invariant.2 x.invariant.0 c.loop-remains-test.true c.page_level-level.result c.page_level-level.ensures
    came mapped_page _ c.in_err-taken.was

pub overflow_add-vaddr : goal.overflow_add-vaddr
overflow_add-vaddr c =
    let chosen = fits_now c.args.top c.loop-remains.vaddr c.loop-remains.paddr c.loop-remains.remains c.page_level-level.result c.loop-remains.invariant.2.range c.loop-remains-test.true c.page_level-level.ensures in
    let bytes : c.size-step.result ≡ span c.page_level-level.result = c.size-step.ensures ∙ ap size_of c.size_at-page_size.ensures ∙ size_bytes c.page_level-level.result (omega (arith, chosen.low, c.loop-remains.invariant.0)) in
    let x = c.loop-remains in
    omega (arith, range_below x.vaddr x.remains x.paddr x.invariant.2.range, chosen.room, bytes)

pub overflow_sub-remains : goal.overflow_sub-remains
overflow_sub-remains c =
    let chosen = fits_now c.args.top c.loop-remains.vaddr c.loop-remains.paddr c.loop-remains.remains c.page_level-level.result c.loop-remains.invariant.2.range c.loop-remains-test.true c.page_level-level.ensures in
    let bytes : c.size-step.result ≡ span c.page_level-level.result = c.size-step.ensures ∙ ap size_of c.size_at-page_size.ensures ∙ size_bytes c.page_level-level.result (omega (arith, chosen.low, c.loop-remains.invariant.0)) in
    omega (arith, chosen.room, bytes)

pub loop-remains-preserved : goal.loop-remains-preserved
loop-remains-preserved c =
    let a = c.args in
    let x = c.loop-remains in
    let came : Mapping = record { result = c.map.result; pool = c.map.new.pool } in
    let mapped_page : came ≡ mapped x.pool (a.base / 4096) x.taken x.vaddr x.paddr (size_at c.page_level-level.result) a.flags.0 =
    c.map.ensures ∙ ap (λ (s : PageSize). mapped x.pool (a.base / 4096) x.taken x.vaddr x.paddr s a.flags.0) c.size_at-page_size.ensures in
    let chosen = fits_now c.args.top c.loop-remains.vaddr c.loop-remains.paddr c.loop-remains.remains c.page_level-level.result c.loop-remains.invariant.2.range c.loop-remains-test.true c.page_level-level.ensures in
    let bytes : c.size-step.result ≡ span c.page_level-level.result = c.size-step.ensures ∙ ap size_of c.size_at-page_size.ensures ∙ size_bytes c.page_level-level.result (omega (arith, chosen.low, c.loop-remains.invariant.0)) in (
      x.invariant.0,
      omega (arith, x.invariant.1),
      rw bytes (write_next a.base a.top a.flags.0 _ x.pool x.taken x.vaddr x.paddr x.remains x.invariant.2 x.invariant.0 c.loop-remains-test.true c.page_level-level.result c.page_level-level.ensures
          came mapped_page c.in_ok-taken.taken c.in_ok-taken.was),
    )

pub returns : goal.returns
returns c =
    let a = c.args in
    let x = c.loop-remains in
    write_end a.base a.top a.flags.0 _ x.pool x.taken x.vaddr x.paddr x.remains x.invariant.2 (omega arith)
