use Prim.Native.Nat.{ℕ, ◌+◌, ◌-◌, ◌/◌, ◌%◌, ◌≤◌}
use mathlib.Core.Path.{◌≡◌, refl, sym, ap, ◌∙◌}
use mathlib.Core.List.{List}
use native.Mathlib.Omega.{arith}
use lib.ListN.{length}
use Rattle.walk.specs.Walk.{found}
use Rattle.table_unmap_cont.specs.UnmapCont.{span_of, emptied, after, cleared}
use Rattle.table_unmap_cont.proofs.Clears.{cleared_end, cleared_more, cleared_last, empty}
use Rattle.table_unmap_cont.proofs.Bound.{enough}
use Rattle.table_unmap_cont.proofs.clear.Goals as goal

-- the next entry begins where the code finds it

next : (p : List ℕ) (b v s : ℕ) → s ≡ span_of (found p b v) → after p b v ≡ v + (s - v % s)
next p b v s e = ap (λ (n : ℕ). v + (n - v % n)) (sym e)

pub loop-vaddr-init : goal.loop-vaddr-init
loop-vaddr-init c =
    let a = c.args in
    (c.requires.good, refl, sym (enough a.base a.used a.end a.pool.now a.start c.requires.good c.requires.within.1))

pub returns-then-end-vaddr : goal.returns-then-end-vaddr
returns-then-end-vaddr c =
    let x = c.loop-vaddr in
    let a = c.args in
    let n = next x.pool (a.base / 4096) x.vaddr c.clear_entry-span.result c.clear_entry-span.ensures.cleared.1 in
    let past : a.end ≤ after x.pool (a.base / 4096) x.vaddr = omega (arith, n, c.if-end-vaddr.true) in
    c.clear_entry-span.ensures.cleared.0 ∙ sym (cleared_last x.pool (a.base / 4096) x.vaddr a.end (omega arith) past) ∙ x.invariant.2

pub loop-vaddr-preserved : goal.loop-vaddr-preserved
loop-vaddr-preserved c =
    let x = c.loop-vaddr in
    let a = c.args in
    let n = next x.pool (a.base / 4096) x.vaddr c.clear_entry-span.result c.clear_entry-span.ensures.cleared.1 in (
      c.clear_entry-span.ensures.good,
      ap length c.clear_entry-span.ensures.cleared.0 ∙ (empty x.pool a.base a.used x.invariant.0 x.vaddr).long ∙ x.invariant.1,
      ap (λ (p : List ℕ). cleared (a.end - (x.vaddr + (c.clear_entry-span.result - x.vaddr % c.clear_entry-span.result))) p (a.base / 4096) (x.vaddr + (c.clear_entry-span.result - x.vaddr % c.clear_entry-span.result)) a.end) c.clear_entry-span.ensures.cleared.0
          ∙ ap (λ (v : ℕ). cleared (a.end - v) (emptied x.pool (a.base / 4096) x.vaddr) (a.base / 4096) v a.end) (sym n)
          ∙ sym (cleared_more x.pool (a.base / 4096) x.vaddr a.end (omega arith))
          ∙ x.invariant.2,
    )

pub returns : goal.returns
returns c =
    let x = c.loop-vaddr in
    let a = c.args in
    sym (cleared_end (a.end - x.vaddr) x.pool (a.base / 4096) x.vaddr a.end (omega arith)) ∙ x.invariant.2
