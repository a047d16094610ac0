use mathlib.Core.Path.{sym, ap, ◌∙◌}
use native.Mathlib.Omega.{arith}
use Rattle.paging.proofs.Counts.{splits_aligned, splits_most}
use Rattle.table_split.proofs.Needs.{splits_none, splits_one}
use Prim.Native.Nat.{ℕ, ◌+◌, ◌-◌, ◌%◌}
use Rattle.table_split.proofs.+count_splits.Goals as goal

pub returns-then-level-eq0 : goal.returns-then-level-eq0
returns-then-level-eq0 t c =
    let a = c.args in
    splits_none a.vaddr a.level c.if-level-eq0.true

pub returns-then-vaddr-span_at-eq0 : goal.returns-then-vaddr-span_at-eq0
returns-then-vaddr-span_at-eq0 t c =
    let a = c.args in
    sym (splits_aligned a.level a.vaddr (ap (λ (n : ℕ). a.vaddr % n) (sym c.span_at.ensures) ∙ c.if-vaddr-span_at-eq0.true))

pub overflow_add-result : goal.overflow_add-result
overflow_add-result t c =
    let a = c.args in
    omega (arith, c.count_splits.ensures, splits_most a.vaddr (a.level - 1), c.requires)

pub returns : goal.returns
returns t c =
    let a = c.args in
    ap (λ (n : ℕ). 1 + n) c.count_splits.ensures
    ∙ splits_one a.vaddr a.level (omega (arith, c.if-level-eq0.false)) (omega (arith, ap (λ (n : ℕ). a.vaddr % n) c.span_at.ensures, c.if-vaddr-span_at-eq0.false))
