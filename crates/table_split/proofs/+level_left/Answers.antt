use mathlib.Core.Path.{sym, ap, ◌∙◌}
use native.Mathlib.Omega.{arith}
use Rattle.table_split.proofs.Needs.{left_none, left_apart, left_begin, left_lower}
use Prim.Native.Nat.{ℕ, ◌/◌, ◌%◌}
use Rattle.table_split.proofs.+level_left.Goals as goal

pub returns-then-level-eq0 : goal.returns-then-level-eq0
returns-then-level-eq0 t c =
    let a = c.args in
    left_none a.start a.vaddr a.level c.if-level-eq0.true

pub returns-then-start-span : goal.returns-then-start-span
returns-then-start-span t c =
    let a = c.args in
    left_apart a.start a.vaddr a.level (λ e. c.if-start-span.true (ap (λ (n : ℕ). a.start / n) c.span_at-span.ensures ∙ e ∙ ap (λ (n : ℕ). a.vaddr / n) (sym c.span_at-span.ensures)))

pub returns-then-start-span-eq0 : goal.returns-then-start-span-eq0
returns-then-start-span-eq0 t c =
    let a = c.args in
    left_begin a.start a.vaddr a.level (ap (λ (n : ℕ). a.start / n) (sym c.span_at-span.ensures) ∙ c.if-start-span.false ∙ ap (λ (n : ℕ). a.vaddr / n) c.span_at-span.ensures) (ap (λ (n : ℕ). a.start % n) (sym c.span_at-span.ensures) ∙ c.if-start-span-eq0.true)

pub returns : goal.returns
returns t c =
    let a = c.args in
    let s = c.span_at-span in
    c.level_left.ensures
    ∙ left_lower a.start a.vaddr a.level (omega (arith, c.if-level-eq0.false))
    (ap (λ (n : ℕ). a.start / n) (sym s.ensures) ∙ c.if-start-span.false ∙ ap (λ (n : ℕ). a.vaddr / n) s.ensures)
    (omega (arith, ap (λ (n : ℕ). a.start % n) s.ensures, c.if-start-span-eq0.false))
