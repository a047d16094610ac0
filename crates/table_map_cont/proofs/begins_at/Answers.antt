-- `begins_at`: the levels from the highest down.
use Prim.Native.Nat.{ℕ, ◌%◌}
use mathlib.Core.Path.{sym, ◌∙◌}
use mathlib.Core.Bool.{Bool}
use native.Mathlib.Omega.{arith}
use lib.Dec.{eqb}
use borrow.Author.Tests.{eq-eqb, ne_eqb}
use Rattle.paging.specs.Level.{span}
use Rattle.table_map_cont.proofs.Heights.{highest_here, highest_below, highest_none}
use Rattle.table_map_cont.proofs.begins_at.Goals as goal

abbrev test : ℕ → ℕ → Bool
test v l = eqb (v % span l) 0

pub returns-then-vaddr-eq0 : goal.returns-then-vaddr-eq0
returns-then-vaddr-eq0 c = let v = c.args.vaddr in sym (highest_here (test v) 3 (omega arith) (eq-eqb (v % span 3) 0 c.if-vaddr-eq0.true))

pub returns-then-vaddr-eq0-2 : goal.returns-then-vaddr-eq0-2
returns-then-vaddr-eq0-2 c =
    let v = c.args.vaddr in
    sym (highest_below (test v) 3 (omega arith) (ne_eqb (v % span 3) 0 c.if-vaddr-eq0.false) ∙ highest_here (test v) 2 (omega arith) (eq-eqb (v % span 2) 0 c.if-vaddr-eq0-2.true))

pub returns-then-vaddr-eq0-3 : goal.returns-then-vaddr-eq0-3
returns-then-vaddr-eq0-3 c =
    let v = c.args.vaddr in
    sym (highest_below (test v) 3 (omega arith) (ne_eqb (v % span 3) 0 c.if-vaddr-eq0.false)
    ∙ highest_below (test v) 2 (omega arith) (ne_eqb (v % span 2) 0 c.if-vaddr-eq0-2.false)
    ∙ highest_here (test v) 1 (omega arith) (eq-eqb (v % span 1) 0 c.if-vaddr-eq0-3.true))

pub returns : goal.returns
returns c =
    let v = c.args.vaddr in
    sym (highest_below (test v) 3 (omega arith) (ne_eqb (v % span 3) 0 c.if-vaddr-eq0.false)
    ∙ highest_below (test v) 2 (omega arith) (ne_eqb (v % span 2) 0 c.if-vaddr-eq0-2.false)
    ∙ highest_below (test v) 1 (omega arith) (ne_eqb (v % span 1) 0 c.if-vaddr-eq0-3.false)
    ∙ highest_none (test v) 0 (omega arith))
