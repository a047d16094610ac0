-- `X86PTE::is_entry`: each way through the tests is a way of `written`, which decides.
use Rattle.std.proofs.Common.{◌≡◌, ℕ, Bool, true, false, ◌&&◌, eqb, sym, ◌∙◌, arith}
use Rattle.paging.specs.Choice.{Decided}
use Rattle.paging.specs.Format.{Entry}
use Rattle.common.specs.Page.{level_of, aligned, is_huge}
use Rattle.common.specs.declared.vm.PageSize.{PageSize}
use Rattle.common.specs.declared.vm.PageSize.TheVariants.{Size4K, Size2M, Size1G}
use Rattle.x86_64.specs.Entry.{addr_of, marks_of, flags_of, is_unused, is_leaf, leaf_by, x86}
use Rattle.x86_64.proofs.Format.{decides, when_unused, when_leaf, when_high, when_table, when_low, when_above}
use Rattle.x86_64.proofs.vm.X86PTE.is_entry.Goals as goal

pub returns-then-is_unused : goal.returns-then-is_unused
returns-then-is_unused c =
    let a = c.args in
    decides a.level a.self.0 (when_unused a.level a.self.0 (sym c.if-is_unused.ensures))

-- a leaf of a size, at that size's level
of_size : (l w : ℕ) (s : PageSize) {r : Bool}
    → false ≡ is_unused w
    → true ≡ is_leaf w
    → l ≡ level_of s
    → r ≡ aligned s (addr_of w) && eqb (leaf_by (is_huge s) (addr_of w) (flags_of w) (marks_of w)) w
    → Decided (Entry x86 l w) r
of_size l w s u m e r = decides l w (when_leaf l w (sym u) (sym m) s e ∙ sym r)

pub returns-in-0 : goal.returns-in-0
returns-in-0 c = of_size c.args.level c.args.self.0 Size4K c.if-is_unused.ensures c.if-is_leaf.ensures c.in-0.is c.is_leaf_of.ensures

pub returns-in-1 : goal.returns-in-1
returns-in-1 c = of_size c.args.level c.args.self.0 Size2M c.if-is_unused.ensures c.if-is_leaf.ensures c.in-1.is c.is_leaf_of-in-1.ensures

pub returns-in-2 : goal.returns-in-2
returns-in-2 c = of_size c.args.level c.args.self.0 Size1G c.if-is_unused.ensures c.if-is_leaf.ensures c.in-2.is c.is_leaf_of-in-2.ensures

pub returns-in_default : goal.returns-in_default
returns-in_default c =
    let a = c.args in
    decides a.level a.self.0 (when_high a.level a.self.0 (sym c.if-is_unused.ensures) (sym c.if-is_leaf.ensures) (omega arith))

pub returns-in-1-to-3 : goal.returns-in-1-to-3
returns-in-1-to-3 c =
    let a = c.args in
    decides a.level a.self.0 (when_table a.level a.self.0 (sym c.if-is_unused.ensures) (sym c.if-is_leaf.ensures) (omega arith) (omega arith) ∙ sym c.is_table.ensures)

pub returns-in_default-level : goal.returns-in_default-level
returns-in_default-level c =
    let a = c.args in
    decides a.level a.self.0 (when_low a.level a.self.0 (sym c.if-is_unused.ensures) (sym c.if-is_leaf.ensures) (omega arith))

pub returns-in_default-level-2 : goal.returns-in_default-level-2
returns-in_default-level-2 c =
    let a = c.args in
    decides a.level a.self.0 (when_above a.level a.self.0 (sym c.if-is_unused.ensures) (sym c.if-is_leaf.ensures) (omega arith))
