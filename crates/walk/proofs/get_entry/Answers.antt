use Rattle.std.proofs.Common.{◌/◌, arith}
use Rattle.walk.proofs.Steps.{stands_root, leaf_found, open_found, below}
use Rattle.walk.proofs.get_entry.Goals as goal

pub loop-entry-init : goal.loop-entry-init
loop-entry-init c = stands_root c.args.pool.now (c.args.base / 4096) c.args.used c.args.vaddr c.requires.sized.root

pub returns-then-is_leaf : goal.returns-then-is_leaf
returns-then-is_leaf c =
    leaf_found c.requires c.loop-entry.invariant c.index_at-place.ensures c.entry_at.ensures c.if-is_leaf.ensures c.size_at.ensures

pub returns-then-is_unused : goal.returns-then-is_unused
returns-then-is_unused c =
    open_found c.requires c.loop-entry.invariant c.index_at-place.ensures c.entry_at.ensures c.if-is_leaf.ensures c.if-is_unused.ensures

pub overflow_sub-frame : goal.overflow_sub-frame
overflow_sub-frame c =
    (below c.requires c.loop-entry.invariant c.index_at-place.ensures c.entry_at.ensures c.if-is_leaf.ensures c.if-is_unused.ensures c.addr.ensures).above

pub overflow_sub-level : goal.overflow_sub-level
overflow_sub-level c =
    (below c.requires c.loop-entry.invariant c.index_at-place.ensures c.entry_at.ensures c.if-is_leaf.ensures c.if-is_unused.ensures c.addr.ensures).lower

pub loop-entry-smaller : goal.loop-entry-smaller
loop-entry-smaller c =
    let b = below c.requires c.loop-entry.invariant c.index_at-place.ensures c.entry_at.ensures c.if-is_leaf.ensures c.if-is_unused.ensures c.addr.ensures in
    omega (arith, b.lower)

pub loop-entry-preserved : goal.loop-entry-preserved
loop-entry-preserved c =
    (below c.requires c.loop-entry.invariant c.index_at-place.ensures c.entry_at.ensures c.if-is_leaf.ensures c.if-is_unused.ensures c.addr.ensures).stands
