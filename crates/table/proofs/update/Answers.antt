-- `update`: the word at the leaf that the walk found is written anew.
use Prim.Native.Nat.{◌/◌}
use mathlib.Core.Path.{◌≡◌, sym, ◌∙◌}
use Rattle.walk.specs.Walk.{found}
use Rattle.walk.specs.declared.Walk.TheVariants.{Leaf}
use Rattle.walk.proofs.Found.{leaf_in}
use Rattle.table.proofs.update.Goals as goal

pub entry_at-requires : goal.entry_at-requires
entry_at-requires c =
    let seen : (let a = c.args in found a.pool.now (a.base / 4096) a.vaddr ≡ Leaf c.in-Leaf.leaf) = sym c.get_entry.ensures ∙ c.in-Leaf.is in
    leaf_in c.args.pool.now c.args.base c.args.used c.args.vaddr c.requires c.in-Leaf.leaf seen

pub set_entry-requires : goal.set_entry-requires
set_entry-requires c =
    let seen : (let a = c.args in found a.pool.now (a.base / 4096) a.vaddr ≡ Leaf c.in-Leaf.leaf) = sym c.get_entry.ensures ∙ c.in-Leaf.is in
    leaf_in c.args.pool.now c.args.base c.args.used c.args.vaddr c.requires c.in-Leaf.leaf seen
