-- `clear_entry`: the leaf's word becomes 0; a hole stays.
use Prim.Native.Nat.{ℕ, ◌/◌}
use mathlib.Core.Path.{◌≡◌, sym, ◌∙◌, subst}
use mathlib.Core.List.{List}
use Rattle.form.specs.Form.{Good}
use Rattle.walk.specs.Walk.{found}
use Rattle.walk.specs.declared.Walk.TheVariants.{Leaf}
use Rattle.walk.proofs.Found.{leaf_in, unused}
use Rattle.table_unmap_cont.specs.UnmapCont.{emptied}
use Rattle.table_unmap_cont.proofs.Clears.{empty}
use Rattle.table_unmap_cont.proofs.clear_entry.Goals as goal

pub set_entry-requires : goal.set_entry-requires
set_entry-requires c =
    leaf_in c.args.pool.now c.args.base c.args.used c.args.vaddr c.requires c.in-Leaf.leaf (sym c.get_entry.ensures ∙ c.in-Leaf.is)

pub span_at-requires : goal.span_at-requires
span_at-requires c =
    (unused c.args.pool.now (c.args.base / 4096) c.args.used c.requires.formed c.args.vaddr c.in-Open.spot (sym c.get_entry.ensures ∙ c.in-Open.is)).low

pub returns-in-Leaf : goal.returns-in-Leaf
returns-in-Leaf c =
    let a = c.args in
    let q : found a.pool.now (a.base / 4096) a.vaddr ≡ Leaf c.in-Leaf.leaf = sym c.get_entry.ensures ∙ c.in-Leaf.is in
    let w : c.set_entry.new.pool ≡ emptied a.pool.now (a.base / 4096) a.vaddr = rw q c.set_entry.ensures in record { cleared = (w, rw q c.size.ensures); good = subst (λ (p : List ℕ). Good p a.base a.used) (sym w) (empty a.pool.now a.base a.used c.requires a.vaddr).good }
