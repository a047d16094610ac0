use Prim.Native.Nat.{ℕ, ◌+◌, ◌-◌, ◌/◌, ◌<◌, ◌≤◌}
use mathlib.Core.Path.{◌≡◌, sym, ap, ◌∙◌, subst}
use mathlib.Core.Bool.{false}
use mathlib.Core.List.{List}
use native.Mathlib.Omega.{arith}
use lib.ListN.{length}
use Rattle.common.specs.Page.{aligned}
use Rattle.form.specs.Form.{Good}
use Rattle.walk.specs.Walk.{found}
use Rattle.walk.specs.declared.Walk.TheVariants.{Leaf}
use Rattle.walk.proofs.Found.{leaf_in}
use Rattle.paging.specs.Need.{splits}
use Rattle.table_split.specs.Split.{split_leaf, leaf_over, split_at}
use Rattle.table_split.proofs.Once.{wants, same_length, good, one_less}
use Rattle.table_split.proofs.Unfolds.{at_end, at_hole, at_begin, at_more}
use Rattle.table_split.proofs.+split_at.Goals as goal

pub returns-then-depth-eq0 : goal.returns-then-depth-eq0
returns-then-depth-eq0 t c =
    let a = c.args in
    at_end a.pool.now (a.base / 4096) a.used a.vaddr a.depth c.if-depth-eq0.true

pub returns-in_default : goal.returns-in_default
returns-in_default t c =
    let a = c.args in
    at_hole a.pool.now (a.base / 4096) a.used a.vaddr a.depth c.in_default.field-0 (sym c.get_entry.ensures ∙ c.in_default.is)

pub returns-then-is_aligned : goal.returns-then-is_aligned
returns-then-is_aligned t c =
    let a = c.args in
    at_begin a.pool.now (a.base / 4096) a.used a.vaddr c.in-Leaf.leaf (sym c.get_entry.ensures ∙ c.in-Leaf.is) a.depth (sym c.is_aligned.ensures ∙ c.if-is_aligned.true)

pub split-requires : goal.split-requires
split-requires t c =
    let a = c.args in
    let q : found a.pool.now (a.base / 4096) a.vaddr ≡ Leaf c.in-Leaf.leaf = sym c.get_entry.ensures ∙ c.in-Leaf.is in
    let off : aligned c.in-Leaf.leaf.size a.vaddr ≡ false = sym c.is_aligned.ensures ∙ c.if-is_aligned.false in
    let G = c.requires.good in
    let w = wants a.pool.now a.base a.used G a.vaddr c.requires.aligned.0 c.in-Leaf.leaf q off in record { placed = leaf_in a.pool.now a.base a.used a.vaddr G c.in-Leaf.leaf q; room = (omega (arith, w, c.requires.room), G.sized.page, G.sized.below) }

pub split_at-requires : goal.split_at-requires
split_at-requires t c =
    let a = c.args in
    let q : found a.pool.now (a.base / 4096) a.vaddr ≡ Leaf c.in-Leaf.leaf = sym c.get_entry.ensures ∙ c.in-Leaf.is in
    let off : aligned c.in-Leaf.leaf.size a.vaddr ≡ false = sym c.is_aligned.ensures ∙ c.if-is_aligned.false in
    let G = c.requires.good in
    let page = c.requires.aligned.0 in
    let at = c.requires.aligned.1 in
    let e = c.in-Leaf.leaf in
    let w = wants a.pool.now a.base a.used G a.vaddr page e q off in
    let room : a.used < length a.pool.now / 512 = omega (arith, w, c.requires.room) in
    let less = one_less a.pool.now a.base a.used G a.vaddr page e q off room at in
    let len = same_length a.pool.now a.base a.used G a.vaddr page e q off room in
    let left : a.used + 1 + splits a.vaddr (leaf_over (split_leaf a.pool.now (a.base / 4096) a.used e) (a.base / 4096) a.vaddr) ≤ length (split_leaf a.pool.now (a.base / 4096) a.used e) / 512 =
    rw len (omega (arith, less, c.requires.room)) in (
      omega (arith, c.decreases, c.if-depth-eq0.false),
      (
        subst (λ (x : List ℕ). Good x a.base (a.used + 1)) (sym c.split.ensures) (good a.pool.now a.base a.used G a.vaddr page e q off room at),
        (
          (page, at),
          subst (λ (x : List ℕ). a.used + 1 + splits a.vaddr (leaf_over x (a.base / 4096) a.vaddr) ≤ length x / 512) (sym c.split.ensures) left,
        ),
      ),
    )

pub returns : goal.returns
returns t c =
    let a = c.args in
    let e = c.in-Leaf.leaf in
    c.split_at.ensures
    ∙ ap (λ (x : List ℕ). split_at (a.depth - 1) x (a.base / 4096) (a.used + 1) a.vaddr) c.split.ensures
    ∙ at_more a.pool.now (a.base / 4096) a.used a.vaddr e (sym c.get_entry.ensures ∙ c.in-Leaf.is) a.depth (omega (arith, c.if-depth-eq0.false)) (sym c.is_aligned.ensures ∙ c.if-is_aligned.false)
