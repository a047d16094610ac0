-- What the code's walk answers: the end of the walk (paging/specs/Table) in a pool, told apart by what stands there.
use Rattle.std.specs.Prelude.{ℕ, zero, suc, ◌-◌, List}
use Rattle.paging.specs.Choice.{pick}
use Rattle.paging.specs.Table.{Hit, hit, walk}
use Rattle.common.specs.declared.vm.PageSize.{PageSize}
use Rattle.common.specs.declared.vm.PageSize.TheVariants.{Size4K, Size2M, Size1G}
use Rattle.x86_64.specs.Entry.{is_leaf, x86}
use Rattle.pool.specs.Pool.{word, mem_of}
use Rattle.walk.specs.declared.Walk.{Walk}
use Rattle.walk.specs.declared.Walk.TheVariants.{Leaf, Open}

-- the size of a leaf of a level
abbrev pub size_at : ℕ → PageSize
size_at zero = Size4K
size_at (suc zero) = Size2M
size_at (suc (suc l)) = Size1G

-- "one case holds the leaf record with its page size"; the other, the unused entry
abbrev pub found_at : List ℕ → ℕ → Hit → Walk
found_at p b (hit l n k) =
    pick (is_leaf (word p (n - b) k)) (Leaf (record { frame = n - b; place = k; size = size_at l })) (Open (record { level = l; frame = n - b; place = k }))

-- of the walk of v in the pool p whose first frame has the number b
unfoldable pub found : List ℕ → ℕ → ℕ → Walk
found p b v = found_at p b (walk x86 (mem_of p b) 3 b v)
