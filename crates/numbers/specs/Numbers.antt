-- Document 01, 'Numbers to meet': rows A1 to A6 and B1 to B6, one theorem.
use Rattle.std.specs.Prelude.{ℕ, ◌+◌, ◌≡◌, List, [], ◌∷◌}
use Rattle.paging.specs.Level.{index}
use Rattle.paging.specs.Table.{Formed}
use Rattle.paging.specs.Need.{over}
use Rattle.paging.specs.Cut.{frames}
use Rattle.common.specs.Flags.{READ, WRITE, EXECUTE, USER}
use Rattle.common.specs.Page.{level_of, is_huge}
use Rattle.common.specs.declared.vm.PageSize.{PageSize}
use Rattle.common.specs.declared.vm.PageSize.TheVariants.{Size4K, Size2M, Size1G}
use Rattle.x86_64.specs.Entry.{leaf_by, x86}

-- the four indexes, from the root down
abbrev pub indexes : ℕ → List ℕ
indexes v = index 3 v ∷ index 2 v ∷ index 1 v ∷ index 0 v ∷ []

-- a leaf of a size at a physical address, with these page flags
abbrev pub word : PageSize → ℕ → ℕ → ℕ
word s p f = leaf_by (is_huge s) p f 0

pub record RowsA : Type 0 where
  pub a1 : indexes 0x200000 ≡ 0 ∷ 0 ∷ 1 ∷ 0 ∷ []
  pub a2 : indexes 0x7ffffffff000 ≡ 255 ∷ 511 ∷ 511 ∷ 511 ∷ []
  pub a3 : indexes 0xffffff0200000000 ≡ 510 ∷ 8 ∷ 0 ∷ 0 ∷ []
  pub a4 : word Size4K 0x1000 (READ + WRITE + USER) ≡ 0x8000000000001207
  pub a5 : word Size2M 0x200000 (READ + EXECUTE) ≡ 0x200281
  pub a6 : word Size4K 0 0 ≡ 0x8000000000000200

-- a leaf of the size, 2 MiB or 1 GiB, stands over the address
abbrev pub LeafAt : (ℕ → ℕ → ℕ) → ℕ → ℕ → PageSize → Type 0
LeafAt W root v s = over x86 W root v ≡ level_of s

-- the frames that cutting [a, e) takes of a table with these leaves, whatever else it holds: what `unmap_cont` takes is this number (demand 3,
-- table_unmap_cont/specs/Demand)
pub record RowsB (W : ℕ → ℕ → ℕ) (root : ℕ) : Type 0 where
  pub b1 : LeafAt W root 0x40000000 Size2M → frames x86 W root 0x40001000 0x40002000 ≡ 1
  pub b2 : LeafAt W root 0x40000000 Size1G → frames x86 W root 0x40001000 0x40002000 ≡ 2
  pub b3 : LeafAt W root 0x40000000 Size1G → frames x86 W root 0x40200000 0x40400000 ≡ 1
  pub b4 : LeafAt W root 0x40000000 Size1G → frames x86 W root 0x40001000 0x40201000 ≡ 3
  pub b5 : LeafAt W root 0x40000000 Size1G → LeafAt W root 0x80000000 Size1G → frames x86 W root 0x40001000 0x80001000 ≡ 4
  pub b6_all : LeafAt W root 0x40000000 Size1G → frames x86 W root 0x40000000 0x80000000 ≡ 0
  pub b6_none : (a : ℕ) → frames x86 W root a a ≡ 0

-- the whole table: A1 to A6, and B1 to B6 of every well-formed table
pub record Numbers : Type 1 where
  pub rows_a : RowsA
  pub rows_b : (W : ℕ → ℕ → ℕ) (In : ℕ → Type 0) (root : ℕ) → Formed x86 W In root → RowsB W root
