-- The leaves over the ends of a range give way to tables of their pieces: what `split_ends` does, word by word. What it means stands in paging/specs/Split and Steps.
use Rattle.std.specs.Prelude.{ℕ, zero, suc, ◌+◌, ◌-◌, ◌*◌, List}
use Rattle.paging.specs.Choice.{pick}
use Rattle.paging.specs.Need.{need}
use Rattle.common.specs.Page.{level_of, size_of, aligned}
use Rattle.common.specs.declared.vm.PageSize.{PageSize}
use Rattle.x86_64.specs.Entry.{addr_of, flags_of, table_word}
use Rattle.pool.specs.Pool.{word, put_word, put_frame, listed}
use Rattle.walk.specs.Walk.{size_at, found}
use Rattle.walk.specs.declared.LeafEntry.{LeafEntry}
use Rattle.table.specs.Table.{by_leaf}
use Rattle.table_map.specs.Map.{leaf_for}

-- piece i, of the size s, of the leaf w: the word that a map of its address with the flags read back would write
abbrev pub piece : PageSize → ℕ → ℕ → ℕ
piece s w i = leaf_for s (addr_of w + i * size_of s) (flags_of w)

-- the leaf e gives way to a table in frame u
abbrev pub split_leaf : List ℕ → ℕ → ℕ → LeafEntry → List ℕ
split_leaf p b u e =
    put_word (put_frame p u (listed 512 (piece (size_at (level_of e.size - 1)) (word p e.frame e.place)))) e.frame e.place (table_word (b + u) 0)

-- the level of the leaf over v; 0 also where there is none
abbrev pub leaf_over : List ℕ → ℕ → ℕ → ℕ
leaf_over p b v = by_leaf (found p b v) (λ e. level_of e.size) 0

-- a pool, and the number of its frames in use
pub record Tables : Type 0 where
  pub pool : List ℕ
  pub used : ℕ

-- the leaf over v, and then the piece over it, is split while v falls inside, n times at most: "a frame is taken at `used`"
unfoldable pub split_at : ℕ → List ℕ → ℕ → ℕ → ℕ → Tables
split_at zero p b used v = record { pool = p; used = used }
split_at (suc n) p b used v =
    by_leaf (found p b v)
    (λ e. pick (aligned e.size v) (record { pool = p; used = used }) (split_at n (split_leaf p b used e) b (used + 1) v))
    (record { pool = p; used = used })

-- the frames that cutting [a, e) requires, found from the leaves over its ends
abbrev pub needed : List ℕ → ℕ → ℕ → ℕ → ℕ
needed p b a e = need a (leaf_over p b a) e (leaf_over p b e)

-- both ends become begins of leaves; a leaf can be split twice
abbrev pub split_ends : List ℕ → ℕ → ℕ → ℕ → ℕ → Tables
split_ends p b used a e = let t = split_at 2 p b used a in split_at 2 t.pool b t.used e
