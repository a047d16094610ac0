-- `put_pieces`: the words before i are pieces, the others as they were.
use Rattle.std.specs.Prelude.{ℕ, ◌≡◌, ◌+◌, ◌*◌, ◌++◌, drop}
use Rattle.common.specs.declared.vm.PageSize.{PageSize}
use Rattle.pool.specs.Pool.{listed}
use Rattle.table_map.specs.Map.{leaf_for}
use Rattle.table_split.proofs.put_pieces.Given as goal

-- the word of piece j, as the loop computes it
abbrev pub word_at : PageSize → ℕ → ℕ → ℕ → ℕ → ℕ
word_at s pa f step j = leaf_for s (pa + j * step) f

abbrev pub invariant-loop-i : goal.invariant-loop-i
invariant-loop-i l = l.table ≡ listed l.i (word_at l.size l.paddr l.flags.0 l.step) ++ drop l.i l.initial.table
