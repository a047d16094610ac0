-- Scans of the indexes i, i + 1, .. below n by a test.
use Rattle.std.specs.Prelude.{ℕ, zero, suc, ◌+◌, ◌-◌, Bool, true, false, ltb, Option, Some, None}
use Rattle.paging.specs.Choice.{pick}

-- the first of the k indexes from i on that passes, else the one after them
unfoldable pub first_of : (ℕ → Bool) → ℕ → ℕ → ℕ
first_of p i zero = i
first_of p i (suc k) = pick (p i) i (first_of p (i + 1) k)

-- whether some of the k indexes from i on passes
unfoldable pub some_of : (ℕ → Bool) → ℕ → ℕ → Bool
some_of p i zero = false
some_of p i (suc k) = pick (p i) true (some_of p (i + 1) k)

-- the first index from i on that passes, n where none below n does
unfoldable pub first : (ℕ → Bool) → ℕ → ℕ → ℕ
first p i n = first_of p i (n - i)

-- whether some index from i on and below n passes
unfoldable pub some : (ℕ → Bool) → ℕ → ℕ → Bool
some p i n = some_of p i (n - i)

-- an index, where it is below n
abbrev pub below : ℕ → ℕ → Option ℕ
below n i = pick (ltb i n) (Some i) None
