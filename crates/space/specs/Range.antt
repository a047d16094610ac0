-- Ranges of addresses, by where they begin and how long they are. Ends are sums of numbers: they never wrap.
use Rattle.std.specs.Prelude.{ℕ, ◌+◌, ◌-◌, Bool, false, not, leb, ltb}
use Rattle.paging.specs.Choice.{pick}

-- document 01, 'Regions': "Ranges are half-open for overlap", as the Rust's `overlap`: one does not end before the other begins. An empty range
-- overlaps what it stands strictly inside of.
unfoldable pub overlap : ℕ → ℕ → ℕ → ℕ → Bool
overlap a n b m = pick (leb (b + m) a) false (not (leb (a + n) b))

-- [a, a + n) lies in [b, b + m); ends may meet
unfoldable pub inside : ℕ → ℕ → ℕ → ℕ → Bool
inside a n b m = pick (ltb a b) false (leb ((a - b) + n) m)

-- x lies in [a, a + n)
unfoldable pub contains : ℕ → ℕ → ℕ → Bool
contains a n x = pick (ltb x a) false (ltb (x - a) n)
