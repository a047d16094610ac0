-- When a lent pool is one that calls work on: everything that BAD_TABLE (13) tests.
use Rattle.std.specs.Prelude.{ℕ, ◌+◌, ◌*◌, ◌/◌, ◌%◌, ◌^◌, ◌≤◌, ◌<◌, ◌≡◌, List, length}
use Rattle.paging.specs.Table.{Formed}
use Rattle.x86_64.specs.Entry.{x86}
use Rattle.pool.specs.Pool.{mem_of, Taken}

-- document 01, 'Well formed', of the pool p whose first frame has the number b and whose first `used` frames are tables
abbrev pub WellFormed : List ℕ → ℕ → ℕ → Type 0
WellFormed p b used = Formed x86 (mem_of p b) (Taken b used) b

-- document 01, 'Sizes and buffers': "A lent table pool of 1 to 1,024 frames of 512 words .. Frame i has physical address pool base + 4096·i,
-- all below 2^52; the base is a multiple of 4096. Frame 0 is the root. The first `used` frames are tables"
pub record Sized (len base used : ℕ) : Type 0 where
  pub whole : len % 512 ≡ 0
  pub few : len / 512 ≤ 1024
  pub page : base % 4096 ≡ 0
  pub below : base + 4096 * (len / 512) ≤ 2 ^ 52
  pub root : 0 < used
  pub there : used ≤ len / 512

-- the pool's form, length, base and `used` are right
pub record Good (p : List ℕ) (base used : ℕ) : Type 0 where
  pub sized : Sized (length p) base used
  pub formed : WellFormed p (base / 4096) used
