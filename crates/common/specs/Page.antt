-- Page sizes. States document 01, 'Entries and translation': leaves of 4 KiB, 2 MiB and 1 GiB. What a size contributes to any
-- proof is its level: the span of an entry there.
use Rattle.std.specs.Prelude.{ℕ, ◌-◌, ◌%◌, ◌^◌, ◌≤◌, ◌<◌, ◌≡◌, Bool, true, false, eqb}
use Rattle.std.specs.Int.Bits.{bit_and}
use Rattle.paging.specs.Level.{span}
use Rattle.common.specs.declared.vm.PageSize.{PageSize}
use Rattle.common.specs.declared.vm.PageSize.TheVariants.{Size4K, Size2M, Size1G}

-- the level at which a leaf of the size stands
abbrev pub level_of : PageSize → ℕ
level_of Size4K = 0
level_of Size2M = 1
level_of Size1G = 2

abbrev pub size_of : PageSize → ℕ
size_of Size4K = span 0
size_of Size2M = span 1
size_of Size1G = span 2

-- an address is a multiple of the size
abbrev pub aligned : PageSize → ℕ → Bool
aligned s a = eqb (a % size_of s) 0

-- the sizes that bit 7 marks
abbrev pub is_huge : PageSize → Bool
is_huge Size4K = false
is_huge Size2M = true
is_huge Size1G = true

-- what a size contributes to any proof, shown once by its level
pub record Sizes : Type 0 where
  pub spans : (s : PageSize) → size_of s ≡ span (level_of s)
  pub low : (s : PageSize) → level_of s ≤ 2
  -- the mask below a size keeps the offset, and its complement what stands above
  pub offset : (s : PageSize) (a : ℕ) → bit_and a (size_of s - 1) ≡ a % size_of s
  pub above : (s : PageSize) (a : ℕ) → a < 2 ^ 64 → bit_and a (2 ^ 64 - size_of s) ≡ a - a % size_of s
