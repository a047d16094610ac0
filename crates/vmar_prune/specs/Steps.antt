-- What the code's parts go by.
use Rattle.std.specs.Prelude.{ℕ, ◌+◌, ◌-◌, ◌/◌, ◌^◌, ◌≤◌, ◌<◌, List}
use Rattle.space.specs.declared.Mapping.{Mapping}
use Rattle.vmar_prune.specs.Prune.{Packed}

-- a mapping whose ends do not overflow
abbrev pub Short : Mapping → Type 0
Short m = (m.addr + m.size < 2 ^ 64) × (m.offset + m.size < 2 ^ 64)

-- the piece k of the mapping m has its flags in the slot's 512 bytes
abbrev pub Fitting : Mapping → Mapping → Type 0
Fitting m k = (k.addr - m.addr) / 4096 + k.size / 4096 ≤ 512

abbrev pub packed_of : List ℕ → ℕ → Packed
packed_of list n = record { list = list; count = n }
