-- Multiples and rounding. States document 01, 'Regions': "A multiple of 0 is only 0", and what vm/mod.rs computes.
use Rattle.std.specs.Prelude.{◌≡◌, ℕ, ◌+◌, ◌-◌, ◌*◌, ◌/◌, ◌%◌, ◌^◌, ◌<◌, ◌≤◌, Bool, ◌==◌}
use Rattle.paging.specs.Choice.{Decided}

-- x is a multiple of a; a remainder by 0 is the number itself, so of 0 only 0 is one
abbrev pub multiple : ℕ → ℕ → Bool
multiple x a = x % a == 0

-- how many a make up x, in 64 bits: the sum wraps; a quotient by 0 is 0
abbrev pub needed : ℕ → ℕ → ℕ
needed x a = (x + (a - 1)) % 2 ^ 64 / a

-- what is proved of them
pub record Rounding : Type 0 where
  -- a multiple is some number of times a
  pub multiples : (x a : ℕ) → Decided ((k : ℕ) × (x ≡ k * a)) (multiple x a)
  -- where nothing wraps, `needed` is the least number of a that holds x
  pub least : (x a : ℕ) → 0 < a → x + a ≤ 2 ^ 64 → (x ≤ needed x a * a) × (needed x a * a < x + a)
