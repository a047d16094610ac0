-- Page flags and region flags. States document 01, 'Sizes and buffers': "Region flags are bits 0 to 8. Page flags: READ 4,
-- EXECUTE 16 .., WRITE 8, USER 32, HUGE_PAGE 64"; and what 'Refusal numbers' calls unknown flag bits.
use Rattle.std.specs.Prelude.{ℕ, ◌+◌, ◌*◌, ◌/◌, ◌%◌, ◌^◌, Bool, eqb}
use Rattle.std.specs.Int.Bits.{bit_and}

abbrev pub READ : ℕ
READ = 4

abbrev pub WRITE : ℕ
WRITE = 8

abbrev pub EXECUTE : ℕ
EXECUTE = 16

abbrev pub USER : ℕ
USER = 32

abbrev pub HUGE_PAGE : ℕ
HUGE_PAGE = 64

-- 1 where the bit of worth d is set in x, else 0
abbrev pub has : ℕ → ℕ → ℕ
has d x = x / d % 2

-- the known page flags of f
abbrev pub of_five : ℕ → ℕ
of_five f = has READ f * READ + has WRITE f * WRITE + has EXECUTE f * EXECUTE + has USER f * USER + has HUGE_PAGE f * HUGE_PAGE

-- "unknown flag bits": f is more than its known ones
abbrev pub known_page : ℕ → Bool
known_page f = eqb (of_five f) f

-- bits 0 to 8
abbrev pub known_region : ℕ → Bool
known_region f = eqb (f % 2 ^ 9) f

-- every flag of f is in p
abbrev pub grants : ℕ → ℕ → Bool
grants p f = eqb (bit_and p f) f

-- READ, WRITE and EXECUTE of f
abbrev pub rights : ℕ → ℕ
rights f = bit_and f 0x1c
