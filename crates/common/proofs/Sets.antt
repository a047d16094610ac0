-- Sets of flags as masks and as sums of their members.
use Rattle.std.proofs.Common.{ℕ, ◌+◌, ◌*◌, ◌/◌, ◌%◌, ◌<◌, ◌≡◌, ◌∙◌, true, arith, bit_and, eqb-true}
use Rattle.std.proofs.lemmas.Nat.Bits.{and_high}
use Rattle.common.specs.Flags.{of_five, known_page}

-- the five page flags are bits 2 to 6: one bit after the other
pub five : (f : ℕ) → bit_and f 0x7c ≡ of_five f
five f = and_high f 5 2 ∙ omega (arith, a, b, c, d)
  where
    a : f / 4 % 32 ≡ f / 4 % 2 + f / 8 % 16 * 2
    a = omega arith

    b : f / 8 % 16 ≡ f / 8 % 2 + f / 16 % 8 * 2
    b = omega arith

    c : f / 16 % 8 ≡ f / 16 % 2 + f / 32 % 4 * 2
    c = omega arith

    d : f / 32 % 4 ≡ f / 32 % 2 + f / 64 % 2 * 2
    d = omega arith

-- known page flags are a byte
pub byte : (f : ℕ) → known_page f ≡ true → f < 256
byte f e = omega (arith, eqb-true (of_five f) f e)
