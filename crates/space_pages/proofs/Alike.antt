-- One page's flags, as the check gathers what is wrong of them: known, and with these others beside READ, WRITE and EXECUTE.
use Rattle.std.proofs.Common.{◌≡◌, ℕ, true, sym, ◌∙◌, arith, eq-eqb, eqb-true, bit_and, bit_or}
use Rattle.std.specs.Int.Bits.{bit_xor, and_high}
use Rattle.common.specs.Flags.{of_five, known_page}
use Rattle.common.proofs.Sets.{five}
use Rattle.scan.proofs.Gather.{or_left, or_right, or_of, xor_same, xor_of}
use Rattle.space.specs.Passes.{others}

pub others_are : (p : ℕ) → bit_and p 0x60 ≡ others p
others_are p = and_high p 2 5 ∙ omega arith

pub page_to : (p b : ℕ) → bit_or (bit_xor (bit_and p 0x7c) p) (bit_xor (bit_and p 0x60) b) ≡ 0 → (known_page p ≡ true) × (others p ≡ b)
page_to p b e = (
  eq-eqb (of_five p) p (sym (five p) ∙ xor_same (bit_and p 0x7c) p (or_left (bit_xor (bit_and p 0x7c) p) (bit_xor (bit_and p 0x60) b) e)),
  sym (others_are p) ∙ xor_same (bit_and p 0x60) b (or_right (bit_xor (bit_and p 0x7c) p) (bit_xor (bit_and p 0x60) b) e),
)

pub page_from : (p b : ℕ) → (known_page p ≡ true) × (others p ≡ b) → bit_or (bit_xor (bit_and p 0x7c) p) (bit_xor (bit_and p 0x60) b) ≡ 0
page_from p b h =
    or_of (bit_xor (bit_and p 0x7c) p) (bit_xor (bit_and p 0x60) b) (xor_of (bit_and p 0x7c) p (five p ∙ eqb-true (of_five p) p h.0)) (xor_of (bit_and p 0x60) b (others_are p ∙ h.1))
