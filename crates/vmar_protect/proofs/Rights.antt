-- Page flags with other rights, as the code computes them.
use Prim.Native.Nat.{ℕ, ◌+◌, ◌*◌, ◌/◌, ◌%◌, ◌<◌}
use mathlib.Core.Path.{◌≡◌, ◌∙◌, ap}
use native.Mathlib.Omega.{arith}
use lib.Bits.{bit_and, bit_or, and_high, and_mask, and_block, and_comm, and_shifted, and_zero_r, or_disjoint}
use Rattle.common.specs.Flags.{rights}
use Rattle.vmar_protect.specs.Protect.{with_rights}

-- the rights are bits 2 to 4
pub rights_bits : (f : ℕ) → rights f ≡ f / 4 % 8 * 4
rights_bits f = and_high f 3 2

-- what stays of a byte is bits 0, 1 and 5 to 7
kept_bits : (f : ℕ) → f < 256 → bit_and f 0xe3 ≡ f / 32 * 32 + f % 4
kept_bits f l =
    let e : f ≡ f / 32 * 32 + f % 32 = omega arith in
    ap (λ (x : ℕ). bit_and x 0xe3) e
    ∙ and_block 5 (f / 32) 7 (f % 32) 3 (omega arith) (omega arith)
    ∙ omega (arith, and_mask (f / 32) 3, and_mask (f % 32) 2)

-- and has no bit in common with the rights
apart : (x y z : ℕ) → y < 4 → z < 8 → bit_and (x * 32 + y) (z * 4) ≡ 0
apart x y z l h =
    ap (λ (w : ℕ). bit_and (x * 32 + y) w) {y = 0 * 32 + z * 4} (omega arith)
    ∙ and_block 5 x 0 y (z * 4) (omega arith) (omega arith)
    ∙ omega (arith, and_zero_r x, and_comm y (z * 4), and_shifted z 2 y l)

-- what the code computes
pub new_rights : (old f : ℕ) → old < 256 → bit_or (bit_and old 0xe3) (rights f) ≡ with_rights old f
new_rights old f l =
    let k = kept_bits old l in
    let r = rights_bits f in
    let o = rights_bits old in
    let d : bit_and (bit_and old 0xe3) (rights f) ≡ 0 = rw (k, r) (apart (old / 32) (old % 4) (f / 4 % 8) (omega arith) (omega arith)) in
    or_disjoint (bit_and old 0xe3) (rights f) d ∙ omega arith
