-- What a page size contributes: shown once by its level, and cited for all three.
use Rattle.std.proofs.Common.{ℕ, ◌+◌, ◌-◌, ◌*◌, ◌%◌, ◌^◌, ◌≤◌, ◌<◌, ◌≡◌, refl, ap, ◌∙◌, arith, div-add-mod', mod-eq_of_lt, bit_and, pow_pos, shr_lt}
use Rattle.std.proofs.lemmas.Nat.{and_mask}
use Rattle.std.proofs.lemmas.Nat.Bits.{and_high}
use Rattle.paging.specs.Level.{span}
use Rattle.common.specs.Page.{level_of, size_of, Sizes}
use Rattle.common.specs.declared.vm.PageSize.{PageSize}
use Rattle.common.specs.declared.vm.PageSize.TheVariants.{Size4K, Size2M, Size1G}

-- a size is the span of an entry of its level, and leaves stand at the three lower ones
pub size_span : (s : PageSize) → size_of s ≡ span (level_of s)
size_span Size4K = refl
size_span Size2M = refl
size_span Size1G = refl

pub level_le : (s : PageSize) → level_of s ≤ 2
level_le Size4K = omega arith
level_le Size2M = omega arith
level_le Size1G = omega arith

pub size_le : (s : PageSize) → size_of s ≤ 2 ^ 30
size_le Size4K = omega arith
size_le Size2M = omega arith
size_le Size1G = omega arith

pub size_pos : (s : PageSize) → 0 < size_of s
size_pos s = rw (size_span s) (pow_pos (12 + 9 * level_of s))

-- the mask below a size keeps the offset
pub mask_low : (s : PageSize) (a : ℕ) → bit_and a (size_of s - 1) ≡ a % size_of s
mask_low s a = rw (size_span s) (and_mask a (12 + 9 * level_of s))

-- its complement keeps what stands above
above_mask : (j k a : ℕ) → a < 2 ^ (j + k) → bit_and a (2 ^ (j + k) - 2 ^ k) ≡ a - a % 2 ^ k
above_mask j k a h = and_high a j k ∙ ap (λ (n : ℕ). n * 2 ^ k) (mod-eq_of_lt (shr_lt j k h)) ∙ omega (arith, div-add-mod' a (2 ^ k))

pub mask_high : (s : PageSize) (a : ℕ) → a < 2 ^ 64 → bit_and a (2 ^ 64 - size_of s) ≡ a - a % size_of s
mask_high Size4K a h = above_mask 52 12 a h
mask_high Size2M a h = above_mask 43 21 a h
mask_high Size1G a h = above_mask 34 30 a h

pub sizes : Sizes
sizes = record { spans = size_span; low = level_le; offset = mask_low; above = mask_high }
