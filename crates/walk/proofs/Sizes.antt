-- The three levels of a leaf and the three sizes.
use Rattle.std.proofs.Common.{ℕ, zero, suc, ◌≤◌, ◌≡◌, refl, arith}
use Rattle.paging.specs.Level.{span}
use Rattle.common.specs.Page.{level_of, size_of}
use Rattle.walk.specs.Walk.{size_at}

pub size_level : (l : ℕ) → l ≤ 2 → level_of (size_at l) ≡ l
size_level zero h = refl
size_level (suc zero) h = refl
size_level (suc (suc zero)) h = refl
size_level (suc (suc (suc l))) h = absurd (omega arith)

pub size_bytes : (l : ℕ) → l ≤ 2 → size_of (size_at l) ≡ span l
size_bytes zero h = refl
size_bytes (suc zero) h = refl
size_bytes (suc (suc zero)) h = refl
size_bytes (suc (suc (suc l))) h = absurd (omega arith)
