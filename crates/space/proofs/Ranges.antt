-- What the tests of ranges say.
use Rattle.std.proofs.Common.{◌≡◌, ℕ, ◌+◌, ◌^◌, ◌<◌, ◌≤◌, true, false, leb, ◌⊎◌, arith}
use Rattle.std.proofs.lemmas.Bool.Decides.{nat_tests}
use Rattle.space.specs.Range.{overlap, inside, contains}

-- two ranges that do not overlap: one ends before the other begins
pub apart : (a n b m : ℕ) → overlap a n b m ≡ false → (b + m ≤ a) ⊎ (a + n ≤ b)
unfolding overlap
apart a n b m e = grind (arith, nat_tests)

pub apart_of : (a n b m : ℕ) → (b + m ≤ a) ⊎ (a + n ≤ b) → overlap a n b m ≡ false
unfolding overlap
apart_of a n b m h = grind (arith, nat_tests)

-- it does not matter which is named first
pub overlap_turned : (a n b m : ℕ) → overlap a n b m ≡ overlap b m a n
unfolding overlap
overlap_turned a n b m = grind (arith, nat_tests)

pub inner : (a n b m : ℕ) → inside a n b m ≡ true → (b ≤ a) × (a + n ≤ b + m)
unfolding inside
inner a n b m e = grind (arith, nat_tests)

pub inner_of : (a n b m : ℕ) → b ≤ a → a + n ≤ b + m → inside a n b m ≡ true
unfolding inside
inner_of a n b m l h = grind (arith, nat_tests)

pub holds : (a n x : ℕ) → contains a n x ≡ true → (a ≤ x) × (x < a + n)
unfolding contains
holds a n x e = grind (arith, nat_tests)

pub holds_of : (a n x : ℕ) → a ≤ x → x < a + n → contains a n x ≡ true
unfolding contains
holds_of a n x l h = grind (arith, nat_tests)

-- a sum that is at most 2 ^ 64 - 1 does not overflow, and one that is more does
pub sum_fits : (x y : ℕ) → leb (x + y) 0xffff_ffff_ffff_ffff ≡ true → x + y < 2 ^ 64
sum_fits x y e = grind (arith, nat_tests)

pub sum_over : (x y : ℕ) → leb (x + y) 0xffff_ffff_ffff_ffff ≡ false → x + y < 2 ^ 64 → ⊥
sum_over x y e l = grind (arith, nat_tests)
