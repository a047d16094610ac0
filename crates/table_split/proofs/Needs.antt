-- How the frames of a cut are counted, one level at a time.
use Prim.Native.Nat.{ℕ, zero, suc, ◌+◌, ◌-◌, ◌/◌, ◌%◌, ◌<◌}
use mathlib.Core.Path.{◌≡◌, refl}
use native.Mathlib.Omega.{arith}
use native.Mathlib.Numerals.{sub-one}
use borrow.Author.Tests.{lt-ltb, le-ltb, eq-eqb, ne_eqb}
use Rattle.paging.specs.Level.{span}
use Rattle.paging.specs.Need.{splits, left}

module _ (x : ℕ) where
  pub splits_none : (l : ℕ) → l ≡ 0 → 0 ≡ splits x l
  unfolding splits
  splits_none l e = rw e

  pub splits_one : (l : ℕ) → 0 < l → 0 < x % span l → 1 + splits x (l - 1) ≡ splits x l
  unfolding splits
  splits_one zero h g = absurd (omega arith)
  splits_one (suc l) h g = rw (lt-ltb 0 (x % span (suc l)) g, sub-one)

module _ (x v : ℕ) where
  pub left_none : (l : ℕ) → l ≡ 0 → 0 ≡ left x v l
  unfolding left
  left_none l e = rw e

  pub left_apart : (l : ℕ) → (x / span l ≡ v / span l → ⊥) → l ≡ left x v l
  unfolding left
  left_apart zero n = refl
  left_apart (suc l) n = rw (ne_eqb (x / span (suc l)) (v / span (suc l)) n)

  pub left_begin : (l : ℕ) → x / span l ≡ v / span l → x % span l ≡ 0 → l ≡ left x v l
  unfolding left
  left_begin zero q z = refl
  left_begin (suc l) q z = rw (eq-eqb (x / span (suc l)) (v / span (suc l)) q, le-ltb 0 (x % span (suc l)) (omega arith))

  pub left_lower : (l : ℕ) → 0 < l → x / span l ≡ v / span l → 0 < x % span l → left x v (l - 1) ≡ left x v l
  unfolding left
  left_lower zero h q z = absurd (omega arith)
  left_lower (suc l) h q z = rw (eq-eqb (x / span (suc l)) (v / span (suc l)) q, lt-ltb 0 (x % span (suc l)) z, sub-one)
