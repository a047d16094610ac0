-- Which cuts stand in a list that is put together.
use Prim.Native.Nat.{ℕ, zero, suc, ◌+◌, ◌≤◌, ◌<◌}
use mathlib.Core.Path.{◌≡◌, refl, subst}
use mathlib.Core.List.{List, [], ◌∷◌, ◌++◌}
use mathlib.Core.Logic.{◌⊎◌, ⊎_elim}
use native.Mathlib.Omega.{arith}
use Rattle.paging.proofs.Cases.{same?}
use Rattle.table_cuts.specs.Cuts.{Cut, Among}
use mathlib.Core.List.Memᴰ
use Rattle.vmar_cuts.specs.Cuts.{collect}

pub in_left : (c : Cut) (xs ys : List Cut) → Among c xs → Among c (xs ++ ys)
in_left c xs ys m = Memᴰ.append_left ys m

pub in_right : (c : Cut) (xs ys : List Cut) → Among c ys → Among c (xs ++ ys)
in_right c xs ys m = Memᴰ.append_right xs m

pub in_either : (c : Cut) (xs ys : List Cut) → Among c (xs ++ ys) → Among c xs ⊎ Among c ys
in_either c xs ys m = Memᴰ.append_cases xs m

pub in_none : {A : Type 0} (c : Cut) → Among c [] → A
in_none c m = absurd (Memᴰ.not-nil m)

pub in_one : (c d : Cut) → Among c (d ∷ []) → c ≡ d
in_one c d m = Memᴰ.eq_of_singleton m

pub one_in : (c : Cut) → Among c (c ∷ [])
one_in c = Memᴰ.head refl

pub first : (c : Cut) (cs : List Cut) → Among c (c ∷ cs)
first c cs = Memᴰ.head refl

pub later : (c d : Cut) (cs : List Cut) → Among c cs → Among c (d ∷ cs)
later c d cs m = Memᴰ.tail m

module _ (c : Cut) (f : ℕ → List Cut) where
  pub in_collect : (n k j : ℕ) → k ≤ j → j < k + n → Among c (f j) → Among c (collect f k n)
  unfolding collect
  in_collect zero k j a b m = absurd (omega arith)
  in_collect (suc n) k j a b m =
      ⊎_elim
      (λ (e : j ≡ k). in_left c (f k) (collect f (k + 1) n) (subst (λ (i : ℕ). Among c (f i)) e m))
      (λ (e : j ≡ k → ⊥). in_right c (f k) (collect f (k + 1) n) (in_collect n (k + 1) j (omega arith) (omega arith) m))
      (same? j k)

  pub of_collect : (n k : ℕ) → Among c (collect f k n) → (j : ℕ) × (k ≤ j) × (j < k + n) × Among c (f j)
  unfolding collect
  of_collect zero k m = in_none c m
  of_collect (suc n) k m =
      ⊎_elim
      (λ (h : Among c (f k)). (k, omega arith, omega arith, h))
      (λ (h : Among c (collect f (k + 1) n)).
      let r = of_collect n (k + 1) h in
      let a = r.1 in
      let b = r.2 in
      (r.0, omega arith, omega arith, r.3))
      (in_either c (f k) (collect f (k + 1) n) m)
