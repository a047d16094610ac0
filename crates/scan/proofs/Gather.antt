-- A scan without a branch: what is wrong is gathered by `or`, and nothing is gathered exactly when each index passes.
use Prim.Native.Nat.{ℕ, ◌+◌, ◌≤◌, ◌<◌}
use mathlib.Core.Path.{◌≡◌, refl, ◌∙◌, ap}
use native.Mathlib.Omega.{arith}
use lib.Dec.{eqb}
use lib.Bits.{bit_or, bit_xor, or_zero_l, or_add_and, xor_add_and, xor_self, and_le_l, and_le_r}
use borrow.Author.Count.{below_none, below_more}
use borrow.Author.Tests.{eq-eqb, eqb-true}
use Rattle.paging.specs.Choice.{Decided}
use Rattle.paging.proofs.Cases.{decide}

pub or_left : (d e : ℕ) → bit_or d e ≡ 0 → d ≡ 0
or_left d e h = omega (arith, h, or_add_and d e, and_le_r d e)

pub or_right : (d e : ℕ) → bit_or d e ≡ 0 → e ≡ 0
or_right d e h = omega (arith, h, or_add_and d e, and_le_l d e)

pub or_of : (d e : ℕ) → d ≡ 0 → e ≡ 0 → bit_or d e ≡ 0
or_of d e p q = ap (λ (x : ℕ). bit_or x e) p ∙ or_zero_l e ∙ q

pub xor_same : (x b : ℕ) → bit_xor x b ≡ 0 → x ≡ b
xor_same x b h = omega (arith, h, xor_add_and x b, and_le_l x b, and_le_r x b)

pub xor_of : (x b : ℕ) → x ≡ b → bit_xor x b ≡ 0
xor_of x b p = ap (λ (y : ℕ). bit_xor y b) p ∙ xor_self b

-- d holds nothing exactly when P holds below j
pub record Gathered (P : ℕ → Type 0) (d j : ℕ) : Type 0 where
  pub to : d ≡ 0 → (k : ℕ) → k < j → P k
  pub from : ((k : ℕ) → k < j → P k) → d ≡ 0

pub nothing : (P : ℕ → Type 0) → Gathered P 0 0
nothing P = record { to = λ e. below_none P; from = λ all. refl }

pub more : (P : ℕ → Type 0) (d e j : ℕ) → Gathered P d j → (e ≡ 0 → P j) → (P j → e ≡ 0) → Gathered P (bit_or d e) (j + 1)
more P d e j g to from = record {
  to = λ z. below_more P j (g.to (or_left d e z)) (to (or_right d e z));
  from = λ all. or_of d e (g.from (λ k l. all k (omega arith))) (from (all j (omega arith)));
}

pub gathered : (P : ℕ → Type 0) (d j n : ℕ) → j ≤ n → n ≤ j → Gathered P d j → Decided ((k : ℕ) → k < n → P k) (eqb d 0)
gathered P d j n a b g =
    decide ((k : ℕ) → k < n → P k) (eqb d 0) (λ e k l. g.to (eqb-true d 0 e) k (omega arith)) (λ all. eq-eqb d 0 (g.from (λ k l. all k (omega arith))))
