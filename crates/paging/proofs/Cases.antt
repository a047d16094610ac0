-- The case splits on numbers and tests that proofs make.
use Prim.Native.Nat.{ℕ, ◌≤◌, ◌<◌}
use mathlib.Core.Path.{◌≡◌, refl, sym, ◌∙◌, subst}
use mathlib.Core.Bool.{Bool, true, false, not, ◌&&◌}
use mathlib.Core.Logic.{◌⊎◌, inl, inr, ⊎_elim}
use native.Mathlib.Omega.{arith}
use lib.Dec.{eqb, ltb}
use borrow.Author.Tests.{eqb-true, eqb-false, ltb-true, ltb-false}
use Rattle.paging.specs.Choice.{Decided, Answered, refused, taken}

pub same? : (a b : ℕ) → (a ≡ b) ⊎ (a ≡ b → ⊥)
same? a b = go (eqb a b) refl
  where
    go : (t : Bool) → eqb a b ≡ t → (a ≡ b) ⊎ (a ≡ b → ⊥)
    go true e = inl (eqb-true a b e)
    go false e = inr (eqb-false a b e)

pub below? : (a b : ℕ) → (a < b) ⊎ (b ≤ a)
below? a b = go (ltb a b) refl
  where
    go : (t : Bool) → ltb a b ≡ t → (a < b) ⊎ (b ≤ a)
    go true e = inl (ltb-true a b e)
    go false e = inr (ltb-false a b e)

-- no test says both
pub no_truth : {A : Type 0} → false ≡ true → A
no_truth p = let z : ◌≡◌ {A = ℕ} 0 1 = cc in absurd (omega arith)

pub clash : {A : Type 0} (t : Bool) → t ≡ true → t ≡ false → A
clash t p q = no_truth (sym q ∙ p)

-- both parts of a test that holds
pub both : (a b : Bool) → a && b ≡ true → (a ≡ true) × (b ≡ true)
both true b e = (refl, e)
both false b e = no_truth e

-- what is none of 0, 1 and 2 is above them
pub above_two : (l : ℕ) → (l ≡ 0 → ⊥) → (l ≡ 1 → ⊥) → (l ≡ 2 → ⊥) → 2 < l
above_two l a b c = ⊎_elim (λ h. absurd (go h)) (λ h. h) (below? l 3)
  where
    go : l < 3 → ⊥
    go h = ⊎_elim a (λ n. ⊎_elim b (λ m. c (omega arith)) (same? l 1)) (same? l 0)

-- a test that holds exactly where P does decides it
pub decide : (P : Type 0) (t : Bool) → (t ≡ true → P) → (P → t ≡ true) → Decided P t
decide P true to from = to refl
decide P false to from = λ p. no_truth (from p)

-- a test that fails exactly where P holds decides it, turned
pub decide_not : (P : Type 0) (t : Bool) → (t ≡ false → P) → (P → t ≡ false) → Decided P (not t)
decide_not P true to from = λ p. no_truth (sym (from p))
decide_not P false to from = to refl

-- a decision of Q is one of P where the two say the same
pub decide_by : (P Q : Type 0) (t : Bool) → (Q → P) → (P → Q) → Decided Q t → Decided P t
decide_by P Q true to from d = to d
decide_by P Q false to from d = λ p. d (from p)

-- what a test that decides P has shown
pub decided_true : (P : Type 0) (r : Bool) → Decided P r → r ≡ true → P
decided_true P r d e = subst (Decided P) e d

pub decided_false : (P : Type 0) (r : Bool) → Decided P r → r ≡ false → P → ⊥
decided_false P r d e = subst (Decided P) e d

-- two answers to one call are the same
pub only : {A : Type 0} {P : Type 0} {no' yes' a b : A} → Answered P no' yes' a → Answered P no' yes' b → a ≡ b
only (refused n e) (refused m f) = e ∙ sym f
only (refused n e) (taken p f) = absurd (n p)
only (taken p e) (refused n f) = absurd (n p)
only (taken p e) (taken q f) = e ∙ sym f

-- no two values look the same through f
abbrev pub OneToOne : {A B : Type 0} → (A → B) → Type 0
OneToOne {A} f = (a b : A) → f a ≡ f b → a ≡ b

-- an answer seen through such a function is the answer itself
pub answered_by : {A B P : Type 0} (f : A → B) → OneToOne f → (no' yes' out : A) → Answered P (f no') (f yes') (f out) → Answered P no' yes' out
answered_by f once no' yes' out (refused n e) = refused n (once out no' e)
answered_by f once no' yes' out (taken p e) = taken p (once out yes' e)
