-- Slots of records of which one that was free holds a new record: regions and mappings alike.
use Prim.Native.Nat.{ℕ, ◌<◌}
use mathlib.Core.Path.{◌≡◌, refl, sym, ◌∙◌, subst}
use mathlib.Core.Bool.{Bool, true, false}
use mathlib.Core.List.{List}
use mathlib.Core.Logic.{⊎_elim}
use native.Mathlib.Omega.{arith}
use lib.ListN.{length, get_or, set}
use lib.Seq.{get_or-set_same, get_or-set_other}
use Rattle.paging.proofs.Cases.{same?, clash}

-- slot i of n held none that lives, and now holds `new`
pub record Fills {A : Type 0} (live : A → Bool) (blank : A) (list : List A) (n i : ℕ) (new : A) : Type 0 where
  pub long : length list ≡ n
  pub slot : i < n
  pub free : live (get_or list i blank) ≡ false
  pub born : live new ≡ true

module _ {A : Type 0} {live : A → Bool} {blank : A} {list : List A} {n i : ℕ} {new : A} (fills : Fills live blank list n i new) where
  -- what a slot held, and what it holds
  abbrev was : ℕ → A
  was j = get_or list j blank

  abbrev is : ℕ → A
  is j = get_or (set list i new) j blank

  -- slot i holds the new record, the others what they held
  pub here : (j : ℕ) → j ≡ i → is j ≡ new
  here j e = subst (λ (x : ℕ). is x ≡ new) (sym e) (let l = fills.long in let h = fills.slot in get_or-set_same list i new blank (omega arith))

  pub there : (j : ℕ) → (j ≡ i → ⊥) → is j ≡ was j
  there j e = get_or-set_other list i j new blank e

  -- so do the live ones
  pub kept : (j : ℕ) → live (was j) ≡ true → is j ≡ was j
  kept j a = there j (λ e. clash (live (was i)) (subst (λ (x : ℕ). live (was x) ≡ true) e a) fills.free)

  -- what was live and is not slot i
  before : (j : ℕ) → (j ≡ i → ⊥) → live (is j) ≡ true → live (was j) ≡ true
  before j e a = subst (λ (x : A). live x ≡ true) (there j e) a

  -- a statement on live records holds where it holds of the new one and of those before
  pub each : (P : ℕ → A → Type 0) → P i new → ((j : ℕ) → j < n → live (was j) ≡ true → P j (was j)) → (j : ℕ) → j < n → live (is j) ≡ true → P j (is j)
  each P mine old j l a =
      ⊎_elim
      (λ (e : j ≡ i). subst (λ (x : ℕ). P x (is x)) (sym e) (subst (P i) (sym (here i refl)) mine))
      (λ (e : j ≡ i → ⊥). subst (P j) (sym (there j e)) (old j l (before j e a)))
      (same? j i)

  -- one on two of them, in the order of their slots
  pub pairs : (P : A → A → Type 0) → ((j : ℕ) → j < n → live (was j) ≡ true → P new (was j)) → ((j : ℕ) → j < n → live (was j) ≡ true → P (was j) new)
      → ((j k : ℕ) → k < j → j < n → live (was j) ≡ true → live (was k) ≡ true → P (was j) (was k))
      → (j k : ℕ) → k < j → j < n → live (is j) ≡ true → live (is k) ≡ true → P (is j) (is k)
  pairs P after first old j k h l a b =
      ⊎_elim
      (λ (e : j ≡ i).
      let d : (k ≡ i → ⊥) = λ q. omega arith in
      subst (λ (v : A). P v (is k)) (sym (here j e)) (subst (P new) (sym (there k d)) (after k (omega arith) (before k d b))))
      (λ (e : j ≡ i → ⊥). subst (λ (v : A). P v (is k)) (sym (there j e)) (⊎_elim
      (λ (d : k ≡ i). subst (P (was j)) (sym (here k d)) (first j l (before j e a)))
      (λ (d : k ≡ i → ⊥). subst (P (was j)) (sym (there k d)) (old j k h l (before j e a) (before k d b)))
      (same? k i)))
      (same? j i)

  -- "free slots blank"
  pub blanks : ((j : ℕ) → j < n → live (was j) ≡ false → was j ≡ blank) → (j : ℕ) → j < n → live (is j) ≡ false → is j ≡ blank
  blanks old j l a =
      ⊎_elim
      (λ (e : j ≡ i). clash (live new) fills.born (subst (λ (x : A). live x ≡ false) (here j e) a))
      (λ (e : j ≡ i → ⊥). there j e ∙ old j l (subst (λ (x : A). live x ≡ false) (there j e) a))
      (same? j i)
