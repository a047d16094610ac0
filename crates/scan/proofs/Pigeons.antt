-- Numbers below n without one that are named once each are fewer than n.
use Prim.Native.Nat.{ℕ, zero, suc, ◌≤◌, ◌<◌}
use mathlib.Core.Path.{◌≡◌, sym, ◌∙◌}
use mathlib.Core.Logic.{⊎_elim}
use native.Mathlib.Omega.{arith}
use lib.Dec.{eqb}
use borrow.Author.Tests.{eq-eqb, ne_eqb}
use Rattle.paging.specs.Choice.{pick}
use Rattle.paging.proofs.Cases.{same?}

-- f names n numbers below m, none twice
pub record Names (f : ℕ → ℕ) (n m : ℕ) : Type 0 where
  pub below : (k : ℕ) → k < n → f k < m
  pub once : (j k : ℕ) → j < k → k < n → f j ≡ f k → ⊥

-- the same names but a in the place of b
swapped : (ℕ → ℕ) → ℕ → ℕ → ℕ → ℕ
swapped f b a k = pick (eqb (f k) b) a (f k)

is_b : (f : ℕ → ℕ) (b a k : ℕ) → f k ≡ b → swapped f b a k ≡ a
unfolding swapped
is_b f b a k e = rw (eq-eqb (f k) b e)

not_b : (f : ℕ → ℕ) (b a k : ℕ) → (f k ≡ b → ⊥) → swapped f b a k ≡ f k
unfolding swapped
not_b f b a k e = rw (ne_eqb (f k) b e)

-- where the greatest number is renamed to one that is not named, the bound falls by one
renamed : (f : ℕ → ℕ) (n m a : ℕ) → Names f n (suc m) → a < suc m → ((k : ℕ) → k < n → f k ≡ a → ⊥) → Names (swapped f m a) n m
renamed f n m a names l free = record { below = below; once = once }
  where
    below : (k : ℕ) → k < n → swapped f m a k < m
    below k h =
        ⊎_elim
        (λ (e : f k ≡ m). let z = is_b f m a k e in let w = free k h in let d : (a ≡ m → ⊥) = λ q. w (e ∙ sym q) in omega arith)
        (λ (e : f k ≡ m → ⊥). let z = not_b f m a k e in let w = names.below k h in omega arith)
        (same? (f k) m)

    once : (j k : ℕ) → j < k → k < n → swapped f m a j ≡ swapped f m a k → ⊥
    once j k h l e =
        ⊎_elim
        (λ (p : f j ≡ m). ⊎_elim
        (λ (q : f k ≡ m). names.once j k h l (p ∙ sym q))
        (λ (q : f k ≡ m → ⊥). free k l (sym (sym (is_b f m a j p) ∙ e ∙ not_b f m a k q)))
        (same? (f k) m))
        (λ (p : f j ≡ m → ⊥). ⊎_elim
        (λ (q : f k ≡ m). free j (omega arith) (sym (not_b f m a j p) ∙ e ∙ is_b f m a k q))
        (λ (q : f k ≡ m → ⊥). names.once j k h l (sym (not_b f m a j p) ∙ e ∙ not_b f m a k q))
        (same? (f k) m))
        (same? (f j) m)

pub most : (n m : ℕ) (f : ℕ → ℕ) → Names f n m → n ≤ m
most zero m f names = omega arith
most (suc n) zero f names = absurd (let z = names.below 0 (omega arith) in omega arith)
most (suc n) (suc m) f names =
    let r = renamed f n m (f n) (record { below = λ k l. names.below k (omega arith); once = λ j k h l. names.once j k h (omega arith) }) (names.below n (omega arith))
    (λ k l. names.once k n l (omega arith)) in
    let z = most n m (swapped f m (f n)) r in
    omega arith

-- one of the numbers below m is not named
pub fewer : (n m : ℕ) (f : ℕ → ℕ) (a : ℕ) → Names f n m → a < m → ((k : ℕ) → k < n → f k ≡ a → ⊥) → n < m
fewer n zero f a names l free = absurd (omega arith)
fewer n (suc m) f a names l free = let z = most n m (swapped f m a) (renamed f n m a names l free) in omega arith
