-- One turn of a scan and its end, for loops; and what a scan tells of each index.
use Prim.Native.Nat.{ℕ, zero, suc, ◌+◌, ◌-◌, ◌≤◌, ◌<◌}
use mathlib.Core.Path.{◌≡◌, refl, sym, subst}
use mathlib.Core.Bool.{Bool, true, false}
use mathlib.Core.Logic.{◌⊎◌, inl, inr, ⊎_elim}
use native.Mathlib.Omega.{arith}
use native.Mathlib.Nat.{eq-or-lt_of_le}
use Rattle.paging.proofs.Cases.{no_truth}
use Rattle.scan.specs.Scan.{first_of, some_of, first, some}

-- a test with the equation that says which it is
pub tell : (b : Bool) → (b ≡ true) ⊎ (b ≡ false)
tell true = inl refl
tell false = inr refl

turn : (i n : ℕ) → i < n → n - i ≡ suc (n - (i + 1))
turn i n h = omega arith

module _ (p : ℕ → Bool) (i n : ℕ) where
  pub first_here : i < n → p i ≡ true → first p i n ≡ i
  unfolding first first_of
  first_here h e = rw (turn i n h, e)

  pub first_later : i < n → p i ≡ false → first p i n ≡ first p (i + 1) n
  unfolding first first_of
  first_later h e = rw (turn i n h, e)

  pub first_none : n ≤ i → first p i n ≡ i
  unfolding first first_of
  first_none h = let e : n - i ≡ zero = omega arith in rw e

  pub some_here : i < n → p i ≡ true → some p i n ≡ true
  unfolding some some_of
  some_here h e = rw (turn i n h, e)

  pub some_later : i < n → p i ≡ false → some p i n ≡ some p (i + 1) n
  unfolding some some_of
  some_later h e = rw (turn i n h, e)

  pub some_none : n ≤ i → some p i n ≡ false
  unfolding some some_of
  some_none h = let e : n - i ≡ zero = omega arith in rw e

some_of_not : (p : ℕ → Bool) (k i j : ℕ) → some_of p i k ≡ false → i ≤ j → j < i + k → p j ≡ false
unfolding some_of
some_of_not p zero i j e a b = absurd (omega arith)
some_of_not p (suc k) i j e a b =
    ⊎_elim
    (λ t. no_truth (sym (rw t at e)))
    (λ f. ⊎_elim (λ q. subst (λ (x : ℕ). p x ≡ false) q f) (λ l. some_of_not p k (i + 1) j (rw f at e) (omega arith) (omega arith)) (eq-or-lt_of_le a))
    (tell (p i))

-- where none passes, each fails
pub none_passes : (p : ℕ → Bool) (i n j : ℕ) → some p i n ≡ false → i ≤ j → j < n → p j ≡ false
unfolding some
none_passes p i n j e a b = some_of_not p (n - i) i j e a (omega arith)

pub first_of_is : (p : ℕ → Bool) (k i : ℕ) → first_of p i k < i + k → p (first_of p i k) ≡ true
unfolding first_of
first_of_is p zero i h = absurd (omega arith)
first_of_is p (suc k) i h =
    ⊎_elim
    (λ t. rw t t)
    (λ f. rw f (first_of_is p k (i + 1) (let g : first_of p (i + 1) k < i + suc k = rw f at h in omega arith)))
    (tell (p i))

pub first_of_from : (p : ℕ → Bool) (k i : ℕ) → (i ≤ first_of p i k) × (first_of p i k ≤ i + k)
unfolding first_of
first_of_from p zero i = (omega arith, omega arith)
first_of_from p (suc k) i =
    ⊎_elim
    (λ t. rw t (omega arith, omega arith))
    (λ f. let g = first_of_from p k (i + 1) in rw f (omega (arith, g.0), omega (arith, g.1)))
    (tell (p i))

pub first_of_before : (p : ℕ → Bool) (k i j : ℕ) → i ≤ j → j < first_of p i k → p j ≡ false
unfolding first_of
first_of_before p zero i j a h = absurd (omega arith)
first_of_before p (suc k) i j a h =
    ⊎_elim
    (λ t. absurd (let g : j < i = rw t at h in omega arith))
    (λ f. ⊎_elim
    (λ q. subst (λ (x : ℕ). p x ≡ false) q f)
    (λ l. first_of_before p k (i + 1) j (omega arith) (rw f at h))
    (eq-or-lt_of_le a))
    (tell (p i))

-- the first passes, lies in the range, and none before it passes
pub first_passes : (p : ℕ → Bool) (n : ℕ) → first p 0 n < n → p (first p 0 n) ≡ true
unfolding first
first_passes p n h = first_of_is p (n - 0) 0 (omega arith)

pub first_most : (p : ℕ → Bool) (n : ℕ) → first p 0 n ≤ n
unfolding first
first_most p n = let g = first_of_from p (n - 0) 0 in omega (arith, g.1)

pub before_first : (p : ℕ → Bool) (n j : ℕ) → j < first p 0 n → p j ≡ false
unfolding first
before_first p n j h = first_of_before p (n - 0) 0 j (omega arith) h

-- tests that say the same below n
first_of_alike : (p q : ℕ → Bool) (k i : ℕ) → ((j : ℕ) → i ≤ j → j < i + k → p j ≡ q j) → first_of p i k ≡ first_of q i k
unfolding first_of
first_of_alike p q zero i same = refl
first_of_alike p q (suc k) i same =
    let here = same i (omega arith) (omega arith) in
    let later = first_of_alike p q k (i + 1) (λ j a b. same j (omega arith) (omega arith)) in
    rw (here, later)

pub first_alike : (p q : ℕ → Bool) (n : ℕ) → ((j : ℕ) → j < n → p j ≡ q j) → first p 0 n ≡ first q 0 n
unfolding first
first_alike p q n same = first_of_alike p q (n - 0) 0 (λ j a b. same j (omega arith))
