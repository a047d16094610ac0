-- An index as code answers it: what `below` tells, and std's `position` and `any` as scans of the indexes of a list.
use Rattle.std.proofs.Common.{◌≡◌, ℕ, suc, ◌+◌, ◌-◌, ◌≤◌, ◌<◌, Bool, true, false, ◌||◌, cond, Option, Some, None, List, [], ◌∷◌, length, get_or, refl, sym, ◌∙◌, ap, arith, ltb}
use Rattle.std.specs.List.{position, list_any}
use Rattle.std.proofs.lemmas.List.Sums.{position_or_len_is}
use mathlib.Core.Logic.{⊎_elim}
use borrow.Author.Tests.{ltb-true, ltb-false}
use Rattle.paging.specs.Choice.{pick}
use Rattle.scan.specs.Scan.{some_of, first, some, below}
use Rattle.scan.proofs.Scans.{tell, first_most, first_passes, before_first}

pub below_some : (n i k : ℕ) → below n i ≡ Some k → (i ≡ k) × (k < n)
below_some n i k e =
    ⊎_elim
    (λ (t : ltb i n ≡ true). let q : i ≡ k = cc in (q, omega (arith, ltb-true i n t)))
    (λ (t : ltb i n ≡ false). cc)
    (tell (ltb i n))

pub below_none : (n i : ℕ) → below n i ≡ None → n ≤ i
below_none n i e = ⊎_elim (λ (t : ltb i n ≡ true). cc) (λ (t : ltb i n ≡ false). ltb-false i n t) (tell (ltb i n))

-- a scan that ends before the end; one of which code answers an index, or none
pub first_in : (p : ℕ → Bool) (n : ℕ) → (first p 0 n ≡ n → ⊥) → first p 0 n < n
first_in p n e = let l = first_most p n in omega arith

pub found_at : (p : ℕ → Bool) (n k : ℕ) (r : Option ℕ) → r ≡ below n (first p 0 n) → r ≡ Some k → (first p 0 n ≡ k) × (k < n)
found_at p n k r e f = below_some n (first p 0 n) k (sym e ∙ f)

pub found_none : (p : ℕ → Bool) (n : ℕ) (r : Option ℕ) → r ≡ below n (first p 0 n) → r ≡ None → first p 0 n ≡ n
found_none p n r e f = let l = first_most p n in let m = below_none n (first p 0 n) (sym e ∙ f) in omega arith

position_is : {X : Type 0} (p : X → Bool) (xs : List X) (d : X) → position p xs ≡ below (length xs) (first (λ i. p (get_or xs i d)) 0 (length xs))
position_is p xs d =
    let q : ℕ → Bool = λ i. p (get_or xs i d) in
    let e = position_or_len_is p xs (first q 0 (length xs)) d (first_most q (length xs)) (λ k l. before_first q (length xs) k l) (λ l. first_passes q (length xs) l) in
    rw e (by (ltb (first q 0 (length xs)) (length xs)) (first q 0 (length xs)))
  where
    by : (t : Bool) (i : ℕ) → cond t (Some i) None ≡ pick t (Some i) None
    by true i = refl
    by false i = refl

-- what `position` answers, on a list of n
pub position_scan : {X : Type 0} (p : X → Bool) (xs : List X) (d : X) (n : ℕ) → length xs ≡ n → (r : Option ℕ) → r ≡ position p xs
    → r ≡ below n (first (λ i. p (get_or xs i d)) 0 n)
position_scan p xs d n many r e = rw many at (e ∙ position_is p xs d)

any_from : {X : Type 0} (p : X → Bool) (xs : List X) (d : X) (q : ℕ → Bool) (i : ℕ) → ((t : ℕ) → t < length xs → q (i + t) ≡ p (get_or xs t d)) → list_any p xs ≡ some_of q i (length xs)
unfolding some_of
any_from p [] d q i same = refl
any_from p (x ∷ xs) d q i same =
    let here : q i ≡ p x = (let e : i ≡ i + 0 = omega arith in ap q e ∙ same 0 (omega arith)) in
    let later = any_from p xs d q (i + 1) (λ t l. let e : i + 1 + t ≡ i + suc t = omega arith in ap q e ∙ same (suc t) (omega arith)) in
    rw (here, later) (by (p x) (some_of q (i + 1) (length xs)))
  where
    by : (a b : Bool) → (a || b) ≡ pick a true b
    by true b = refl
    by false b = refl

any_is : {X : Type 0} (p : X → Bool) (xs : List X) (d : X) → list_any p xs ≡ some (λ i. p (get_or xs i d)) 0 (length xs)
unfolding some
any_is p xs d = let q : ℕ → Bool = λ i. p (get_or xs i d) in let many : length xs - 0 ≡ length xs = omega arith in rw many (any_from p xs d q 0 (λ t l. let e : 0 + t ≡ t = omega arith in ap q e))

-- what `any` answers, on a list of n
pub any_scan : {X : Type 0} (p : X → Bool) (xs : List X) (d : X) (n : ℕ) → length xs ≡ n → (r : Bool) → r ≡ list_any p xs → r ≡ some (λ i. p (get_or xs i d)) 0 n
any_scan p xs d n many r e = rw many at (e ∙ any_is p xs d)
