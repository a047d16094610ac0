-- Verdicts on a run of pages: those that allow are passed over, and the first that refuses decides.
use Rattle.std.specs.Prelude.{Result, Ok, Err}
use Prim.Native.Nat.{ℕ, zero, suc, ◌+◌, ◌-◌, ◌≤◌, ◌<◌}
use mathlib.Core.Path.{◌≡◌, refl, ◌∙◌, ap, subst}
use mathlib.Core.Bool.{Bool, true, false}
use mathlib.Core.Logic.{⊎_elim}
use native.Mathlib.Omega.{arith}
use Rattle.paging.specs.Choice.{pick}
use Rattle.paging.proofs.Cases.{below?}
use Rattle.scan.proofs.Scans.{tell}
use Rattle.refusal.specs.declared.Refusal.{Refusal}
use Rattle.vmar_user_range.specs.UserRange.{after, checked_from, checked_to}

-- no answer is both
pub refused_not : {why : Refusal} → ◌≡◌ {A = Result (Unit {0}) Refusal} (Err why) (Ok tt) → ⊥
refused_not e = subst IsErr e tt
  where
    IsErr : Result (Unit {0}) Refusal → Type 0
    IsErr (Ok u) = ⊥
    IsErr (Err why) = Unit {0}

module _ (v : ℕ → Result (Unit {0}) Refusal) where
  -- n pages that allow are passed over
  passed : (n p k : ℕ) → ((q : ℕ) → p ≤ q → q < p + n → v q ≡ Ok tt) → checked_from v p (n + k) ≡ checked_from v (p + n) k
  unfolding checked_from
  passed zero p k all =
      let e : p + 0 ≡ p = omega arith in
      let z : 0 + k ≡ k = omega arith in
      rw (e, z)
  passed (suc n) p k all =
      let e : p + suc n ≡ p + 1 + n = omega arith in
      let step : suc n + k ≡ suc (n + k) = omega arith in
      rw (step, all p (omega arith) (omega arith), passed n (p + 1) k (λ q a b. all q (omega arith) (omega arith)), e)

  -- where each of n pages allows or refuses for one reason and not all allow, that is the refusal
  stopped : (why : Refusal) (t : ℕ → Bool) (n p k : ℕ) → ((q : ℕ) → p ≤ q → q < p + n → v q ≡ pick (t q) (Ok tt) (Err why))
      → (((q : ℕ) → p ≤ q → q < p + n → t q ≡ true) → ⊥) → checked_from v p (n + k) ≡ Err why
  unfolding checked_from
  stopped why t zero p k each some = absurd (some (λ q a b. absurd (omega arith)))
  stopped why t (suc n) p k each some =
      let step : suc n + k ≡ suc (n + k) = omega arith in
      ⊎_elim
      (λ (e : t p ≡ true). let ok : v p ≡ Ok tt = each p (omega arith) (omega arith) ∙ rw e in
      rw (step, ok) (stopped why t n (p + 1) k (λ q a b. each q (omega arith) (omega arith)) (λ all. some (λ q a b.
      ⊎_elim (λ (h : p < q). all q (omega arith) (omega arith)) (λ (h : q ≤ p). let z : p ≡ q = omega arith in subst (λ (i : ℕ). t i ≡ true) z e) (below? p q)))))
      (λ (e : t p ≡ false). let bad : v p ≡ Err why = each p (omega arith) (omega arith) ∙ rw e in rw (step, bad))
      (tell (t p))

  -- the same of the pages up to the last
  pub on_to : (page n last : ℕ) → page + n ≤ last + 1 → ((q : ℕ) → page ≤ q → q < page + n → v q ≡ Ok tt) → checked_to v page last ≡ checked_to v (page + n) last
  on_to page n last l all =
      let e : last + 1 - page ≡ n + (last + 1 - (page + n)) = omega arith in
      ap (checked_from v page) e ∙ passed n page (last + 1 - (page + n)) all

  pub stops_at : (why : Refusal) (t : ℕ → Bool) (page n last : ℕ) → page + n ≤ last + 1 → ((q : ℕ) → page ≤ q → q < page + n → v q ≡ pick (t q) (Ok tt) (Err why))
      → (((q : ℕ) → page ≤ q → q < page + n → t q ≡ true) → ⊥) → checked_to v page last ≡ Err why
  stops_at why t page n last l each some =
      let e : last + 1 - page ≡ n + (last + 1 - (page + n)) = omega arith in
      ap (checked_from v page) e ∙ stopped why t n page (last + 1 - (page + n)) each some

  pub stops_here : (why : Refusal) (page last : ℕ) → page ≤ last → v page ≡ Err why → checked_to v page last ≡ Err why
  unfolding checked_from
  stops_here why page last l e = let z : last + 1 - page ≡ suc (last - page) = omega arith in rw (z, e)

  -- past the last nothing is asked
  pub none_left : (page last : ℕ) → last < page → checked_to v page last ≡ Ok tt
  unfolding checked_from
  none_left page last l = let z : last + 1 - page ≡ zero = omega arith in rw z

  each_of : (n p : ℕ) → checked_from v p n ≡ Ok tt → (q : ℕ) → p ≤ q → q < p + n → v q ≡ Ok tt
  unfolding checked_from
  each_of zero p e q a b = absurd (omega arith)
  each_of (suc n) p e q a b = ⊎_elim
      (λ (h : p < q). each_of n (p + 1) (rest (v p) e) q (omega arith) (omega arith))
      (λ (h : q ≤ p). let z : p ≡ q = omega arith in subst (λ (i : ℕ). v i ≡ Ok tt) z (here (v p) e))
      (below? p q)
    where
      rest : (x : Result (Unit {0}) Refusal) → after x (checked_from v (p + 1) n) ≡ Ok tt → checked_from v (p + 1) n ≡ Ok tt
      rest (Ok u) e = e
      rest (Err why) e = absurd (refused_not e)

      here : (x : Result (Unit {0}) Refusal) → after x (checked_from v (p + 1) n) ≡ Ok tt → x ≡ Ok tt
      here (Ok u) e = refl
      here (Err why) e = absurd (refused_not e)

  -- all are allowed exactly when each is
  pub each_allowed : (page last : ℕ) → checked_to v page last ≡ Ok tt → (q : ℕ) → page ≤ q → q ≤ last → v q ≡ Ok tt
  each_allowed page last e q a b = each_of (last + 1 - page) page e q a (omega arith)

  pub all_allowed : (page last : ℕ) → page ≤ last → ((q : ℕ) → page ≤ q → q ≤ last → v q ≡ Ok tt) → checked_to v page last ≡ Ok tt
  all_allowed page last l each =
      on_to page (last + 1 - page) last (omega arith) (λ q a b. each q a (omega arith)) ∙ none_left (page + (last + 1 - page)) last (omega arith)
