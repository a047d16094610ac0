-- What multiples and rounding mean.
use Rattle.std.proofs.Common.{◌≡◌, ℕ, ◌+◌, ◌-◌, ◌*◌, ◌/◌, ◌%◌, ◌^◌, ◌<◌, ◌≤◌, Bool, true, false, eqb, refl, ap, ◌∙◌, mod-lt, mod-eq_of_lt, div-add-mod', arith, eqb-true}
use Rattle.std.proofs.Math.Nat.{mul-mod_left}
use Rattle.std.proofs.lemmas.Bool.{eqb-false}
use Rattle.paging.specs.Choice.{Decided}
use Rattle.vm.specs.Align.{multiple, needed, Rounding}

multiples : (x a : ℕ) → Decided ((k : ℕ) × (x ≡ k * a)) (multiple x a)
multiples x a = go (eqb (x % a) 0) refl
  where
    go : (t : Bool) → eqb (x % a) 0 ≡ t → Decided ((k : ℕ) × (x ≡ k * a)) t
    go true e = (x / a, omega (arith, div-add-mod' x a, eqb-true (x % a) 0 e))
    go false e = λ k. eqb-false (x % a) 0 e (ap (λ (n : ℕ). n % a) k.1 ∙ mul-mod_left k.0 a)

least : (x a : ℕ) → 0 < a → x + a ≤ 2 ^ 64 → (x ≤ needed x a * a) × (needed x a * a < x + a)
least x a h f = rw e (omega (arith, d, m), omega (arith, d, m))
  where
    e : (x + (a - 1)) % 2 ^ 64 ≡ x + (a - 1)
    e = mod-eq_of_lt (omega arith)

    d : (x + (a - 1)) / a * a + (x + (a - 1)) % a ≡ x + (a - 1)
    d = div-add-mod' (x + (a - 1)) a

    m : (x + (a - 1)) % a < a
    m = mod-lt (x + (a - 1)) h

pub rounding : Rounding
rounding = record { multiples = multiples; least = least }
