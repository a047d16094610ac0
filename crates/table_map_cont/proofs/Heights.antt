-- The highest level that passes a test; the level of a page, and the level at which an address begins an entry.
use Prim.Native.Nat.{ℕ, zero, suc, ◌-◌, ◌%◌, ◌≤◌, ◌<◌}
use mathlib.Core.Path.{◌≡◌, refl, ap, ◌∙◌}
use mathlib.Core.Bool.{Bool, true, false, ◌&&◌}
use mathlib.Core.Logic.{⊎_elim}
use native.Mathlib.Omega.{arith}
use native.Mathlib.Nat.{not-suc-le-zero}
use native.Mathlib.Numerals.{sub-one}
use lib.Dec.{eqb, leb}
use borrow.Author.Tests.{eqb-true, eqb-false, leb-true}
use Rattle.paging.specs.Choice.{pick}
use Rattle.paging.specs.Level.{span}
use Rattle.paging.proofs.Cases.{same?, below?, both}
use Rattle.table_map_cont.specs.MapCont.{highest, fits, page_level}
use Rattle.table_map_cont.specs.Count.{begins}

module _ (test : ℕ → Bool) where
  pub highest_here : (l : ℕ) → 0 < l → test l ≡ true → highest test l ≡ l
  unfolding highest
  highest_here zero h e = absurd (not-suc-le-zero h)
  highest_here (suc l) h e = rw e

  pub highest_below : (l : ℕ) → 0 < l → test l ≡ false → highest test l ≡ highest test (l - 1)
  unfolding highest
  highest_below zero h e = absurd (not-suc-le-zero h)
  highest_below (suc l) h e = rw (e, sub-one)

  pub highest_none : (l : ℕ) → l ≡ 0 → highest test l ≡ 0
  unfolding highest
  highest_none l e = rw e

  pub highest_low : (top : ℕ) → highest test top ≤ top
  unfolding highest
  highest_low zero = omega arith
  highest_low (suc l) = go (test (suc l)) (highest_low l)
    where
      go : (t : Bool) → highest test l ≤ l → pick t (suc l) (highest test l) ≤ suc l
      go true h = omega arith
      go false h = omega arith

  -- what holds at level 0 and wherever the test is passed
  pub highest_is : (P : ℕ → Type 0) → P 0 → ((l : ℕ) → test l ≡ true → P l) → (top : ℕ) → P (highest test top)
  unfolding highest
  highest_is P z s zero = z
  highest_is P z s (suc l) = go (test (suc l)) refl (highest_is P z s l)
    where
      go : (t : Bool) → test (suc l) ≡ t → P (highest test l) → P (pick t (suc l) (highest test l))
      go true e h = s (suc l) e
      go false e h = h

  -- no level above passes
  pub highest_above : (top l : ℕ) → l ≤ top → highest test top < l → test l ≡ false
  unfolding highest
  highest_above zero l h g = absurd (omega arith)
  highest_above (suc k) l h g = go (test (suc k)) refl (highest_above k l) g
    where
      go : (t : Bool) → test (suc k) ≡ t → (l ≤ k → highest test k < l → test l ≡ false) → pick t (suc k) (highest test k) < l → test l ≡ false
      go true e ih y = absurd (omega arith)
      go false e ih y = ⊎_elim (λ (q : l ≡ suc k). ap test q ∙ e) (λ ne. ih (omega (arith, lower ne)) y) (same? l (suc k))
        where
          lower : (l ≡ suc k → ⊥) → l ≤ k
          lower ne = ⊎_elim (λ r. omega arith) (λ r. absurd (ne (omega arith))) (below? l (suc k))

-- a page of level t, up to top, that fits
pub record Fits (top v pa n t : ℕ) : Type 0 where
  pub low : t ≤ top
  pub room : span t ≤ n
  pub virt : v % span t ≡ 0
  -- a page of 4 KiB is taken whatever the physical address is
  pub phys : 0 < t → pa % span t ≡ 0

pub page_fits : (top v pa n : ℕ) → v % 4096 ≡ 0 → 4096 ≤ n → Fits top v pa n (page_level top v pa n)
page_fits top v pa n a h =
    let p = highest_is (fits v pa n) (λ l. (span l ≤ n) × (v % span l ≡ 0) × (0 < l → pa % span l ≡ 0)) (h, a, λ z. absurd (not-suc-le-zero z)) passed top in
    record { low = highest_low (fits v pa n) top; room = p.0; virt = p.1; phys = p.2 }
  where
    passed : (l : ℕ) → fits v pa n l ≡ true → (span l ≤ n) × (v % span l ≡ 0) × (0 < l → pa % span l ≡ 0)
    passed l e =
        let x = both (leb (span l) n) (eqb (v % span l) 0 && eqb (pa % span l) 0) e in
        let y = both (eqb (v % span l) 0) (eqb (pa % span l) 0) x.1 in
        (leb-true (span l) n x.0, eqb-true (v % span l) 0 y.0, λ z. eqb-true (pa % span l) 0 y.1)

-- an address begins an entry at this level, at least at every level at which it is aligned, and at none above
pub begins_low : (v : ℕ) → begins v ≤ 3
begins_low v = highest_low (λ l. eqb (v % span l) 0) 3

pub begins_aligned : (v : ℕ) → v % 4096 ≡ 0 → v % span (begins v) ≡ 0
begins_aligned v a = highest_is (λ l. eqb (v % span l) 0) (λ l. v % span l ≡ 0) a (λ l e. eqb-true (v % span l) 0 e) 3

pub begins_above : (v l : ℕ) → l ≤ 3 → begins v < l → v % span l ≡ 0 → ⊥
begins_above v l h g = eqb-false (v % span l) 0 (highest_above (λ l. eqb (v % span l) 0) 3 l h g)

pub begins_least : (v l : ℕ) → l ≤ 3 → v % span l ≡ 0 → l ≤ begins v
begins_least v l h e = ⊎_elim (λ g. absurd (begins_above v l h g e)) (λ g. g) (below? (begins v) l)
