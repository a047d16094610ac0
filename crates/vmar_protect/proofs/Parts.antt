-- Touching, and the part of a mapping in a range, by what the tests show.
use Prim.Native.Nat.{ℕ, ◌+◌, ◌-◌, ◌/◌, ◌≤◌, ◌<◌}
use mathlib.Core.Path.{◌≡◌, refl}
use mathlib.Core.Bool.{true, false, not}
use mathlib.Core.Logic.{◌⊎◌, inl, inr, ⊎_elim}
use native.Mathlib.Omega.{arith}
use lib.Dec.{ltb, eqb}
use borrow.Author.Tests.{le-ltb, le-leb, leb-true, ltb-false, eqb-true, eq-eqb}
use Rattle.paging.proofs.Cases.{below?, no_truth}
use Rattle.scan.proofs.Scans.{tell}
use Rattle.common.specs.Flags.{grants, rights}
use Rattle.space.specs.Passes.{Paged}
use Rattle.space.specs.declared.Mapping.{Mapping}
use native.Mathlib.Numerals.{add-one}
use Rattle.space.specs.Space.{mapping_at, mapping_place}
use Rattle.space.specs.declared.Space.{Space}
use Rattle.vmar_protect.specs.Protect.{touches, touching, part_from, part_to, part_in, total, denies, changed}

-- what touches belongs to the region, and neither range lies beyond the other
pub touch_means : (o r a n begin end : ℕ) → touches o r a n begin end ≡ true → (o ≡ r) × (begin ≤ a + n) × (a ≤ end)
unfolding touches
touch_means o r a n begin end e =
    ⊎_elim
    (λ (x : eqb o r ≡ true). ⊎_elim
    (λ (y : ltb (a + n) begin ≡ true). no_truth (rw (x, y) at e))
    (λ (y : ltb (a + n) begin ≡ false). (eqb-true o r x, ltb-false (a + n) begin y, leb-true a end (rw (x, y) at e)))
    (tell (ltb (a + n) begin)))
    (λ (x : eqb o r ≡ false). no_truth (rw x at e))
    (tell (eqb o r))

-- and the other way
pub touch_of : (o r a n begin end : ℕ) → o ≡ r → begin ≤ a + n → a ≤ end → touches o r a n begin end ≡ true
unfolding touches
touch_of o r a n begin end e l h = rw (eq-eqb o r e, le-ltb (a + n) begin l) (le-leb a end h)

-- where a part begins and ends
pub from_is : (m : Mapping) (begin : ℕ) → (m.addr ≤ part_from m begin) × (begin ≤ part_from m begin) × ((part_from m begin ≡ m.addr) ⊎ (part_from m begin ≡ begin))
unfolding part_from
from_is m begin =
    (omega arith, omega arith, ⊎_elim (λ (l : begin < m.addr). inl (omega arith)) (λ (l : m.addr ≤ begin). inr (omega arith)) (below? begin m.addr))

pub to_is : (m : Mapping) (end : ℕ) → (part_to m end ≤ m.addr + m.size) × (part_to m end ≤ end) × ((part_to m end ≡ m.addr + m.size) ⊎ (part_to m end ≡ end))
unfolding part_to
to_is m end =
    (omega arith, omega arith, ⊎_elim (λ (l : end < m.addr + m.size). inr (omega arith)) (λ (l : m.addr + m.size ≤ end). inl (omega arith)) (below? end (m.addr + m.size)))

-- the part of a touching mapping does not end before it begins
pub part_runs : (m : Mapping) (begin end : ℕ) → begin ≤ end → begin ≤ m.addr + m.size → m.addr ≤ end → part_from m begin ≤ part_to m end
part_runs m begin end b l h =
    let f = from_is m begin in
    let t = to_is m end in
    ⊎_elim
    (λ (x : part_from m begin ≡ m.addr). ⊎_elim (λ (y : part_to m end ≡ m.addr + m.size). omega arith) (λ (y : part_to m end ≡ end). omega arith) t.2)
    (λ (x : part_from m begin ≡ begin). ⊎_elim (λ (y : part_to m end ≡ m.addr + m.size). omega arith) (λ (y : part_to m end ≡ end). omega arith) t.2)
    f.2

module _ (m : Mapping) (r begin end : ℕ) where
  -- what a mapping adds, by whether it touches
  pub part_there : touching m r begin end ≡ true → part_to m end - part_from m begin ≡ part_in m r begin end
  unfolding part_in
  part_there e = rw e

  pub part_none : touching m r begin end ≡ false → 0 ≡ part_in m r begin end
  unfolding part_in
  part_none e = rw e

  -- a part is no longer than its mapping
  pub part_most : part_in m r begin end ≤ m.size
  unfolding part_in
  part_most =
      let f = from_is m begin in
      let f0 = f.0 in
      let t = to_is m end in
      let t0 = t.0 in
      ⊎_elim (λ (e : touching m r begin end ≡ true). rw e (omega arith)) (λ (e : touching m r begin end ≡ false). rw e (omega arith)) (tell (touching m r begin end))

  -- whether it denies, by the same
  pub denies_there : (access : ℕ) → touching m r begin end ≡ true → not (grants m.permissions (rights access)) ≡ denies m r begin end access
  unfolding denies
  denies_there access e = rw e

  pub denies_none : (access : ℕ) → touching m r begin end ≡ false → false ≡ denies m r begin end access
  unfolding denies
  denies_none access e = rw e

  -- the changed pages are the mapping's own
  pub changed_in : Paged m → begin ≤ end → touching m r begin end ≡ true → (changed m begin end).first + (changed m begin end).count ≤ m.size / 4096
  changed_in g b e =
      let w = touch_means _ r _ _ begin end e in
      let w1 = w.1 in
      let w2 = w.2 in
      let f = from_is m begin in
      let f0 = f.0 in
      let t = to_is m end in
      let t0 = t.0 in
      let x = part_runs m begin end b w1 w2 in
      omega arith

-- one more place
pub total_more : (s : Space) (r begin end k : ℕ) → total s r begin end k + part_in (mapping_at s (mapping_place s k)) r begin end ≡ total s r begin end (k + 1)
unfolding total
total_more s r begin end k = rw (add-one k)

pub total_none : (s : Space) (r begin end : ℕ) → 0 ≡ total s r begin end 0
unfolding total
total_none s r begin end = refl
