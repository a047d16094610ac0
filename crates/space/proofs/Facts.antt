-- What a space that passes its check has, for proofs.
use Rattle.std.proofs.Common.{◌≡◌, ℕ, zero, suc, ◌+◌, ◌^◌, ◌<◌, ◌≤◌, Bool, true, false, List, get_or, refl, sym, subst, ⊎_elim, arith}
use Rattle.paging.proofs.Cases.{same?, clash}
use Rattle.scan.proofs.Pigeons.{fewer}
use Rattle.space.specs.Space.{region_at, mapping_at, is_region, is_mapping, region_place, mapping_place}
use Rattle.space.specs.Passes.{Listed, Passes, RootRange}
use Rattle.space.specs.declared.Space.{Space}
use Rattle.space.proofs.Ranges.{inner}

-- a list has room for a slot that is not live
room : {n : ℕ} {list : List ℕ} {count : ℕ} {lives : ℕ → Bool} → Listed n list count lives → (i : ℕ) → i < n → lives i ≡ false → count < n
room {n} {list} {count} l i h free =
    fewer count n (λ k. get_or list k 0) i (record { below = l.slot; once = l.once }) h (λ k m e. clash _ (l.live i h (k, m, e)) free)

module _ {s : Space} {flags : List ℕ} (p : Passes s flags) where
  -- what stands in a list is a live slot
  pub region_place_lem : (k : ℕ) → k < s.regcount → (region_place s k < 32) × (is_region s (region_place s k) ≡ true)
  region_place_lem k l = (p.regions.slot k l, p.regions.live (region_place s k) (p.regions.slot k l) (k, l, refl))

  pub mapping_place_lem : (k : ℕ) → k < s.mapcount → (mapping_place s k < 64) × (is_mapping s (mapping_place s k) ≡ true)
  mapping_place_lem k l = (p.mappings.slot k l, p.mappings.live (mapping_place s k) (p.mappings.slot k l) (k, l, refl))

  -- a child lies in its parent, a mapping in its region
  pub child_in : (i r : ℕ) → i < 32 → is_region s i ≡ true → r < 32 → (region_at s i).parent ≡ r
      → ((region_at s r).addr ≤ (region_at s i).addr) × ((region_at s i).addr + (region_at s i).size ≤ (region_at s r).addr + (region_at s r).size)
  child_in i r l a h e =
      subst (λ (q : ℕ). ((region_at s q).addr ≤ (region_at s i).addr) × ((region_at s i).addr + (region_at s i).size ≤ (region_at s q).addr + (region_at s q).size)) e
      (inner _ _ _ _ (p.inner.child i l a (λ z. omega arith)))

  pub mapping_in : (i r : ℕ) → i < 64 → is_mapping s i ≡ true → (mapping_at s i).region ≡ r
      → ((region_at s r).addr ≤ (mapping_at s i).addr) × ((mapping_at s i).addr + (mapping_at s i).size ≤ (region_at s r).addr + (region_at s r).size)
  mapping_in i r l a e =
      subst (λ (q : ℕ). ((region_at s q).addr ≤ (mapping_at s i).addr) × ((mapping_at s i).addr + (mapping_at s i).size ≤ (region_at s q).addr + (region_at s q).size)) e
      (inner _ _ _ _ (p.inner.mapping i l a))

  -- a root range ends below 2^64, and so does each region below it: by its place, since a parent stands before its children
  root_end : (a n : ℕ) → RootRange a n → a + n < 2 ^ 64
  root_end a n h = grind arith

  place_end : (n k : ℕ) → k < n → k < s.regcount → (region_at s (region_place s k)).addr + (region_at s (region_place s k)).size < 2 ^ 64
  place_end zero k l h = absurd (omega arith)
  place_end (suc n) k l h =
      ⊎_elim
      (λ (e : (region_at s (region_place s k)).parent ≡ 32). root_end _ _ (p.tree.range k h e))
      (λ (e : (region_at s (region_place s k)).parent ≡ 32 → ⊥).
      let m = p.tree.parent k h e in
      let b = m.1 in
      let up = place_end n m.0 (omega arith) (omega arith) in
      let at = p.regions.slot m.0 (omega arith) in
      let i = child_in (region_place s k) (region_place s m.0) (region_place_lem k h).0 (region_place_lem k h).1 at (sym m.2) in
      omega (arith, i.1))
      (same? _ _)

  pub region_end : (i : ℕ) → i < 32 → is_region s i ≡ true → (region_at s i).addr + (region_at s i).size < 2 ^ 64
  region_end i l a =
      let m = p.regions.whole i l a in
      subst (λ (j : ℕ). (region_at s j).addr + (region_at s j).size < 2 ^ 64) m.2 (place_end (suc m.0) m.0 (omega arith) m.1)

  -- where a slot is free, its list has room
  pub region_room : (i : ℕ) → i < 32 → is_region s i ≡ false → s.regcount < 32
  region_room i l e = room p.regions i l e

  pub mapping_room : (i : ℕ) → i < 64 → is_mapping s i ≡ false → s.mapcount < 64
  mapping_room i l e = room p.mappings i l e
