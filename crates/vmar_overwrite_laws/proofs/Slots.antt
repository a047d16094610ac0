-- The slot that the new mapping takes.
use Prim.Native.Nat.{ℕ, ◌+◌, ◌≤◌, ◌<◌}
use mathlib.Core.Path.{◌≡◌, refl, subst}
use mathlib.Core.Bool.{true, false}
use mathlib.Core.Logic.{⊎_elim}
use native.Mathlib.Omega.{arith}
use borrow.Author.Tests.{not-false}
use Rattle.paging.proofs.Cases.{below?, clash}
use Rattle.scan.proofs.Scans.{before_first}
use Rattle.space.specs.Space.{mapping_at, is_mapping}
use Rattle.space.specs.declared.Space.{Space}
use Rattle.vmar_offset.specs.Offset.{is_free_mapping, free_mapping}
use Rattle.vmar_offset.proofs.Found.{free_mapping_lem}
use Rattle.vmar_laws.specs.Search.{FreeIn}
use Rattle.vmar_cuts.proofs.Parts.{overlap_of}
use Rattle.vmar_prune.specs.Prune.{split_slot}
use Rattle.vmar_unmap_laws.specs.Unmaps.{Split}
use Rattle.vmar_unmap_laws.proofs.Tests.{split_found, split_there}
use Rattle.vmar_overwrite.specs.Overwrite.{second_free, new_slot}
use Rattle.vmar_overwrite.proofs.Room.{first_before, two_free, slot_alone, slot_second}
use Rattle.vmar_overwrite_laws.specs.Answers.{NewSlot}

-- below the lowest free slot none is free, nor between it and the next
taken_below : (s : Space) (k : ℕ) → k < free_mapping s → is_mapping s k ≡ true
taken_below s k l = not-false _ (before_first (is_free_mapping s) 64 k l)

taken_between : (s : Space) (k : ℕ) → free_mapping s < k → k < second_free s → is_mapping s k ≡ true
taken_between s k h l = not-false _ (first_before (is_free_mapping s) (free_mapping s + 1) 64 k (omega arith) l)

module _ (s : Space) (r b e : ℕ) (order : b ≤ e) where
  alone : ((j : ℕ) → Split s r b e j → ⊥) → free_mapping s ≡ new_slot s r b e
  alone n =
      ⊎_elim
      (λ (l : split_slot s r b e < 64). absurd (n (split_slot s r b e) (split_found s r b e l)))
      (λ (l : 64 ≤ split_slot s r b e). slot_alone s r b e (split_slot s r b e) refl l)
      (below? (split_slot s r b e) 64)

  second : (j : ℕ) → Split s r b e j → second_free s ≡ new_slot s r b e
  second j k = slot_second s r b e (split_slot s r b e) refl (split_there s r b e order j k)

  -- the definition gives it
  pub slot_is : new_slot s r b e < 64 → NewSlot s r b e (new_slot s r b e)
  slot_is room = record {
    slot = room;
    free = ⊎_elim
        (λ (l : split_slot s r b e < 64).
        let q = slot_second s r b e (split_slot s r b e) refl l in
        subst (λ (x : ℕ). is_mapping s x ≡ false) q (two_free s (omega arith)).free)
        (λ (l : 64 ≤ split_slot s r b e).
        let q = slot_alone s r b e (split_slot s r b e) refl l in
        subst (λ (x : ℕ). is_mapping s x ≡ false) q (free_mapping_lem s (λ z. omega arith)).1)
        (below? (split_slot s r b e) 64);
    lowest = λ n k l. let q = alone n in taken_below s k (omega arith);
    next = λ j w.
        let q = second j w in
        let t = two_free s (omega arith) in
        let low = t.low in
        (free_mapping s, omega arith, t.lower, λ k l d. ⊎_elim (λ (m : k < free_mapping s). taken_below s k m) (λ (m : free_mapping s ≤ k). taken_between s k (omega arith) (omega arith)) (below? k (free_mapping s)));
  }

  -- and it has one where there is one
  pub slot_there : (i : ℕ) → NewSlot s r b e i → new_slot s r b e < 64
  slot_there i w =
      let l = w.slot in
      ⊎_elim
      (λ (m : split_slot s r b e < 64).
      let q = slot_second s r b e (split_slot s r b e) refl m in
      let n = w.next (split_slot s r b e) (split_found s r b e m) in
      let n1 = n.1 in
      let low = lowest_free n.0 n.2 in
      ⊎_elim (λ (h : i < second_free s). clash (is_mapping s i) (taken_between s i (omega arith) h) w.free) (λ (h : second_free s ≤ i). omega arith) (below? i (second_free s)))
      (λ (m : 64 ≤ split_slot s r b e). let q = slot_alone s r b e (split_slot s r b e) refl m in let low = lowest_free i w.free in omega arith)
      (below? (split_slot s r b e) 64)
    where
      lowest_free : (k : ℕ) → is_mapping s k ≡ false → free_mapping s ≤ k
      lowest_free k f = ⊎_elim (λ (h : k < free_mapping s). clash (is_mapping s k) (taken_below s k h) f) (λ (h : free_mapping s ≤ k). h) (below? k (free_mapping s))

-- a range that is free splits nothing, so that the lowest free slot is the new mapping's
module _ (s : Space) (r b len : ℕ) (f : FreeIn s r b len) where
  free_whole : (j : ℕ) → Split s r b (b + len) j → ⊥
  free_whole j k =
      let x = k.before in
      let y = k.after in
      clash _ (overlap_of (mapping_at s j).addr (mapping_at s j).size b len (omega arith) (omega arith)) (f.mappings j k.slot k.live k.region)

  pub free_slot : free_mapping s ≡ new_slot s r b (b + len)
  free_slot = alone s r b (b + len) (omega arith) free_whole
