-- What an offset that was found has, and a slot.
use Rattle.std.proofs.Common.{◌≡◌, ℕ, ◌+◌, ◌<◌, Bool, true, false, leb, ltb, eqb, Option, Some, None, Result, Ok, Err, refl, sym, ◌∙◌, ap, subst, arith, ltb-true, eqb-true, eq-eqb, ne_eqb}
use Rattle.std.proofs.lemmas.Bool.{not-true}
use mathlib.Core.Logic.{⊎_elim}
use Rattle.paging.proofs.Cases.{no_truth}
use Rattle.scan.specs.Scan.{first, below}
use Rattle.scan.proofs.Scans.{tell, first_passes}
use Rattle.scan.proofs.Found.{first_in, below_some, found_none}
use Rattle.vm.specs.Align.{multiple}
use Rattle.refusal.specs.declared.Refusal.{Refusal}
use Rattle.space.specs.Space.{region_at, mapping_at, is_region, is_mapping, region_place, mapping_place}
use Rattle.space.specs.declared.Region.{Region}
use Rattle.space.specs.declared.Space.{Space}
use Rattle.vmar_offset.specs.Offset.{has_id, id_at, slot_of, is_free_region, free_region, is_free_mapping, free_mapping, test_map, takes_child, takes_mapping, child_end, mapping_end, find_free_area, found, determine_offset}
use Rattle.vmar_offset.proofs.Offsets.{too_long, at_zero, at_child_lem, at_mapping_lem, nowhere, odd_length, asked_odd, asked_full, asked_free, too_large, searched, no_child, odd_child, tried_child, no_mapping, odd_mapping, tried_mapping}

pub id_of : (g : Region) (id : ℕ) → has_id g id ≡ true → (g.live ≡ true) × (g.id ≡ id)
unfolding has_id
id_of g id t = ⊎_elim (λ (a : g.live ≡ true). (a, eqb-true g.id id (rw a at t))) (λ (a : g.live ≡ false). no_truth (rw a at t)) (tell g.live)

pub has_id_lem : (g : Region) (id : ℕ) → g.live ≡ true → g.id ≡ id → has_id g id ≡ true
unfolding has_id
has_id_lem g id a e = rw (a, eq-eqb g.id id e)

-- what a slot that is found holds
pub slot_live : (s : Space) (id : ℕ) → (slot_of s id ≡ 32 → ⊥) → (slot_of s id < 32) × (is_region s (slot_of s id) ≡ true) × ((region_at s (slot_of s id)).id ≡ id)
slot_live s id e =
    let l = first_in (id_at s id) 32 e in
    let q = id_of (region_at s (slot_of s id)) id (first_passes (id_at s id) 32 l) in
    (l, q.0, q.1)

pub free_region_lem : (s : Space) → (free_region s ≡ 32 → ⊥) → (free_region s < 32) × (is_region s (free_region s) ≡ false)
free_region_lem s e =
    let l = first_in (is_free_region s) 32 e in
    (l, not-true (is_region s (free_region s)) (first_passes (is_free_region s) 32 l))

pub free_mapping_lem : (s : Space) → (free_mapping s ≡ 64 → ⊥) → (free_mapping s < 64) × (is_mapping s (free_mapping s) ≡ false)
free_mapping_lem s e =
    let l = first_in (is_free_mapping s) 64 e in
    (l, not-true (is_mapping s (free_mapping s)) (first_passes (is_free_mapping s) 64 l))

-- the same of a slot as code answers it; that there is none
pub record SlotIs (s : Space) (id r : ℕ) : Type 0 where
  pub at : slot_of s id ≡ r
  pub slot : r < 32
  pub live : is_region s r ≡ true
  pub has : (region_at s r).id ≡ id
  pub is : eqb (slot_of s id) 32 ≡ false

pub slot_is : (s : Space) (id r : ℕ) → below 32 (slot_of s id) ≡ Some r → SlotIs s id r
slot_is s id r e =
    let f = below_some 32 (slot_of s id) r e in
    let q = slot_live s id (λ z. omega (arith, f.0, f.1)) in
    record {
      at = f.0;
      slot = f.1;
      live = subst (λ (i : ℕ). is_region s i ≡ true) f.0 q.1;
      has = subst (λ (i : ℕ). (region_at s i).id ≡ id) f.0 q.2;
      is = ne_eqb (slot_of s id) 32 (λ z. omega (arith, f.0, f.1));
    }

pub slot_none : (s : Space) (id : ℕ) → below 32 (slot_of s id) ≡ None → eqb (slot_of s id) 32 ≡ true
slot_none s id e = eq-eqb _ _ (found_none (id_at s id) 32 (below 32 (slot_of s id)) refl e)

-- slot i is the lowest free one of n
pub record FreeIs (first n : ℕ) (lives : ℕ → Bool) (i : ℕ) : Type 0 where
  pub at : first ≡ i
  pub slot : i < n
  pub free : lives i ≡ false
  pub is : eqb first n ≡ false

pub free_region_is : (s : Space) (i : ℕ) → below 32 (free_region s) ≡ Some i → FreeIs (free_region s) 32 (is_region s) i
free_region_is s i e =
    let f = below_some 32 (free_region s) i e in
    let q = free_region_lem s (λ z. omega (arith, f.0, f.1)) in
    record { at = f.0; slot = f.1; free = subst (λ (j : ℕ). is_region s j ≡ false) f.0 q.1; is = ne_eqb (free_region s) 32 (λ z. omega (arith, f.0, f.1)) }

pub free_region_none : (s : Space) → below 32 (free_region s) ≡ None → eqb (free_region s) 32 ≡ true
free_region_none s e = eq-eqb _ _ (found_none (is_free_region s) 32 (below 32 (free_region s)) refl e)

pub free_mapping_is : (s : Space) (i : ℕ) → below 64 (free_mapping s) ≡ Some i → FreeIs (free_mapping s) 64 (is_mapping s) i
free_mapping_is s i e =
    let f = below_some 64 (free_mapping s) i e in
    let q = free_mapping_lem s (λ z. omega (arith, f.0, f.1)) in
    record { at = f.0; slot = f.1; free = subst (λ (j : ℕ). is_mapping s j ≡ false) f.0 q.1; is = ne_eqb (free_mapping s) 64 (λ z. omega (arith, f.0, f.1)) }

pub free_mapping_none : (s : Space) → below 64 (free_mapping s) ≡ None → eqb (free_mapping s) 64 ≡ true
free_mapping_none s e = eq-eqb _ _ (found_none (is_free_mapping s) 64 (below 64 (free_mapping s)) refl e)

module _ (s : Space) (r len align : ℕ) where
  child_takes : (k : ℕ) → takes_child s r len align k ≡ true → test_map s r (child_end s r k) len ≡ true
  child_takes k t =
      ⊎_elim
      (λ (a : eqb (region_at s (region_place s k)).parent r ≡ true). ⊎_elim
      (λ (m : multiple (child_end s r k) align ≡ true). sym (tried_child s r len align k a m) ∙ t)
      (λ (m : multiple (child_end s r k) align ≡ false). no_truth (sym (odd_child s r len align k a m) ∙ t))
      (tell (multiple (child_end s r k) align)))
      (λ (a : eqb (region_at s (region_place s k)).parent r ≡ false). no_truth (sym (no_child s r len align k a) ∙ t))
      (tell (eqb (region_at s (region_place s k)).parent r))

  mapping_takes : (k : ℕ) → takes_mapping s r len align k ≡ true → test_map s r (mapping_end s r k) len ≡ true
  mapping_takes k t =
      ⊎_elim
      (λ (a : eqb (mapping_at s (mapping_place s k)).region r ≡ true). ⊎_elim
      (λ (m : multiple (mapping_end s r k) align ≡ true). sym (tried_mapping s r len align k a m) ∙ t)
      (λ (m : multiple (mapping_end s r k) align ≡ false). no_truth (sym (odd_mapping s r len align k a m) ∙ t))
      (tell (multiple (mapping_end s r k) align)))
      (λ (a : eqb (mapping_at s (mapping_place s k)).region r ≡ false). no_truth (sym (no_mapping s r len align k a) ∙ t))
      (tell (eqb (mapping_at s (mapping_place s k)).region r))

  same_offset : {a b : ℕ} → ◌≡◌ {A = Option ℕ} (Some a) (Some b) → a ≡ b
  same_offset e = cc

  no_offset : {A : Type 0} {b : ℕ} → ◌≡◌ {A = Option ℕ} None (Some b) → A
  no_offset e = let z : ◌≡◌ {A = ℕ} 0 1 = cc in absurd (omega arith)

  -- the search finds only what is free
  pub area_free : (off : ℕ) → find_free_area s r len align ≡ Some off → test_map s r off len ≡ true
  area_free off e =
      ⊎_elim
      (λ (t : test_map s r 0 len ≡ true). subst (λ (o : ℕ). test_map s r o len ≡ true) (same_offset (at_zero s r len align t ∙ e)) t)
      (λ (t : test_map s r 0 len ≡ false).
      let k = first (takes_child s r len align) 0 s.regcount in
      ⊎_elim
      (λ (l : ltb k s.regcount ≡ true).
      subst (λ (o : ℕ). test_map s r o len ≡ true) (same_offset (at_child_lem s r len align t k refl l ∙ e))
      (child_takes k (first_passes (takes_child s r len align) s.regcount (ltb-true k s.regcount l))))
      (λ (l : ltb k s.regcount ≡ false).
      let j = first (takes_mapping s r len align) 0 s.mapcount in
      ⊎_elim
      (λ (h : ltb j s.mapcount ≡ true).
      subst (λ (o : ℕ). test_map s r o len ≡ true) (same_offset (at_mapping_lem s r len align t k refl l j refl h ∙ e))
      (mapping_takes j (first_passes (takes_mapping s r len align) s.mapcount (ltb-true j s.mapcount h))))
      (λ (h : ltb j s.mapcount ≡ false). no_offset (nowhere s r len align t k refl l j refl h ∙ e))
      (tell (ltb j s.mapcount)))
      (tell (ltb k s.regcount)))
      (tell (test_map s r 0 len))

  same_ok : {a b : ℕ} → ◌≡◌ {A = Result ℕ Refusal} (Ok a) (Ok b) → a ≡ b
  same_ok e = cc

  no_ok : {A : Type 0} {why : Refusal} {b : ℕ} → ◌≡◌ {A = Result ℕ Refusal} (Err why) (Ok b) → A
  no_ok e = let z : ◌≡◌ {A = ℕ} 0 1 = cc in absurd (omega arith)

  of_found : (a : Option ℕ) (off : ℕ) → found a ≡ Ok off → a ≡ Some off
  of_found (Some at) off e = ap (λ (x : ℕ). Some x) (same_ok e)
  of_found None off e = no_ok e

  -- so does `determine_offset`
  pub determined_free : (o : Option ℕ) (off : ℕ) → determine_offset s r o len align ≡ Ok off → test_map s r off len ≡ true
  determined_free o off e =
      ⊎_elim
      (λ (m : multiple len align ≡ true). by o refl m)
      (λ (m : multiple len align ≡ false). no_ok (odd_length s r len align o m ∙ e))
      (tell (multiple len align))
    where
      by : (a : Option ℕ) → o ≡ a → multiple len align ≡ true → test_map s r off len ≡ true
      by (Some at) q m =
          ⊎_elim
          (λ (t : multiple at align ≡ true). ⊎_elim
          (λ (f : test_map s r at len ≡ true). subst (λ (x : ℕ). test_map s r x len ≡ true) (same_ok (asked_free s r len align o m at q t f ∙ e)) f)
          (λ (f : test_map s r at len ≡ false). no_ok (asked_full s r len align o m at q t f ∙ e))
          (tell (test_map s r at len)))
          (λ (t : multiple at align ≡ false). no_ok (asked_odd s r len align o m at q t ∙ e))
          (tell (multiple at align))
      by None q m =
          ⊎_elim
          (λ (t : ltb (region_at s r).size len ≡ true). no_ok (too_large s r len align o m q t ∙ e))
          (λ (t : ltb (region_at s r).size len ≡ false). area_free off (of_found (find_free_area s r len align) off (searched s r len align o m q t ∙ e)))
          (tell (ltb (region_at s r).size len))

-- what is free has room
pub free_fits : (s : Space) (r off len : ℕ) → test_map s r off len ≡ true → leb (off + len) (region_at s r).size ≡ true
free_fits s r off len t =
    ⊎_elim
    (λ (l : leb (off + len) (region_at s r).size ≡ true). l)
    (λ (l : leb (off + len) (region_at s r).size ≡ false). no_truth (too_long s r off len l ∙ t))
    (tell (leb (off + len) (region_at s r).size))
