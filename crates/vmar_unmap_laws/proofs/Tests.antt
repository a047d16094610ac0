-- What the tests of the calls say of a space that passes its check.
use Prim.Native.Nat.{ℕ, zero, suc, ◌+◌, ◌-◌, ◌≤◌, ◌<◌}
use mathlib.Core.Path.{◌≡◌}
use mathlib.Core.Bool.{Bool, true, false}
use mathlib.Core.List.{List}
use mathlib.Core.Logic.{⊎_elim}
use native.Mathlib.Omega.{arith}
use lib.Dec.{eqb, ltb}
use borrow.Author.Tests.{ltb-true, lt-ltb, eqb-true, eq-eqb, not-true, not-false}
use Rattle.paging.proofs.Cases.{below?, no_truth, clash}
use Rattle.scan.specs.Scan.{some_of, some}
use Rattle.scan.proofs.Scans.{tell, none_passes, first_passes, first_most, before_first}
use Rattle.space.specs.Range.{overlap, inside}
use Rattle.space.specs.Space.{region_at, mapping_at, is_region, region_place}
use Rattle.space.specs.Passes.{Passes}
use Rattle.space.specs.declared.Region.{Region}
use Rattle.space.specs.declared.Space.{Space}
use Rattle.space.proofs.Facts.{region_place_lem}
use Rattle.space.proofs.Ranges.{inner, inner_of}
use Rattle.vmar_offset.specs.Offset.{is_free_mapping, free_mapping, child_meets}
use Rattle.vmar_offset.specs.Offset as offset
use Rattle.vmar_cuts.proofs.Parts.{overlaps, overlap_of}
use Rattle.vmar_prune.specs.Prune.{split_at, split_slot}
use Rattle.vmar_prune_laws.proofs.Pieces.{before_most, before_least, after_most, after_least, split_is, split_of}
use Rattle.vmar_unmap.specs.Unmap.{is_partly, partly_at, dead_at, has_dead, lacks_slot}
use Rattle.vmar_unmap_laws.specs.Ready.{NeverDead}
use Rattle.vmar_unmap_laws.specs.Unmaps.{Partly, Split, Short}

-- where some index passes, here is one
some_of_one : (p : ℕ → Bool) (k i : ℕ) → some_of p i k ≡ true → (j : ℕ) × (j < i + k) × (p j ≡ true)
unfolding some_of
some_of_one p zero i e = no_truth e
some_of_one p (suc k) i e =
    ⊎_elim
    (λ (t : p i ≡ true). (i, omega arith, t))
    (λ (t : p i ≡ false). let n = some_of_one p k (i + 1) (rw t at e) in let l = n.1 in (n.0, omega arith, n.2))
    (tell (p i))

pub one_passes : (p : ℕ → Bool) (n : ℕ) → some p 0 n ≡ true → (j : ℕ) × (j < n) × (p j ≡ true)
unfolding some
one_passes p n e = let k = some_of_one p (n - 0) 0 e in let l = k.1 in (k.0, omega arith, k.2)

-- every listed region is alive
pub none_dead : {s : Space} {f : List ℕ} → Passes s f → has_dead s ≡ false
none_dead {s} p =
    ⊎_elim
    (λ (d : has_dead s ≡ true). let k = one_passes (dead_at s) s.regcount d in clash (is_region s (region_place s k.0)) (region_place_lem p k.0 k.1).1 (not-true _ k.2))
    (λ (d : has_dead s ≡ false). d)
    (tell (has_dead s))

pub never_dead : NeverDead
never_dead = record { holds = λ s f p. none_dead p }

-- a child that the range meets in part
partly_parts : (g : Region) (r b e : ℕ) → is_partly g r b e ≡ true → (child_meets g r b (e - b) ≡ true) × (inside g.addr g.size b (e - b) ≡ false)
unfolding is_partly
partly_parts g r b e t =
    ⊎_elim
    (λ (m : child_meets g r b (e - b) ≡ true). (m, not-true _ (rw m at t)))
    (λ (m : child_meets g r b (e - b) ≡ false). no_truth (rw m at t))
    (tell (child_meets g r b (e - b)))

pub partly_from : (g : Region) (r b e : ℕ) → child_meets g r b (e - b) ≡ true → inside g.addr g.size b (e - b) ≡ false → is_partly g r b e ≡ true
unfolding is_partly
partly_from g r b e m i = rw (m, i)

meets_parts : (g : Region) (r b n : ℕ) → child_meets g r b n ≡ true → (g.live ≡ true) × (g.parent ≡ r) × (overlap g.addr g.size b n ≡ true)
unfolding offset.meets
meets_parts g r b n t =
    ⊎_elim
    (λ (l : g.live ≡ true). ⊎_elim
    (λ (q : eqb g.parent r ≡ true). (l, eqb-true _ _ q, rw (l, q) at t))
    (λ (q : eqb g.parent r ≡ false). no_truth (rw (l, q) at t))
    (tell (eqb g.parent r)))
    (λ (l : g.live ≡ false). no_truth (rw l at t))
    (tell g.live)

meets_from : (g : Region) (r b n : ℕ) → g.live ≡ true → g.parent ≡ r → overlap g.addr g.size b n ≡ true → child_meets g r b n ≡ true
unfolding offset.meets
meets_from g r b n l q o = rw (l, eq-eqb g.parent r q, o)

module _ (s : Space) (r b e : ℕ) (h : b ≤ e) where
  pub partly_is : (i : ℕ) → i < 32 → partly_at s r b e i ≡ true → Partly s r b e i
  partly_is i l t =
      let w = partly_parts (region_at s i) r b e t in
      let m = meets_parts (region_at s i) r b (e - b) w.0 in
      let o = overlaps _ _ _ _ m.2 in
      let o0 = o.0 in
      record {
        slot = l;
        live = m.0;
        parent = m.1;
        from = omega arith;
        to = o.1;
        beyond = λ k. let k0 = k.0 in let k1 = k.1 in clash _ (inner_of (region_at s i).addr (region_at s i).size b (e - b) k0 (omega arith)) w.1;
      }

  pub partly_of : (i : ℕ) → Partly s r b e i → partly_at s r b e i ≡ true
  partly_of i k =
      let f = k.from in
      let t = k.to in
      partly_from (region_at s i) r b e (meets_from (region_at s i) r b (e - b) k.live k.parent (overlap_of _ _ _ _ (omega arith) t))
      (⊎_elim
      (λ (x : inside (region_at s i).addr (region_at s i).size b (e - b) ≡ true).
      let y = inner _ _ _ _ x in
      let y1 = y.1 in
      absurd (k.beyond (y.0, omega arith)))
      (λ (x : inside (region_at s i).addr (region_at s i).size b (e - b) ≡ false). x)
      (tell (inside (region_at s i).addr (region_at s i).size b (e - b))))

  -- the scan finds one, or there is none
  pub some_partly : some (partly_at s r b e) 0 32 ≡ true → (i : ℕ) × Partly s r b e i
  some_partly t = let k = one_passes (partly_at s r b e) 32 t in (k.0, partly_is k.0 k.1 k.2)

  pub no_partly : some (partly_at s r b e) 0 32 ≡ false → (i : ℕ) → Partly s r b e i → ⊥
  no_partly t i k = clash _ (partly_of i k) (none_passes (partly_at s r b e) 0 32 i t (omega arith) k.slot)

  pub partly_some : (i : ℕ) → Partly s r b e i → some (partly_at s r b e) 0 32 ≡ true
  partly_some i k =
      ⊎_elim
      (λ (t : some (partly_at s r b e) 0 32 ≡ true). t)
      (λ (t : some (partly_at s r b e) 0 32 ≡ false). absurd (no_partly t i k))
      (tell (some (partly_at s r b e) 0 32))

  pub partly_none : ((i : ℕ) → Partly s r b e i → ⊥) → some (partly_at s r b e) 0 32 ≡ false
  partly_none n =
      ⊎_elim
      (λ (t : some (partly_at s r b e) 0 32 ≡ true). let k = some_partly t in absurd (n k.0 k.1))
      (λ (t : some (partly_at s r b e) 0 32 ≡ false). t)
      (tell (some (partly_at s r b e) 0 32))

-- a split without a slot
lacks_parts : (s : Space) (r b e : ℕ) → lacks_slot s r b e ≡ true → (split_slot s r b e < 64) × (free_mapping s ≡ 64)
unfolding lacks_slot
lacks_parts s r b e t =
    ⊎_elim
    (λ (l : ltb (split_slot s r b e) 64 ≡ true). (ltb-true _ _ l, eqb-true _ _ (rw l at t)))
    (λ (l : ltb (split_slot s r b e) 64 ≡ false). no_truth (rw l at t))
    (tell (ltb (split_slot s r b e) 64))

lacks_from : (s : Space) (r b e : ℕ) → split_slot s r b e < 64 → free_mapping s ≡ 64 → lacks_slot s r b e ≡ true
unfolding lacks_slot
lacks_from s r b e l q = rw (lt-ltb (split_slot s r b e) 64 l, eq-eqb (free_mapping s) 64 q)

module _ (s : Space) (r b e : ℕ) where
  -- the slot of a mapping that is split
  pub split_found : split_slot s r b e < 64 → Split s r b e (split_slot s r b e)
  split_found l =
      let i = split_slot s r b e in
      let k = split_is (mapping_at s i) r b e (first_passes (split_at s r b e) 64 l) in
      let k2 = k.2 in
      let k3 = k.3 in
      let x = (before_most (mapping_at s i) b).1 in
      let y = (after_most (mapping_at s i) e).1 in
      record { slot = l; live = k.0; region = k.1; before = omega arith; after = omega arith }

  pub split_there : b ≤ e → (i : ℕ) → Split s r b e i → split_slot s r b e < 64
  split_there h i k =
      let x = k.before in
      let y = k.after in
      let l = k.slot in
      let u = before_least (mapping_at s i) b 1 (omega arith) (omega arith) in
      let v = after_least (mapping_at s i) e 1 (omega arith) (omega arith) in
      ⊎_elim
      (λ (n : i < split_slot s r b e).
      clash _ (split_of (mapping_at s i) r b e k.live k.region (omega arith) (omega arith)) (before_first (split_at s r b e) 64 i n))
      (λ (n : split_slot s r b e ≤ i). omega arith)
      (below? i (split_slot s r b e))

  pub short_is : lacks_slot s r b e ≡ true → Short s r b e (split_slot s r b e)
  short_is t =
      let w = lacks_parts s r b e t in
      let z = w.1 in
      record { split = split_found w.0; full = λ j l. not-false _ (before_first (is_free_mapping s) 64 j (omega arith)) }

  pub short_of : (i : ℕ) → b ≤ e → Short s r b e i → lacks_slot s r b e ≡ true
  short_of i h k = lacks_from s r b e (split_there h i k.split) full
    where
      full : free_mapping s ≡ 64
      full =
          let m = first_most (is_free_mapping s) 64 in
          ⊎_elim
          (λ (n : free_mapping s < 64). clash _ (k.full (free_mapping s) n) (not-true _ (first_passes (is_free_mapping s) 64 n)))
          (λ (n : 64 ≤ free_mapping s). omega arith)
          (below? (free_mapping s) 64)

  pub short_none : b ≤ e → ((i : ℕ) → Short s r b e i → ⊥) → lacks_slot s r b e ≡ false
  short_none h n =
      ⊎_elim
      (λ (t : lacks_slot s r b e ≡ true). absurd (n (split_slot s r b e) (short_is t)))
      (λ (t : lacks_slot s r b e ≡ false). t)
      (tell (lacks_slot s r b e))

  pub no_short : b ≤ e → lacks_slot s r b e ≡ false → (i : ℕ) → Short s r b e i → ⊥
  no_short h t i k = clash _ (short_of i h k) t
