-- In a space that passes its check one mapping at most holds an address: two regions that share one are the same, or one is below the other.
use Prim.Native.Nat.{ℕ, zero, suc, ◌+◌, ◌≤◌, ◌<◌}
use mathlib.Core.Path.{◌≡◌, refl, sym, ◌∙◌, ap, subst}
use mathlib.Core.Bool.{true}
use mathlib.Core.List.{List}
use mathlib.Core.Logic.{◌⊎◌, inl, inr, ⊎_elim}
use native.Mathlib.Omega.{arith}
use Rattle.paging.proofs.Cases.{same?, below?}
use Rattle.space.specs.Space.{region_at, mapping_at, is_region, region_place}
use Rattle.space.specs.Passes.{Passes}
use Rattle.space.specs.declared.Space.{Space}
use Rattle.space.proofs.Facts.{region_place_lem, child_in, mapping_in}
use Rattle.vmar_cuts.specs.Laws.{Lies}
use Rattle.vmar_cuts.proofs.Apart.{mappings_off, regions_off, both_off}
use Rattle.vmar_prune_laws.specs.Calls.{Under, child, deeper}

pub under_lives : {s : Space} {r i : ℕ} → Under s r i → (i < 32) × (is_region s i ≡ true)
under_lives (child i l a q) = (l, a)
under_lives (deeper i l a d) = (l, a)

-- slot i holds a region that holds v
pub record Holds (s : Space) (v i : ℕ) : Type 0 where
  pub slot : i < 32
  pub live : is_region s i ≡ true
  pub from : (region_at s i).addr ≤ v
  pub to : v < (region_at s i).addr + (region_at s i).size

-- the child of r that i is, or is below
pub record Top (s : Space) (r i : ℕ) : Type 0 where
  pub at : ℕ
  pub slot : at < 32
  pub live : is_region s at ≡ true
  pub parent : (region_at s at).parent ≡ r
  pub below : (at ≡ i) ⊎ Under s at i

pub top : {s : Space} {r i : ℕ} → Under s r i → Top s r i
top (child i l a q) = record { at = i; slot = l; live = a; parent = q; below = inl refl }
top {s} {r} (deeper i l a d) =
    let t : Top s r (region_at s i).parent = top d in
    record {
      at = t.at;
      slot = t.slot;
      live = t.live;
      parent = t.parent;
      below = ⊎_elim (λ (q : t.at ≡ (region_at s i).parent). inr (child i l a (sym q))) (λ (u : Under s t.at (region_at s i).parent). inr (deeper i l a u)) t.below;
    }

-- two slots: the same, or one below the other
abbrev pub Akin : Space → ℕ → ℕ → Type 0
Akin s x y = (x ≡ y) ⊎ (Under s x y ⊎ Under s y x)

pub akin_flip : (s : Space) (x y : ℕ) → Akin s x y → Akin s y x
akin_flip s x y (inl q) = inl (sym q)
akin_flip s x y (inr (inl u)) = inr (inr u)
akin_flip s x y (inr (inr u)) = inr (inl u)

module _ {s : Space} {flags : List ℕ} (p : Passes s flags) where
  -- what lies below a region lies in it
  pub under_in : {r i : ℕ} → r < 32 → Under s r i → ((region_at s r).addr ≤ (region_at s i).addr) × ((region_at s i).addr + (region_at s i).size ≤ (region_at s r).addr + (region_at s r).size)
  under_in {r} h (child i l a q) = child_in p i r l a h q
  under_in {r} h (deeper i l a d) =
      let x = child_in p i (region_at s i).parent l a (under_lives d).0 refl in
      let o = under_in h d in
      (omega (arith, x.0, o.0), omega (arith, x.1, o.1))

  -- a slot stands at one place
  pub one_place : (j k : ℕ) → j < s.regcount → k < s.regcount → region_place s j ≡ region_place s k → j ≡ k
  one_place j k l h q =
      ⊎_elim
      (λ (n : j < k). absurd (p.regions.once j k n h q))
      (λ (n : k ≤ j). ⊎_elim (λ (t : k ≡ j). sym t) (λ (t : k ≡ j → ⊥). absurd (p.regions.once k j (omega arith) l (sym q))) (same? k j))
      (below? j k)

  module _ (v : ℕ) where
    top_holds : {r i : ℕ} → Holds s v i → (t : Top s r i) → Holds s v t.at
    top_holds {r} {i} h t =
        ⊎_elim
        (λ (q : t.at ≡ i). subst (Holds s v) (sym q) h)
        (λ (u : Under s t.at i).
        let w = under_in t.slot u in
        let f = h.from in
        let e = h.to in
        record { slot = t.slot; live = t.live; from = omega (arith, w.0); to = omega (arith, w.1) })
        t.below

    -- a parent is akin, and so is its child
    step : (x y : ℕ) → Holds s v x → Holds s v y → Akin s x (region_at s y).parent → Akin s x y
    step x y hx hy (inl q) = inr (inl (child y hy.slot hy.live (sym q)))
    step x y hx hy (inr (inl u)) = inr (inl (deeper y hy.slot hy.live u))
    step x y hx hy (inr (inr u)) =
        let t = top u in
        let ht = top_holds hx t in
        ⊎_elim
        (λ (q : t.at ≡ y). ⊎_elim
        (λ (w : t.at ≡ x). inl (sym w ∙ q))
        (λ (w : Under s t.at x). inr (inr (subst (λ (z : ℕ). Under s z x) q w)))
        t.below)
        (λ (q : t.at ≡ y → ⊥).
        let o = regions_off p t.at y q t.slot hy.slot t.live hy.live t.parent in
        let a = ht.from in
        let b = ht.to in
        let c = hy.from in
        let d = hy.to in
        absurd (⊎_elim (λ (l : (region_at s t.at).addr + (region_at s t.at).size ≤ (region_at s y).addr). omega arith)
        (λ (l : (region_at s y).addr + (region_at s y).size ≤ (region_at s t.at).addr). omega arith) o))
        (same? t.at y)

    -- the parent of a region that is not first in the list, and its place
    record Up (k : ℕ) : Type 0 where
      place : ℕ
      before : place < k
      is : region_place s place ≡ (region_at s (region_place s k)).parent
      holds : Holds s v (region_place s place)

    up : (k : ℕ) → 0 < k → k < s.regcount → Holds s v (region_place s k) → Up k
    up k n l h =
        let m = p.tree.parent k l (λ q. let z = p.tree.root k l q in omega arith) in
        let b = m.1 in
        let at = region_place_lem p m.0 (omega arith) in
        let w = child_in p (region_place s k) (region_place s m.0) h.slot h.live at.0 (sym m.2) in
        let f = h.from in
        let e = h.to in
        let hold : Holds s v (region_place s m.0) = record { slot = at.0; live = at.1; from = omega (arith, w.0); to = omega (arith, w.1) } in
        record { place = m.0; before = b; is = m.2; holds = hold }

    places : (n j k : ℕ) → j + k < n → j < s.regcount → k < s.regcount → Holds s v (region_place s j) → Holds s v (region_place s k) → Akin s (region_place s j) (region_place s k)
    places zero j k b l h hj hk = absurd (omega arith)
    places (suc n) j k b l h hj hk =
        ⊎_elim
        (λ (q : j ≡ k). inl (ap (region_place s) q))
        (λ (q : j ≡ k → ⊥). ⊎_elim
        (λ (z : j < k).
        let u = up k (omega arith) h hk in
        let c = u.before in
        step (region_place s j) (region_place s k) hj hk
        (subst (Akin s (region_place s j)) u.is (places n j u.place (omega arith) l (omega arith) hj u.holds)))
        (λ (z : k ≤ j).
        let u = up j (omega arith) l hj in
        let c = u.before in
        akin_flip s (region_place s k) (region_place s j)
        (step (region_place s k) (region_place s j) hk hj
        (akin_flip s (region_at s (region_place s j)).parent (region_place s k)
        (subst (λ (y : ℕ). Akin s y (region_place s k)) u.is (places n u.place k (omega arith) (omega arith) h u.holds hk)))))
        (below? j k))
        (same? j k)

    pub akin : (x y : ℕ) → Holds s v x → Holds s v y → Akin s x y
    akin x y hx hy =
        let j = p.regions.whole x hx.slot hx.live in
        let k = p.regions.whole y hy.slot hy.live in
        let a = places (suc (j.0 + k.0)) j.0 k.0 (omega arith) j.1 k.1 (subst (Holds s v) (sym j.2) hx) (subst (Holds s v) (sym k.2) hy) in
        subst (λ (z : ℕ). Akin s z y) j.2 (subst (Akin s (region_place s j.0)) k.2 a)

    region_holds : (i : ℕ) → Lies s i v → Holds s v (mapping_at s i).region
    region_holds i L =
        let g = p.inner.region i L.0 L.1 in
        let w = mapping_in p i (mapping_at s i).region L.0 L.1 refl in
        let f = L.2 in
        let e = L.3 in
        record { slot = g.0; live = g.1; from = omega (arith, w.0); to = omega (arith, w.1) }

    -- no region below that of a mapping holds what the mapping holds
    not_below : (i y : ℕ) → Lies s i v → Holds s v y → Under s (mapping_at s i).region y → ⊥
    not_below i y L h u =
        let t = top u in
        let ht = top_holds h t in
        let f = L.2 in
        let e = L.3 in
        let a = ht.from in
        let b = ht.to in
        ⊎_elim (λ (l : (region_at s t.at).addr + (region_at s t.at).size ≤ (mapping_at s i).addr). omega arith)
        (λ (l : (mapping_at s i).addr + (mapping_at s i).size ≤ (region_at s t.at).addr). omega arith)
        (both_off p t.at i t.slot L.0 t.live L.1 t.parent)

    -- one mapping at most holds an address
    pub one_holds : (i j : ℕ) → Lies s i v → Lies s j v → i ≡ j
    one_holds i j L M =
        ⊎_elim
        (λ (q : (mapping_at s i).region ≡ (mapping_at s j).region). ⊎_elim
        (λ (z : i ≡ j). z)
        (λ (z : i ≡ j → ⊥).
        let a = L.2 in
        let b = L.3 in
        let c = M.2 in
        let d = M.3 in
        absurd (⊎_elim (λ (l : (mapping_at s i).addr + (mapping_at s i).size ≤ (mapping_at s j).addr). omega arith)
        (λ (l : (mapping_at s j).addr + (mapping_at s j).size ≤ (mapping_at s i).addr). omega arith)
        (mappings_off p i j z L.0 M.0 L.1 M.1 q)))
        (same? i j))
        (λ o. absurd (⊎_elim
        (λ (u : Under s (mapping_at s i).region (mapping_at s j).region). not_below i _ L (region_holds j M) u)
        (λ (u : Under s (mapping_at s j).region (mapping_at s i).region). not_below j _ M (region_holds i L) u)
        o))
        (akin (mapping_at s i).region (mapping_at s j).region (region_holds i L) (region_holds j M))
