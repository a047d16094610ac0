-- The regions that go, from the top: a child and what is below it. And why a depth of 32 suffices.
use Prim.Native.Nat.{ℕ, zero, suc, ◌+◌, ◌-◌, ◌≤◌, ◌<◌}
use mathlib.Core.Path.{◌≡◌, refl, sym, ◌∙◌, subst}
use mathlib.Core.Bool.{true, false}
use mathlib.Core.List.{List}
use mathlib.Core.Logic.{◌⊎◌, inl, inr, ⊎_elim}
use native.Mathlib.Omega.{arith}
use lib.Dec.{eqb}
use borrow.Author.Tests.{eqb-true, eq-eqb}
use Rattle.paging.proofs.Cases.{same?, below?, no_truth}
use Rattle.scan.proofs.Scans.{tell}
use Rattle.space.specs.Range.{inside}
use Rattle.space.specs.Space.{region_at, is_region, region_place}
use Rattle.space.specs.Passes.{Passes, RootRange}
use Rattle.space.specs.declared.Region.{Region}
use Rattle.space.specs.declared.Space.{Space}
use Rattle.space.proofs.Facts.{region_place_lem, child_in}
use Rattle.space.proofs.Ranges.{inner_of}
use Rattle.vmar_doom.specs.Doomed.{is_child_in, Doomed, child, below}
use Rattle.vmar_cuts.specs.Cuts.{END}

pub child_parent : (g : Region) (r b e : ℕ) → is_child_in g r b e ≡ true → g.parent ≡ r
unfolding is_child_in
child_parent g r b e q = ⊎_elim (λ (a : eqb g.parent r ≡ true). eqb-true g.parent r a) (λ (a : eqb g.parent r ≡ false). no_truth (rw a at q)) (tell (eqb g.parent r))

pub child_of : (g : Region) (r b e : ℕ) → g.parent ≡ r → inside g.addr g.size b (e - b) ≡ true → is_child_in g r b e ≡ true
unfolding is_child_in
child_of g r b e q i = rw (eq-eqb g.parent r q, i)

-- what goes with a region that goes
pub with : {s : Space} {r b e i x : ℕ} → Doomed s r b e i → Doomed s i 0 END x → Doomed s r b e x
with {s} {r} {b} {e} {i} d (child x l a q) = below x l a (subst (Doomed s r b e) (sym (child_parent (region_at s x) i 0 END q)) d)
with d (below x l a u) = below x l a (with d u)

-- a region ends at END at most: a root does, and each lies in its parent, which stands before it
root_most : (a n : ℕ) → RootRange a n → a + n ≤ END
root_most a n (inl e) = omega (arith, e.1)
root_most a n (inr e) = omega (arith, e.0, e.1)

module _ {s : Space} {flags : List ℕ} (p : Passes s flags) where
  place_most : (n k : ℕ) → k < n → k < s.regcount → (region_at s (region_place s k)).addr + (region_at s (region_place s k)).size ≤ END
  place_most zero k l h = absurd (omega arith)
  place_most (suc n) k l h =
      ⊎_elim
      (λ (e : (region_at s (region_place s k)).parent ≡ 32). root_most _ _ (p.tree.range k h e))
      (λ (e : (region_at s (region_place s k)).parent ≡ 32 → ⊥).
      let m = p.tree.parent k h e in
      let b = m.1 in
      let up = place_most n m.0 (omega arith) (omega arith) in
      let at = p.regions.slot m.0 (omega arith) in
      let i = child_in p (region_place s k) (region_place s m.0) (region_place_lem p k h).0 (region_place_lem p k h).1 at (sym m.2) in
      omega (arith, i.1))
      (same? _ _)

  -- so that each child of a region is within [0, END)
  pub any_child : (r i : ℕ) → i < 32 → is_region s i ≡ true → (region_at s i).parent ≡ r → is_child_in (region_at s i) r 0 END ≡ true
  any_child r i l a q =
      let m = p.regions.whole i l a in
      let e = subst (λ (j : ℕ). (region_at s j).addr + (region_at s j).size ≤ END) m.2 (place_most (suc m.0) m.0 (omega arith) m.1) in
      child_of (region_at s i) r 0 END q (inner_of (region_at s i).addr (region_at s i).size 0 (END - 0) (omega arith) (omega arith))

  -- a region that goes is a child within the range, or goes with one
  pub record Top (r b e x : ℕ) : Type 0 where
    pub slot : ℕ
    pub in_slots : slot < 32
    pub live : is_region s slot ≡ true
    pub is_child : is_child_in (region_at s slot) r b e ≡ true
    pub is_below : (x ≡ slot) ⊎ Doomed s slot 0 END x

  pub top : {r b e x : ℕ} → Doomed s r b e x → Top r b e x
  top (child x l a q) = record { slot = x; in_slots = l; live = a; is_child = q; is_below = inl refl }
  top (below x l a u) =
      let t = top u in
      record {
        slot = t.slot;
        in_slots = t.in_slots;
        live = t.live;
        is_child = t.is_child;
        is_below = inr (⊎_elim
            (λ (q : (region_at s x).parent ≡ t.slot). child x l a (any_child t.slot x l a q))
            (λ (q : Doomed s t.slot 0 END (region_at s x).parent). below x l a q)
            t.is_below);
      }

  -- a slot stands at one place
  one_place : (j k : ℕ) → j < s.regcount → k < s.regcount → region_place s j ≡ region_place s k → j ≡ k
  one_place j k a b e =
      ⊎_elim
      (λ (l : j < k). absurd (p.regions.once j k l b e))
      (λ (l : k ≤ j). ⊎_elim (λ (q : k ≡ j). sym q) (λ (n : k ≡ j → ⊥). absurd (p.regions.once k j (omega arith) a (sym e))) (same? k j))
      (below? j k)

  -- a child stands after its parent
  later : (k j : ℕ) → k < s.regcount → j < s.regcount → (region_at s (region_place s j)).parent ≡ region_place s k → k < j
  later k j a b q =
      let slot = p.regions.slot k a in
      let up = p.tree.parent j b (λ z. omega arith) in
      let h = up.1 in
      let same = one_place up.0 k (omega arith) a (up.2 ∙ q) in
      omega arith

  -- so much depth reaches the end of the list from each child of r
  abbrev pub Reaches : ℕ → ℕ → Type 0
  Reaches d r = (k : ℕ) → k < s.regcount → (region_at s (region_place s k)).parent ≡ r → s.regcount ≤ k + d

  pub reaches_all : (r : ℕ) → Reaches 32 r
  reaches_all r k h q = let z = p.regions.room in omega arith

  pub reaches_below : (d r k : ℕ) → Reaches (suc d) r → k < s.regcount → (region_at s (region_place s k)).parent ≡ r → Reaches d (region_place s k)
  reaches_below d r k R h q j l u = let a = R k h q in let z = later k j h l u in omega arith
