-- The depth left never matters on a space that passes its check: a child stands after its parent in the list, so that a descent is no longer than the list.
use Prim.Native.Nat.{ℕ, zero, suc, ◌+◌, ◌≤◌, ◌<◌}
use mathlib.Core.Path.{◌≡◌, refl, sym, ◌∙◌, subst}
use mathlib.Core.List.{List}
use mathlib.Core.Logic.{⊎_elim}
use native.Mathlib.Omega.{arith}
use Rattle.paging.proofs.Cases.{same?, below?}
use Rattle.space.specs.Space.{region_place}
use Rattle.space.specs.Passes.{Passes}
use Rattle.space.specs.declared.Space.{Space}
use Rattle.vmar_lookup.specs.Lookup.{step_at, follow, look, Next, Down, Here, Refused}
use Rattle.vmar_lookup.proofs.Lookups.{Downward, Shown, shown, owned_is}

module _ (s : Space) (flags : List ℕ) (p : Passes s flags) (x : ℕ) where
  -- a slot stands at one place
  pub one_place : (j k : ℕ) → j < s.regcount → k < s.regcount → region_place s j ≡ region_place s k → j ≡ k
  one_place j k a b e =
      ⊎_elim
      (λ (l : j < k). absurd (p.regions.once j k l b e))
      (λ (l : k ≤ j). ⊎_elim (λ (q : k ≡ j). sym q) (λ (n : k ≡ j → ⊥). absurd (p.regions.once k j (omega arith) a (sym e))) (same? k j))
      (below? j k)

  -- a step down goes to a later place
  later : (k c : ℕ) → k < s.regcount → step_at s x (region_place s k) ≡ Down c → (j : ℕ) × (k < j) × (j < s.regcount) × (region_place s j ≡ c)
  later k c l e =
      let d : Downward s x (region_place s k) c = subst (Shown s x (region_place s k)) e (shown s x (region_place s k)) in
      let o = (owned_is _ _ _ _ _ d.holds).0 in
      let slot = p.regions.slot k l in
      let up = p.tree.parent d.place d.below (λ z. omega arith) in
      let b = d.below in
      let h = up.1 in
      let same = one_place up.0 k (omega arith) l (up.2 ∙ o) in
      (d.place, omega arith, d.below, d.is)

  steps : (d e k : ℕ) → k < s.regcount
      → ((c : ℕ) → step_at s x (region_place s k) ≡ Down c → look s x d c ≡ look s x e c)
      → (n : Next) → step_at s x (region_place s k) ≡ n → follow (look s x d) n ≡ follow (look s x e) n
  steps d e k l deeper (Down c) q = deeper c q
  steps d e k l deeper (Here m) q = refl
  steps d e k l deeper (Refused why) q = refl

  -- two depths that reach the end of the list find the same
  pub enough : (d e k : ℕ) → k < s.regcount → s.regcount ≤ k + d → s.regcount ≤ k + e → look s x d (region_place s k) ≡ look s x e (region_place s k)
  unfolding look
  enough zero e k l a b = absurd (omega arith)
  enough (suc d) zero k l a b = absurd (omega arith)
  enough (suc d) (suc e) k l a b =
      steps d e k l
      (λ c q.
      let j = later k c l q in
      let m = j.1 in
      subst (λ (i : ℕ). look s x d i ≡ look s x e i) j.3 (enough d e j.0 j.2 (omega arith) (omega arith)))
      (step_at s x (region_place s k))
      refl

  -- so that 32 is as good as any depth above it
  pub depth : (d k : ℕ) → k < s.regcount → 32 ≤ d → look s x 32 (region_place s k) ≡ look s x d (region_place s k)
  depth d k l h = let z = p.regions.room in enough 32 d k l (omega arith) (omega arith)
