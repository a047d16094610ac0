-- Lookups by what their tests show.
use Prim.Native.Nat.{ℕ, zero, suc, ◌+◌, ◌-◌, ◌/◌, ◌≤◌, ◌<◌}
use mathlib.Core.Path.{◌≡◌, refl, ap, subst}
use mathlib.Core.Bool.{true, false}
use mathlib.Core.List.{List}
use mathlib.Core.Logic.{⊎_elim}
use native.Mathlib.Omega.{arith}
use lib.Dec.{ltb, eqb}
use borrow.Author.Tests.{ltb-true, eqb-true, eq-eqb}
use Rattle.std.specs.Prelude.{Result, Ok, Err}
use Rattle.paging.proofs.Cases.{no_truth, clash}
use Rattle.scan.proofs.Scans.{tell, first_passes}
use Rattle.refusal.specs.declared.Refusal.{Refusal}
use Rattle.refusal.specs.declared.Refusal.TheVariants.{NotMapped, NothingThere}
use Rattle.space.specs.Range.{contains}
use Rattle.space.specs.Space.{region_at, mapping_at, region_place, mapping_place}
use Rattle.space.specs.Passes.{Passes, LiveIn}
use Rattle.space.specs.declared.Space.{Space}
use Rattle.space.proofs.Ranges.{holds}
use Rattle.space.proofs.Facts.{region_place_lem, mapping_place_lem, child_in, mapping_in}
use Rattle.vmar_lookup.specs.Lookup.{owned, holds_child, child_holding, holds_mapping, mapping_holding, step_at, follow, look, Next, Down, Here, Refused}
use Rattle.vmar_lookup.specs.Laws.{Holds}

pub owned_is : (owner r addr size x : ℕ) → owned owner r addr size x ≡ true → (owner ≡ r) × (contains addr size x ≡ true)
unfolding owned
owned_is owner r addr size x e =
    ⊎_elim (λ (a : eqb owner r ≡ true). (eqb-true owner r a, rw a at e)) (λ (a : eqb owner r ≡ false). no_truth (rw a at e)) (tell (eqb owner r))

pub owned_of : (owner r addr size x : ℕ) → owner ≡ r → contains addr size x ≡ true → owned owner r addr size x ≡ true
unfolding owned
owned_of owner r addr size x e c = rw (eq-eqb owner r e, c)

module _ (s : Space) (x r : ℕ) where
  pub outside : contains (region_at s r).addr (region_at s r).size x ≡ false → Refused NotMapped ≡ step_at s x r
  unfolding step_at
  outside c = rw c

  module _ (c : contains (region_at s r).addr (region_at s r).size x ≡ true) where
    pub downward : (k : ℕ) → child_holding s r x ≡ k → ltb k s.regcount ≡ true → Down (region_place s k) ≡ step_at s x r
    unfolding step_at
    downward k e l = rw (c, e, l)

    module _ (k : ℕ) (e : child_holding s r x ≡ k) (l : ltb k s.regcount ≡ false) where
      pub at_mapping_lem : (j : ℕ) → mapping_holding s r x ≡ j → ltb j s.mapcount ≡ true → Here (mapping_place s j) ≡ step_at s x r
      unfolding step_at
      at_mapping_lem j f h = rw (c, e, l, f, h)

      pub nothing_there : (j : ℕ) → mapping_holding s r x ≡ j → ltb j s.mapcount ≡ false → Refused NothingThere ≡ step_at s x r
      unfolding step_at
      nothing_there j f h = rw (c, e, l, f, h)

  -- a step's cases
  pub record Downward (c : ℕ) : Type 0 where
    pub within : contains (region_at s r).addr (region_at s r).size x ≡ true
    pub place : ℕ
    pub below : place < s.regcount
    pub is : region_place s place ≡ c
    pub holds : holds_child s r x place ≡ true

  pub record AtMapping (m : ℕ) : Type 0 where
    pub within : contains (region_at s r).addr (region_at s r).size x ≡ true
    pub place : ℕ
    pub below : place < s.mapcount
    pub is : mapping_place s place ≡ m
    pub holds : holds_mapping s r x place ≡ true

  abbrev pub Shown : Next → Type 0
  Shown (Down c) = Downward c
  Shown (Here m) = AtMapping m
  Shown (Refused why) = contains (region_at s r).addr (region_at s r).size x ≡ true → why ≡ NothingThere

  pub shown : Shown (step_at s x r)
  shown =
      ⊎_elim
      (λ (c : contains (region_at s r).addr (region_at s r).size x ≡ true). ⊎_elim
      (λ (l : ltb (child_holding s r x) s.regcount ≡ true). subst Shown (downward c (child_holding s r x) refl l) (record {
        within = c;
        place = child_holding s r x;
        below = ltb-true _ _ l;
        is = refl;
        holds = first_passes (holds_child s r x) s.regcount (ltb-true _ _ l);
      }))
      (λ (l : ltb (child_holding s r x) s.regcount ≡ false). ⊎_elim
      (λ (h : ltb (mapping_holding s r x) s.mapcount ≡ true). subst Shown (at_mapping_lem c (child_holding s r x) refl l (mapping_holding s r x) refl h) (record {
        within = c;
        place = mapping_holding s r x;
        below = ltb-true _ _ h;
        is = refl;
        holds = first_passes (holds_mapping s r x) s.mapcount (ltb-true _ _ h);
      }))
      (λ (h : ltb (mapping_holding s r x) s.mapcount ≡ false). subst Shown (nothing_there c (child_holding s r x) refl l (mapping_holding s r x) refl h) (λ d. refl))
      (tell (ltb (mapping_holding s r x) s.mapcount)))
      (tell (ltb (child_holding s r x) s.regcount)))
      (λ (c : contains (region_at s r).addr (region_at s r).size x ≡ false). subst Shown (outside c) (λ d. clash _ d c))
      (tell (contains (region_at s r).addr (region_at s r).size x))

  -- the child that a step goes to lives
  pub child_lives : (c : ℕ) → LiveIn s r → step_at s x r ≡ Down c → LiveIn s c
  child_lives c live e =
      let d : Downward c = subst Shown e shown in
      let at = region_place_lem live.passes d.place d.below in
      subst (LiveIn s) d.is (record { slot = at.0; live = at.1; flags = live.flags; passes = live.passes })

pub no_depth : (s : Space) (x d r : ℕ) → d ≡ 0 → look s x d r ≡ Err NothingThere
unfolding look
no_depth s x d r e = rw e

pub some_depth : (s : Space) (x d r : ℕ) → (d ≡ 0 → ⊥) → look s x d r ≡ follow (look s x (d - 1)) (step_at s x r)
unfolding look
some_depth s x zero r h = absurd (h refl)
some_depth s x (suc d) r h = let e : suc d - 1 ≡ d = omega arith in rw e

-- the mapping that a lookup ends at lives, holds the address, and lies in the region that was asked
module _ (s : Space) (x : ℕ) where
  pub record Ended (r m : ℕ) : Type 0 where
    pub held : Holds s x m
    pub from : (region_at s r).addr ≤ (mapping_at s m).addr
    pub to : (mapping_at s m).addr + (mapping_at s m).size ≤ (region_at s r).addr + (region_at s r).size

  abbrev Ends : ℕ → Result ℕ Refusal → Type 0
  Ends r (Ok m) = Ended r m
  Ends r (Err why) = Unit {0}

  -- what ends in a child ends in its parent
  upward : (r c : ℕ) → (f : Result ℕ Refusal) → LiveIn s r → step_at s x r ≡ Down c → Ends c f → Ends r f
  upward r c (Ok m) live e end =
      let d : Downward s x r c = subst (Shown s x r) e (shown s x r) in
      let at = region_place_lem live.passes d.place d.below in
      let in-parent = child_in live.passes (region_place s d.place) r at.0 at.1 live.slot (owned_is _ _ _ _ _ d.holds).0 in
      let inner = subst (λ (i : ℕ). ((region_at s r).addr ≤ (region_at s i).addr) × ((region_at s i).addr + (region_at s i).size ≤ (region_at s r).addr + (region_at s r).size)) d.is in-parent in
      record { held = end.held; from = omega (arith, inner.0, end.from); to = omega (arith, inner.1, end.to) }
  upward r c (Err why) live e end = tt

  by : (d r : ℕ) → ((c : ℕ) → LiveIn s c → Ends c (look s x d c)) → LiveIn s r → (n : Next) → step_at s x r ≡ n → Ends r (follow (look s x d) n)
  by d r deeper live (Down c) e = upward r c (look s x d c) live e (deeper c (child_lives s x r c live e))
  by d r deeper live (Here m) e =
      let a : AtMapping s x r m = subst (Shown s x r) e (shown s x r) in
      let at = mapping_place_lem live.passes a.place a.below in
      let own = owned_is _ _ _ _ _ a.holds in
      let within = mapping_in live.passes (mapping_place s a.place) r at.0 at.1 own.0 in
      subst (Ended r) a.is (record { held = record { slot = at.0; live = at.1; holds = own.1 }; from = within.0; to = within.1 })
  by d r deeper live (Refused why) e = tt

  ends : (d r : ℕ) → LiveIn s r → Ends r (look s x d r)
  unfolding look
  ends zero r live = tt
  ends (suc d) r live = by d r (ends d) live (step_at s x r) refl

  pub ended : (d r m : ℕ) → LiveIn s r → look s x d r ≡ Ok m → Ended r m
  ended d r m live e = subst (Ends r) e (ends d r live)

  pub found_holds : (d r m : ℕ) → LiveIn s r → look s x d r ≡ Ok m → Holds s x m
  found_holds d r m live e = (ended d r m live e).held

-- where no mapping holds the address, a lookup from a region that holds it ends at nothing
module _ (s : Space) (x : ℕ) (none : (m : ℕ) → Holds s x m → ⊥) where
  abbrev Bare : ℕ → Result ℕ Refusal → Type 0
  Bare r y = LiveIn s r → contains (region_at s r).addr (region_at s r).size x ≡ true → y ≡ Err NothingThere

  bare_by : (d r : ℕ) → ((c : ℕ) → Bare c (look s x d c)) → (n : Next) → step_at s x r ≡ n → Bare r (follow (look s x d) n)
  bare_by d r deeper (Down c) e live h =
      let a : Downward s x r c = subst (Shown s x r) e (shown s x r) in
      deeper c (child_lives s x r c live e)
      (subst (λ (i : ℕ). contains (region_at s i).addr (region_at s i).size x ≡ true) a.is (owned_is _ _ _ _ _ a.holds).1)
  bare_by d r deeper (Here m) e live h =
      let a : AtMapping s x r m = subst (Shown s x r) e (shown s x r) in
      let at = mapping_place_lem live.passes a.place a.below in
      absurd (none (mapping_place s a.place) (record { slot = at.0; live = at.1; holds = (owned_is _ _ _ _ _ a.holds).1 }))
  bare_by d r deeper (Refused why) e live h = let k : Shown s x r (Refused why) = subst (Shown s x r) e (shown s x r) in ap (λ (y : Refusal). Err y) (k h)

  pub bare : (d r : ℕ) → Bare r (look s x d r)
  unfolding look
  bare zero r live h = refl
  bare (suc d) r live h = bare_by d r (bare d) (step_at s x r) refl live h

-- the page of an address in the mapping that holds it
pub page_in : (s : Space) (flags : List ℕ) (x m : ℕ) → Passes s flags → Holds s x m
    → ((mapping_at s m).addr ≤ x) × ((x - (mapping_at s m).addr) / 4096 < (mapping_at s m).size / 4096) × ((x - (mapping_at s m).addr) / 4096 < 512)
page_in s flags x m p h =
    let c = holds _ _ _ h.holds in
    let z = p.paged m h.slot h.live in
    let a = z.size in
    let b = z.few in
    let d = c.1 in
    let page : (x - (mapping_at s m).addr) / 4096 < (mapping_at s m).size / 4096 = omega (arith, c.0) in
    (c.0, page, omega arith)
