-- An issued id stays this region's or is without one, through any number of calls; and the two ways a call adds to a space.
use Prim.Native.Nat.{ℕ, ◌≤◌, ◌<◌}
use mathlib.Core.Path.{◌≡◌, refl, sym, ◌∙◌, subst}
use mathlib.Core.Bool.{true, false}
use mathlib.Core.Logic.{◌⊎◌, inl, inr, ⊎_elim}
use native.Mathlib.Omega.{arith}
use borrow.Author.Tests.{ne_eqb}
use Rattle.paging.proofs.Cases.{same?}
use Rattle.scan.proofs.Scans.{tell}
use Rattle.space.specs.Space.{region_at, is_region, blank_region, with_region, with_mapping}
use Rattle.space.specs.declared.Region.{Region}
use Rattle.space.specs.declared.Mapping.{Mapping}
use Rattle.space.specs.declared.Space.{Space}
use Rattle.vmar_offset.specs.Offset.{has_id, id_at, slot_of}
use Rattle.vmar_offset.proofs.Found.{id_of, has_id_lem, slot_live}
use Rattle.vmar_laws.specs.Later.{Later, ForEver}
use Rattle.vmar_laws.proofs.Lists.{same_first, the_first}
use Rattle.vmar_laws.proofs.Slots.{Fills, here, there, kept}

-- each region stands as it was
stays : (s t : Space) → s.nextid ≤ t.nextid → ((id : ℕ) → id < s.nextid → slot_of t id ≡ slot_of s id)
    → ((id : ℕ) → id < s.nextid → slot_of s id < 32 → region_at t (slot_of s id) ≡ region_at s (slot_of s id)) → Later s t
stays s t l a b = record { ids = l; gone = λ id h e. a id h ∙ e; same = λ id h e. inr (a id h, b id h e) }

pub later_none : (s : Space) → Later s s
later_none s = stays s s (omega arith) (λ id h. refl) (λ id h l. refl)

pub later_more : (s t u : Space) → Later s t → Later t u → Later s u
later_more s t u a b = record { ids = let x = a.ids in let y = b.ids in omega arith; gone = gone; same = same }
  where
    issued : (id : ℕ) → id < s.nextid → id < t.nextid
    issued id h = let x = a.ids in omega arith

    gone : (id : ℕ) → id < s.nextid → slot_of s id ≡ 32 → slot_of u id ≡ 32
    gone id h e = b.gone id (issued id h) (a.gone id h e)

    same : (id : ℕ) → id < s.nextid → slot_of s id < 32
        → (slot_of u id ≡ 32) ⊎ ((slot_of u id ≡ slot_of s id) × (region_at u (slot_of s id) ≡ region_at s (slot_of s id)))
    same id h l =
        ⊎_elim
        (λ (e : slot_of t id ≡ 32). inl (b.gone id (issued id h) e))
        (λ (e : (slot_of t id ≡ slot_of s id) × (region_at t (slot_of s id) ≡ region_at s (slot_of s id))).
        let q = e.0 in
        ⊎_elim
        (λ (f : slot_of u id ≡ 32). inl f)
        (λ (f : (slot_of u id ≡ slot_of t id) × (region_at u (slot_of t id) ≡ region_at t (slot_of t id))).
        inr (f.0 ∙ q, subst (λ (i : ℕ). region_at u i ≡ region_at t i) q f.1 ∙ e.1))
        (b.same id (issued id h) (omega arith)))
        (a.same id h l)

pub for_ever : ForEver
for_ever = record { none = later_none; more = later_more }

-- what has not an id
no_id : (g : Region) (id : ℕ) → (g.id ≡ id → ⊥) → has_id g id ≡ false
unfolding has_id
no_id g id n = ⊎_elim (λ (a : g.live ≡ true). rw (a, ne_eqb g.id id n)) (λ (a : g.live ≡ false). rw a) (tell g.live)

not_live : (g : Region) (id : ℕ) → g.live ≡ false → has_id g id ≡ false
unfolding has_id
not_live g id a = rw a

-- a region with the next id in a free slot: no other id sees a change, and it is found by its own
module _ (s : Space) (i : ℕ) (g : Region) (fills : Fills (λ (h : Region). h.live) blank_region s.regions 32 i g) (id-is : g.id ≡ s.nextid) where
  same_id : (id : ℕ) → id < s.nextid → (j : ℕ) → j < 32 → id_at (with_region s i g) id j ≡ id_at s id j
  same_id id h j l =
      ⊎_elim
      (λ (e : j ≡ i).
      subst (λ (x : ℕ). id_at (with_region s i g) id x ≡ id_at s id x) (sym e)
      (no_id (region_at (with_region s i g) i) id (λ q. subst (λ (h : Region). h.id ≡ id → ⊥) (sym (here fills i refl)) (λ z. omega arith) q)
      ∙ sym (not_live (region_at s i) id fills.free)))
      (λ (n : j ≡ i → ⊥). subst (λ (h : Region). has_id h id ≡ id_at s id j) (sym (there fills j n)) refl)
      (same? j i)

  pub later_region : Later s (with_region s i g)
  later_region =
      stays s (with_region s i g) (omega arith) (λ id h. same_first (id_at (with_region s i g) id) (id_at s id) 32 (same_id id h))
      (λ id h l. kept fills (slot_of s id) (slot_live s id (λ e. omega arith)).1)

  pub found_region : ((j : ℕ) → j < 32 → is_region s j ≡ true → (region_at s j).id < s.nextid) → slot_of (with_region s i g) s.nextid ≡ i
  found_region issued =
      the_first (id_at (with_region s i g) s.nextid) 32 i fills.slot
      (subst (λ (h : Region). has_id h s.nextid ≡ true) (sym (here fills i refl)) (has_id_lem g s.nextid fills.born id-is))
      one
    where
      one : (j : ℕ) → j < 32 → id_at (with_region s i g) s.nextid j ≡ true → j ≡ i
      one j l t =
          ⊎_elim
          (λ (e : j ≡ i). e)
          (λ (n : j ≡ i → ⊥).
          let q = id_of (region_at s j) s.nextid (subst (λ (h : Region). has_id h s.nextid ≡ true) (there fills j n) t) in
          let w = q.1 in
          absurd (let z = issued j l q.0 in omega arith))
          (same? j i)

-- a mapping leaves the regions as they are
pub later_mapping : (s : Space) (i : ℕ) (m : Mapping) → Later s (with_mapping s i m)
later_mapping s i m = stays s (with_mapping s i m) (omega arith) (λ id h. refl) (λ id h l. refl)
