-- Ids after a cut: those of the regions that go are without one, the others have theirs.
use Prim.Native.Nat.{ℕ, ◌≤◌, ◌<◌}
use mathlib.Core.Path.{◌≡◌, refl, sym, ◌∙◌, subst}
use mathlib.Core.Bool.{Bool, true, false}
use mathlib.Core.List.{List}
use mathlib.Core.Logic.{◌⊎◌, inl, inr, ⊎_elim}
use native.Mathlib.Omega.{arith}
use lib.ListN.{get_or}
use borrow.Author.Tests.{eq-eqb}
use Rattle.paging.proofs.Cases.{same?, below?, clash}
use Rattle.scan.specs.Scan.{first}
use Rattle.scan.proofs.Scans.{tell, first_passes, first_most, before_first}
use Rattle.space.specs.Space.{region_at, is_region}
use Rattle.space.specs.Passes.{Passes}
use Rattle.space.specs.declared.Region.{Region}
use Rattle.space.specs.declared.Space.{Space}
use Rattle.vmar_offset.specs.Offset.{has_id, id_at, slot_of}
use Rattle.vmar_laws.specs.Later.{Later}
use Rattle.vmar_laws.proofs.Lists.{the_first}
use Rattle.vmar_offset.proofs.Found.{id_of}
use Rattle.vmar_prune_laws.specs.Cutting.{Cutting}
use Rattle.vmar_prune_laws.proofs.Shape.{Shape}
use Rattle.vmar_prune_laws.proofs.Passing.{stands, was}

-- where none passes, a scan ends past the last
none_first : (q : ℕ → Bool) (n : ℕ) → ((j : ℕ) → j < n → q j ≡ true → ⊥) → first q 0 n ≡ n
none_first q n off =
    let z = first_most q n in
    ⊎_elim (λ (l : first q 0 n < n). absurd (off (first q 0 n) l (first_passes q n l))) (λ (l : n ≤ first q 0 n). omega arith) (below? (first q 0 n) n)

-- an id names one region
one_id : {s : Space} {f : List ℕ} (p : Passes s f) (id i j : ℕ) → i < 32 → j < 32 → id_at s id i ≡ true → id_at s id j ≡ true → i ≡ j
one_id {s} p id i j l k a y =
    let u = id_of (region_at s i) id a in
    let v = id_of (region_at s j) id y in
    ⊎_elim
    (λ (w : j < i). absurd (p.ids.distinct i j w l u.0 v.0 (u.1 ∙ sym v.1)))
    (λ (w : i ≤ j). ⊎_elim
    (λ (q : i ≡ j). q)
    (λ (q : i ≡ j → ⊥). absurd (p.ids.distinct j i (omega arith) k v.0 u.0 (v.1 ∙ sym u.1)))
    (same? i j))
    (below? j i)

has_id_lem : (g : Region) → g.live ≡ true → has_id g g.id ≡ true
unfolding has_id
has_id_lem g a = rw (a, eq-eqb g.id g.id refl)

module _ {s : Space} {f : List ℕ} {marks : List Bool} {r b e : ℕ} (c : Cutting s f marks r b e) {t : Space} {g : List ℕ} (h : Shape s f marks r b e t g) where
  -- a region that has the id had it, and no mark
  had : (id j : ℕ) → j < 32 → id_at t id j ≡ true → (id_at s id j ≡ true) × (get_or marks j false ≡ false)
  had id j l a =
      let u = id_of (region_at t j) id a in
      let w = was c h j l u.0 in
      (subst (λ (x : Region). has_id x id ≡ true) w.1 a, w.0)

  -- the id of a region that goes
  marked_id : (id i : ℕ) → i < 32 → id_at s id i ≡ true → get_or marks i false ≡ true → slot_of t id ≡ 32
  marked_id id i l a x = none_first (id_at t id) 32 (λ j k y. let w = had id j k y in clash (get_or marks i false) x (subst (λ (z : ℕ). get_or marks z false ≡ false) (one_id c.passes id j i k l w.0 a) w.1))

  pub dead : (i : ℕ) → i < 32 → is_region s i ≡ true → get_or marks i false ≡ true → slot_of t (region_at s i).id ≡ 32
  dead i l a x = marked_id (region_at s i).id i l (has_id_lem (region_at s i) a) x

  pub shape_later : Later s t
  shape_later = record { ids = let z = h.nextid in omega arith; gone = gone; same = same }
    where
      gone : (id : ℕ) → id < s.nextid → slot_of s id ≡ 32 → slot_of t id ≡ 32
      gone id l q = none_first (id_at t id) 32 (λ j k y. clash (id_at s id j) (had id j k y).0 (before_first (id_at s id) 32 j (omega arith)))

      same : (id : ℕ) → id < s.nextid → slot_of s id < 32
          → (slot_of t id ≡ 32) ⊎ ((slot_of t id ≡ slot_of s id) × (region_at t (slot_of s id) ≡ region_at s (slot_of s id)))
      same id l k =
          let i = slot_of s id in
          let a : id_at s id i ≡ true = first_passes (id_at s id) 32 k in
          ⊎_elim
          (λ (x : get_or marks i false ≡ true). inl (marked_id id i k a x))
          (λ (x : get_or marks i false ≡ false).
          let q = stands c h i k x in
          inr (the_first (id_at t id) 32 i k (subst (λ (y : Region). has_id y id ≡ true) (sym q) a) (λ j w y. one_id c.passes id j i w k (had id j w y).0 a), q))
          (tell (get_or marks i false))
