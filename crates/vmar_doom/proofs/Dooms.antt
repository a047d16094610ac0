-- A region goes exactly when it is a child within the range or its parent goes; marks made in the order of the list say so.
use Prim.Native.Nat.{ℕ, zero, suc, ◌+◌, ◌≤◌, ◌<◌}
use mathlib.Core.Path.{◌≡◌, refl, sym, ◌∙◌, subst}
use mathlib.Core.Bool.{Bool, true, false, ◌||◌}
use mathlib.Core.List.{List}
use mathlib.Core.Logic.{◌⊎◌, inl, inr, ⊎_elim}
use native.Mathlib.Omega.{arith}
use native.Mathlib.Numerals.{add-one}
use lib.ListN.{length, get_or, set, replicate, get_or-replicate, length-set, get_or-eq_default}
use lib.Seq.{get_or-set_same, get_or-set_other}
use Rattle.paging.specs.Choice.{Decided}
use Rattle.paging.proofs.Cases.{same?, below?, clash}
use Rattle.space.specs.Space.{region_at, is_region, region_place}
use Rattle.space.specs.Passes.{Passes}
use Rattle.space.specs.declared.Space.{Space}
use Rattle.space.proofs.Facts.{region_place_lem}
use Rattle.vmar_doom.specs.Doomed.{is_child_in, Doomed, child, below, marked_to, marked, Marks}

none : (i : ℕ) → get_or (replicate 32 false) i false ≡ false
none i = ⊎_elim (λ (l : i < 32). get_or-replicate 32 i false false l) (λ (l : 32 ≤ i). get_or-eq_default (replicate 32 false) false l) (below? i 32)

module _ (s : Space) (r b e : ℕ) where
  -- what goes lives
  pub doomed_lives : (i : ℕ) → Doomed s r b e i → (i < 32) × (is_region s i ≡ true)
  doomed_lives i (child _ l a c) = (l, a)
  doomed_lives i (below _ l a d) = (l, a)

  -- why it goes
  pub doomed_why : (i : ℕ) → Doomed s r b e i → (is_child_in (region_at s i) r b e ≡ true) ⊎ Doomed s r b e (region_at s i).parent
  doomed_why i (child _ l a c) = inl c
  doomed_why i (below _ l a d) = inr d

  -- whether a region goes, by its parent's mark
  pub by_parent : (i : ℕ) (goes up : Bool) → i < 32 → is_region s i ≡ true → goes ≡ is_child_in (region_at s i) r b e → Decided (Doomed s r b e (region_at s i).parent) up
      → Decided (Doomed s r b e i) (goes || up)
  by_parent i true up l a c d = child i l a (sym c)
  by_parent i false true l a c d = below i l a d
  by_parent i false false l a c d = λ z. ⊎_elim (λ (y : is_child_in (region_at s i) r b e ≡ true). clash _ y (sym c)) d (doomed_why i z)

  -- what the first k places of the list have been marked by
  pub record Marked (k : ℕ) (marks : List Bool) : Type 0 where
    pub long : length marks ≡ 32
    pub told : (j : ℕ) → j < k → Decided (Doomed s r b e (region_place s j)) (get_or marks (region_place s j) false)
    pub rest : (i : ℕ) → ((j : ℕ) → j < k → region_place s j ≡ i → ⊥) → get_or marks i false ≡ false

  module _ {flags : List ℕ} (p : Passes s flags) where
    none_marked : Marked 0 (replicate 32 false)
    none_marked = record { long = refl; told = λ j l. absurd (omega arith); rest = λ i n. none i }

    -- what the mark of the parent of the region at place k says; the root's parent is no region
    parent_told : (k : ℕ) (marks : List Bool) → k < s.regcount → Marked k marks
        → Decided (Doomed s r b e (region_at s (region_place s k)).parent) (get_or marks (region_at s (region_place s k)).parent false)
    parent_told k marks h m = ⊎_elim
        (λ (q : (region_at s (region_place s k)).parent ≡ 32). subst (λ (x : ℕ). Decided (Doomed s r b e x) (get_or marks x false)) (sym q)
        (subst (Decided (Doomed s r b e 32)) (sym (get_or-eq_default marks false (omega (arith, m.long)))) (λ d. let l = (doomed_lives 32 d).0 in omega arith)))
        (λ (q : (region_at s (region_place s k)).parent ≡ 32 → ⊥).
        let up = p.tree.parent k h q in
        subst (λ (x : ℕ). Decided (Doomed s r b e x) (get_or marks x false)) up.2 (m.told up.0 up.1))
        (same? _ _)

    -- one place more
    one_marked : (k : ℕ) (marks : List Bool) → k < s.regcount → Marked k marks
        → Marked (suc k) (set marks (region_place s k) (is_child_in (region_at s (region_place s k)) r b e || get_or marks (region_at s (region_place s k)).parent false))
    one_marked k marks h m = record { long = length-set marks (region_place s k) new ∙ m.long; told = told; rest = rest }
      where
        new : Bool
        new = is_child_in (region_at s (region_place s k)) r b e || get_or marks (region_at s (region_place s k)).parent false

        at : (region_place s k < 32) × (is_region s (region_place s k) ≡ true)
        at = region_place_lem p k h

        here : Decided (Doomed s r b e (region_place s k)) new
        here = by_parent (region_place s k) (is_child_in (region_at s (region_place s k)) r b e) (get_or marks (region_at s (region_place s k)).parent false) at.0 at.1 refl (parent_told k marks h m)

        told : (j : ℕ) → j < suc k → Decided (Doomed s r b e (region_place s j)) (get_or (set marks (region_place s k) new) (region_place s j) false)
        told j n = ⊎_elim
            (λ (z : j < k). subst (Decided (Doomed s r b e (region_place s j))) (sym (get_or-set_other marks (region_place s k) (region_place s j) new false (p.regions.once j k z h))) (m.told j z))
            (λ (z : k ≤ j). let y : k ≡ j = omega arith in subst (λ (x : ℕ). Decided (Doomed s r b e (region_place s x)) (get_or (set marks (region_place s k) new) (region_place s x) false)) y
            (subst (Decided (Doomed s r b e (region_place s k))) (sym (get_or-set_same marks (region_place s k) new false (omega (arith, at.0, m.long)))) here))
            (below? j k)

        rest : (i : ℕ) → ((j : ℕ) → j < suc k → region_place s j ≡ i → ⊥) → get_or (set marks (region_place s k) new) i false ≡ false
        rest i n = get_or-set_other marks (region_place s k) i new false (λ q. n k (omega arith) (sym q)) ∙ m.rest i (λ j z. n j (omega arith))

    -- with the whole list behind, every slot is told of
    all_marked : (marks : List Bool) → Marked s.regcount marks → Marks s r b e marks
    all_marked marks m i z = by (is_region s i) refl
      where
        by : (t : Bool) → is_region s i ≡ t → Decided (Doomed s r b e i) (get_or marks i false)
        by true a =
            let w = p.regions.whole i z a in
            let n = w.1 in
            subst (λ (x : ℕ). Decided (Doomed s r b e x) (get_or marks x false)) w.2 (m.told w.0 (omega arith))
        by false a = subst (Decided (Doomed s r b e i)) (sym (m.rest i (λ j n q. clash _ (p.regions.live i z (j, omega arith, q)) a))) (λ d. clash _ (doomed_lives i d).1 a)

    places_marked : (k : ℕ) → k ≤ s.regcount → Marked k (marked_to s r b e k)
    unfolding marked_to
    places_marked zero l = none_marked
    places_marked (suc k) l = one_marked k (marked_to s r b e k) (omega arith) (places_marked k (omega arith))

    -- the marks tell which regions go
    pub marked_tells : Marks s r b e (marked s r b e)
    marked_tells = all_marked (marked s r b e) (places_marked s.regcount (omega arith))

    pub marked_long : length (marked s r b e) ≡ 32
    marked_long = (places_marked s.regcount (omega arith)).long

-- one place more, for the code
pub more_marked : (s : Space) (r b e k : ℕ)
    → set (marked_to s r b e k) (region_place s k) (is_child_in (region_at s (region_place s k)) r b e || get_or (marked_to s r b e k) (region_at s (region_place s k)).parent false) ≡ marked_to s r b e (k + 1)
unfolding marked_to
more_marked s r b e k = rw (add-one k)

pub no_marks : (s : Space) (r b e : ℕ) → replicate 32 false ≡ marked_to s r b e 0
unfolding marked_to
no_marks s r b e = refl

pub marked_length : (s : Space) (r b e k : ℕ) → length (marked_to s r b e k) ≡ 32
unfolding marked_to
marked_length s r b e zero = refl
marked_length s r b e (suc k) = length-set (marked_to s r b e k) (region_place s k) _ ∙ marked_length s r b e k
