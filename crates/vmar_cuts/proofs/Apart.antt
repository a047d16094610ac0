-- Cuts that share no address: of mappings and regions that do not overlap.
use Prim.Native.Nat.{ℕ, zero, suc, ◌+◌, ◌≤◌, ◌<◌}
use mathlib.Core.Path.{◌≡◌, refl, sym}
use mathlib.Core.Bool.{true}
use mathlib.Core.List.{List, ◌∷◌, ◌++◌}
use mathlib.Core.Logic.{inl, inr, ⊎_elim}
use native.Mathlib.Omega.{arith}
use Rattle.paging.proofs.Cases.{below?}
use Rattle.space.specs.Space.{region_at, mapping_at, is_region, is_mapping}
use Rattle.space.specs.Passes.{Passes}
use Rattle.space.specs.declared.Space.{Space}
use Rattle.space.proofs.Facts.{child_in}
use Rattle.space.proofs.Ranges.{apart}
use Rattle.vmar_doom.specs.Doomed.{Doomed, child, below}
use Rattle.table_cuts.specs.Cuts.{Cut, Among}
use Rattle.vmar_cuts.specs.Cuts.{END, collect}
use Rattle.vmar_cuts.specs.Laws.{Off, Distinct, none, next}
use Rattle.vmar_cuts.proofs.Members.{in_either, first, later, of_collect}
use Rattle.vmar_cuts.proofs.Below.{child_parent}

-- the cut lies in [a, a + n)
abbrev pub Within : Cut → ℕ → ℕ → Type 0
Within c a n = (a ≤ c.addr) × (c.addr + c.len ≤ a + n)

abbrev Apart : Cut → Cut → Type 0
Apart c d = Off c.addr c.len d.addr d.len

pub off_within : (c d : Cut) (a n b m : ℕ) → Within c a n → Within d b m → Off a n b m → Apart c d
off_within c d a n b m x y o = ⊎_elim (λ l. inl (omega (arith, x.1, y.0))) (λ l. inr (omega (arith, x.0, y.1))) o

pub off_flip : (c d : Cut) → Apart c d → Apart d c
off_flip c d o = ⊎_elim (λ l. inr l) (λ l. inl l) o

-- one list after another, and lists of places
pub distinct_append : (xs ys : List Cut) → Distinct xs → Distinct ys → ((c d : Cut) → Among c xs → Among d ys → Apart c d) → Distinct (xs ++ ys)
distinct_append xs ys none E f = E
distinct_append (c ∷ xs) ys (next h D) E f =
    next
    (λ d m. ⊎_elim (λ (n : Among d xs). h d n) (λ (n : Among d ys). f c d (first c xs) n) (in_either d xs ys m))
    (distinct_append xs ys D E (λ x d m n. f x d (later x c xs m) n))

pub distinct_collect : (f : ℕ → List Cut) (top : ℕ) → ((k : ℕ) → k < top → Distinct (f k))
    → ((j k : ℕ) → j < k → k < top → (c d : Cut) → Among c (f j) → Among d (f k) → Apart c d)
    → (n k : ℕ) → k + n ≤ top → Distinct (collect f k n)
unfolding collect
distinct_collect f top each Apart-of zero k l = none
distinct_collect f top each Apart-of (suc n) k l =
    distinct_append (f k) (collect f (k + 1) n) (each k (omega arith)) (distinct_collect f top each Apart-of n (k + 1) (omega arith))
    (λ c d m r.
    let j = of_collect d f n (k + 1) r in
    let a = j.1 in
    let b = j.2 in
    Apart-of k j.0 (omega arith) (omega arith) c d m j.3)

module _ {s : Space} {flags : List ℕ} (p : Passes s flags) where
  -- two mappings of a region, two children, and a child and a mapping
  pub mappings_off : (i j : ℕ) → (i ≡ j → ⊥) → i < 64 → j < 64 → is_mapping s i ≡ true → is_mapping s j ≡ true → (mapping_at s i).region ≡ (mapping_at s j).region
      → Off (mapping_at s i).addr (mapping_at s i).size (mapping_at s j).addr (mapping_at s j).size
  mappings_off i j n a b x y q =
      ⊎_elim
      (λ (l : i < j). apart _ _ _ _ (p.apart.mappings j i l b y x (sym q)))
      (λ (l : j ≤ i). ⊎_elim (λ h. inr h) (λ h. inl h) (apart _ _ _ _ (p.apart.mappings i j (omega arith) a x y q)))
      (below? i j)

  pub regions_off : (i j : ℕ) → (i ≡ j → ⊥) → i < 32 → j < 32 → is_region s i ≡ true → is_region s j ≡ true → (region_at s i).parent ≡ (region_at s j).parent
      → Off (region_at s i).addr (region_at s i).size (region_at s j).addr (region_at s j).size
  regions_off i j n a b x y q =
      ⊎_elim
      (λ (l : i < j). apart _ _ _ _ (p.apart.children j i l b y x (sym q)))
      (λ (l : j ≤ i). ⊎_elim (λ h. inr h) (λ h. inl h) (apart _ _ _ _ (p.apart.children i j (omega arith) a x y q)))
      (below? i j)

  pub both_off : (i j : ℕ) → i < 32 → j < 64 → is_region s i ≡ true → is_mapping s j ≡ true → (region_at s i).parent ≡ (mapping_at s j).region
      → Off (region_at s i).addr (region_at s i).size (mapping_at s j).addr (mapping_at s j).size
  both_off i j a b x y q = ⊎_elim (λ h. inr h) (λ h. inl h) (apart _ _ _ _ (p.apart.both i j a b x y q))

  -- what goes with a region lies in it
  live_slot : {r b e x : ℕ} → Doomed s r b e x → x < 32
  live_slot (child x l a q) = l
  live_slot (below x l a u) = l

  pub doomed_in : {r x : ℕ} → r < 32 → Doomed s r 0 END x
      → ((region_at s r).addr ≤ (region_at s x).addr) × ((region_at s x).addr + (region_at s x).size ≤ (region_at s r).addr + (region_at s r).size)
  doomed_in {r} h (child x l a q) = child_in p x r l a h (child_parent (region_at s x) r 0 END q)
  doomed_in {r} h (below x l a u) =
      let i = child_in p x (region_at s x).parent l a (live_slot u) refl in
      let o = doomed_in h u in
      (omega (arith, i.0, o.0), omega (arith, i.1, o.1))
