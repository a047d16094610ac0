-- No two places overlap exactly when no two parts of a region do.
use Rattle.std.proofs.Common.{◌≡◌, ℕ, ◌+◌, ◌-◌, ◌<◌, ◌≤◌, Bool, true, false, List, sym, ◌∙◌, subst, ⊎_elim, arith}
use Rattle.paging.proofs.Cases.{below?}
use Rattle.std.proofs.lemmas.Bool.Decides.{nat_tests}
use Rattle.space.specs.Range.{overlap}
use Rattle.space.proofs.Ranges.{overlap_turned}
use Rattle.space.specs.Space.{region_at, mapping_at}
use Rattle.space.specs.Passes.{Apart, Blank}
use Rattle.space.specs.declared.Region.{Region}
use Rattle.space.specs.declared.Mapping.{Mapping}
use Rattle.space.specs.declared.Space.{Space}
use Rattle.space_parts.specs.declared.Place.{Place}
use Rattle.space_parts.specs.Parts.{PartsOf, place_of, place_at, meet}
use Rattle.space_parts.proofs.Meets.{free_region_lem, free_mapping_lem}
use Rattle.space_pairs.specs.Pairs.{PlacesApart, AllApart}

-- a region or a mapping
record Part : Type 0 where
  live : Bool
  owner : ℕ
  addr : ℕ
  size : ℕ

abbrev of_region : Region → Part
of_region g = record { live = g.live; owner = g.parent; addr = g.addr; size = g.size }

abbrev of_mapping : Mapping → Part
of_mapping m = record { live = m.live; owner = m.region; addr = m.addr; size = m.size }

abbrev place : Part → Place
place x = place_of x.owner x.addr x.size

-- no overlap, whichever is named first
abbrev Clear : Part → Part → Type 0
Clear x y = x.live ≡ true → y.live ≡ true → x.owner ≡ y.owner → overlap x.addr x.size y.addr y.size ≡ false

turned : (x y : Part) → Clear x y → Clear y x
turned x y c v u e = overlap_turned y.addr y.size x.addr x.size ∙ c u v (sym e)

-- p is where x lies, and x lies at [0, 0) if it is free
record Stands (p : Place) (x : Part) : Type 0 where
  at : p ≡ place x
  free : x.live ≡ false → (x.addr ≡ 0) × (x.size ≡ 0)

module _ (p q : Place) (x y : Part) (px : Stands p x) (qy : Stands q y) where
  from_places : PlacesApart p q → Clear x y
  unfolding meet overlap
  from_places apart u v e =
      let a : PlacesApart (place x) (place y) = subst (λ (r : Place). PlacesApart (place x) r) qy.at (subst (λ (r : Place). PlacesApart r q) px.at apart) in
      a e

  -- what is free is met by nothing
  to_places : Clear x y → PlacesApart p q
  unfolding meet overlap
  to_places clear = rw (px.at, qy.at) (λ e. grind (arith, nat_tests))

module _ (s : Space) (places : List Place) (blank : Blank s) (parts : PartsOf s places) where
  region : (i : ℕ) → i < 32 → Stands (place_at places i) (of_region (region_at s i))
  region i l = record { at = parts.region i l; free = free_region_lem s blank i l }

  mapping : (i : ℕ) → i < 64 → Stands (place_at places (32 + i)) (of_mapping (mapping_at s i))
  mapping i l = record { at = parts.mapping i l; free = free_mapping_lem s blank i l }

  pub apart_of : AllApart places → Apart s
  apart_of all = record {
    children = λ i j h l. let k : j < 32 = omega arith in turned (of_region (region_at s j)) (of_region (region_at s i)) (from_places _ _ _ _ (region j k) (region i l) (all i (omega arith) j h));
    mappings = λ i j h l. let k : j < 64 = omega arith in turned (of_mapping (mapping_at s j)) (of_mapping (mapping_at s i)) (from_places _ _ _ _ (mapping j k) (mapping i l) (all (32 + i) (omega arith) (32 + j) (omega arith)));
    both = λ i j l h. from_places _ _ _ _ (region i l) (mapping j h) (all (32 + j) (omega arith) i (omega arith));
  }

  module _ (apart : Apart s) where
    region_below : (i : ℕ) → i < 32 → (j : ℕ) → j < i → PlacesApart (place_at places j) (place_at places i)
    region_below i l j h =
        let k : j < 32 = omega arith in
        to_places _ _ _ _ (region j k) (region i l) (turned (of_region (region_at s i)) (of_region (region_at s j)) (apart.children i j h l))

    mapping_below : (i : ℕ) → i < 64 → (j : ℕ) → j < i → PlacesApart (place_at places (32 + j)) (place_at places (32 + i))
    mapping_below i l j h =
        let k : j < 64 = omega arith in
        to_places _ _ _ _ (mapping j k) (mapping i l) (turned (of_mapping (mapping_at s i)) (of_mapping (mapping_at s j)) (apart.mappings i j h l))

    at_mapping_lem : (i : ℕ) → i < 64 → (j : ℕ) → j < 32 + i → PlacesApart (place_at places j) (place_at places (32 + i))
    at_mapping_lem i l j h =
        ⊎_elim
        (λ (q : j < 32). to_places _ _ _ _ (region j q) (mapping i l) (apart.both j i q l))
        (λ (q : 32 ≤ j). let e : 32 + (j - 32) ≡ j = omega arith in subst (λ (x : ℕ). PlacesApart (place_at places x) (place_at places (32 + i))) e (mapping_below i l (j - 32) (omega arith)))
        (below? j 32)

    pub all_apart : AllApart places
    all_apart i l j h =
        ⊎_elim
        (λ (q : i < 32). region_below i q j h)
        (λ (q : 32 ≤ i). let e : 32 + (i - 32) ≡ i = omega arith in subst (λ (x : ℕ). PlacesApart (place_at places j) (place_at places x)) e (at_mapping_lem (i - 32) (omega arith) j (omega arith)))
        (below? i 32)
