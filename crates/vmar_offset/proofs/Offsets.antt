-- The definitions by what their tests show.
use Rattle.std.proofs.Common.{◌≡◌, ℕ, ◌+◌, true, false, not, leb, ltb, eqb, Option, Some, None, Ok, Err}
use mathlib.Core.Logic.{⊎_elim}
use Rattle.paging.proofs.Cases.{no_truth}
use Rattle.scan.specs.Scan.{first, some}
use Rattle.scan.proofs.Scans.{tell}
use Rattle.vm.specs.Align.{multiple}
use Rattle.refusal.specs.declared.Refusal.TheVariants.{InvalidArgs}
use Rattle.space.specs.Space.{region_at, mapping_at, region_place, mapping_place}
use Rattle.space.specs.declared.Space.{Space}
use Rattle.vmar_offset.specs.Offset.{meets_child, meets_mapping, test_map, taken, takes, takes_child, takes_mapping, child_end, mapping_end, find_free_area, found, determine_offset}

module _ (s : Space) (r off len : ℕ) where
  pub too_long : leb (off + len) (region_at s r).size ≡ false → false ≡ test_map s r off len
  unfolding test_map
  too_long e = rw e

  module _ (e : leb (off + len) (region_at s r).size ≡ true) where
    pub on_child : some (meets_child s r ((region_at s r).addr + off) len) 0 32 ≡ true → false ≡ test_map s r off len
    unfolding test_map
    on_child c = rw (e, c)

    pub off_children : some (meets_child s r ((region_at s r).addr + off) len) 0 32 ≡ false
        → test_map s r off len ≡ not (some (meets_mapping s r ((region_at s r).addr + off) len) 0 64)
    unfolding test_map
    off_children c = rw (e, c)

module _ (s : Space) (r len align : ℕ) where
  pub at_zero : test_map s r 0 len ≡ true → Some 0 ≡ find_free_area s r len align
  unfolding find_free_area
  at_zero t = rw t

  module _ (t : test_map s r 0 len ≡ false) (k : ℕ) (f : first (takes_child s r len align) 0 s.regcount ≡ k) where
    pub at_child_lem : ltb k s.regcount ≡ true → Some (child_end s r k) ≡ find_free_area s r len align
    unfolding find_free_area
    at_child_lem l = rw (t, f, l)

    module _ (l : ltb k s.regcount ≡ false) (j : ℕ) (g : first (takes_mapping s r len align) 0 s.mapcount ≡ j) where
      pub at_mapping_lem : ltb j s.mapcount ≡ true → Some (mapping_end s r j) ≡ find_free_area s r len align
      unfolding find_free_area
      at_mapping_lem h = rw (t, f, l, g, h)

      pub nowhere : ltb j s.mapcount ≡ false → None ≡ find_free_area s r len align
      unfolding find_free_area
      nowhere h = rw (t, f, l, g, h)

module _ (s : Space) (r len align : ℕ) where
  pub odd_length : (o : Option ℕ) → multiple len align ≡ false → Err InvalidArgs ≡ determine_offset s r o len align
  unfolding determine_offset
  odd_length o m = rw m

module _ (s : Space) (r len align : ℕ) (o : Option ℕ) (m : multiple len align ≡ true) where
  module _ (at : ℕ) (e : o ≡ Some at) where
    pub asked_odd : multiple at align ≡ false → Err InvalidArgs ≡ determine_offset s r o len align
    unfolding determine_offset
    asked_odd t = rw (m, e, t)

    pub asked_full : multiple at align ≡ true → test_map s r at len ≡ false → Err InvalidArgs ≡ determine_offset s r o len align
    unfolding determine_offset
    asked_full t f = rw (m, e, t, f)

    pub asked_not : taken s r len align at ≡ false → Err InvalidArgs ≡ determine_offset s r o len align
    unfolding determine_offset
    asked_not t =
        ⊎_elim
        (λ (q : multiple at align ≡ true). let f : test_map s r at len ≡ false = rw q at t in rw (m, e, q, f))
        (λ (q : multiple at align ≡ false). rw (m, e, q))
        (tell (multiple at align))

    pub asked_taken : taken s r len align at ≡ true → Ok at ≡ determine_offset s r o len align
    unfolding determine_offset
    asked_taken t =
        ⊎_elim
        (λ (q : multiple at align ≡ true). let f : test_map s r at len ≡ true = rw q at t in rw (m, e, q, f))
        (λ (q : multiple at align ≡ false). no_truth (rw q at t))
        (tell (multiple at align))

    pub asked_free : multiple at align ≡ true → test_map s r at len ≡ true → Ok at ≡ determine_offset s r o len align
    unfolding determine_offset
    asked_free t f = rw (m, e, t, f)

  module _ (e : o ≡ None) where
    pub too_large : ltb (region_at s r).size len ≡ true → Err InvalidArgs ≡ determine_offset s r o len align
    unfolding determine_offset
    too_large t = rw (m, e, t)

    pub searched : ltb (region_at s r).size len ≡ false → found (find_free_area s r len align) ≡ determine_offset s r o len align
    unfolding determine_offset
    searched t = rw (m, e, t)

module _ (s : Space) (r len align k : ℕ) where
  pub no_child : eqb (region_at s (region_place s k)).parent r ≡ false → takes_child s r len align k ≡ false
  unfolding takes
  no_child e = rw e

  pub odd_child : eqb (region_at s (region_place s k)).parent r ≡ true → multiple (child_end s r k) align ≡ false → takes_child s r len align k ≡ false
  unfolding takes
  odd_child e m = rw (e, m)

  pub tried_child : eqb (region_at s (region_place s k)).parent r ≡ true → multiple (child_end s r k) align ≡ true
      → takes_child s r len align k ≡ test_map s r (child_end s r k) len
  unfolding takes
  tried_child e m = rw (e, m)

  pub no_mapping : eqb (mapping_at s (mapping_place s k)).region r ≡ false → takes_mapping s r len align k ≡ false
  unfolding takes
  no_mapping e = rw e

  pub odd_mapping : eqb (mapping_at s (mapping_place s k)).region r ≡ true → multiple (mapping_end s r k) align ≡ false → takes_mapping s r len align k ≡ false
  unfolding takes
  odd_mapping e m = rw (e, m)

  pub tried_mapping : eqb (mapping_at s (mapping_place s k)).region r ≡ true → multiple (mapping_end s r k) align ≡ true
      → takes_mapping s r len align k ≡ test_map s r (mapping_end s r k) len
  unfolding takes
  tried_mapping e m = rw (e, m)
