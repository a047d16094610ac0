-- A fresh space passes its check.
use Prim.Native.Nat.{ℕ, ◌+◌, ◌*◌, ◌≤◌, ◌<◌}
use mathlib.Core.Path.{◌≡◌, refl, sym, ◌∙◌, ap, subst}
use mathlib.Core.Bool.{true}
use mathlib.Core.List.{List}
use mathlib.Core.Logic.{inl, inr, ⊎_elim}
use native.Mathlib.Omega.{arith}
use lib.ListN.{get_or, replicate, length-replicate, length-set, get_or-replicate, get_or-eq_default}
use Rattle.paging.proofs.Cases.{same?, below?, clash}
use Rattle.common.specs.Flags.{known_region}
use Rattle.space.specs.Space.{region_at, mapping_at, is_region, is_mapping, region_place, blank_region, blank_mapping, no_region}
use Rattle.space.specs.Passes.{RootRange, Listed, Passes}
use Rattle.space.specs.declared.Region.{Region}
use Rattle.space.specs.declared.Mapping.{Mapping}
use Rattle.space.specs.declared.Space.{Space}
use Rattle.space.specs.Arrays.{Arrays}
use Rattle.vmar_laws.proofs.Slots.{Fills, here, there, each, blanks}
use Rattle.vmar_root.specs.Root.{new_space}
use Rattle.vmar.specs.Laws.{Zeroed, Fresh}

-- a list of one thing holds it everywhere, past its end too where the default is that thing
same_all : {A : Type 0} (n i : ℕ) (a : A) → get_or (replicate n a) i a ≡ a
same_all n i a =
    ⊎_elim
    (λ (l : i < n). get_or-replicate n i a a l)
    (λ (l : n ≤ i). let e = length-replicate n a in get_or-eq_default (replicate n a) a (omega arith))
    (below? i n)

module _ (addr size : ℕ) where
  abbrev s : Space
  s = new_space addr size

  abbrev root : Region
  root = record { live = true; id = 0; addr = addr; size = size; flags = 0x78; parent = 32 }

  -- slot 0 holds the root, the others nothing
  fills : Fills (λ (g : Region). g.live) blank_region (replicate 32 blank_region) 32 0 root
  fills = record {
    long = length-replicate 32 blank_region;
    slot = omega arith;
    free = ap (λ (g : Region). g.live) (same_all 32 0 blank_region);
    born = refl;
  }

  -- a statement on live regions is one on the root
  of_root : (P : ℕ → Region → Type 0) → P 0 root → (j : ℕ) → j < 32 → is_region s j ≡ true → P j (region_at s j)
  of_root P mine = each fills P mine (λ j l a. clash _ a (ap (λ (g : Region). g.live) (same_all 32 j blank_region)))

  no_region_lem : {A : Type 0} (j : ℕ) → (j ≡ 0 → ⊥) → is_region s j ≡ true → A
  no_region_lem j n a = clash _ a (ap (λ (g : Region). g.live) (there fills j n ∙ same_all 32 j blank_region))

  no_mapping : {A : Type 0} (j : ℕ) → is_mapping s j ≡ true → A
  no_mapping j a = clash _ a (ap (λ (m : Mapping). m.live) (same_all 64 j blank_mapping))

  regions : Listed 32 s.reglist 1 (is_region s)
  regions = record {
    room = omega arith;
    slot = λ k l. let e = same_all {A = ℕ} 32 k 0 in omega arith;
    once = λ j k h l e. omega arith;
    rest = λ k l h. same_all {A = ℕ} 32 k 0;
    live = λ j l m. subst (λ (x : ℕ). is_region s x ≡ true) (sym (same_all {A = ℕ} 32 m.0 0) ∙ m.2) (ap (λ (g : Region). g.live) (here fills 0 refl));
    whole = λ j l a. ⊎_elim (λ (e : j ≡ 0). (0, omega arith, sym e)) (λ (n : j ≡ 0 → ⊥). no_region_lem j n a) (same? j 0);
  }

  mappings : Listed 64 s.maplist 0 (is_mapping s)
  mappings = record {
    room = omega arith;
    slot = λ k l. absurd (omega arith);
    once = λ j k h l e. omega arith;
    rest = λ k l h. same_all {A = ℕ} 64 k 0;
    live = λ j l m. absurd (let h = m.1 in omega arith);
    whole = λ j l a. no_mapping j a;
  }

  -- the only place holds the root
  first_place : (k : ℕ) → region_at s (region_place s k) ≡ root
  first_place k = here fills (region_place s k) (same_all {A = ℕ} 32 k 0)

  module _ (range : RootRange addr size) (f : List ℕ) (zeroed : Zeroed f) where
    pub fresh_passes : Passes (new_space addr size) f
    fresh_passes = record {
      lent = zeroed.lent;
      regions = regions;
      mappings = mappings;
      tree = record {
        root = λ k l e. omega arith;
        range = λ k l e. subst (λ (g : Region). RootRange g.addr g.size) (sym (first_place k)) range;
        parent = λ k l n. absurd (n (ap (λ (g : Region). g.parent) (first_place k)));
      };
      inner = record {
        child = λ j l a n. absurd (n (of_root (λ (x : ℕ) (g : Region). g.parent ≡ no_region) refl j l a));
        region = λ j l a. no_mapping j a;
        mapping = λ j l a. no_mapping j a;
      };
      apart = record {
        children = λ j k h l a c e. no_region_lem j (λ q. omega arith) a;
        mappings = λ j k h l a c e. no_mapping j a;
        both = λ j k l h a c e. no_mapping k c;
      };
      paged = λ j l a. no_mapping j a;
      pages = λ j l.
          let e : (mapping_at s j).size ≡ 0 = ap (λ (m : Mapping). m.size) (same_all 64 j blank_mapping) in
          record { known = λ k h. absurd (omega arith); alike = λ k h. absurd (omega arith); past = λ k h q. zeroed.zero (j * 512 + k) };
      known = record { region = of_root (λ (x : ℕ) (g : Region). known_region g.flags ≡ true) refl; mapping = λ j l a. no_mapping j a };
      ids = record {
        most = omega arith;
        issued = of_root (λ (x : ℕ) (g : Region). g.id < 1) (omega arith);
        distinct = λ j k h l a c e. no_region_lem j (λ q. omega arith) a;
      };
      blank = record { region = blanks fills (λ j l a. same_all 32 j blank_region); mapping = λ j l a. same_all 64 j blank_mapping };
    }

  fresh_arrays : Arrays (new_space addr size)
  fresh_arrays = record {
    regions = length-set (replicate 32 blank_region) 0 root ∙ length-replicate 32 blank_region;
    mappings = length-replicate 64 blank_mapping;
    reglist = length-replicate {A = ℕ} 32 0;
    maplist = length-replicate {A = ℕ} 64 0;
  }

pub fresh : Fresh
fresh = record {
  passes = fresh_passes;
  arrays = fresh_arrays;
  user = fresh_passes 0x200000 0x7fffffdff000 (inl (refl, refl));
  kernel = fresh_passes 0xffffff0200000000 0x8000000000 (inr (refl, refl));
}
