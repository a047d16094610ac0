-- A space that passes its check still passes it with one child more.
use Prim.Native.Nat.{ℕ, ◌+◌, ◌-◌, ◌^◌, ◌<◌}
use mathlib.Core.Path.{◌≡◌, refl, sym, ◌∙◌, ap, subst}
use mathlib.Core.Bool.{Bool, true, false}
use mathlib.Core.List.{List}
use mathlib.Core.Logic.{⊎_elim}
use native.Mathlib.Omega.{arith}
use lib.ListN.{length, length-set}
use Rattle.paging.proofs.Cases.{same?}
use Rattle.common.specs.Flags.{known_region}
use Rattle.space.specs.Range.{overlap, inside}
use Rattle.space.specs.Space.{region_at, mapping_at, is_region, region_place, with_region, no_region, blank_region}
use Rattle.space.specs.Passes.{In, RootRange, Tree, Inside, Apart, Ids, Passes}
use Rattle.space.specs.declared.Region.{Region}
use Rattle.space.specs.declared.Space.{Space}
use Rattle.space.proofs.Facts.{region_place_lem, region_room}
use Rattle.space.specs.Arrays.{Arrays}
use Rattle.vmar_laws.specs.Search.{FreeIn}
use Rattle.vmar_laws.proofs.Lists.{last_place, early_place, still_in, listed_more}
use Rattle.vmar_laws.proofs.Ranges.{flip}
use Rattle.vmar_laws.proofs.Slots.{Fills, here, there, kept, each, pairs, blanks}

-- the parent of a live region lives
pub parent_lives : {s : Space} {flags : List ℕ} → Passes s flags → (j : ℕ) → j < 32 → is_region s j ≡ true → ((region_at s j).parent ≡ no_region → ⊥)
    → ((region_at s j).parent < 32) × (is_region s (region_at s j).parent ≡ true)
parent_lives {s} p j l a n =
    let m = p.regions.whole j l a in
    let k = m.0 in
    let h : k < s.regcount = m.1 in
    let q = p.tree.parent k h (λ e. n (ap (λ (x : ℕ). (region_at s x).parent) (sym m.2) ∙ e)) in
    let b = q.1 in
    let w = region_place_lem p q.0 (omega arith) in
    let e = q.2 ∙ ap (λ (x : ℕ). (region_at s x).parent) m.2 in
    (subst (λ (x : ℕ). x < 32) e w.0, subst (λ (x : ℕ). is_region s x ≡ true) e w.1)

-- the arrays keep their lengths
pub child_arrays : (s : Space) (i : ℕ) (g : Region) → Arrays s → Arrays (with_region s i g)
child_arrays s i g arrays = record {
  regions = length-set s.regions i g ∙ arrays.regions;
  mappings = arrays.mappings;
  reglist = length-set s.reglist s.regcount i ∙ arrays.reglist;
  maplist = arrays.maplist;
}

-- what a child to be has: the next id, known flags, and a region with room for it
pub record Born (s : Space) (g : Region) : Type 0 where
  pub live : g.live ≡ true
  pub id : g.id ≡ s.nextid
  pub next : s.nextid < 2 ^ 32 - 1
  pub known : known_region g.flags ≡ true
  pub fits : FreeIn s g.parent g.addr g.size

module _ (s : Space) (flags : List ℕ) (p : Passes s flags) (arrays : Arrays s) (i : ℕ) (slot : i < 32) (free : is_region s i ≡ false)
    (g : Region) (b : Born s g) where
  abbrev lives : Region → Bool
  lives h = h.live

  abbrev t : Space
  t = with_region s i g

  room : s.regcount < length s.reglist
  room = let e = arrays.reglist in let z = region_room p i slot free in omega arith

  fills : Fills lives blank_region s.regions 32 i g
  fills = record { long = arrays.regions; slot = slot; free = free; born = b.live }

  -- the last place of the list is the child's, the others hold what they held
  last : (k : ℕ) → k ≡ s.regcount → region_at t (region_place t k) ≡ g
  last k e = here fills (region_place t k) (last_place s.reglist s.regcount i room k e)

  early : (k : ℕ) → k < s.regcount → region_at t (region_place t k) ≡ region_at s (region_place s k)
  early k l =
      ap (region_at t) (early_place s.reglist s.regcount i k (λ e. omega arith)) ∙ kept fills (region_place s k) (region_place_lem p k l).1

  -- a statement on the places of the list
  places : (P : ℕ → Region → Type 0) → P s.regcount g → ((k : ℕ) → k < s.regcount → P k (region_at s (region_place s k)))
      → (k : ℕ) → k < s.regcount + 1 → P k (region_at t (region_place t k))
  places P mine old k l =
      ⊎_elim
      (λ (e : k ≡ s.regcount). subst (P k) (sym (last k e)) (subst (λ (x : ℕ). P x g) (sym e) mine))
      (λ (e : k ≡ s.regcount → ⊥). let h : k < s.regcount = omega arith in subst (P k) (sym (early k h)) (old k h))
      (same? k s.regcount)

  no_root : {C : Type 0} → g.parent ≡ no_region → C
  no_root e = absurd (let z = b.fits.slot in omega arith)

  tree : Tree t
  tree = record {
    root = places (λ (k : ℕ) (h : Region). h.parent ≡ no_region → k ≡ 0) no_root p.tree.root;
    range = places (λ (k : ℕ) (h : Region). h.parent ≡ no_region → RootRange h.addr h.size) no_root p.tree.range;
    parent = places (λ (k : ℕ) (h : Region). (h.parent ≡ no_region → ⊥) → In t.reglist k h.parent)
        (λ n. still_in s.reglist s.regcount i s.regcount g.parent (omega arith) (p.regions.whole g.parent b.fits.slot b.fits.live))
        (λ k l n. still_in s.reglist s.regcount i k _ (omega arith) (p.tree.parent k l n));
  }

  -- a range inside a live region of s is inside that region of t
  still_inside : (r a n : ℕ) → is_region s r ≡ true → inside a n (region_at s r).addr (region_at s r).size ≡ true
      → inside a n (region_at t r).addr (region_at t r).size ≡ true
  still_inside r a n h e = subst (λ (x : Region). inside a n x.addr x.size ≡ true) (sym (kept fills r h)) e

  inner : Inside t
  inner = record {
    child = each fills
        (λ (j : ℕ) (h : Region). (h.parent ≡ no_region → ⊥) → inside h.addr h.size (region_at t h.parent).addr (region_at t h.parent).size ≡ true)
        (λ n. still_inside g.parent _ _ b.fits.live b.fits.inner)
        (λ j l a n. still_inside (region_at s j).parent _ _ (parent_lives p j l a n).1 (p.inner.child j l a n));
    region = λ j l a. let h = p.inner.region j l a in (h.0, subst (λ (x : Region). x.live ≡ true) (sym (kept fills _ h.1)) h.1);
    mapping = λ j l a. still_inside (mapping_at s j).region _ _ (p.inner.region j l a).1 (p.inner.mapping j l a);
  }

  apart_all : Apart t
  apart_all = record {
    children = pairs fills (λ (h k : Region). h.parent ≡ k.parent → overlap h.addr h.size k.addr k.size ≡ false)
        (λ j l a e. flip _ _ _ _ (b.fits.children j l a (sym e)))
        (λ j l a e. b.fits.children j l a e)
        p.apart.children;
    mappings = p.apart.mappings;
    both = λ j k l h a c. each fills
        (λ (x : ℕ) (v : Region). v.parent ≡ (mapping_at s k).region → overlap v.addr v.size (mapping_at s k).addr (mapping_at s k).size ≡ false)
        (λ e. flip _ _ _ _ (b.fits.mappings k h c (sym e)))
        (λ x m d. p.apart.both x k m h d c)
        j l a;
  }

  ids : Ids t
  ids = record {
    most = let z = b.next in omega arith;
    issued = each fills (λ (j : ℕ) (h : Region). h.id < s.nextid + 1) (let z = b.id in omega arith) (λ j l a. let z = p.ids.issued j l a in omega arith);
    distinct = pairs fills (λ (h k : Region). h.id ≡ k.id → ⊥)
        (λ j l a e. let z = p.ids.issued j l a in let w = b.id in omega arith)
        (λ j l a e. let z = p.ids.issued j l a in let w = b.id in omega arith)
        p.ids.distinct;
  }

  pub child_passes : Passes (with_region s i g) flags
  child_passes = record {
    lent = p.lent;
    regions = listed_more p.regions arrays.reglist (region_room p i slot free) i slot free (is_region t)
        (ap lives (here fills i refl) ∙ b.live)
        (λ j n. ap lives (there fills j n));
    mappings = p.mappings;
    tree = tree;
    inner = inner;
    apart = apart_all;
    paged = p.paged;
    pages = p.pages;
    known = record { region = each fills (λ (j : ℕ) (h : Region). known_region h.flags ≡ true) b.known p.known.region; mapping = p.known.mapping };
    ids = ids;
    blank = record {
      region = blanks fills p.blank.region;
      mapping = p.blank.mapping;
    };
  }
