-- A space that passes its check still passes it with one mapping more.
use Prim.Native.Nat.{ℕ, ◌/◌, ◌≤◌, ◌<◌}
use mathlib.Core.Path.{◌≡◌, refl, sym, ◌∙◌, ap, subst}
use mathlib.Core.Bool.{Bool, true, false}
use mathlib.Core.List.{List}
use mathlib.Core.Logic.{⊎_elim}
use native.Mathlib.Omega.{arith}
use lib.ListN.{length, length-set}
use Rattle.paging.proofs.Cases.{same?}
use Rattle.common.specs.Flags.{known_page}
use Rattle.scan.proofs.Scans.{tell}
use Rattle.space.specs.Range.{overlap, inside}
use Rattle.space.specs.Space.{region_at, mapping_at, is_region, is_mapping, with_mapping, blank_mapping}
use Rattle.space.specs.Passes.{Inside, Apart, Paged, Pages, others, page_at, Passes}
use Rattle.space.specs.declared.Mapping.{Mapping}
use Rattle.space.specs.declared.Space.{Space}
use Rattle.space.proofs.Facts.{mapping_room}
use Rattle.space.specs.Arrays.{Arrays}
use Rattle.vmar_laws.specs.Search.{FreeIn}
use Rattle.vmar_laws.specs.Maps.{PagesGiven}
use Rattle.vmar_laws.proofs.Lists.{listed_more}
use Rattle.vmar_laws.proofs.Slots.{Fills, here, there, each, pairs, blanks}
use Rattle.vmar_laws.proofs.Ranges.{flip}

-- the arrays keep their lengths
pub mapping_arrays : (s : Space) (i : ℕ) (m : Mapping) → Arrays s → Arrays (with_mapping s i m)
mapping_arrays s i m arrays = record {
  regions = arrays.regions;
  mappings = length-set s.mappings i m ∙ arrays.mappings;
  reglist = arrays.reglist;
  maplist = length-set s.maplist s.mapcount i ∙ arrays.maplist;
}

-- what a mapping to be has: whole pages, known permissions, and a region with room for it
pub record Born (s : Space) (m : Mapping) : Type 0 where
  pub live : m.live ≡ true
  pub fits : FreeIn s m.region m.addr m.size
  pub paged : Paged m
  pub known : known_page m.permissions ≡ true

-- a slot has at most 512 pages, and a free one none
module _ {s : Space} {f : List ℕ} (p : Passes s f) where
  no_pages : (j : ℕ) → j < 64 → is_mapping s j ≡ false → (mapping_at s j).size / 4096 ≡ 0
  no_pages j l a = ap (λ (m : Mapping). m.size / 4096) (p.blank.mapping j l a)

  pages_most : (j : ℕ) → j < 64 → (mapping_at s j).size / 4096 ≤ 512
  pages_most j l =
      ⊎_elim
      (λ (a : is_mapping s j ≡ true). (p.paged j l a).few)
      (λ (a : is_mapping s j ≡ false). let z = no_pages j l a in omega arith)
      (tell (is_mapping s j))

  -- all flags of a free slot are zero
  pub zeros : (j : ℕ) → j < 64 → is_mapping s j ≡ false → (k : ℕ) → k < 512 → page_at f j k ≡ 0
  zeros j l a k h = let z = no_pages j l a in (p.pages j l).past k (omega arith) h

module _ (s : Space) (f : List ℕ) (p : Passes s f) (arrays : Arrays s) (i : ℕ) (slot : i < 64) (free : is_mapping s i ≡ false)
    (m : Mapping) (b : Born s m) (g : List ℕ) (flags : ℕ) (lent : length g ≡ 32768) (known : known_page flags ≡ true) (given : PagesGiven f g i (m.size / 4096) flags) where
  abbrev lives : Mapping → Bool
  lives n = n.live

  abbrev t : Space
  t = with_mapping s i m

  fills : Fills lives blank_mapping s.mappings 64 i m
  fills = record { long = arrays.mappings; slot = slot; free = free; born = b.live }

  inner : Inside t
  inner = record {
    child = p.inner.child;
    region = each fills (λ (j : ℕ) (n : Mapping). (n.region < 32) × (is_region s n.region ≡ true)) (b.fits.slot, b.fits.live) p.inner.region;
    mapping = each fills (λ (j : ℕ) (n : Mapping). inside n.addr n.size (region_at s n.region).addr (region_at s n.region).size ≡ true) b.fits.inner
        p.inner.mapping;
  }

  apart_all : Apart t
  apart_all = record {
    children = p.apart.children;
    mappings = pairs fills (λ (n k : Mapping). n.region ≡ k.region → overlap n.addr n.size k.addr k.size ≡ false)
        (λ j l a e. flip _ _ _ _ (b.fits.mappings j l a (sym e)))
        (λ j l a e. b.fits.mappings j l a e)
        p.apart.mappings;
    both = λ j k l h a c. each fills
        (λ (x : ℕ) (n : Mapping). (region_at s j).parent ≡ n.region → overlap (region_at s j).addr (region_at s j).size n.addr n.size ≡ false)
        (λ e. b.fits.children j l a e)
        (λ x q d. p.apart.both j x l q a d)
        k h c;
  }

  -- the mapping's pages all have the flags given, those of other slots what they had
  own_pages : Pages g i (m.size / 4096)
  own_pages = record {
    known = λ j l. subst (λ (x : ℕ). known_page x ≡ true) (sym (given.given j l)) known;
    alike = λ j l. ap others (given.given j l ∙ sym (given.given 0 (omega arith)));
    past = given.past;
  }

  kept_pages : (j : ℕ) → j < 64 → (j ≡ i → ⊥) → Pages g j ((mapping_at s j).size / 4096)
  kept_pages j l d =
      let old = p.pages j l in
      let most = pages_most p j l in
      record {
        known = λ k h. subst (λ (x : ℕ). known_page x ≡ true) (sym (given.kept j k d (omega arith))) (old.known k h);
        alike = λ k h. ap others (given.kept j k d (omega arith)) ∙ old.alike k h ∙ sym (ap others (given.kept j 0 d (omega arith)));
        past = λ k h q. given.kept j k d q ∙ old.past k h q;
      }

  pages : (j : ℕ) → j < 64 → Pages g j ((mapping_at t j).size / 4096)
  pages j l =
      ⊎_elim
      (λ (e : j ≡ i). subst (λ (n : Mapping). Pages g j (n.size / 4096)) (sym (here fills j e)) (subst (λ (x : ℕ). Pages g x (m.size / 4096)) (sym e) own_pages))
      (λ (d : j ≡ i → ⊥). subst (λ (n : Mapping). Pages g j (n.size / 4096)) (sym (there fills j d)) (kept_pages j l d))
      (same? j i)

  pub mapping_passes : Passes (with_mapping s i m) g
  mapping_passes = record {
    lent = lent;
    regions = p.regions;
    mappings = listed_more p.mappings arrays.maplist (mapping_room p i slot free) i slot free (is_mapping t) (ap lives (here fills i refl) ∙ b.live)
        (λ j n. ap lives (there fills j n));
    tree = record { root = p.tree.root; range = p.tree.range; parent = p.tree.parent };
    inner = inner;
    apart = apart_all;
    paged = each fills (λ (j : ℕ) (n : Mapping). Paged n) b.paged p.paged;
    pages = pages;
    known = record {
      region = p.known.region;
      mapping = each fills (λ (j : ℕ) (n : Mapping). known_page n.permissions ≡ true) b.known p.known.mapping;
    };
    ids = record { most = p.ids.most; issued = p.ids.issued; distinct = p.ids.distinct };
    blank = record { region = p.blank.region; mapping = blanks fills p.blank.mapping };
  }
