-- The clauses of the check are the phrases of `Passes`.
use Rattle.std.proofs.Common.{◌≡◌, ℕ, ◌<◌, ◌≤◌, Bool, true, false, List, length, refl, sym, subst, ◌⊎◌, inl, inr, arith}
use Rattle.paging.proofs.Cases.{same?, clash}
use Rattle.space.specs.Space.{region_at, is_region, region_place}
use Rattle.space.specs.Passes.{In, Listed, Apart, RootRange, Passes}
use Rattle.space.specs.declared.Space.{Space}
use Rattle.space_slots.specs.Slots.{Places}
use Rattle.space_check.specs.Clauses.{GoodRegions, GoodMappings}
use Rattle.space.proofs.Facts.{region_end}

-- a list, by its places and by what its slots say
module _ {n : ℕ} {list : List ℕ} {count : ℕ} {lives : ℕ → Bool} (size : length list ≡ n) where
  pub listed : Places list count → ((i : ℕ) → i < n → lives i ≡ true → In list count i) → ((i : ℕ) → i < n → lives i ≡ false → In list count i → ⊥)
      → Listed n list count lives
  listed p h u = record {
    room = let z = p.room in omega arith;
    slot = λ k l. let z = p.slot k l in omega arith;
    once = λ j k l h e. p.once k h (j, l, e);
    rest = λ k l h. p.rest k l (omega arith);
    live = λ i l m. alive i l m (lives i) refl;
    whole = h;
  }
    where
      alive : (i : ℕ) → i < n → In list count i → (b : Bool) → lives i ≡ b → lives i ≡ true
      alive i l m true e = e
      alive i l m false e = absurd (u i l e m)

  pub placed : Listed n list count lives → Places list count
  placed p = record {
    room = let z = p.room in omega arith;
    slot = λ k l. let z = p.slot k l in omega arith;
    once = λ k l m. p.once m.0 k m.1 l m.2;
    rest = λ k l h. p.rest k l (omega arith);
  }

module _ {s : Space} {flags : List ℕ} where
  pub whole : length s.reglist ≡ 32 → length s.maplist ≡ 64 → GoodRegions s → GoodMappings s flags → Apart s → Passes s flags
  whole 32-long 64-long r m a = record {
    lent = m.lent;
    regions = regions;
    mappings = listed 64-long m.places (λ i l. (m.slots i l).listed) (λ i l. (m.slots i l).unlisted);
    tree = record {
      root = λ k l. (r.tree k l).root;
      range = λ k l e. ((r.slots (region_place s k) (regions.slot k l)).good (regions.live (region_place s k) (regions.slot k l) (k, l, refl))).range e;
      parent = λ k l. (r.tree k l).below;
    };
    inner = record {
      child = λ i l a. ((r.slots i l).good a).inner;
      region = λ i l a. (((m.slots i l).good a).slot, ((m.slots i l).good a).live);
      mapping = λ i l a. ((m.slots i l).good a).inner;
    };
    apart = a;
    paged = λ i l a. ((m.slots i l).good a).paged;
    pages = m.pages;
    known = record { region = λ i l a. ((r.slots i l).good a).known; mapping = λ i l a. ((m.slots i l).good a).known };
    ids = record { most = r.most; issued = λ i l a. ((r.slots i l).good a).issued; distinct = λ i j l h. r.ids i h j l };
    blank = record { region = λ i l. (r.slots i l).blank; mapping = λ i l. (m.slots i l).blank };
  }
    where
      regions : Listed 32 s.reglist s.regcount (is_region s)
      regions = listed 32-long r.places (λ i l. (r.slots i l).listed) (λ i l. (r.slots i l).unlisted)

  pub regions_of : length s.reglist ≡ 32 → Passes s flags → GoodRegions s
  regions_of 32-long p = record {
    most = p.ids.most;
    places = placed 32-long p.regions;
    slots = λ i l. record {
      listed = p.regions.whole i l;
      good = λ a. record {
        known = p.known.region i l a;
        issued = p.ids.issued i l a;
        end = region_end p i l a;
        slot = parent_slot i (p.regions.whole i l a);
        range = range i (p.regions.whole i l a);
        inner = p.inner.child i l a;
      };
      unlisted = λ n m. clash _ (p.regions.live i l m) n;
      blank = p.blank.region i l;
    };
    tree = λ k l. record { root = p.tree.root k l; below = p.tree.parent k l };
    ids = λ i h j l. p.ids.distinct i j l h;
  }
    where
      range : (i : ℕ) → In s.reglist s.regcount i → (region_at s i).parent ≡ 32 → RootRange (region_at s i).addr (region_at s i).size
      range i m e =
          subst (λ (j : ℕ). RootRange (region_at s j).addr (region_at s j).size) m.2
          (p.tree.range m.0 m.1 (subst (λ (j : ℕ). (region_at s j).parent ≡ 32) (sym m.2) e))

      -- a parent is listed, and so a slot
      listed_parent : (k : ℕ) → k < s.regcount → ((region_at s (region_place s k)).parent ≡ 32) ⊎ ((region_at s (region_place s k)).parent ≡ 32 → ⊥)
          → (region_at s (region_place s k)).parent ≤ 32
      listed_parent k l (inl e) = omega arith
      listed_parent k l (inr n) =
          let m = p.tree.parent k l n in
          let j = m.1 in
          let h = p.regions.slot m.0 (omega arith) in
          let e = m.2 in
          omega arith

      parent_slot : (i : ℕ) → In s.reglist s.regcount i → (region_at s i).parent ≤ 32
      parent_slot i m = subst (λ (j : ℕ). (region_at s j).parent ≤ 32) m.2 (listed_parent m.0 m.1 (same? _ _))

  pub mappings_of : length s.maplist ≡ 64 → Passes s flags → GoodMappings s flags
  mappings_of 64-long p = record {
    lent = p.lent;
    places = placed 64-long p.mappings;
    slots = λ i l. record {
      listed = p.mappings.whole i l;
      good = λ a. record {
        slot = (p.inner.region i l a).0;
        live = (p.inner.region i l a).1;
        inner = p.inner.mapping i l a;
        paged = p.paged i l a;
        known = p.known.mapping i l a;
      };
      unlisted = λ n m. clash _ (p.mappings.live i l m) n;
      blank = p.blank.mapping i l;
    };
    pages = p.pages;
  }
