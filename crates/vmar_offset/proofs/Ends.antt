-- The search over one list of parts, by what a turn of its loop shows.
use Rattle.std.proofs.Common.{◌≡◌, ℕ, ◌+◌, ◌-◌, ◌^◌, ◌≤◌, ◌<◌, Bool, true, false, List, length, get_or, take, ltb, Option, Some, None, sym, ◌∙◌, ap, subst, arith, eq-eqb, ne_eqb, lt-ltb, le-ltb, ltb-true}
use Rattle.std.proofs.lemmas.List.{get_or-take, get_or_default}
use mathlib.Core.Logic.{⊎_elim}
use Rattle.paging.specs.Choice.{pick}
use Rattle.scan.specs.Scan.{first}
use Rattle.scan.proofs.Scans.{tell, first_here, first_later, first_none, first_alike}
use Rattle.space.specs.Passes.{Passes}
use Rattle.space.specs.Space.{region_at, region_place, mapping_place, blank_region, blank_mapping}
use Rattle.space.specs.declared.Space.{Space}
use Rattle.space.specs.declared.Region.{Region}
use Rattle.space.specs.declared.Mapping.{Mapping}
use Rattle.space.proofs.Facts.{region_place_lem, mapping_place_lem, child_in, mapping_in, region_end}
use Rattle.vmar_offset.specs.Offset.{takes, taken, takes_child, takes_mapping, child_end, at_child, at_mapping, test_map, find_free_area}
use Rattle.vmar_offset.specs.Ends.{EndsIn, part, end_at, takes_at, first_end}

module _ (s : Space) (r len align at off : ℕ) where
  -- the part of another region; of this one
  pub takes_not : (at ≡ r → ⊥) → takes s r len align at off ≡ false
  unfolding takes
  takes_not e = rw (ne_eqb at r e)

  pub takes_in : at ≡ r → takes s r len align at off ≡ taken s r len align off
  unfolding takes
  takes_in e = rw (eq-eqb at r e)

module _ {P : Type 0} (owner addr size : P → ℕ) (parts : List P) (list : List ℕ) (d : P) (s : Space) (r len align k : ℕ) where
  abbrev passed : ℕ → Type 0
  passed i = first (takes_at owner addr size parts list d s r len align) 0 (length list) ≡ first (takes_at owner addr size parts list d s r len align) i (length list)

  -- none is left
  pub end_nowhere : length list ≤ k → passed k → None ≡ first_end owner addr size parts list d s r len align
  end_nowhere l e = rw (e ∙ first_none _ _ _ l, le-ltb k (length list) l)

  module _ (l : k < length list) (before : passed k) (p : P) (e : p ≡ part parts list d k) where
    -- the part p at place k is of another region
    pub end_other : (owner p ≡ r → ⊥) → passed (k + 1)
    end_other o =
        let q : (owner (part parts list d k) ≡ r → ⊥) = λ z. o (ap owner e ∙ z) in
        before ∙ first_later _ _ _ l (takes_not s r len align (owner (part parts list d k)) (end_at addr size parts list d (region_at s r).addr k) q)

    module _ (o : owner p ≡ r) (off : ℕ) (f : off ≡ addr p + size p - (region_at s r).addr) where
      same_end : off ≡ end_at addr size parts list d (region_at s r).addr k
      same_end = f ∙ ap (λ (x : P). addr x + size x - (region_at s r).addr) e

      at_end : (t : Bool) → taken s r len align off ≡ t → takes_at owner addr size parts list d s r len align k ≡ t
      at_end t h =
          takes_in s r len align (owner (part parts list d k)) (end_at addr size parts list d (region_at s r).addr k) (sym (ap owner e) ∙ o)
          ∙ ap (taken s r len align) (sym same_end) ∙ h

      -- its end is not taken; it is
      pub end_passed : taken s r len align off ≡ false → passed (k + 1)
      end_passed h = before ∙ first_later _ _ _ l (at_end false h)

      pub end_here : taken s r len align off ≡ true → Some off ≡ first_end owner addr size parts list d s r len align
      end_here h = rw (before ∙ first_here _ _ _ l (at_end true h), lt-ltb k (length list) l, same_end)

-- the first n places of a list of slots
module _ {P : Type 0} (owner addr size : P → ℕ) (parts : List P) (list : List ℕ) (n : ℕ) (d : P) (s : Space) (r len align : ℕ) where
  pub first_places : length (take n list) ≡ n
      → first_end owner addr size parts (take n list) d s r len align
      ≡ pick (ltb (first (takes_at owner addr size parts list d s r len align) 0 n) n)
      (Some (end_at addr size parts list d (region_at s r).addr (first (takes_at owner addr size parts list d s r len align) 0 n)))
      None
  first_places many =
      let p = takes_at owner addr size parts (take n list) d s r len align in
      let q = takes_at owner addr size parts list d s r len align in
      let e : first p 0 n ≡ first q 0 n = first_alike p q n (λ k l. ap (λ (i : ℕ). takes s r len align (owner (get_or parts i d)) (addr (get_or parts i d) + size (get_or parts i d) - (region_at s r).addr)) (get_or-take n list k 0 l)) in
      rw many (rw e (by (first q 0 n)))
    where
      by : (k : ℕ) → pick (ltb k n) (Some (end_at addr size parts (take n list) d (region_at s r).addr k)) None ≡ pick (ltb k n) (Some (end_at addr size parts list d (region_at s r).addr k)) None
      by k =
          ⊎_elim
          (λ (t : ltb k n ≡ true). rw t (ap (λ (i : ℕ). Some (addr (get_or parts i d) + size (get_or parts i d) - (region_at s r).addr)) (get_or-take n list k 0 (ltb-true k n t))))
          (λ (t : ltb k n ≡ false). rw t)
          (tell (ltb k n))

-- the part at place k of the first n, whatever is read past the last
place_of : {P : Type 0} (parts : List P) (list : List ℕ) (n m k : ℕ) (d e : P) → length (take n list) ≡ n → length parts ≡ m → get_or list k 0 < m → k < length (take n list)
    → part parts (take n list) d k ≡ get_or parts (get_or list k 0) e
place_of parts list n m k d e many slots l h =
    ap (λ (i : ℕ). get_or parts i d) (get_or-take n list k 0 (omega arith)) ∙ get_or_default parts (get_or list k 0) d e (omega arith)

module _ {s : Space} {flags : List ℕ} (p : Passes s flags) (r : ℕ) where
  pub children_in : length (take s.regcount s.reglist) ≡ s.regcount → length s.regions ≡ 32 → r < 32
      → EndsIn (λ (g : Region). g.parent) (λ (g : Region). g.addr) (λ (g : Region). g.size) s.regions (take s.regcount s.reglist) r (region_at s r).addr
  children_in many slots h = record {
    slot = λ k l. let at = region_place_lem p k (omega arith) in let e = get_or-take s.regcount s.reglist k 0 (omega arith) in omega (arith, at.0);
    end = λ k d l.
        let at = region_place_lem p k (omega arith) in
        subst (λ (g : Region). g.addr + g.size < 2 ^ 64) (sym (place_of s.regions s.reglist s.regcount 32 k d blank_region many slots at.0 l)) (region_end p (region_place s k) at.0 at.1);
    after = λ k d l.
        let at = region_place_lem p k (omega arith) in
        let Q : Region → Type 0 = λ g. g.parent ≡ r → (region_at s r).addr ≤ g.addr in
        subst Q (sym (place_of s.regions s.reglist s.regcount 32 k d blank_region many slots at.0 l)) (λ e. (child_in p (region_place s k) r at.0 at.1 h e).0);
  }

  pub mappings_in : length (take s.mapcount s.maplist) ≡ s.mapcount → length s.mappings ≡ 64
      → EndsIn (λ (m : Mapping). m.region) (λ (m : Mapping). m.addr) (λ (m : Mapping). m.size) s.mappings (take s.mapcount s.maplist) r (region_at s r).addr
  mappings_in many slots = record {
    slot = λ k l. let at = mapping_place_lem p k (omega arith) in let e = get_or-take s.mapcount s.maplist k 0 (omega arith) in omega (arith, at.0);
    end = λ k d l.
        let at = mapping_place_lem p k (omega arith) in
        subst (λ (m : Mapping). m.addr + m.size < 2 ^ 64) (sym (place_of s.mappings s.maplist s.mapcount 64 k d blank_mapping many slots at.0 l)) (p.paged (mapping_place s k) at.0 at.1).end;
    after = λ k d l.
        let at = mapping_place_lem p k (omega arith) in
        let Q : Mapping → Type 0 = λ m. m.region ≡ r → (region_at s r).addr ≤ m.addr in
        subst Q (sym (place_of s.mappings s.maplist s.mapcount 64 k d blank_mapping many slots at.0 l)) (λ e. (mapping_in p (mapping_place s k) r at.0 at.1 e).0);
  }

-- the search by its parts
module _ (s : Space) (r len align : ℕ) where
  abbrev of_child : Option ℕ
  of_child = at_child s r (first (takes_child s r len align) 0 s.regcount) None

  abbrev of_mapping : Option ℕ
  of_mapping = at_mapping s r (first (takes_mapping s r len align) 0 s.mapcount)

  pub area_of_child : (at : ℕ) → test_map s r 0 len ≡ false → Some at ≡ of_child → Some at ≡ find_free_area s r len align
  unfolding find_free_area
  area_of_child at t e =
      ⊎_elim
      (λ (l : ltb (first (takes_child s r len align) 0 s.regcount) s.regcount ≡ true). rw (t, l) (rw l at e))
      (λ (l : ltb (first (takes_child s r len align) 0 s.regcount) s.regcount ≡ false). let z : ◌≡◌ {A = Option ℕ} (Some at) None = rw l at e in cc)
      (tell _)

  pub area_of_mapping : (a : Option ℕ) → test_map s r 0 len ≡ false → None ≡ of_child → a ≡ of_mapping → a ≡ find_free_area s r len align
  unfolding find_free_area
  area_of_mapping a t e f =
      ⊎_elim
      (λ (l : ltb (first (takes_child s r len align) 0 s.regcount) s.regcount ≡ true). let z : ◌≡◌ {A = Option ℕ} None (Some (child_end s r (first (takes_child s r len align) 0 s.regcount))) = rw l at e in cc)
      (λ (l : ltb (first (takes_child s r len align) 0 s.regcount) s.regcount ≡ false). rw (t, l) f)
      (tell _)
