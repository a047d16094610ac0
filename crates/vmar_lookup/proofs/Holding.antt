-- The first listed part that holds an address, by what a turn of the loop shows; and for the lists of a space.
use Rattle.std.proofs.Common.{◌≡◌, ℕ, ◌≤◌, ◌<◌, ◌+◌, Bool, true, false, List, length, get_or, take, ltb, Option, Some, None, Result, arith, refl, sym, ◌∙◌, ap, lt-ltb, le-ltb, ltb-true}
use Rattle.std.proofs.lemmas.List.{get_or-take}
use mathlib.Core.Logic.{⊎_elim}
use Rattle.paging.specs.Choice.{pick}
use Rattle.scan.specs.Scan.{first}
use Rattle.scan.proofs.Scans.{tell, first_here, first_later, first_none, first_alike}
use Rattle.std.specs.Option.{ok_or}
use Rattle.refusal.specs.declared.Refusal.{Refusal}
use Rattle.refusal.specs.declared.Refusal.TheVariants.{NothingThere}
use Rattle.space.specs.Range.{contains}
use Rattle.space.specs.Space.{region_at, blank_region, blank_mapping}
use Rattle.space.specs.declared.Space.{Space}
use Rattle.space.specs.declared.Region.{Region}
use Rattle.space.specs.declared.Mapping.{Mapping}
use Rattle.vmar_lookup.specs.Lookup.{owned, part, holds_at, first_holding, child_holding, mapping_holding, step_at, follow, Next, Down, Here, Refused}
use Rattle.vmar_lookup.proofs.Lookups.{downward, at_mapping_lem, nothing_there}

module _ {P : Type 0} (owner addr size : P → ℕ) (parts : List P) (list : List ℕ) (d : P) (r x k : ℕ) where
  abbrev passed : ℕ → Type 0
  passed i = first (holds_at owner addr size parts list d r x) 0 (length list) ≡ first (holds_at owner addr size parts list d r x) i (length list)

  pub holding_nowhere : length list ≤ k → passed k → None ≡ first_holding owner addr size parts list d r x
  holding_nowhere l e = rw (e ∙ first_none _ _ _ l, le-ltb k (length list) l)

  module _ (l : k < length list) (before : passed k) (p : P) (e : p ≡ part parts list d k) where
    same : (t : Bool) → owned (owner p) r (addr p) (size p) x ≡ t → holds_at owner addr size parts list d r x k ≡ t
    same t h = sym (ap (λ (q : P). owned (owner q) r (addr q) (size q) x) e) ∙ h

    pub holding_passed : owned (owner p) r (addr p) (size p) x ≡ false → passed (k + 1)
    holding_passed h = before ∙ first_later _ _ _ l (same false h)

    pub holding_here : owned (owner p) r (addr p) (size p) x ≡ true → Some (get_or list k 0) ≡ first_holding owner addr size parts list d r x
    holding_here h = rw (before ∙ first_here _ _ _ l (same true h), lt-ltb k (length list) l)

-- the first n places of a list of slots
module _ {P : Type 0} (owner addr size : P → ℕ) (parts : List P) (list : List ℕ) (n : ℕ) (d : P) (r x : ℕ) where
  pub holding_places : length (take n list) ≡ n
      → first_holding owner addr size parts (take n list) d r x
      ≡ pick (ltb (first (holds_at owner addr size parts list d r x) 0 n) n) (Some (get_or list (first (holds_at owner addr size parts list d r x) 0 n) 0)) None
  holding_places many =
      let p = holds_at owner addr size parts (take n list) d r x in
      let q = holds_at owner addr size parts list d r x in
      let e : first p 0 n ≡ first q 0 n = first_alike p q n (λ k l. ap (λ (i : ℕ). owned (owner (get_or parts i d)) r (addr (get_or parts i d)) (size (get_or parts i d)) x) (get_or-take n list k 0 l)) in
      rw many (rw e (by (first q 0 n)))
    where
      by : (k : ℕ) → pick (ltb k n) (Some (get_or (take n list) k 0)) None ≡ pick (ltb k n) (Some (get_or list k 0)) None
      by k =
          ⊎_elim
          (λ (t : ltb k n ≡ true). rw t (ap (λ (i : ℕ). Some i) (get_or-take n list k 0 (ltb-true k n t))))
          (λ (t : ltb k n ≡ false). rw t)
          (tell (ltb k n))

-- an index or none, by a test
pub there_some : (t : Bool) (i k : ℕ) → pick t (Some i) None ≡ Some k → (t ≡ true) × (i ≡ k)
there_some true i k e = (refl, cc)
there_some false i k e = cc

pub there_none : (t : Bool) (i : ℕ) → pick t (Some i) None ≡ None → t ≡ false
there_none true i e = cc
there_none false i e = refl

-- the slots of a list are slots of the parts
pub slots_in : {P : Type 0} (parts : List P) (list : List ℕ) (n m : ℕ) → length (take n list) ≡ n → length parts ≡ m → ((k : ℕ) → k < n → get_or list k 0 < m)
    → (k : ℕ) → k < length (take n list) → get_or (take n list) k 0 < length parts
slots_in parts list n m many slots low k l = let h = low k (omega arith) in let e = get_or-take n list k 0 (omega arith) in omega arith

-- where a region holds no child that holds the address
abbrev pub here_or : Option ℕ → Next
here_or (Some m) = Here m
here_or None = Refused NothingThere

pub ended_at : (f : ℕ → Result ℕ Refusal) (o : Option ℕ) → follow f (here_or o) ≡ ok_or o NothingThere
ended_at f (Some m) = refl
ended_at f None = refl

-- a step by what the two searches answer
module _ (s : Space) (x r : ℕ) (c : contains (region_at s r).addr (region_at s r).size x ≡ true) (many : length (take s.regcount s.reglist) ≡ s.regcount) where
  abbrev in_child : Option ℕ
  in_child = first_holding (λ (g : Region). g.parent) (λ (g : Region). g.addr) (λ (g : Region). g.size) s.regions (take s.regcount s.reglist) blank_region r x

  pub stepped_down : (i : ℕ) → Some i ≡ in_child → step_at s x r ≡ Down i
  stepped_down i e =
      let q = there_some _ _ i (sym (e ∙ holding_places (λ (g : Region). g.parent) (λ (g : Region). g.addr) (λ (g : Region). g.size) s.regions s.reglist s.regcount blank_region r x many)) in
      sym (downward s x r c (child_holding s r x) refl q.0) ∙ ap (λ (j : ℕ). Down j) q.1

  module _ (e : None ≡ in_child) (mapped : length (take s.mapcount s.maplist) ≡ s.mapcount) where
    no_child : ltb (child_holding s r x) s.regcount ≡ false
    no_child = there_none _ _ (sym (e ∙ holding_places (λ (g : Region). g.parent) (λ (g : Region). g.addr) (λ (g : Region). g.size) s.regions s.reglist s.regcount blank_region r x many))

    pub stepped_here : (o : Option ℕ) → o ≡ first_holding (λ (m : Mapping). m.region) (λ (m : Mapping). m.addr) (λ (m : Mapping). m.size) s.mappings (take s.mapcount s.maplist) blank_mapping r x
        → step_at s x r ≡ here_or o
    stepped_here o f =
        let g = f ∙ holding_places (λ (m : Mapping). m.region) (λ (m : Mapping). m.addr) (λ (m : Mapping). m.size) s.mappings s.maplist s.mapcount blank_mapping r x mapped in
        ⊎_elim
        (λ (t : ltb (mapping_holding s r x) s.mapcount ≡ true).
        sym (at_mapping_lem s x r c (child_holding s r x) refl no_child (mapping_holding s r x) refl t) ∙ ap here_or (sym (rw t at g)))
        (λ (t : ltb (mapping_holding s r x) s.mapcount ≡ false).
        sym (nothing_there s x r c (child_holding s r x) refl no_child (mapping_holding s r x) refl t) ∙ ap here_or (sym (rw t at g)))
        (tell (ltb (mapping_holding s r x) s.mapcount))
