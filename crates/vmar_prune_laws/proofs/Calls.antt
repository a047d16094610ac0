-- The calls' cuts are cuts, and what is left of their region.
use Prim.Native.Nat.{ℕ, zero, suc, ◌+◌, ◌-◌, ◌%◌, ◌≤◌, ◌<◌}
use mathlib.Core.Path.{◌≡◌, refl, sym, ◌∙◌, ap, subst}
use mathlib.Core.Bool.{Bool, true, false}
use mathlib.Core.List.{List}
use mathlib.Core.Logic.{inl, inr, ⊎_elim}
use native.Mathlib.Omega.{arith}
use lib.Dec.{eqb}
use lib.ListN.{get_or, set, length-set, get_or-eq_default}
use lib.Seq.{get_or-set_same, get_or-set_other}
use borrow.Author.Tests.{eqb-true, eq-eqb, not-true}
use Rattle.paging.proofs.Cases.{same?, below?, decided_true, decided_false, no_truth, clash}
use Rattle.scan.proofs.Scans.{tell, first_passes}
use Rattle.space.specs.Range.{inside}
use Rattle.space.specs.Space.{region_at, mapping_at, is_region, is_mapping, region_place, mapping_place, no_region}
use Rattle.space.specs.Passes.{Passes, RootRange}
use Rattle.space.specs.declared.Region.{Region}
use Rattle.space.specs.declared.Space.{Space}
use Rattle.space.proofs.Ranges.{inner_of, holds_of}
use Rattle.space.proofs.Facts.{region_place_lem, mapping_place_lem, child_in, mapping_in}
use Rattle.vmar_offset.specs.Offset.{free_mapping}
use Rattle.vmar_doom.specs.Doomed.{is_child_in, Doomed}
use Rattle.vmar_doom.specs.Doomed as doomed
use Rattle.vmar_doom.proofs.Dooms.{doomed_lives, marked_tells, marked_long}
use Rattle.vmar_prune.specs.Prune.{split_at, split_slot, cut_space, cut_flags}
use Rattle.vmar_prune_laws.specs.Cutting.{Cutting}
use Rattle.vmar_prune_laws.specs.Cut.{Cut}
use Rattle.vmar_prune_laws.specs.Calls.{END, Marking, Under, child, deeper, Cleared, Destroyed, CallsAll}
use Rattle.vmar_prune_laws.proofs.Pieces.{before_most, split_is}
use Rattle.vmar_prune_laws.proofs.Cuts.{cut_all}

child_of : (s : Space) (i r b e : ℕ) → is_child_in (region_at s i) r b e ≡ true → (region_at s i).parent ≡ r
unfolding is_child_in
child_of s i r b e t =
    ⊎_elim
    (λ (x : eqb (region_at s i).parent r ≡ true). eqb-true _ _ x)
    (λ (x : eqb (region_at s i).parent r ≡ false). no_truth (rw x at t))
    (tell (eqb (region_at s i).parent r))

is_child : (s : Space) (i r b e : ℕ) → (region_at s i).parent ≡ r → inside (region_at s i).addr (region_at s i).size b (e - b) ≡ true → is_child_in (region_at s i) r b e ≡ true
unfolding is_child_in
is_child s i r b e q t = rw (eq-eqb (region_at s i).parent r q) t

module _ {s : Space} {f : List ℕ} (p : Passes s f) where
  -- a slot stands at one place
  one_place : (j k : ℕ) → j < s.regcount → k < s.regcount → region_place s j ≡ region_place s k → j ≡ k
  one_place j k l h q =
      ⊎_elim
      (λ (n : j < k). absurd (p.regions.once j k n h q))
      (λ (n : k ≤ j). ⊎_elim (λ (t : k ≡ j). sym t) (λ (t : k ≡ j → ⊥). absurd (p.regions.once k j (omega arith) l (sym q))) (same? k j))
      (below? j k)

  -- the parent at place j stands before its child at place k
  after_parent : (j k : ℕ) → j < s.regcount → k < s.regcount → region_place s j ≡ (region_at s (region_place s k)).parent → j < k
  after_parent j k l h q =
      let at = (region_place_lem p j l).0 in
      let up = p.tree.parent k h (λ z. omega arith) in
      let n = up.1 in
      let z = one_place up.0 j (omega arith) l (up.2 ∙ sym q) in
      omega arith

  -- all lies before END
  root_before : (a n : ℕ) → RootRange a n → a + n ≤ END
  root_before a n (inl e) = omega (arith, e.1)
  root_before a n (inr e) = omega (arith, e.0, e.1)

  place_before : (n k : ℕ) → k < n → k < s.regcount → (region_at s (region_place s k)).addr + (region_at s (region_place s k)).size ≤ END
  place_before zero k l h = absurd (omega arith)
  place_before (suc n) k l h =
      ⊎_elim
      (λ (e : (region_at s (region_place s k)).parent ≡ 32). root_before _ _ (p.tree.range k h e))
      (λ (e : (region_at s (region_place s k)).parent ≡ 32 → ⊥).
      let m = p.tree.parent k h e in
      let b = m.1 in
      let up = place_before n m.0 (omega arith) (omega arith) in
      let at = p.regions.slot m.0 (omega arith) in
      let i = child_in p (region_place s k) (region_place s m.0) (region_place_lem p k h).0 (region_place_lem p k h).1 at (sym m.2) in
      omega (arith, i.1))
      (same? _ _)

  region_before : (i : ℕ) → i < 32 → is_region s i ≡ true → (region_at s i).addr + (region_at s i).size ≤ END
  region_before i l a =
      let m = p.regions.whole i l a in
      subst (λ (j : ℕ). (region_at s j).addr + (region_at s j).size ≤ END) m.2 (place_before (suc m.0) m.0 (omega arith) m.1)

  -- where the first of the list has a mark and marks go down, all have one
  all_marked : (marks : List Bool) → ((i : ℕ) → i < 32 → is_region s i ≡ true → get_or marks (region_at s i).parent false ≡ true → get_or marks i false ≡ true)
      → get_or marks (region_place s 0) false ≡ true → (n k : ℕ) → k < n → k < s.regcount → get_or marks (region_place s k) false ≡ true
  all_marked marks closed first zero k l h = absurd (omega arith)
  all_marked marks closed first (suc n) k l h =
      ⊎_elim
      (λ (e : (region_at s (region_place s k)).parent ≡ 32). subst (λ (j : ℕ). get_or marks (region_place s j) false ≡ true) (sym (p.tree.root k h e)) first)
      (λ (e : (region_at s (region_place s k)).parent ≡ 32 → ⊥).
      let m = p.tree.parent k h e in
      let b = m.1 in
      let at = region_place_lem p k h in
      closed (region_place s k) at.0 at.1
      (subst (λ (x : ℕ). get_or marks x false ≡ true) m.2 (all_marked marks closed first n m.0 (omega arith) (omega arith))))
      (same? _ _)

module _ {s : Space} {f : List ℕ} {marks : List Bool} {r b e : ℕ} (m : Marking s f marks r b e) where
  p : Passes s f
  p = m.passes

  -- a mark tells of a region that goes
  goes : (i : ℕ) → i < 32 → get_or marks i false ≡ true → Doomed s r b e i
  goes i l x = decided_true (Doomed s r b e i) (get_or marks i false) (m.doomed i l) x

  marked : (i : ℕ) → Doomed s r b e i → get_or marks i false ≡ true
  marked i d =
      ⊎_elim
      (λ (x : get_or marks i false ≡ true). x)
      (λ (x : get_or marks i false ≡ false). absurd (decided_false (Doomed s r b e i) (get_or marks i false) (m.doomed i (doomed_lives s r b e i d).0) x d))
      (tell (get_or marks i false))

  -- no mark stands past the last slot
  in_slot : (i : ℕ) → get_or marks i false ≡ true → i < 32
  in_slot i x =
      ⊎_elim
      (λ (l : i < 32). l)
      (λ (l : 32 ≤ i). no_truth (sym (get_or-eq_default marks false (let z = m.long in omega arith)) ∙ x))
      (below? i 32)

  marks_closed : (i : ℕ) → i < 32 → is_region s i ≡ true → get_or marks (region_at s i).parent false ≡ true → get_or marks i false ≡ true
  marks_closed i l a x = marked i (doomed.below i l a (goes (region_at s i).parent (in_slot (region_at s i).parent x) x))

  -- a region that goes stands after r in the list
  after_r : (k : ℕ) → k < s.regcount → region_place s k ≡ r → (i : ℕ) → Doomed s r b e i → (j : ℕ) × (j < s.regcount) × (region_place s j ≡ i) × (k < j)
  after_r k l q i (doomed.child _ h a x) =
      let w = p.regions.whole i h a in
      (w.0, w.1, w.2, after_parent p k w.0 l w.1 (q ∙ sym (child_of s i r b e x) ∙ sym (ap (λ (y : ℕ). (region_at s y).parent) w.2)))
  after_r k l q i (doomed.below _ h a d) =
      let w = p.regions.whole i h a in
      let up = after_r k l q (region_at s i).parent d in
      let n = up.3 in
      let o = after_parent p up.0 w.0 up.1 w.1 (up.2 ∙ sym (ap (λ (y : ℕ). (region_at s y).parent) w.2)) in
      (w.0, w.1, w.2, omega arith)

  r_stays : get_or marks r false ≡ false
  r_stays =
      ⊎_elim
      (λ (x : get_or marks r false ≡ true).
      let w = p.regions.whole r m.slot m.live in
      let z = after_r w.0 w.1 w.2 r (goes r m.slot x) in
      let n = z.3 in
      let o = one_place p z.0 w.0 z.1 w.1 (z.2 ∙ sym w.2) in
      absurd (omega arith))
      (λ (x : get_or marks r false ≡ false). x)
      (tell (get_or marks r false))

  range_cut : b ≤ e → b % 4096 ≡ 0 → e % 4096 ≡ 0 → (split_slot s r b e < 64 → free_mapping s < 64) → Cutting s f marks r b e
  range_cut l x y room = record {
    arrays = m.arrays;
    passes = p;
    slot = m.slot;
    live = m.live;
    range = l;
    begin = x;
    end = y;
    long = m.long;
    closed = marks_closed;
    all = λ z. clash (get_or marks r false) z r_stays;
    room = room;
  }

-- all of a region
module _ {s : Space} {f : List ℕ} {marks : List Bool} {r : ℕ} (m : Marking s f marks r 0 END) where
  -- nothing is split
  whole : split_slot s r 0 END < 64 → free_mapping s < 64
  whole l =
      let i = split_slot s r 0 END in
      let w = (split_is (mapping_at s i) r 0 END (first_passes (split_at s r 0 END) 64 l)).2 in
      let z = (before_most (mapping_at s i) 0).1 in
      absurd (omega arith)

  under_lives : (i : ℕ) → Under s r i → (i < 32) × (is_region s i ≡ true)
  under_lives i (child _ l a q) = (l, a)
  under_lives i (deeper _ l a d) = (l, a)

  -- what lies below r goes, and nothing else
  child_goes : (i : ℕ) → i < 32 → is_region s i ≡ true → (region_at s i).parent ≡ r → Doomed s r 0 END i
  child_goes i l a q =
      let z = region_before m.passes i l a in
      doomed.child i l a (is_child s i r 0 END q (inner_of (region_at s i).addr (region_at s i).size 0 (END - 0) (omega arith) (omega arith)))

  under_goes : (i : ℕ) → Under s r i → Doomed s r 0 END i
  under_goes i (child _ l a q) = child_goes i l a q
  under_goes i (deeper _ l a d) = doomed.below i l a (under_goes (region_at s i).parent d)

  goes_under : (i : ℕ) → Doomed s r 0 END i → Under s r i
  goes_under i (doomed.child _ l a x) = child i l a (child_of s i r 0 END x)
  goes_under i (doomed.below _ l a d) = deeper i l a (goes_under (region_at s i).parent d)

  not_under : (i : ℕ) → i < 32 → (Under s r i → ⊥) → get_or marks i false ≡ false
  not_under i l n =
      ⊎_elim
      (λ (x : get_or marks i false ≡ true). absurd (n (goes_under i (goes m i l x))))
      (λ (x : get_or marks i false ≡ false). x)
      (tell (get_or marks i false))

  clear_cut : Cutting s f marks r 0 END
  clear_cut = range_cut m (omega arith) refl refl whole

  cleared : Cleared s (cut_space s marks r 0 END) r
  cleared = record {
    mappings = none_left;
    below = λ i u. let a = under_lives i u in made.regions.dead i a.0 a.1 (marked m i (under_goes i u));
    kept = λ i l n. made.regions.kept i l (not_under i l n);
  }
    where
      made : Cut s f marks r 0 END (cut_space s marks r 0 END) (cut_flags s f marks r 0 END)
      made = cut_all.holds s f marks r 0 END clear_cut

      none_left : (j : ℕ) → j < 64 → is_mapping (cut_space s marks r 0 END) j ≡ true → (mapping_at (cut_space s marks r 0 END) j).region ≡ r → ⊥
      none_left j l a q =
          let t = cut_space s marks r 0 END in
          let k = mapping_at t j in
          let z : 0 < k.size = made.mappings.empty j l a q in
          let w = (mapping_in made.passes j r l a q).1 in
          let same : region_at t r ≡ region_at s r = made.regions.kept r m.slot (r_stays m) in
          let up : (region_at t r).addr + (region_at t r).size ≤ END =
          region_before made.passes r m.slot (ap (λ (g : Region). g.live) same ∙ m.live) in
          made.mappings.gone j k.addr l a q (holds_of _ _ _ (omega arith) (omega arith)) (omega arith) (omega arith)

  abbrev more : List Bool
  more = set marks r true

  own_mark : get_or more r false ≡ true
  own_mark = let l = m.slot in let z = m.long in get_or-set_same marks r true false (omega arith)

  more_marks : (i : ℕ) → get_or marks i false ≡ true → get_or more i false ≡ true
  more_marks i x =
      ⊎_elim
      (λ (q : i ≡ r). subst (λ (y : ℕ). get_or more y false ≡ true) (sym q) own_mark)
      (λ (q : i ≡ r → ⊥). get_or-set_other marks r i true false q ∙ x)
      (same? i r)

  more_closed : (i : ℕ) → i < 32 → is_region s i ≡ true → get_or more (region_at s i).parent false ≡ true → get_or more i false ≡ true
  more_closed i l a x =
      ⊎_elim
      (λ (q : (region_at s i).parent ≡ r). more_marks i (marked m i (child_goes i l a q)))
      (λ (q : (region_at s i).parent ≡ r → ⊥). more_marks i (marks_closed m i l a (sym (get_or-set_other marks r (region_at s i).parent true false q) ∙ x)))
      (same? (region_at s i).parent r)

  destroy_cut : Cutting s f more r 0 END
  destroy_cut = record {
    arrays = m.arrays;
    passes = m.passes;
    slot = m.slot;
    live = m.live;
    range = omega arith;
    begin = refl;
    end = refl;
    long = length-set marks r true ∙ m.long;
    closed = more_closed;
    all = λ z. refl;
    room = whole;
  }

  destroyed : Destroyed s (cut_space s more r 0 END) r
  destroyed = record {
    own = made.regions.dead r m.slot m.live own_mark;
    below = λ i u. let a = under_lives i u in made.regions.dead i a.0 a.1 (more_marks i (marked m i (under_goes i u)));
    kept = λ i l n d. made.regions.kept i l (get_or-set_other marks r i true false d ∙ not_under i l n);
    root = λ q. (no_region_lem q, no_mapping q);
  }
    where
      made : Cut s f more r 0 END (cut_space s more r 0 END) (cut_flags s f more r 0 END)
      made = cut_all.holds s f more r 0 END destroy_cut

      first : (region_at s r).parent ≡ no_region → get_or more (region_place s 0) false ≡ true
      first q =
          let w = m.passes.regions.whole r m.slot m.live in
          let z : w.0 ≡ 0 = m.passes.tree.root w.0 w.1 (ap (λ (y : ℕ). (region_at s y).parent) w.2 ∙ q) in
          subst (λ (y : ℕ). get_or more y false ≡ true) (sym w.2 ∙ ap (region_place s) z) own_mark

      no_region_lem : (region_at s r).parent ≡ no_region → (cut_space s more r 0 END).regcount ≡ 0
      no_region_lem q =
          ⊎_elim
          (λ (z : (cut_space s more r 0 END).regcount ≡ 0). z)
          (λ (z : (cut_space s more r 0 END).regcount ≡ 0 → ⊥).
          let k = made.regions.list.only 0 (omega arith) in
          clash (get_or more (region_place s k.0) false) (all_marked m.passes more more_closed (first q) (suc k.0) k.0 (omega arith) k.1) (not-true _ k.2))
          (same? (cut_space s more r 0 END).regcount 0)

      no_mapping : (region_at s r).parent ≡ no_region → (cut_space s more r 0 END).mapcount ≡ 0
      no_mapping q =
          ⊎_elim
          (λ (z : (cut_space s more r 0 END).mapcount ≡ 0). z)
          (λ (z : (cut_space s more r 0 END).mapcount ≡ 0 → ⊥).
          let at = mapping_place_lem made.passes 0 (omega arith) in
          let g = made.passes.inner.region (mapping_place (cut_space s more r 0 END) 0) at.0 at.1 in
          let w = (made.passes.regions.whole _ g.0 g.1).1 in
          let n = no_region_lem q in
          absurd (omega arith))
          (same? (cut_space s more r 0 END).mapcount 0)

pub calls_all : CallsAll
calls_all = record {
  marks = λ s f r b e arrays p l a. record { arrays = arrays; passes = p; slot = l; live = a; long = marked_long s r b e p; doomed = marked_tells s r b e p };
  range = λ s f marks r b e m l x y room. range_cut m l x y room;
  stays = λ s f marks r b e m. r_stays m;
  clear = λ s f marks r m. (clear_cut m, cleared m);
  destroy = λ s f marks r m. (destroy_cut m, destroyed m);
}
