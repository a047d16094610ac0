-- What an accepted clear or destroy does.
use Prim.Native.Nat.{ℕ, ◌+◌, ◌-◌, ◌*◌, ◌/◌, ◌≤◌, ◌<◌}
use mathlib.Core.Path.{◌≡◌, refl, sym, ◌∙◌, ap, subst}
use mathlib.Core.Bool.{Bool, true, false}
use mathlib.Core.List.{List}
use mathlib.Core.Logic.{inl, inr, ⊎_elim}
use native.Mathlib.Omega.{arith}
use lib.ListN.{get_or, set}
use lib.Seq.{get_or-set_same, get_or-set_other}
use Rattle.paging.proofs.Cases.{same?, decided_true, decided_false, clash, no_truth}
use Rattle.scan.proofs.Scans.{tell}
use Rattle.space.specs.Range.{overlap, inside}
use Rattle.space.specs.Space.{region_at, mapping_at, is_region, is_mapping, region_place, no_region}
use Rattle.space.specs.Passes.{Passes}
use Rattle.space.specs.declared.Region.{Region}
use Rattle.space.specs.declared.Space.{Space}
use Rattle.space.proofs.Facts.{region_place_lem, child_in}
use Rattle.space.proofs.Ranges.{apart_of}
use Rattle.table.specs.Table.{queried}
use Rattle.table_unmap_cont.specs.Demand.{answered}
use Rattle.table_cuts.specs.Cuts.{non_empty}
use Rattle.vmar_offset.specs.Offset.{test_map}
use Rattle.vmar_laws.specs.Search.{FreeIn}
use Rattle.vmar_laws.proofs.Search.{free_tests}
use Rattle.vmar_doom.specs.Doomed.{Doomed, marked}
use Rattle.vmar_doom.specs.Doomed as doomed
use Rattle.vmar_cuts.specs.Cuts.{END, destroy_cuts}
use Rattle.vmar_cuts.specs.Laws.{Lies, DestroyLeaves}
use Rattle.vmar_cuts.specs.Laws as cuts
use Rattle.vmar_cuts.proofs.Below.{child_parent}
use Rattle.vmar_cuts.proofs.Apart.{regions_off, both_off}
use Rattle.vmar_cuts.proofs.Laws.{region_cuts}
use Rattle.vmar_prune.specs.Prune.{cut_space}
use Rattle.vmar_prune_laws.specs.Calls.{Marking, Under, child, deeper, Cleared, Destroyed}
use Rattle.vmar_prune_laws.specs.Cutting.{Cutting}
use Rattle.vmar_prune_laws.specs.Cut as prune
use Rattle.vmar_prune_laws.proofs.Cuts.{cut_all}
use Rattle.vmar_prune_laws.proofs.Calls.{calls_all}
use Rattle.vmar_unmap.specs.Unmap.{State, tables_of, free_frames, going_with, cut_state}
use Rattle.vmar_unmap_laws.specs.Ready.{Ready, KeptAt, GoneAt, RegionsLeft}
use Rattle.vmar_unmap_laws.specs.Clears.{Emptied, Goes, ClearDone}
use Rattle.vmar_unmap_laws.proofs.One.{under_lives, one_place, one_holds}
use Rattle.vmar_unmap_laws.proofs.Left.{address, frames_of, held, other_at, regions_left}

module _ {s : Space} {f : List ℕ} (p : Passes s f) where
  -- what is below r goes with all of it
  under_doomed : {r i : ℕ} → Under s r i → Doomed s r 0 END i
  under_doomed {r} (child i l a q) = (region_cuts.destroy s f r p).all i l a q
  under_doomed (deeper i l a u) = doomed.below i l a (under_doomed u)

  doomed_under : {r i : ℕ} → Doomed s r 0 END i → Under s r i
  doomed_under {r} (doomed.child i l a x) = child i l a (child_parent (region_at s i) r 0 END x)
  doomed_under (doomed.below i l a d) = deeper i l a (doomed_under d)

  -- what is below a region stands after it in the list
  under_after : {r i : ℕ} (k : ℕ) → k < s.regcount → region_place s k ≡ r → r < 32 → Under s r i → (j : ℕ) → j < s.regcount → region_place s j ≡ i → k < j
  under_after {r} k l w h (child i n a q) j m z =
      let at : (region_at s (region_place s j)).parent ≡ r = ap (λ (y : ℕ). (region_at s y).parent) z ∙ q in
      let u = p.tree.parent j m (λ y. omega arith) in
      let d = u.1 in
      let o = one_place p u.0 k (omega arith) l (u.2 ∙ at ∙ sym w) in
      omega arith
  under_after {r} k l w h (deeper i n a v) j m z =
      let at : (region_at s (region_place s j)).parent ≡ (region_at s i).parent = ap (λ (y : ℕ). (region_at s y).parent) z in
      let g = (under_lives v).0 in
      let u = p.tree.parent j m (λ y. omega arith) in
      let d = u.1 in
      let o = under_after k l w h v u.0 (omega arith) (u.2 ∙ at) in
      omega arith

  -- the parent of r lives and is not below it
  pub record Parent (r : ℕ) : Type 0 where
    slot : (region_at s r).parent < 32
    live : is_region s (region_at s r).parent ≡ true
    other : (region_at s r).parent ≡ r → ⊥
    above : Under s r (region_at s r).parent → ⊥

  parent_of : (r : ℕ) → r < 32 → is_region s r ≡ true → ((region_at s r).parent ≡ no_region → ⊥) → Parent r
  parent_of r l a n =
      let k = p.regions.whole r l a in
      let up : (region_at s (region_place s k.0)).parent ≡ (region_at s r).parent = ap (λ (y : ℕ). (region_at s y).parent) k.2 in
      let u = p.tree.parent k.0 k.1 (λ q. n (sym up ∙ q)) in
      let k1 = k.1 in
      let d = u.1 in
      let is : region_place s u.0 ≡ (region_at s r).parent = u.2 ∙ up in
      let at = region_place_lem p u.0 (omega arith) in
      record {
        slot = subst (λ (y : ℕ). y < 32) is at.0;
        live = subst (λ (y : ℕ). is_region s y ≡ true) is at.1;
        other = λ q. let o = one_place p u.0 k.0 (omega arith) k1 (is ∙ q ∙ sym k.2) in omega arith;
        above = λ v. let o = under_after k.0 k1 k.2 l v u.0 (omega arith) is in omega arith;
      }

module _ (base : ℕ) (st : State) (R : Ready base st) (r : ℕ) (l : r < 32) (a : is_region st.space r ≡ true)
    (enough : 4 * non_empty (destroy_cuts st.space r) ≤ free_frames st) where
  abbrev s : Space
  s = st.space

  p : Passes s st.flags
  p = R.passes

  m : Marking s st.flags (marked s r 0 END) r 0 END
  m = calls_all.marks s st.flags r 0 END R.arrays p l a

  told : (i : ℕ) → i < 32 → get_or (marked s r 0 END) i false ≡ true → Under s r i
  told i h x = doomed_under p (decided_true (Doomed s r 0 END i) (get_or (marked s r 0 END) i false) (m.doomed i h) x)

  marks_it : (i : ℕ) → Under s r i → get_or (marked s r 0 END) i false ≡ true
  marks_it i u =
      ⊎_elim
      (λ (x : get_or (marked s r 0 END) i false ≡ true). x)
      (λ (x : get_or (marked s r 0 END) i false ≡ false).
      absurd (decided_false (Doomed s r 0 END i) (get_or (marked s r 0 END) i false) (m.doomed i (under_lives u).0) x (under_doomed p u)))
      (tell (get_or (marked s r 0 END) i false))

  own_mark : get_or (set (marked s r 0 END) r true) r false ≡ true
  own_mark = let z = m.long in get_or-set_same (marked s r 0 END) r true false (omega arith)

  -- the same with a mark for r itself, or not
  going : (itself : Bool) (i : ℕ) → i < 32 → get_or (going_with s r itself) i false ≡ true → Goes s r itself i
  going true i h x =
      ⊎_elim
      (λ (q : i ≡ r). inr (refl, q))
      (λ (q : i ≡ r → ⊥). inl (told i h (sym (get_or-set_other (marked s r 0 END) r i true false q) ∙ x)))
      (same? i r)
  going false i h x = inl (told i h x)

  goes_with : (itself : Bool) (i : ℕ) → Goes s r itself i → (i < 32) × (is_region s i ≡ true) × (get_or (going_with s r itself) i false ≡ true)
  goes_with true i (inl u) = (
    (under_lives u).0,
    (under_lives u).1,
    ⊎_elim
        (λ (q : i ≡ r). subst (λ (y : ℕ). get_or (set (marked s r 0 END) r true) y false ≡ true) (sym q) own_mark)
        (λ (q : i ≡ r → ⊥). get_or-set_other (marked s r 0 END) r i true false q ∙ marks_it i u)
        (same? i r),
  )
  goes_with false i (inl u) = ((under_lives u).0, (under_lives u).1, marks_it i u)
  goes_with true i (inr q) = (
    subst (λ (y : ℕ). y < 32) (sym q.1) l,
    subst (λ (y : ℕ). is_region s y ≡ true) (sym q.1) a,
    subst (λ (y : ℕ). get_or (set (marked s r 0 END) r true) y false ≡ true) (sym q.1) own_mark,
  )
  goes_with false i (inr q) = no_truth q.0

  cutting : (itself : Bool) → Cutting s st.flags (going_with s r itself) r 0 END
  cutting true = (calls_all.destroy s st.flags (marked s r 0 END) r m).0
  cutting false = (calls_all.clear s st.flags (marked s r 0 END) r m).0

  clears : (itself : Bool) → itself ≡ false → Cleared s (cut_space s (going_with s r itself) r 0 END) r
  clears true q = no_truth (sym q)
  clears false q = (calls_all.clear s st.flags (marked s r 0 END) r m).1

  destroys : (itself : Bool) → itself ≡ true → Destroyed s (cut_space s (going_with s r itself) r 0 END) r
  destroys true q = (calls_all.destroy s st.flags (marked s r 0 END) r m).1
  destroys false q = no_truth q

  module _ (itself : Bool) where
    abbrev marks : List Bool
    marks = going_with s r itself

    abbrev t : State
    t = cut_state base st marks (destroy_cuts s r) r 0 END

    c : prune.Cut s st.flags marks r 0 END t.space t.flags
    c = cut_all.holds s st.flags marks r 0 END (cutting itself)

    leaves : DestroyLeaves s r st.pool base st.used (tables_of t)
    leaves = region_cuts.destroy_leaves s st.flags r st.pool base st.used p R.good enough

    left : RegionsLeft s t.space (Goes s r itself)
    left = regions_left p c (Goes s r itself) (goes_with itself) (going itself)

    emptied : (i : ℕ) → Goes s r itself i → Emptied s r i
    emptied i (inl u) = inr u
    emptied i (inr q) = inl q.1

    dropping : (i : ℕ) → Emptied s r i → cuts.Destroyed s r i
    dropping i (inl q) = inl q
    dropping i (inr u) = inr (under_doomed p u)

    dropped_from : (i : ℕ) → cuts.Destroyed s r i → Emptied s r i
    dropped_from i (inl q) = inl q
    dropped_from i (inr d) = inr (doomed_under p d)

    kept : (i x : ℕ) → Lies s i x → (Emptied s r (mapping_at s i).region → ⊥) → KeptAt base st t i x
    kept i x L n = record { slot = i; same = other_at p c i x L stays (λ q. n (inl q)); frame = frame }
      where
        stays : get_or marks (mapping_at s i).region false ≡ false
        stays =
            ⊎_elim
            (λ (y : get_or marks (mapping_at s i).region false ≡ true). absurd (n (emptied _ (going itself (mapping_at s i).region (p.inner.region i L.0 L.1).0 y))))
            (λ (y : get_or marks (mapping_at s i).region false ≡ false). y)
            (tell (get_or marks (mapping_at s i).region false))

        frame : answered (queried t.pool (base / 4096) x) ≡ answered (queried st.pool (base / 4096) x)
        frame =
            leaves.kept x (address p i x L)
            (λ j M d. n (subst (λ (y : ℕ). Emptied s r (mapping_at s y).region) (one_holds p x j i M L) (dropped_from (mapping_at s j).region d)))

    -- no mapping of t is in a region that was emptied
    none_left : (j : ℕ) → j < 64 → is_mapping t.space j ≡ true → Emptied s r (mapping_at t.space j).region → ⊥
    none_left j h b (inr u) = clash _ (goes_with itself (mapping_at t.space j).region (inl u)).2 (c.mappings.dropped j h b)
    none_left j h b (inl q) =
        ⊎_elim
        (λ (y : itself ≡ true). clash _ (goes_with itself (mapping_at t.space j).region (inr (y, q))).2 (c.mappings.dropped j h b))
        (λ (y : itself ≡ false). (clears itself y).mappings j h b q)
        (tell itself)

    dropped : (i x : ℕ) → Lies s i x → Emptied s r (mapping_at s i).region → GoneAt base t x
    dropped i x L d = record {
      frame = leaves.dropped i x L (dropping (mapping_at s i).region d);
      mapping = λ j M. none_left j M.0 M.1 (subst (Emptied s r) (sym (held p c i j x L M)) d);
    }

    -- what the parent has does not overlap what r had
    module _ (y : itself ≡ true) (n : (region_at s r).parent ≡ no_region → ⊥) where
      abbrev q : ℕ
      q = (region_at s r).parent

      up : Parent p r
      up = parent_of p r l a n

      same_parent : region_at t.space q ≡ region_at s q
      same_parent = left.kept q up.slot (λ g. ⊎_elim (λ (u : Under s r q). up.above u) (λ (z : (itself ≡ true) × (q ≡ r)). up.other z.1) g)

      no_child : (j : ℕ) → j < 32 → is_region t.space j ≡ true → (region_at t.space j).parent ≡ q
          → overlap (region_at t.space j).addr (region_at t.space j).size (region_at s r).addr (region_at s r).size ≡ false
      no_child j h b z =
          let none : (Goes s r itself j → ⊥) = λ g. no_truth (sym (ap (λ (k : Region). k.live) (left.blank j g)) ∙ b) in
          let same = left.kept j h none in
          subst (λ (k : Region). overlap k.addr k.size (region_at s r).addr (region_at s r).size ≡ false) (sym same)
          (apart_of _ _ _ _
          (⊎_elim (λ (w : (region_at s j).addr + (region_at s j).size ≤ (region_at s r).addr). inr w)
          (λ (w : (region_at s r).addr + (region_at s r).size ≤ (region_at s j).addr). inl w)
          (regions_off p j r (λ w. none (inr (y, w))) h l (sym (ap (λ (k : Region). k.live) same) ∙ b) a (sym (ap (λ (k : Region). k.parent) same) ∙ z))))

      no_mapping : (j : ℕ) → j < 64 → is_mapping t.space j ≡ true → (mapping_at t.space j).region ≡ q
          → overlap (mapping_at t.space j).addr (mapping_at t.space j).size (region_at s r).addr (region_at s r).size ≡ false
      no_mapping j h b z =
          let o = c.mappings.part j h b in
          let k = o.1 in
          let x = k.part.addr in
          let e = k.part.end in
          apart_of _ _ _ _
          (⊎_elim (λ (w : (region_at s r).addr + (region_at s r).size ≤ (mapping_at s o.0).addr). inl (omega arith))
          (λ (w : (mapping_at s o.0).addr + (mapping_at s o.0).size ≤ (region_at s r).addr). inr (omega arith))
          (both_off p r o.0 l k.slot a k.live (sym z ∙ k.part.region)))

      free : FreeIn t.space q (region_at s r).addr (region_at s r).size
      free = record {
        slot = up.slot;
        live = ap (λ (k : Region). k.live) same_parent ∙ up.live;
        inner = subst (λ (k : Region). inside (region_at s r).addr (region_at s r).size k.addr k.size ≡ true) (sym same_parent) (p.inner.child r l a n);
        children = no_child;
        mappings = no_mapping;
      }

      -- nor does a test of the range find it
      fits : test_map t.space q ((region_at s r).addr - (region_at s q).addr) (region_at s r).size ≡ true
      fits =
          let w = (child_in p r q l a up.slot refl).0 in
          let from : (region_at t.space q).addr ≡ (region_at s q).addr = ap (λ (k : Region). k.addr) same_parent in
          let at : (region_at s r).addr ≡ (region_at t.space q).addr + ((region_at s r).addr - (region_at s q).addr) = omega arith in
          free_tests t.space q ((region_at s r).addr - (region_at s q).addr) (region_at s r).size (subst (λ (x : ℕ). FreeIn t.space q x (region_at s r).size) at free)

    -- clear leaves the region itself
    pub clear_own : itself ≡ false → region_at t.space r ≡ region_at s r
    clear_own y = c.regions.kept r l
        (⊎_elim
        (λ (x : get_or marks r false ≡ true). absurd
        (⊎_elim (λ (u : Under s r r). clash (get_or (marked s r 0 END) r false) (marks_it r u) (calls_all.stays s st.flags (marked s r 0 END) r 0 END m))
        (λ (z : (itself ≡ true) × (r ≡ r)). clash itself z.0 y)
        (going itself r l x)))
        (λ (x : get_or marks r false ≡ false). x)
        (tell (get_or marks r false)))

    pub clear_done : ClearDone base st t r itself
    clear_done = record {
      ready = record { arrays = c.arrays; passes = c.passes; good = leaves.all.good };
      frames = frames_of base st t (destroy_cuts s r) leaves.all enough;
      kept = kept;
      dropped = dropped;
      regions = left;
      clear = clears itself;
      destroy = destroys itself;
      free = free;
      fits = fits;
      space = c;
      table = leaves;
    }
