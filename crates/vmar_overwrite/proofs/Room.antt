-- How a cut ends, and that the list of mappings has room for one more after it.
use Rattle.std.specs.Prelude.{Ok}
use Prim.Native.Nat.{ℕ, zero, suc, ◌+◌, ◌-◌, ◌*◌, ◌≤◌, ◌<◌}
use mathlib.Core.Path.{◌≡◌, refl, sym, ◌∙◌, ap, subst}
use mathlib.Core.Bool.{Bool, true, false}
use mathlib.Core.List.{List}
use mathlib.Core.Logic.{⊎_elim}
use native.Mathlib.Omega.{arith}
use lib.Dec.{leb, ltb}
use lib.ListN.{get_or}
use borrow.Author.Tests.{lt-ltb, le-ltb, leb-false, ltb-false, not-true}
use Rattle.paging.specs.Choice.{pick}
use Rattle.paging.proofs.Cases.{below?, no_truth, clash}
use Rattle.refusal.specs.declared.Refusal.{Refusal}
use Rattle.refusal.specs.declared.Refusal.TheVariants.{InvalidArgs, NoFrames, NoSlot, ChildDead}
use Rattle.std.proofs.Common.{None}
use Rattle.scan.specs.Scan.{first, some, below}
use Rattle.scan.proofs.Found.{below_none}
use Rattle.scan.proofs.Scans.{tell, first_none, first_of_is, first_of_from, first_of_before}
use Rattle.scan.proofs.Pigeons.{fewer}
use Rattle.space.specs.Space.{is_mapping, mapping_at, mapping_place}
use Rattle.space.specs.Passes.{Passes}
use Rattle.space.specs.declared.Mapping.{Mapping}
use Rattle.space.specs.declared.Space.{Space}
use Rattle.space.proofs.Facts.{mapping_room}
use Rattle.table_cuts.specs.Cuts.{non_empty}
use Rattle.vmar_offset.specs.Offset.{is_free_mapping, free_mapping}
use Rattle.vmar_offset.proofs.Found.{free_mapping_lem}
use Rattle.vmar_doom.specs.Doomed.{marked}
use Rattle.vmar_cuts.specs.Cuts.{unmap_cuts}
use Rattle.vmar_prune.specs.Piece.{after}
use Rattle.vmar_prune.specs.Prune.{packed, pruned, split_slot, cut_space}
use Rattle.vmar_prune.proofs.Parts.{cut_whole, cut_split}
use Rattle.vmar_unmap.specs.Unmap.{State, CutDone, refused, free_frames, cut_state, partly_at, has_dead, cut_range}
use Rattle.vmar_unmap.proofs.Calls.{range_partly, range_dead, range_short, range_frames, range_cut}
use Rattle.vmar_overwrite.specs.Overwrite.{second_free, new_slot, is_short, slot_for}

-- how a cut ends: refused, or done where nothing refuses it
pub data RangeEnds (base : ℕ) (st : State) (r b e : ℕ) (short : Bool) : CutDone → Type 0 where
  refusal : (why : Refusal) → RangeEnds base st r b e short (refused st why)
  cuts : some (partly_at st.space r b e) 0 32 ≡ false → short ≡ false → leb (4 * non_empty (unmap_cuts st.space r b e)) (free_frames st) ≡ true
      → RangeEnds base st r b e short (record { result = (Ok tt); state = cut_state base st (marked st.space r b e) (unmap_cuts st.space r b e) r b e })

module _ (base : ℕ) (st : State) (r b e : ℕ) (short : Bool) where
  pub range_ends : RangeEnds base st r b e short (cut_range base st r b e short)
  range_ends =
      ⊎_elim
      (λ (p : some (partly_at st.space r b e) 0 32 ≡ true). subst (RangeEnds base st r b e short) (range_partly base st r b e short p) (refusal InvalidArgs))
      (λ (p : some (partly_at st.space r b e) 0 32 ≡ false). ⊎_elim
      (λ (d : has_dead st.space ≡ true). subst (RangeEnds base st r b e short) (range_dead base st r b e short p d) (refusal ChildDead))
      (λ (d : has_dead st.space ≡ false). ⊎_elim
      (λ (z : short ≡ true). subst (RangeEnds base st r b e short) (range_short base st r b e short p d z) (refusal NoSlot))
      (λ (z : short ≡ false). ⊎_elim
      (λ (n : leb (4 * non_empty (unmap_cuts st.space r b e)) (free_frames st) ≡ true).
      subst (RangeEnds base st r b e short) (range_cut base st r b e short p d z n) (cuts p z n))
      (λ (n : leb (4 * non_empty (unmap_cuts st.space r b e)) (free_frames st) ≡ false).
      subst (RangeEnds base st r b e short) (range_frames base st r b e short p d z n) (refusal NoFrames))
      (tell (leb (4 * non_empty (unmap_cuts st.space r b e)) (free_frames st))))
      (tell short))
      (tell (has_dead st.space)))
      (tell (some (partly_at st.space r b e) 0 32))

  -- a cut that is done had slots, and left the space without the range
  done_by : {out : CutDone} → RangeEnds base st r b e short out → out.result ≡ Ok tt
      → (short ≡ false) × (out.state.space ≡ cut_space st.space (marked st.space r b e) r b e)
  done_by (refusal why) q = let z : ◌≡◌ {A = ℕ} 0 1 = cc in absurd (omega arith)
  done_by (cuts p z n) q = (z, refl)

  pub range_done : (cut_range base st r b e short).result ≡ Ok tt
      → (short ≡ false) × ((cut_range base st r b e short).state.space ≡ cut_space st.space (marked st.space r b e) r b e)
  range_done q = done_by range_ends q

-- slots are not short: the length fits and there is a slot
pub not_short : (len slot : ℕ) → is_short len slot ≡ false → (len ≤ 0x200000) × (slot < 64)
unfolding is_short
not_short len slot z =
    ⊎_elim
    (λ (l : ltb 0x200000 len ≡ true). no_truth (sym (rw l at z)))
    (λ (l : ltb 0x200000 len ≡ false). (ltb-false _ _ l, leb-false 64 slot (rw l at z)))
    (tell (ltb 0x200000 len))

pub first_from : (p : ℕ → Bool) (i n : ℕ) → first p i n < n → (i ≤ first p i n) × (p (first p i n) ≡ true)
unfolding first
first_from p i n h = let g = (first_of_from p (n - i) i).0 in (g, first_of_is p (n - i) i (omega arith))

pub first_before : (p : ℕ → Bool) (i n j : ℕ) → i ≤ j → j < first p i n → p j ≡ false
unfolding first
first_before p i n j a h = first_of_before p (n - i) i j a h

-- a free slot after the lowest free one
pub record TwoFree (s : Space) : Type 0 where
  pub low : free_mapping s < second_free s
  pub lower : is_mapping s (free_mapping s) ≡ false
  pub free : is_mapping s (second_free s) ≡ false

pub two_free : (s : Space) → second_free s < 64 → TwoFree s
two_free s l =
    let g = first_from (is_free_mapping s) (free_mapping s + 1) 64 l in
    let z = g.0 in
    record {
      low = omega arith;
      lower = (free_mapping_lem s (λ q. omega arith)).1;
      free = not-true (is_mapping s (second_free s)) g.1;
    }

-- the names in the list, and one more
more : (ℕ → ℕ) → ℕ → ℕ → ℕ → ℕ
more f n i k = pick (ltb k n) (f k) i

more_in : (f : ℕ → ℕ) (n i k : ℕ) → k < n → more f n i k ≡ f k
unfolding more
more_in f n i k l = rw (lt-ltb k n l)

more_past : (f : ℕ → ℕ) (n i k : ℕ) → n ≤ k → more f n i k ≡ i
unfolding more
more_past f n i k l = rw (le-ltb k n l)

-- where two slots are free, the list has room for two more
pub room_for_two : (s : Space) (f : List ℕ) → Passes s f → (i j : ℕ) → i < j → j < 64 → is_mapping s i ≡ false → is_mapping s j ≡ false → s.mapcount + 1 < 64
room_for_two s f p i j h l a c = fewer (s.mapcount + 1) 64 names j (record { below = below; once = once }) l off
  where
    at : ℕ → ℕ
    at k = mapping_place s k

    names : ℕ → ℕ
    names k = more (λ x. mapping_place s x) s.mapcount i k

    -- no free slot stands in the list
    no_place : (x : ℕ) → x < 64 → is_mapping s x ≡ false → (k : ℕ) → k < s.mapcount → mapping_place s k ≡ x → ⊥
    no_place x q d k m e = clash _ (p.mappings.live x q (k, m, e)) d

    in_list : (k : ℕ) → k < s.mapcount → names k ≡ mapping_place s k
    in_list k m = more_in (λ x. mapping_place s x) s.mapcount i k m

    past : (k : ℕ) → s.mapcount ≤ k → names k ≡ i
    past k m = more_past (λ x. mapping_place s x) s.mapcount i k m

    below : (k : ℕ) → k < s.mapcount + 1 → names k < 64
    below k m =
        ⊎_elim
        (λ (q : k < s.mapcount). let z = in_list k q in let w = p.mappings.slot k q in omega arith)
        (λ (q : s.mapcount ≤ k). let z = past k q in omega arith)
        (below? k s.mapcount)

    once : (x y : ℕ) → x < y → y < s.mapcount + 1 → names x ≡ names y → ⊥
    once x y m n e =
        ⊎_elim
        (λ (q : y < s.mapcount). p.mappings.once x y m q (sym (in_list x (omega arith)) ∙ e ∙ in_list y q))
        (λ (q : s.mapcount ≤ y). no_place i (omega arith) a x (omega arith) (sym (in_list x (omega arith)) ∙ e ∙ past y q))
        (below? y s.mapcount)

    off : (k : ℕ) → k < s.mapcount + 1 → names k ≡ j → ⊥
    off k m e =
        ⊎_elim
        (λ (q : k < s.mapcount). no_place j l c k q (sym (in_list k q) ∙ e))
        (λ (q : s.mapcount ≤ k). let z = past k q in omega arith)
        (below? k s.mapcount)

-- no more slots are packed than there are places
packed_most : (keeps : ℕ → Bool) (blank list : List ℕ) (n : ℕ) → (packed keeps blank list n).count ≤ n
unfolding packed
packed_most keeps blank list zero = omega arith
packed_most keeps blank list (suc k) =
    let z = packed_most keeps blank list k in
    ⊎_elim (λ (t : keeps (get_or list k 0) ≡ true). rw t (omega arith)) (λ (t : keeps (get_or list k 0) ≡ false). rw t (omega arith)) (tell (keeps (get_or list k 0)))

pruned_most : (s : Space) (marks : List Bool) (r b e : ℕ) → (pruned s marks r b e).mapcount ≤ s.mapcount
unfolding pruned
pruned_most s marks r b e = packed_most _ _ s.maplist s.mapcount

-- which slot the new mapping takes
pub slot_alone : (s : Space) (r b e i : ℕ) → i ≡ split_slot s r b e → 64 ≤ i → free_mapping s ≡ new_slot s r b e
unfolding new_slot
slot_alone s r b e i q l = rw (sym q, le-ltb i 64 l)

pub slot_second : (s : Space) (r b e i : ℕ) → i ≡ split_slot s r b e → i < 64 → second_free s ≡ new_slot s r b e
unfolding new_slot
slot_second s r b e i q l = rw (sym q, lt-ltb i 64 l)

-- where no slot is free, it has none
pub no_new_slot : (s : Space) (r b e : ℕ) → None ≡ below 64 (free_mapping s) → below 64 (new_slot s r b e) ≡ None
no_new_slot s r b e n =
    let full : 64 ≤ free_mapping s = below_none 64 (free_mapping s) (sym n) in
    ⊎_elim
    (λ (l : split_slot s r b e < 64).
    let second = first_none (is_free_mapping s) (free_mapping s + 1) 64 (omega arith) in
    let past : 64 ≤ second_free s = omega arith in
    rw (sym (slot_second s r b e (split_slot s r b e) refl l), le-ltb (second_free s) 64 past))
    (λ (l : 64 ≤ split_slot s r b e). rw (sym (slot_alone s r b e (split_slot s r b e) refl l), le-ltb (free_mapping s) 64 full))
    (below? (split_slot s r b e) 64)

-- where it has one, a split has one too
pub split_room : (s : Space) (r b e : ℕ) → new_slot s r b e < 64 → split_slot s r b e < 64 → free_mapping s < 64
split_room s r b e l h = let q = slot_second s r b e (split_slot s r b e) refl h in let t = (two_free s (omega arith)).low in omega arith

-- and the list has room after the cut
pub cut_room : (s : Space) (f : List ℕ) → Passes s f → (marks : List Bool) (r b e : ℕ) → new_slot s r b e < 64 → (cut_space s marks r b e).mapcount < 64
cut_room s f p marks r b e l =
    ⊎_elim
    (λ (h : split_slot s r b e < 64).
    let q = slot_second s r b e (split_slot s r b e) refl h in
    let l2 : second_free s < 64 = omega arith in
    let t = two_free s l2 in
    let room = room_for_two s f p (free_mapping s) (second_free s) t.low l2 t.lower t.free in
    let most = pruned_most s marks r b e in
    subst (λ (x : Space). x.mapcount < 64) (cut_split s marks r b e (split_slot s r b e) refl h (after (mapping_at s (split_slot s r b e)) e) refl (free_mapping s) refl) (omega arith))
    (λ (h : 64 ≤ split_slot s r b e).
    let q = slot_alone s r b e (split_slot s r b e) refl h in
    let t = free_mapping_lem s (λ z. omega arith) in
    let room = mapping_room p (free_mapping s) t.0 t.1 in
    let most = pruned_most s marks r b e in
    subst (λ (x : Space). x.mapcount < 64) (cut_whole s marks r b e (split_slot s r b e) refl h) (omega arith))
    (below? (split_slot s r b e) 64)

-- after a cut that is done the mapping to be has a slot, the list room for it, and the slot pages enough
pub cut_fits : (base : ℕ) (st : State) → Passes st.space st.flags → (m : Mapping) (slot : ℕ) → slot ≡ slot_for st.space m → (short : Bool) → short ≡ is_short m.size slot
    → (c : CutDone) → c ≡ cut_range base st m.region m.addr (m.addr + m.size) short → c.result ≡ Ok tt
    → (slot < 64) × (c.state.space.mapcount < 64) × (m.size ≤ 0x200000)
cut_fits base st p m slot q short h c e d =
    let z = range_done base st m.region m.addr (m.addr + m.size) short (sym (ap (λ (x : CutDone). x.result) e) ∙ d) in
    let n = not_short m.size slot (sym h ∙ z.0) in
    let l = n.1 in
    let room = cut_room st.space st.flags p (marked st.space m.region m.addr (m.addr + m.size)) m.region m.addr (m.addr + m.size) (omega arith) in
    (l, subst (λ (x : Space). x.mapcount < 64) (sym (ap (λ (x : CutDone). x.state.space) e ∙ z.1)) room, n.0)
