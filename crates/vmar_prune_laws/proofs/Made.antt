-- The space and the flags after a cut have the shape that the laws stand on.
use Prim.Native.Nat.{ℕ, ◌+◌, ◌-◌, ◌*◌, ◌/◌, ◌≤◌, ◌<◌}
use mathlib.Core.Path.{◌≡◌, refl, sym, ◌∙◌, ap, subst}
use mathlib.Core.Bool.{Bool, true, false}
use mathlib.Core.List.{List}
use mathlib.Core.Logic.{⊎_elim}
use native.Mathlib.Omega.{arith}
use lib.ListN.{length, get_or, replicate, length-replicate, get_or-replicate}
use borrow.Author.Tests.{lt-ltb, le-ltb}
use Rattle.paging.proofs.Cases.{same?, below?, no_truth, clash}
use Rattle.scan.proofs.Scans.{tell, first_passes, before_first}
use Rattle.space.specs.Space.{region_at, mapping_at, is_mapping, region_place, mapping_place, blank_region, blank_mapping, with_mapping}
use Rattle.space.specs.Passes.{Listed, Passes, page_at}
use Rattle.space.specs.Arrays.{Arrays}
use Rattle.space.specs.declared.Region.{Region}
use Rattle.space.specs.declared.Mapping.{Mapping}
use Rattle.space.specs.declared.Space.{Space}
use Rattle.space.proofs.Ranges.{apart}
use Rattle.space.proofs.Facts.{mapping_place_lem, mapping_room}
use Rattle.vmar_offset.specs.Offset.{free_mapping}
use Rattle.vmar_offset.proofs.Found.{free_mapping_lem}
use Rattle.vmar_laws.proofs.Lists.{last_place, early_place, listed_more}
use Rattle.vmar_laws.proofs.Slots.{Fills, here, there}
use Rattle.vmar_laws.proofs.Mapping.{mapping_arrays}
use Rattle.vmar_prune.specs.Piece.{after, handed}
use Rattle.vmar_prune.specs.Prune.{kept_region, kept_mapping, regions_to, mappings_to, kept_slots, live_slots, pruned, split_at, split_slot, second_part, cut_space, retained_to, handed_over, cut_flags}
use Rattle.vmar_prune_laws.specs.Cutting.{Cutting}
use Rattle.vmar_prune_laws.specs.Order.{InOrder}
use Rattle.vmar_prune_laws.specs.Part.{Moved}
use Rattle.vmar_prune_laws.specs.Lists.{MapList}
use Rattle.vmar_prune_laws.proofs.Packs.{each_length, each_at, place_most, kept_length, kept_rest, packed_order, order_by, listed_kept}
use Rattle.vmar_prune_laws.proofs.Pieces.{before_most, after_most, outcome, dead_stays, split_is}
use Rattle.vmar_prune_laws.proofs.Copies.{copied_length, copy_moved, copy_other, same_pages, Begins, after_length, after_same, after_moved}
use Rattle.vmar_prune_laws.proofs.Shape.{Second, First, old, new, Shape}
use Rattle.vmar_prune_laws.proofs.Passing.{apart_any}
use Rattle.vmar_prune.proofs.Parts.{mappings_length}

-- the arrays of records
regions_at : (marks : List Bool) (l : List Region) (n i : ℕ) → i < n → i < length l → get_or (regions_to marks l n) i blank_region ≡ kept_region marks i (get_or l i blank_region)
unfolding regions_to
regions_at marks l n i = each_at blank_region l (kept_region marks) (regions_to marks l) refl (λ k. refl) n i

regions_length : (marks : List Bool) (l : List Region) (n : ℕ) → length (regions_to marks l n) ≡ length l
unfolding regions_to
regions_length marks l n = each_length blank_region l (kept_region marks) (regions_to marks l) refl (λ k. refl) n

mappings_at : (marks : List Bool) (r b e : ℕ) (l : List Mapping) (n i : ℕ) → i < n → i < length l
    → get_or (mappings_to marks r b e l n) i blank_mapping ≡ kept_mapping marks r b e (get_or l i blank_mapping)
unfolding mappings_to
mappings_at marks r b e l n i = each_at blank_mapping l (λ (k : ℕ) (m : Mapping). kept_mapping marks r b e m) (mappings_to marks r b e l) refl (λ k. refl) n i

module _ {s : Space} {f : List ℕ} {marks : List Bool} {r b e : ℕ} (c : Cutting s f marks r b e) where
  abbrev p : Passes s f
  p = c.passes

  abbrev q : Space
  q = pruned s marks r b e

  -- without the second part
  q_region : (i : ℕ) → i < 32 → region_at q i ≡ kept_region marks i (region_at s i)
  unfolding pruned
  q_region i l = let z = c.arrays.regions in regions_at marks s.regions 32 i l (omega arith)

  q_mapping : (x : ℕ) → x < 64 → mapping_at q x ≡ kept_mapping marks r b e (mapping_at s x)
  unfolding pruned
  q_mapping x l = let z = c.arrays.mappings in mappings_at marks r b e s.mappings 64 x l (omega arith)

  q_arrays : Arrays q
  unfolding pruned
  q_arrays = record {
    regions = regions_length marks s.regions 32 ∙ c.arrays.regions;
    mappings = mappings_length marks r b e s.mappings 64 ∙ c.arrays.mappings;
    reglist = kept_length (kept_slots marks) (replicate 32 0) s.reglist s.regcount ∙ length-replicate {A = ℕ} 32 0;
    maplist = kept_length (live_slots (mappings_to marks r b e s.mappings 64)) (replicate 64 0) s.maplist s.mapcount ∙ length-replicate {A = ℕ} 64 0;
  }

  q_next : q.nextid ≡ s.nextid
  unfolding pruned
  q_next = refl

  reg_order : InOrder (kept_slots marks) s.reglist s.regcount q.reglist q.regcount
  unfolding pruned
  reg_order = packed_order (kept_slots marks) (replicate 32 0) s.reglist s.regcount (let z = p.regions.room in let w = length-replicate {A = ℕ} 32 0 in omega arith)

  reg_fewer : q.regcount ≤ s.regcount
  unfolding pruned
  reg_fewer = place_most (kept_slots marks) (replicate 32 0) s.reglist s.regcount

  reg_rest : (k : ℕ) → q.regcount ≤ k → k < 32 → region_place q k ≡ 0
  unfolding pruned
  reg_rest k h l = kept_rest (kept_slots marks) (replicate 32 0) s.reglist s.regcount k h ∙ get_or-replicate 32 k 0 0 l

  map_order : InOrder (is_mapping q) s.maplist s.mapcount q.maplist q.mapcount
  unfolding pruned
  map_order =
      packed_order (live_slots (mappings_to marks r b e s.mappings 64)) (replicate 64 0) s.maplist s.mapcount
      (let z = p.mappings.room in let w = length-replicate {A = ℕ} 64 0 in omega arith)

  map_fewer : q.mapcount ≤ s.mapcount
  unfolding pruned
  map_fewer = place_most (live_slots (mappings_to marks r b e s.mappings 64)) (replicate 64 0) s.maplist s.mapcount

  map_rest : (k : ℕ) → q.mapcount ≤ k → k < 64 → mapping_place q k ≡ 0
  unfolding pruned
  map_rest k h l = kept_rest (live_slots (mappings_to marks r b e s.mappings 64)) (replicate 64 0) s.maplist s.mapcount k h ∙ get_or-replicate 64 k 0 0 l

  -- a free slot stays free
  q_free : (x : ℕ) → x < 64 → is_mapping s x ≡ false → mapping_at q x ≡ blank_mapping
  q_free x l a =
      q_mapping x l ∙ ap (kept_mapping marks r b e) (p.blank.mapping x l a) ∙ dead_stays marks r b e (kept_mapping marks r b e blank_mapping) (outcome marks r b e blank_mapping)

  q_was : (x : ℕ) → x < 64 → is_mapping q x ≡ true → is_mapping s x ≡ true
  q_was x l a =
      ⊎_elim
      (λ (y : is_mapping s x ≡ true). y)
      (λ (y : is_mapping s x ≡ false). no_truth (sym (ap (λ (k : Mapping). k.live) (q_free x l y)) ∙ a))
      (tell (is_mapping s x))

  q_listed : Listed 64 q.maplist q.mapcount (is_mapping q)
  q_listed = listed_kept p.mappings map_order map_fewer map_rest (is_mapping q) (λ i l a. refl) q_was

  -- flags that were f's in slot x before the slots were gone through
  abbrev through : List ℕ → List ℕ
  through h = retained_to s.mappings q.mappings h 64

  first_moved : (h : List ℕ) → length h ≡ 32768 → (x : ℕ) → x < 64 → ((k : ℕ) → k < 512 → page_at h x k ≡ page_at f x k) → (d : ℕ)
      → Begins (mapping_at s x) (mapping_at q x) d → Moved f x d (through h) x ((mapping_at q x).size / 4096)
  first_moved h long x l same d w =
      let we = w.end in
      let wf = w.few in
      same_pages f h (through h) x d x ((mapping_at q x).size / 4096) (omega arith) same
      (after_moved s.mappings q.mappings h 64 x d l (omega arith) long w (λ k u v. same k v ∙ (p.pages x l).past k u v))

  -- no mapping is split
  alone_shape : ((i : ℕ) → i < 64 → split_at s r b e i ≡ true → ⊥) → Shape s f marks r b e q (through f)
  alone_shape none = record {
    arrays = q_arrays;
    lent = after_length s.mappings q.mappings f 64 ∙ p.lent;
    nextid = q_next;
    region = q_region;
    reglist = reg_order;
    fewer = reg_fewer;
    rest = reg_rest;
    slots = λ x l. old (record { is = q_mapping x l; moved = first_moved f p.lent x l (λ k h. refl) });
    second = λ i l a. absurd (none i l a);
    listed = q_listed;
  }

  -- two mappings that are split are one
  pub one_split : (i j : ℕ) → i < 64 → j < 64 → split_at s r b e i ≡ true → split_at s r b e j ≡ true → i ≡ j
  one_split i j l k u v =
      ⊎_elim
      (λ (z : i ≡ j). z)
      (λ (z : i ≡ j → ⊥).
      let x = split_is (mapping_at s i) r b e u in
      let y = split_is (mapping_at s j) r b e v in
      let x2 = x.2 in
      let x3 = x.3 in
      let y2 = y.2 in
      let y3 = y.3 in
      let bi = (before_most (mapping_at s i) b).1 in
      let ai = (after_most (mapping_at s i) e).1 in
      let bj = (before_most (mapping_at s j) b).1 in
      let aj = (after_most (mapping_at s j) e).1 in
      let be = c.range in
      absurd (⊎_elim
      (λ (w : (mapping_at s j).addr + (mapping_at s j).size ≤ (mapping_at s i).addr). omega arith)
      (λ (w : (mapping_at s i).addr + (mapping_at s i).size ≤ (mapping_at s j).addr). omega arith)
      (apart _ _ _ _ (apart_any p i j z l k x.0 y.0 (x.1 ∙ sym y.1)))))
      (same? i j)

  -- one is: its second part goes to the free slot
  module _ (split : split_slot s r b e < 64) where
    abbrev i : ℕ
    i = split_slot s r b e

    abbrev j : ℕ
    j = free_mapping s

    abbrev m : Mapping
    m = mapping_at s i

    abbrev t : Space
    t = with_mapping q j (second_part s e i)

    abbrev handed_on : List ℕ
    handed_on = handed m (after m e) f i j

    is_split_lem : split_at s r b e i ≡ true
    is_split_lem = first_passes (split_at s r b e) 64 split

    low : j < 64
    low = c.room split

    free : is_mapping s j ≡ false
    free = let z = low in (free_mapping_lem s (λ w. omega arith)).1

    fills : Fills (λ (k : Mapping). k.live) blank_mapping q.mappings 64 j (second_part s e i)
    fills = record {
      long = q_arrays.mappings;
      slot = low;
      free = ap (λ (k : Mapping). k.live) (q_free j low free);
      born = (split_is m r b e is_split_lem).0;
    }

    few : after m e / 4096 ≤ 512
    few = let y = (split_is m r b e is_split_lem).0 in let z = (after_most m e).0 in let w = (p.paged i split y).few in omega arith

    long : length handed_on ≡ 32768
    long = copied_length f (j * 512) (i * 512 + (m.size - after m e) / 4096) (after m e / 4096) 512 ∙ p.lent

    the_second : Second s f r b e t (through handed_on) i j
    the_second = record {
      slot = split;
      split = is_split_lem;
      here = refl;
      low = low;
      free = free;
      is = here fills j refl;
      moved = record {
        pages = λ k h. let z = few in still k (omega arith) ∙ copy.pages k h;
        past = λ k h l. still k l ∙ copy.past k h l;
      };
    }
      where
        copy : Moved f i ((m.size - after m e) / 4096) handed_on j (after m e / 4096)
        copy = copy_moved f i ((m.size - after m e) / 4096) j (after m e / 4096) p.lent low few

        still : (k : ℕ) → k < 512 → page_at (through handed_on) j k ≡ page_at handed_on j k
        still k h =
            after_same s.mappings q.mappings handed_on 64 j k
            (ap (λ (x : Mapping). x.size) (q_free j low free) ∙ sym (ap (λ (x : Mapping). x.size) (p.blank.mapping j low free))) h

    other_slot : (x : ℕ) → x < 64 → (x ≡ j → ⊥) → First s f marks r b e t (through handed_on) x
    other_slot x l n =
        let z : mapping_at t x ≡ mapping_at q x = there fills x n in
        record {
          is = z ∙ q_mapping x l;
          moved = λ d w. subst (λ (k : Mapping). Moved f x d (through handed_on) x (k.size / 4096)) (sym z)
              (first_moved handed_on long x l (λ k h. copy_other f i ((m.size - after m e) / 4096) j (after m e / 4096) x k n h) d
              (subst (λ (k : Mapping). Begins (mapping_at s x) k d) z w));
        }

    room : q.mapcount < 64
    room = let z = mapping_room p j low free in let w = map_fewer in omega arith

    split_shape : Shape s f marks r b e t (through handed_on)
    split_shape = record {
      arrays = mapping_arrays q j (second_part s e i) q_arrays;
      lent = after_length s.mappings q.mappings handed_on 64 ∙ long;
      nextid = q_next;
      region = q_region;
      reglist = reg_order;
      fewer = reg_fewer;
      rest = reg_rest;
      slots = λ x l. ⊎_elim
          (λ (z : x ≡ j). new i (subst (Second s f r b e t (through handed_on) i) (sym z) the_second))
          (λ (z : x ≡ j → ⊥). old (other_slot x l z))
          (same? x j);
      second = λ k l a. subst (λ (y : ℕ). Second s f r b e t (through handed_on) y j) (one_split i k split l is_split_lem a) the_second;
      listed = listed_more q_listed q_arrays.maplist room j low fills.free (is_mapping t)
          (ap (λ (k : Mapping). k.live) (here fills j refl) ∙ fills.born) (λ x n. ap (λ (k : Mapping). k.live) (there fills x n));
    }

    split_list : MapList s t r b e
    split_list = record {
      left = q.mapcount;
      kept = order_by map_order (is_mapping t) t.maplist
          (λ k l. let at = mapping_place_lem p k l in
          ap (λ (x : Mapping). x.live) (there fills (mapping_place s k) (λ z. clash (is_mapping s j) (subst (λ (x : ℕ). is_mapping s x ≡ true) z at.1) free)))
          (λ k l. early_place q.maplist q.mapcount j k (λ z. omega arith));
      alone = λ n. absurd (n split);
      second = λ l. (refl, last_place q.maplist q.mapcount j (let z = room in let w = q_arrays.maplist in omega arith) q.mapcount refl);
    }

  -- which of the two it is
  cut_alone : 64 ≤ split_slot s r b e → cut_space s marks r b e ≡ q
  unfolding cut_space
  cut_alone l = rw (le-ltb (split_slot s r b e) 64 l)

  cut_split : split_slot s r b e < 64 → cut_space s marks r b e ≡ with_mapping q (free_mapping s) (second_part s e (split_slot s r b e))
  unfolding cut_space
  cut_split l = rw (lt-ltb (split_slot s r b e) 64 l)

  flags_alone : 64 ≤ split_slot s r b e → cut_flags s f marks r b e ≡ through f
  unfolding pruned handed_over
  flags_alone l = rw (le-ltb (split_slot s r b e) 64 l)

  flags_split : split_slot s r b e < 64
      → cut_flags s f marks r b e ≡ through (handed (mapping_at s (split_slot s r b e)) (after (mapping_at s (split_slot s r b e)) e) f (split_slot s r b e) (free_mapping s))
  unfolding pruned handed_over
  flags_split l = rw (lt-ltb (split_slot s r b e) 64 l)

  none_split : 64 ≤ split_slot s r b e → (k : ℕ) → k < 64 → split_at s r b e k ≡ true → ⊥
  none_split l k h a = clash (split_at s r b e k) a (before_first (split_at s r b e) 64 k (omega arith))

  pub cut_shape : Shape s f marks r b e (cut_space s marks r b e) (cut_flags s f marks r b e)
  cut_shape =
      ⊎_elim
      (λ (l : split_slot s r b e < 64).
      subst (λ (x : Space). Shape s f marks r b e x (cut_flags s f marks r b e)) (sym (cut_split l))
      (subst (Shape s f marks r b e (with_mapping q (free_mapping s) (second_part s e (split_slot s r b e)))) (sym (flags_split l)) (split_shape l)))
      (λ (l : 64 ≤ split_slot s r b e).
      subst (λ (x : Space). Shape s f marks r b e x (cut_flags s f marks r b e)) (sym (cut_alone l))
      (subst (Shape s f marks r b e q) (sym (flags_alone l)) (alone_shape (none_split l))))
      (below? (split_slot s r b e) 64)

  pub cut_list : MapList s (cut_space s marks r b e) r b e
  cut_list =
      ⊎_elim
      (λ (l : split_slot s r b e < 64). subst (λ (x : Space). MapList s x r b e) (sym (cut_split l)) (split_list l))
      (λ (l : 64 ≤ split_slot s r b e).
      subst (λ (x : Space). MapList s x r b e) (sym (cut_alone l))
      (record { left = q.mapcount; kept = map_order; alone = λ n. refl; second = λ k. absurd (omega arith) }))
      (below? (split_slot s r b e) 64)
