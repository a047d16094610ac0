-- A space that passes its check still passes it after a cut.
use Prim.Native.Nat.{ℕ, ◌+◌, ◌-◌, ◌/◌, ◌≤◌, ◌<◌}
use mathlib.Core.Path.{◌≡◌, refl, sym, ◌∙◌, ap, subst}
use mathlib.Core.Bool.{Bool, true, false, not}
use mathlib.Core.List.{List}
use mathlib.Core.Logic.{inr, ⊎_elim}
use native.Mathlib.Omega.{arith}
use lib.ListN.{get_or}
use borrow.Author.Tests.{not-true}
use Rattle.paging.specs.Choice.{pick}
use Rattle.paging.proofs.Cases.{same?, below?, no_truth, clash}
use Rattle.common.specs.Flags.{known_page, known_region}
use Rattle.scan.proofs.Scans.{tell}
use Rattle.space.specs.Range.{overlap, inside}
use Rattle.space.specs.Space.{region_at, mapping_at, is_region, is_mapping, region_place, no_region, blank_region, blank_mapping}
use Rattle.space.specs.Passes.{In, Listed, RootRange, Tree, Inside, Apart, Paged, Pages, others, Passes}
use Rattle.space.specs.declared.Region.{Region}
use Rattle.space.specs.declared.Mapping.{Mapping}
use Rattle.space.specs.declared.Space.{Space}
use Rattle.space.proofs.Ranges.{apart_of}
use Rattle.space.proofs.Facts.{region_place_lem}
use Rattle.vmar_laws.proofs.Child.{parent_lives}
use Rattle.vmar_laws.proofs.Ranges.{flip}
use Rattle.vmar_prune.specs.Piece.{before, after, left}
use Rattle.vmar_prune.specs.Prune.{kept_mapping}
use Rattle.vmar_prune_laws.specs.Cutting.{Cutting}
use Rattle.vmar_prune_laws.specs.Part.{PartOf, Moved, Taken}
use Rattle.vmar_prune_laws.proofs.Packs.{source, first_stays, listed_kept}
use Rattle.vmar_prune_laws.proofs.Pieces.{before_most, after_most, after_pages, none, ending, beginning, piece_left, Outcome, dropped, other, cut, outcome, kept_of, split_is, right_part, part_paged, part_inside, part_apart, stays, dead_stays}
use Rattle.vmar_prune_laws.proofs.Copies.{Begins}
use Rattle.vmar_prune_laws.proofs.Shape.{Second, First, Slot, old, new, Shape}

-- a part begins at its page
part_begins : (m k : Mapping) (d : ℕ) → Paged m → PartOf m k d → Begins m k d
part_begins m k d q p =
    let pa = p.addr in
    let pe = p.end in
    let qf = q.few in
    record { at = omega arith; end = omega arith; few = qf; still = λ e. omega arith }

-- pages that were moved are known and alike
moved_pages : (f g : List ℕ) (i d j n most : ℕ) → d + n ≤ most → Pages f i most → Moved f i d g j n → Pages g j n
moved_pages f g i d j n most l p m = record {
  known = λ x h. subst (λ (y : ℕ). known_page y ≡ true) (sym (m.pages x h)) (p.known (d + x) (omega arith));
  alike = λ x h. ap others (m.pages x h) ∙ p.alike (d + x) (omega arith) ∙ sym (ap others (m.pages 0 (omega arith)) ∙ p.alike (d + 0) (omega arith));
  past = m.past;
}

-- no two mappings of a region overlap, whichever slot is the lower
pub apart_any : {s : Space} {f : List ℕ} (p : Passes s f) (i j : ℕ) → (i ≡ j → ⊥) → i < 64 → j < 64 → is_mapping s i ≡ true → is_mapping s j ≡ true
    → (mapping_at s i).region ≡ (mapping_at s j).region
    → overlap (mapping_at s i).addr (mapping_at s i).size (mapping_at s j).addr (mapping_at s j).size ≡ false
apart_any p i j d l k a y q =
    ⊎_elim
    (λ (w : j < i). p.apart.mappings i j w l a y q)
    (λ (w : i ≤ j). flip _ _ _ _ (p.apart.mappings j i (omega arith) k y a (sym q)))
    (below? j i)

module _ {s : Space} {f : List ℕ} {marks : List Bool} {r b e : ℕ} (c : Cutting s f marks r b e) {t : Space} {g : List ℕ} (h : Shape s f marks r b e t g) where
  abbrev p : Passes s f
  p = c.passes

  -- regions: each stands as it was, or is gone
  pub stands : (i : ℕ) → i < 32 → get_or marks i false ≡ false → region_at t i ≡ region_at s i
  stands i l a = h.region i l ∙ ap (λ (x : Bool). pick x blank_region (region_at s i)) a

  pub gone : (i : ℕ) → i < 32 → get_or marks i false ≡ true → region_at t i ≡ blank_region
  gone i l a = h.region i l ∙ ap (λ (x : Bool). pick x blank_region (region_at s i)) a

  -- what lives, lived and has no mark
  pub was : (i : ℕ) → i < 32 → is_region t i ≡ true → (get_or marks i false ≡ false) × (region_at t i ≡ region_at s i) × (is_region s i ≡ true)
  was i l a =
      ⊎_elim
      (λ (x : get_or marks i false ≡ true). no_truth (sym (ap (λ (y : Region). y.live) (gone i l x)) ∙ a))
      (λ (x : get_or marks i false ≡ false). let q = stands i l x in (x, q, sym (ap (λ (y : Region). y.live) q) ∙ a))
      (tell (get_or marks i false))

  regions : Listed 32 t.reglist t.regcount (is_region t)
  regions = listed_kept p.regions h.reglist h.fewer h.rest (is_region t) agree (λ i l a. (was i l a).2)
    where
      agree : (i : ℕ) → i < 32 → is_region s i ≡ true → not (get_or marks i false) ≡ is_region t i
      agree i l a =
          ⊎_elim
          (λ (x : get_or marks i false ≡ true). ap not x ∙ sym (ap (λ (y : Region). y.live) (gone i l x)))
          (λ (x : get_or marks i false ≡ false). ap not x ∙ sym (ap (λ (y : Region). y.live) (stands i l x) ∙ a))
          (tell (get_or marks i false))

  -- the parent of one that stands stands
  parent_stands : (i : ℕ) → i < 32 → is_region s i ≡ true → get_or marks i false ≡ false → get_or marks (region_at s i).parent false ≡ false
  parent_stands i l a x =
      ⊎_elim
      (λ (y : get_or marks (region_at s i).parent false ≡ true). clash (get_or marks i false) (c.closed i l a y) x)
      (λ (y : get_or marks (region_at s i).parent false ≡ false). y)
      (tell (get_or marks (region_at s i).parent false))

  -- place k of the list: where it was, and that its region is as it was
  place_from : (k : ℕ) → k < t.regcount → (j : ℕ) × (j < s.regcount) × (get_or marks (region_place s j) false ≡ false) × (h.reglist.to j ≡ k)
      × (region_at t (region_place t k) ≡ region_at s (region_place s j))
  place_from k l =
      let m = source h.reglist k l in
      let x = not-true _ m.2 in
      (m.0, m.1, x, m.3, ap (region_at t) m.4 ∙ stands (region_place s m.0) (p.regions.slot m.0 m.1) x)

  tree : Tree t
  tree = record { root = root; range = range; parent = parent }
    where
      root : (k : ℕ) → k < t.regcount → (region_at t (region_place t k)).parent ≡ no_region → k ≡ 0
      root k l a =
          let m = place_from k l in
          let z : m.0 ≡ 0 = p.tree.root m.0 m.1 (sym (ap (λ (y : Region). y.parent) m.4) ∙ a) in
          let n = m.1 in
          sym m.3 ∙ ap h.reglist.to z ∙ first_stays h.reglist (omega arith) (subst (λ (j : ℕ). not (get_or marks (region_place s j) false) ≡ true) z (ap not m.2))

      range : (k : ℕ) → k < t.regcount → (region_at t (region_place t k)).parent ≡ no_region → RootRange (region_at t (region_place t k)).addr (region_at t (region_place t k)).size
      range k l a =
          let m = place_from k l in
          subst (λ (y : Region). RootRange y.addr y.size) (sym m.4) (p.tree.range m.0 m.1 (sym (ap (λ (y : Region). y.parent) m.4) ∙ a))

      parent : (k : ℕ) → k < t.regcount → ((region_at t (region_place t k)).parent ≡ no_region → ⊥) → In t.reglist k (region_at t (region_place t k)).parent
      parent k l a =
          let m = place_from k l in
          let at = region_place_lem p m.0 m.1 in
          let up = p.tree.parent m.0 m.1 (λ z. a (ap (λ (y : Region). y.parent) m.4 ∙ z)) in
          let n = up.1 in
          let w = m.1 in
          let still : get_or marks (region_place s up.0) false ≡ false =
          subst (λ (x : ℕ). get_or marks x false ≡ false) (sym up.2) (parent_stands (region_place s m.0) at.0 at.1 m.2) in
          let q = h.reglist.stays up.0 (omega arith) (ap not still) in
          let o = h.reglist.order up.0 m.0 n w (ap not still) in
          let z = m.3 in
          (h.reglist.to up.0, omega arith, q.1 ∙ up.2 ∙ sym (ap (λ (y : Region). y.parent) m.4))

  -- mappings: what slot x holds is a part of one of s, whose region stands
  pub record Origin (i x : ℕ) : Type 0 where
    pub taken : Taken s f i t g x
    pub stands : get_or marks (mapping_at s i).region false ≡ false

  -- a mapping that is split is of region r, and that stands
  pub split_stands : (i : ℕ) → 0 < before (mapping_at s i) b → get_or marks r false ≡ false
  split_stands i l =
      ⊎_elim
      (λ (x : get_or marks r false ≡ true). absurd (let z = c.all x in let w = (before_most (mapping_at s i) b).1 in omega arith))
      (λ (x : get_or marks r false ≡ false). x)
      (tell (get_or marks r false))

  pub first_origin : (x : ℕ) → x < 64 → First s f marks r b e t g x → is_mapping t x ≡ true → Origin x x
  first_origin x l w a =
      ⊎_elim
      (λ (y : is_mapping s x ≡ true).
      let q = p.paged x l y in
      let m = stays marks r b e (mapping_at s x) c.begin c.end y q (mapping_at t x)
      (subst (Outcome marks r b e (mapping_at s x)) (sym w.is) (outcome marks r b e (mapping_at s x))) a in
      record {
        taken = record { slot = l; live = y; skip = m.0; part = m.1.part; flags = w.moved m.0 (part_begins _ _ _ q m.1.part) };
        stands = m.1.stands;
      })
      (λ (y : is_mapping s x ≡ false). no_truth (sym (ap (λ (k : Mapping). k.live) (w.is ∙ free_stays x l y)) ∙ a))
      (tell (is_mapping s x))
    where
      free_stays : (y : ℕ) → y < 64 → is_mapping s y ≡ false → kept_mapping marks r b e (mapping_at s y) ≡ blank_mapping
      free_stays y k q =
          ap (kept_mapping marks r b e) (p.blank.mapping y k q) ∙ dead_stays marks r b e (kept_mapping marks r b e blank_mapping) (outcome marks r b e blank_mapping)

  pub second_origin : (i x : ℕ) → Second s f r b e t g i x → Origin i x
  second_origin i x w =
      let y = split_is (mapping_at s i) r b e w.split in
      let q = p.paged i w.slot y.0 in
      let n = after (mapping_at s i) e in
      record {
        taken = record {
          slot = w.slot;
          live = y.0;
          skip = ((mapping_at s i).size - n) / 4096;
          part = subst (λ (k : Mapping). PartOf (mapping_at s i) k (((mapping_at s i).size - n) / 4096)) (sym w.is)
              (right_part (mapping_at s i) n y.0 q (after_most (mapping_at s i) e).0 (after_pages (mapping_at s i) e q c.end));
          flags = subst (λ (k : Mapping). Moved f i (((mapping_at s i).size - n) / 4096) g x (k.size / 4096)) (sym w.is) w.moved;
        };
        stands = subst (λ (z : ℕ). get_or marks z false ≡ false) (sym y.1) (split_stands i y.2);
      }

  pub origin : (x : ℕ) → x < 64 → is_mapping t x ≡ true → (i : ℕ) × Origin i x
  origin x l a = by (h.slots x l)
    where
      by : Slot s f marks r b e t g x → (i : ℕ) × Origin i x
      by (old w) = (x, first_origin x l w a)
      by (new i w) = (i, second_origin i x w)

  -- its region is as it was
  origin_region : (x : ℕ) → x < 64 → (a : is_mapping t x ≡ true)
      → ((mapping_at t x).region < 32) × (is_region s (mapping_at t x).region ≡ true) × (region_at t (mapping_at t x).region ≡ region_at s (mapping_at t x).region)
  origin_region x l a =
      let m = origin x l a in
      let k = m.1.taken in
      let q = p.inner.region m.0 k.slot k.live in
      subst (λ (y : ℕ). (y < 32) × (is_region s y ≡ true) × (region_at t y ≡ region_at s y)) (sym k.part.region)
      (q.0, q.1, stands (mapping_at s m.0).region q.0 m.1.stands)

  inner : Inside t
  inner = record { child = child; region = region; mapping = mapping }
    where
      child : (i : ℕ) → i < 32 → is_region t i ≡ true → ((region_at t i).parent ≡ no_region → ⊥)
          → inside (region_at t i).addr (region_at t i).size (region_at t (region_at t i).parent).addr (region_at t (region_at t i).parent).size ≡ true
      child i l a n =
          let m = was i l a in
          let n' : ((region_at s i).parent ≡ no_region → ⊥) = λ z. n (ap (λ (y : Region). y.parent) m.1 ∙ z) in
          let up = parent_lives p i l m.2 n' in
          subst (λ (y : Region). inside y.addr y.size (region_at t y.parent).addr (region_at t y.parent).size ≡ true) (sym m.1)
          (subst (λ (y : Region). inside (region_at s i).addr (region_at s i).size y.addr y.size ≡ true)
          (sym (stands (region_at s i).parent up.0 (parent_stands i l m.2 m.0))) (p.inner.child i l m.2 n'))

      region : (x : ℕ) → x < 64 → is_mapping t x ≡ true → ((mapping_at t x).region < 32) × (is_region t (mapping_at t x).region ≡ true)
      region x l a = let q = origin_region x l a in (q.0, ap (λ (y : Region). y.live) q.2 ∙ q.1)

      mapping : (x : ℕ) → x < 64 → is_mapping t x ≡ true
          → inside (mapping_at t x).addr (mapping_at t x).size (region_at t (mapping_at t x).region).addr (region_at t (mapping_at t x).region).size ≡ true
      mapping x l a =
          let m = origin x l a in
          let k = m.1.taken in
          subst (λ (y : Region). inside (mapping_at t x).addr (mapping_at t x).size y.addr y.size ≡ true) (sym (origin_region x l a).2)
          (subst (λ (y : ℕ). inside (mapping_at t x).addr (mapping_at t x).size (region_at s y).addr (region_at s y).size ≡ true) (sym k.part.region)
          (part_inside _ _ _ k.part _ _ (p.inner.mapping m.0 k.slot k.live)))

  abbrev Clear : ℕ → ℕ → Type 0
  Clear x y = (mapping_at t x).region ≡ (mapping_at t y).region → overlap (mapping_at t x).addr (mapping_at t x).size (mapping_at t y).addr (mapping_at t y).size ≡ false

  parts_clear : (i j x y : ℕ) → (i ≡ j → ⊥) → Taken s f i t g x → Taken s f j t g y → Clear x y
  parts_clear i j x y d u v q =
      flip _ _ _ _ (part_apart _ _ _ u.part _ _ (flip _ _ _ _ (part_apart _ _ _ v.part _ _
      (apart_any p i j d u.slot v.slot u.live v.live (sym u.part.region ∙ q ∙ v.part.region)))))

  -- the two parts of the mapping that is split
  halves_clear : (i y : ℕ) → First s f marks r b e t g i → Second s f r b e t g i y → Clear i y
  halves_clear i y u v q =
      let m = mapping_at s i in
      let z = split_is m r b e v.split in
      let low : 0 < before m b = z.2 in
      let high : 0 < after m e = z.3 in
      let bm0 = (before_most m b).0 in
      let bm1 = (before_most m b).1 in
      let am0 = (after_most m e).0 in
      let am1 = (after_most m e).1 in
      let be = c.range in
      let first : mapping_at t i ≡ left m (before m b) =
      u.is ∙ kept_of marks r b e m (subst (λ (k : ℕ). get_or marks k false ≡ false) (sym z.1) (split_stands i low)) z.1 ∙ piece_left m b e low in
      subst (λ (k : Mapping). overlap k.addr k.size (mapping_at t y).addr (mapping_at t y).size ≡ false) (sym first)
      (subst (λ (k : Mapping). overlap m.addr (before m b) k.addr k.size ≡ false) (sym v.is)
      (apart_of m.addr (before m b) (m.addr + (m.size - after m e)) (after m e) (inr (omega arith))))

  mixed_clear : (x y i : ℕ) → x < 64 → is_mapping t x ≡ true → First s f marks r b e t g x → Second s f r b e t g i y → Clear x y
  mixed_clear x y i l a u v =
      ⊎_elim
      (λ (q : x ≡ i). subst (λ (k : ℕ). Clear k y) (sym q) (halves_clear i y (subst (First s f marks r b e t g) q u) v))
      (λ (q : x ≡ i → ⊥). parts_clear x i x y q (first_origin x l u a).taken (second_origin i y v).taken)
      (same? x i)

  clear : (x y : ℕ) → (x ≡ y → ⊥) → x < 64 → y < 64 → is_mapping t x ≡ true → is_mapping t y ≡ true → Clear x y
  clear x y d l k a w = by (h.slots x l) (h.slots y k)
    where
      by : Slot s f marks r b e t g x → Slot s f marks r b e t g y → Clear x y
      by (old u) (old v) = parts_clear x y x y d (first_origin x l u a).taken (first_origin y k v w).taken
      by (old u) (new i v) = mixed_clear x y i l a u v
      by (new i u) (old v) = λ q. flip _ _ _ _ (mixed_clear y x i k w v u (sym q))
      by (new i u) (new j v) = absurd (d (u.here ∙ sym v.here))

  apart_all : Apart t
  apart_all = record { children = children; mappings = λ i j n l a w. clear i j (λ q. omega arith) l (omega arith) a w; both = both }
    where
      children : (i j : ℕ) → j < i → i < 32 → is_region t i ≡ true → is_region t j ≡ true → (region_at t i).parent ≡ (region_at t j).parent
          → overlap (region_at t i).addr (region_at t i).size (region_at t j).addr (region_at t j).size ≡ false
      children i j n l a w q =
          let u = was i l a in
          let v = was j (omega arith) w in
          subst (λ (y : Region). overlap y.addr y.size (region_at t j).addr (region_at t j).size ≡ false) (sym u.1)
          (subst (λ (y : Region). overlap (region_at s i).addr (region_at s i).size y.addr y.size ≡ false) (sym v.1)
          (p.apart.children i j n l u.2 v.2 (sym (ap (λ (y : Region). y.parent) u.1) ∙ q ∙ ap (λ (y : Region). y.parent) v.1)))

      both : (i x : ℕ) → i < 32 → x < 64 → is_region t i ≡ true → is_mapping t x ≡ true → (region_at t i).parent ≡ (mapping_at t x).region
          → overlap (region_at t i).addr (region_at t i).size (mapping_at t x).addr (mapping_at t x).size ≡ false
      both i x l k a w q =
          let u = was i l a in
          let m = origin x k w in
          let v = m.1.taken in
          subst (λ (y : Region). overlap y.addr y.size (mapping_at t x).addr (mapping_at t x).size ≡ false) (sym u.1)
          (part_apart _ _ _ v.part _ _
          (p.apart.both i m.0 l v.slot u.2 v.live (sym (ap (λ (y : Region). y.parent) u.1) ∙ q ∙ v.part.region)))

  -- a slot that is free afterwards is blank
  blank_mapping_lem : (x : ℕ) → x < 64 → is_mapping t x ≡ false → mapping_at t x ≡ blank_mapping
  blank_mapping_lem x l a = by (h.slots x l)
    where
      empty : (m k : Mapping) → m.live ≡ true → Outcome marks r b e m k → k.live ≡ false → k ≡ blank_mapping
      empty m _ y (dropped u) z = refl
      empty m _ y (other u v) z = clash _ y z
      empty m _ y (cut _ u v (none w q)) z = refl
      empty m _ y (cut _ u v (ending w q)) z = clash _ y z
      empty m _ y (cut _ u v (beginning w)) z = clash _ y z

      by : Slot s f marks r b e t g x → mapping_at t x ≡ blank_mapping
      by (old w) =
          let k = subst (Outcome marks r b e (mapping_at s x)) (sym w.is) (outcome marks r b e (mapping_at s x)) in
          ⊎_elim
          (λ (y : is_mapping s x ≡ true). empty (mapping_at s x) (mapping_at t x) y k a)
          (λ (y : is_mapping s x ≡ false). dead_stays marks r b e (mapping_at t x) (subst (λ (m : Mapping). Outcome marks r b e m (mapping_at t x)) (p.blank.mapping x l y) k))
          (tell (is_mapping s x))
      by (new i w) = clash (is_mapping t x) (second_origin i x w).taken.part.live a

  pages : (x : ℕ) → x < 64 → Pages g x ((mapping_at t x).size / 4096)
  pages x l =
      ⊎_elim
      (λ (a : is_mapping t x ≡ true).
      let m = origin x l a in
      let v = m.1.taken in
      let w = part_begins _ _ _ (p.paged m.0 v.slot v.live) v.part in
      moved_pages f g m.0 v.skip x _ _ w.end (p.pages m.0 v.slot) v.flags)
      (λ (a : is_mapping t x ≡ false). by a (h.slots x l))
      (tell (is_mapping t x))
    where
      by : is_mapping t x ≡ false → Slot s f marks r b e t g x → Pages g x ((mapping_at t x).size / 4096)
      by a (old w) =
          let q = blank_mapping_lem x l a in
          let za : (mapping_at t x).addr ≡ 0 = ap (λ (k : Mapping). k.addr) q in
          let zs : (mapping_at t x).size ≡ 0 = ap (λ (k : Mapping). k.size) q in
          let few : (mapping_at s x).size / 4096 ≤ 512 =
          ⊎_elim
          (λ (y : is_mapping s x ≡ true). (p.paged x l y).few)
          (λ (y : is_mapping s x ≡ false). let k : (mapping_at s x).size ≡ 0 = ap (λ (z : Mapping). z.size) (p.blank.mapping x l y) in omega arith)
          (tell (is_mapping s x)) in
          moved_pages f g x 0 x _ _ (omega arith) (p.pages x l)
          (w.moved 0 (record { at = omega arith; end = omega arith; few = few; still = λ k. refl }))
      by a (new i w) = clash (is_mapping t x) (second_origin i x w).taken.part.live a

  pub shape_passes : Passes t g
  shape_passes = record {
    lent = h.lent;
    regions = regions;
    mappings = h.listed;
    tree = tree;
    inner = inner;
    apart = apart_all;
    paged = λ x l a. let m = origin x l a in let v = m.1.taken in part_paged _ _ _ v.part (p.paged m.0 v.slot v.live);
    pages = pages;
    known = record {
      region = λ i l a. let m = was i l a in subst (λ (y : Region). known_region y.flags ≡ true) (sym m.1) (p.known.region i l m.2);
      mapping = λ x l a. let m = origin x l a in let v = m.1.taken in
          subst (λ (y : ℕ). known_page y ≡ true) (sym v.part.permissions) (p.known.mapping m.0 v.slot v.live);
    };
    ids = record {
      most = let z = h.nextid in let w = p.ids.most in omega arith;
      issued = λ i l a. let m = was i l a in let z = h.nextid in let w = p.ids.issued i l m.2 in let q : (region_at t i).id ≡ (region_at s i).id = ap (λ (y : Region). y.id) m.1 in omega arith;
      distinct = λ i j n l a w q.
          let u = was i l a in
          let v = was j (omega arith) w in
          p.ids.distinct i j n l u.2 v.2 (sym (ap (λ (y : Region). y.id) u.1) ∙ q ∙ ap (λ (y : Region). y.id) v.1);
    };
    blank = record { region = blank_region_lem; mapping = blank_mapping_lem };
  }
    where
      blank_region_lem : (i : ℕ) → i < 32 → is_region t i ≡ false → region_at t i ≡ blank_region
      blank_region_lem i l a =
          ⊎_elim
          (λ (x : get_or marks i false ≡ true). gone i l x)
          (λ (x : get_or marks i false ≡ false). let q = stands i l x in q ∙ p.blank.region i l (sym (ap (λ (y : Region). y.live) q) ∙ a))
          (tell (get_or marks i false))
