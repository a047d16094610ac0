-- What a cut does: all of `Cut`.
use Prim.Native.Nat.{ℕ, ◌+◌, ◌-◌, ◌/◌, ◌≤◌, ◌<◌}
use mathlib.Core.Path.{◌≡◌, refl, sym, ◌∙◌, ap, subst}
use mathlib.Core.Bool.{Bool, true, false}
use mathlib.Core.List.{List}
use mathlib.Core.Logic.{◌⊎◌, inl, inr, ⊎_elim}
use native.Mathlib.Omega.{arith}
use lib.ListN.{get_or}
use Rattle.paging.proofs.Cases.{same?, below?, no_truth, clash}
use Rattle.scan.proofs.Scans.{first_passes, before_first}
use Rattle.space.specs.Range.{contains}
use Rattle.space.specs.Space.{mapping_at, is_mapping}
use Rattle.space.specs.Passes.{Passes, page_at}
use Rattle.space.specs.declared.Mapping.{Mapping}
use Rattle.space.specs.declared.Space.{Space}
use Rattle.space.proofs.Ranges.{holds, holds_of}
use Rattle.vmar_offset.specs.Offset.{free_mapping}
use Rattle.vmar_prune.specs.Piece.{before, after, left, right, piece}
use Rattle.vmar_prune.specs.Prune.{split_at, split_slot}
use Rattle.vmar_prune_laws.specs.Cutting.{Cutting}
use Rattle.vmar_prune_laws.specs.Part.{Moved, Taken}
use Rattle.vmar_prune_laws.specs.Lists.{MapList}
use Rattle.vmar_prune_laws.specs.Cut.{SameAt, MappingsCut, Cut, CutAll}
use Rattle.vmar_prune_laws.proofs.Pieces.{before_most, before_least, after_most, after_least, none, ending, beginning, piece_left, piece_right, Outcome, dropped, other, cut, outcome, kept_of, kept_other, split_is, split_of}
use Rattle.vmar_prune_laws.proofs.Copies.{Begins}
use Rattle.vmar_prune_laws.proofs.Shape.{First, Slot, old, new, Shape}
use Rattle.vmar_prune_laws.proofs.Passing.{stands, gone, first_origin, second_origin, origin, shape_passes}
use Rattle.vmar_prune_laws.proofs.Ids.{dead, shape_later}
use Rattle.vmar_prune_laws.proofs.Made.{one_split, cut_shape, cut_list}

-- what is kept of a mapping of region r lies outside the range, and is not empty
abbrev Outside : ℕ → ℕ → Mapping → Type 0
Outside b e k = (0 < k.size) × ((k.addr + k.size ≤ b) ⊎ (e ≤ k.addr))

right_outside : (m : Mapping) (b e : ℕ) → 0 < after m e → Outside b e (right m (after m e))
right_outside m b e l = let z = (after_most m e).0 in let w = (after_most m e).1 in (l, inr (omega arith))

outside : (marks : List Bool) (r b e : ℕ) (m k : Mapping) → Outcome marks r b e m k → k.live ≡ true → k.region ≡ r → Outside b e k
outside marks r b e m _ (dropped x) a q = no_truth a
outside marks r b e m _ (other x y) a q = absurd (y q)
outside marks r b e m _ (cut _ x y (none u v)) a q = no_truth a
outside marks r b e m _ (cut _ x y (ending u v)) a q = right_outside m b e v
outside marks r b e m _ (cut _ x y (beginning u)) a q = let z = (before_most m b).1 in (u, inl (omega arith))

module _ {s : Space} {f : List ℕ} {marks : List Bool} {r b e : ℕ} (c : Cutting s f marks r b e) {t : Space} {g : List ℕ} (h : Shape s f marks r b e t g) where
  abbrev p : Passes s f
  p = c.passes

  -- a slot that was live has what is kept of its mapping
  first_of : (i : ℕ) → i < 64 → is_mapping s i ≡ true → First s f marks r b e t g i
  first_of i l a = by (h.slots i l)
    where
      by : Slot s f marks r b e t g i → First s f marks r b e t g i
      by (old w) = w
      by (new j w) = clash (is_mapping s i) a w.free

  outside_at : (j : ℕ) → j < 64 → is_mapping t j ≡ true → (mapping_at t j).region ≡ r → Outside b e (mapping_at t j)
  outside_at j l a q = by (h.slots j l)
    where
      by : Slot s f marks r b e t g j → Outside b e (mapping_at t j)
      by (old w) = outside marks r b e (mapping_at s j) (mapping_at t j) (subst (Outcome marks r b e (mapping_at s j)) (sym w.is) (outcome marks r b e (mapping_at s j))) a q
      by (new i w) = subst (Outside b e) (sym w.is) (right_outside (mapping_at s i) b e (split_is (mapping_at s i) r b e w.split).3)

  -- an address that a part holds is held as it was
  same_at : (i j x : ℕ) → j < 64 → Taken s f i t g j → contains (mapping_at t j).addr (mapping_at t j).size x ≡ true → SameAt s f i t g j x
  same_at i j x l k q =
      let w = holds _ _ _ q in
      let w0 = w.0 in
      let w1 = w.1 in
      let pa = k.part.addr in
      let po = k.part.offset in
      let ps = k.part.size in
      record {
        slot = l;
        live = k.part.live;
        holds = q;
        region = k.part.region;
        vmo = k.part.vmo;
        permissions = k.part.permissions;
        offset = omega arith;
        flags = k.flags.pages ((x - (mapping_at t j).addr) / 4096) (omega arith)
            ∙ ap (page_at f i) (let z : k.skip + (x - (mapping_at t j).addr) / 4096 ≡ (x - (mapping_at s i).addr) / 4096 = omega arith in z);
      }

  module _ (i x : ℕ) (l : i < 64) (a : is_mapping s i ≡ true) (q : (mapping_at s i).region ≡ r) (y : get_or marks r false ≡ false)
      (w : contains (mapping_at s i).addr (mapping_at s i).size x ≡ true) where
    abbrev m : Mapping
    m = mapping_at s i

    in_slot : (k : Mapping) → mapping_at t i ≡ k → k.live ≡ true → contains k.addr k.size x ≡ true → (j : ℕ) × SameAt s f i t g j x
    in_slot k z u v = (
      i,
      same_at i i x l (first_origin c h i l (first_of i l a) (ap (λ (n : Mapping). n.live) z ∙ u)).taken
          (subst (λ (n : Mapping). contains n.addr n.size x ≡ true) (sym z) v),
    )

    is_piece : mapping_at t i ≡ piece m b e
    is_piece = (first_of i l a).is ∙ kept_of marks r b e m (subst (λ (k : ℕ). get_or marks k false ≡ false) (sym q) y) q

    kept_before : x < b → (j : ℕ) × SameAt s f i t g j x
    kept_before u =
        let v = holds _ _ _ w in
        let v0 = v.0 in
        let v1 = v.1 in
        let n = before_least m b (x - m.addr + 1) (omega arith) (omega arith) in
        in_slot (left m (before m b)) (is_piece ∙ piece_left m b e (omega arith)) a (holds_of _ _ _ (omega arith) (omega arith))

    kept_after : e ≤ x → (j : ℕ) × SameAt s f i t g j x
    kept_after u =
        let v = holds _ _ _ w in
        let v0 = v.0 in
        let v1 = v.1 in
        let n = after_least m e (m.addr + m.size - x) (omega arith) (omega arith) in
        let n0 = (after_most m e).0 in
        let on : contains (m.addr + (m.size - after m e)) (after m e) x ≡ true = holds_of _ _ _ (omega arith) (omega arith) in
        ⊎_elim
        (λ (z : before m b ≡ 0). in_slot (right m (after m e)) (is_piece ∙ piece_right m b e z (omega arith)) a on)
        (λ (z : before m b ≡ 0 → ⊥).
        let k = h.second i l (split_of m r b e a q (omega arith) (omega arith)) in (
          free_mapping s,
          same_at i (free_mapping s) x k.low (second_origin c h i (free_mapping s) k).taken
              (subst (λ (d : Mapping). contains d.addr d.size x ≡ true) (sym k.is) on),
        ))
        (same? (before m b) 0)

  others : (i : ℕ) → i < 64 → is_mapping s i ≡ true → get_or marks (mapping_at s i).region false ≡ false → ((mapping_at s i).region ≡ r → ⊥)
      → (mapping_at t i ≡ mapping_at s i) × ((k : ℕ) → k < 512 → page_at g i k ≡ page_at f i k)
  others i l a y n = (still, pages)
    where
      still : mapping_at t i ≡ mapping_at s i
      still = (first_of i l a).is ∙ kept_other marks r b e (mapping_at s i) y n

      begins : Begins (mapping_at s i) (mapping_at s i) 0
      begins = record { at = omega arith; end = omega arith; few = (p.paged i l a).few; still = λ q. refl }

      moved : Moved f i 0 g i ((mapping_at s i).size / 4096)
      moved = subst (λ (k : Mapping). Moved f i 0 g i (k.size / 4096)) still ((first_of i l a).moved 0 (subst (λ (k : Mapping). Begins (mapping_at s i) k 0) (sym still) begins))

      pages : (k : ℕ) → k < 512 → page_at g i k ≡ page_at f i k
      pages k u =
          ⊎_elim
          (λ (w : k < (mapping_at s i).size / 4096). moved.pages k w ∙ ap (page_at f i) (let z : 0 + k ≡ k = omega arith in z))
          (λ (w : (mapping_at s i).size / 4096 ≤ k). moved.past k w u ∙ sym ((p.pages i l).past k w u))
          (below? k ((mapping_at s i).size / 4096))

  -- the mapping that is split is the first that is
  the_split : (i : ℕ) → i < 64 → split_at s r b e i ≡ true → i ≡ split_slot s r b e
  the_split i l a =
      ⊎_elim
      (λ (w : i < split_slot s r b e). clash (split_at s r b e i) a (before_first (split_at s r b e) 64 i w))
      (λ (w : split_slot s r b e ≤ i). one_split c i (split_slot s r b e) l (omega arith) a (first_passes (split_at s r b e) 64 (omega arith)))
      (below? i (split_slot s r b e))

  part : (j : ℕ) → j < 64 → is_mapping t j ≡ true → (i : ℕ) × Taken s f i t g j × ((j ≡ i) ⊎ ((j ≡ free_mapping s) × (i ≡ split_slot s r b e)))
  part j l a = by (h.slots j l)
    where
      by : Slot s f marks r b e t g j → (i : ℕ) × Taken s f i t g j × ((j ≡ i) ⊎ ((j ≡ free_mapping s) × (i ≡ split_slot s r b e)))
      by (old w) = (j, (first_origin c h j l w a).taken, inl refl)
      by (new i w) = (i, (second_origin c h i j w).taken, inr (w.here, the_split i w.slot w.split))

  shape_mappings : MapList s t r b e → MappingsCut s f marks r b e t g
  shape_mappings list = record {
    others = others;
    kept = λ i x l a q y w. ⊎_elim (λ (u : x < b). kept_before i x l a q y w u) (λ (u : e ≤ x). kept_after i x l a q y w u);
    gone = λ j x l a q w u v.
        let d = holds _ _ _ w in
        let d0 = d.0 in
        let d1 = d.1 in
        ⊎_elim
        (λ (z : (mapping_at t j).addr + (mapping_at t j).size ≤ b). omega arith)
        (λ (z : e ≤ (mapping_at t j).addr). omega arith)
        (outside_at j l a q).1;
    empty = λ j l a q. (outside_at j l a q).0;
    dropped = λ j l a. let m = origin c h j l a in subst (λ (x : ℕ). get_or marks x false ≡ false) (sym m.1.taken.part.region) m.1.stands;
    part = part;
    list = list;
  }

  pub shape_cut : MapList s t r b e → Cut s f marks r b e t g
  shape_cut list = record {
    passes = shape_passes c h;
    arrays = h.arrays;
    later = shape_later c h;
    regions = record { kept = stands c h; gone = gone c h; list = h.reglist; next = h.nextid; dead = dead c h };
    mappings = shape_mappings list;
  }

pub cut_all : CutAll
cut_all = record { holds = λ s f marks r b e c. shape_cut c (cut_shape c) (cut_list c) }
