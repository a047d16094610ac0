-- The cut space has the new mapping's slot free, and nothing of the region in the range; what stays through the cut stays when the mapping is added.
use Prim.Native.Nat.{ℕ, ◌+◌, ◌-◌, ◌/◌, ◌%◌, ◌≤◌, ◌<◌}
use mathlib.Core.Path.{◌≡◌, refl, sym, ◌∙◌, ap, subst}
use mathlib.Core.Bool.{Bool, true, false}
use mathlib.Core.List.{List}
use mathlib.Core.Logic.{◌⊎◌, inl, inr, ⊎_elim}
use native.Mathlib.Omega.{arith}
use lib.ListN.{get_or}
use Rattle.paging.proofs.Cases.{below?, clash, no_truth, decided_false}
use Rattle.scan.specs.Scan.{some}
use Rattle.scan.proofs.Scans.{tell, none_passes}
use Rattle.space.specs.Range.{overlap, inside, contains}
use Rattle.space.specs.Space.{region_at, mapping_at, is_region, is_mapping, mapping_place}
use Rattle.space.specs.Passes.{Passes, page_at}
use Rattle.space.specs.Arrays.{Arrays}
use Rattle.space.specs.declared.Region.{Region}
use Rattle.space.specs.declared.Mapping.{Mapping}
use Rattle.space.specs.declared.Space.{Space}
use Rattle.space.proofs.Ranges.{apart_of, inner_of, holds, holds_of}
use Rattle.vmar_offset.specs.Offset.{free_mapping, child_meets}
use Rattle.vmar_doom.specs.Doomed.{is_child_in, Doomed, marked}
use Rattle.vmar_doom.specs.Doomed as doomed
use Rattle.vmar_cuts.proofs.Below.{child_of}
use Rattle.vmar_laws.specs.Search.{FreeIn}
use Rattle.vmar_laws.proofs.Search.{apart_child}
use Rattle.vmar_laws.specs.Maps.{MappingsKept, PagesGiven}
use Rattle.vmar_prune.specs.Prune.{split_slot}
use Rattle.vmar_prune_laws.specs.Calls.{Marking}
use Rattle.vmar_prune_laws.specs.Cut.{SameAt, Cut}
use Rattle.vmar_prune_laws.specs.Part.{Taken}
use Rattle.vmar_prune_laws.proofs.Passing.{apart_any}
use Rattle.vmar_prune_laws.proofs.Cuts.{cut_all}
use Rattle.vmar_prune_laws.proofs.Calls.{calls_all}
use Rattle.vmar_unmap.specs.Unmap.{is_partly, partly_at}
use Rattle.vmar_unmap_laws.proofs.Tests.{partly_from}
use Rattle.vmar_overwrite.specs.Overwrite.{new_slot}
use Rattle.vmar_overwrite.proofs.Room.{two_free, slot_second, split_room}
use Rattle.vmar_overwrite_laws.specs.Overwrites.{NewMapping, cut_of, flags_of}
use Rattle.vmar_overwrite_laws.proofs.Slots.{slot_is}

-- a child that the range does not meet, one that it meets in part, one within it
module _ (s : Space) (f : List ℕ) (arrays : Arrays s) (p : Passes s f) (r b len : ℕ) (low : r < 32) (live : is_region s r ≡ true) (begin : b % 4096 ≡ 0) (whole : len % 4096 ≡ 0)
    (positive : 0 < len) (none : some (partly_at s r b (b + len)) 0 32 ≡ false) (room : new_slot s r b (b + len) < 64) (from : (region_at s r).addr ≤ b)
    (to : b + len ≤ (region_at s r).addr + (region_at s r).size) where
  abbrev e : ℕ
  e = b + len

  abbrev marks : List Bool
  marks = marked s r b e

  abbrev c : Space
  c = cut_of s r b e

  abbrev h : List ℕ
  h = flags_of s f r b e

  abbrev slot : ℕ
  slot = new_slot s r b e

  marking : Marking s f marks r b e
  marking = calls_all.marks s f r b e arrays p low live

  pub made : Cut s f marks r b e c h
  made = cut_all.holds s f marks r b e (calls_all.range s f marks r b e marking (omega arith) begin (omega arith) (split_room s r b e room))

  -- the slot was free before the call
  spare_before : is_mapping s slot ≡ false
  spare_before = (slot_is s r b e (omega arith) room).free

  -- and it is not that of a split's second part
  not_second : (i : ℕ) → i < 64 → slot ≡ free_mapping s → i ≡ split_slot s r b e → ⊥
  not_second i l q z =
      ⊎_elim
      (λ (m : split_slot s r b e < 64).
      let w = slot_second s r b e (split_slot s r b e) refl m in
      let t = (two_free s (omega arith)).low in
      absurd (omega arith))
      (λ (m : 64 ≤ split_slot s r b e). absurd (omega arith))
      (below? (split_slot s r b e) 64)

  pub spare : is_mapping c slot ≡ false
  spare = ⊎_elim (λ (t : is_mapping c slot ≡ true). let q = made.mappings.part slot room t in no_part q.0 q.1 q.2) (λ (t : is_mapping c slot ≡ false). t) (tell (is_mapping c slot))
    where
      no_part : (i : ℕ) → Taken s f i c h slot → (slot ≡ i) ⊎ ((slot ≡ free_mapping s) × (i ≡ split_slot s r b e)) → is_mapping c slot ≡ false
      no_part i t (inl q) = clash (is_mapping s slot) (subst (λ (x : ℕ). is_mapping s x ≡ true) (sym q) t.live) spare_before
      no_part i t (inr q) = absurd (not_second i t.slot q.0 q.1)

  same_region : region_at c r ≡ region_at s r
  same_region = made.regions.kept r low (calls_all.stays s f marks r b e marking)

  length_is : e - b ≡ len
  length_is = omega arith

  -- a child that stays does not meet the range
  child_off : (j : ℕ) → j < 32 → is_region s j ≡ true → (region_at s j).parent ≡ r → get_or marks j false ≡ false → overlap (region_at s j).addr (region_at s j).size b len ≡ false
  child_off j l a q m =
      let g = region_at s j in
      let apart = none_passes (partly_at s r b e) 0 32 j none (omega arith) l in
      ⊎_elim
      (λ (t : child_meets g r b (e - b) ≡ true). ⊎_elim
      (λ (i : inside g.addr g.size b (e - b) ≡ true).
      absurd (decided_false (Doomed s r b e j) (get_or marks j false) (marking.doomed j l) m (doomed.child j l a (child_of g r b e q i))))
      (λ (i : inside g.addr g.size b (e - b) ≡ false). clash (is_partly g r b e) (partly_from g r b e t i) apart)
      (tell (inside g.addr g.size b (e - b))))
      (λ (t : child_meets g r b (e - b) ≡ false). subst (λ (n : ℕ). overlap g.addr g.size b n ≡ false) length_is (apart_child g r b (e - b) t a q))
      (tell (child_meets g r b (e - b)))

  child_clear : (j : ℕ) → j < 32 → is_region c j ≡ true → (region_at c j).parent ≡ r → overlap (region_at c j).addr (region_at c j).size b len ≡ false
  child_clear j l a q =
      ⊎_elim
      (λ (m : get_or marks j false ≡ true). no_truth (sym (ap (λ (g : Region). g.live) (made.regions.gone j l m)) ∙ a))
      (λ (m : get_or marks j false ≡ false).
      let k = made.regions.kept j l m in
      subst (λ (g : Region). overlap g.addr g.size b len ≡ false) (sym k)
      (child_off j l (sym (ap (λ (g : Region). g.live) k) ∙ a) (sym (ap (λ (g : Region). g.parent) k) ∙ q) m))
      (tell (get_or marks j false))

  -- nor does a mapping
  mapping_clear : (j : ℕ) → j < 64 → is_mapping c j ≡ true → (mapping_at c j).region ≡ r → overlap (mapping_at c j).addr (mapping_at c j).size b len ≡ false
  mapping_clear j l a q =
      let x = (mapping_at c j).addr in
      let n = (mapping_at c j).size in
      let big : 0 < n = made.mappings.empty j l a q in
      ⊎_elim
      (λ (u : x < b + len). ⊎_elim
      (λ (w : b < x + n). ⊎_elim
      (λ (y : x < b). absurd (made.mappings.gone j b l a q (holds_of x n b (omega arith) w) (omega arith) (omega arith)))
      (λ (y : b ≤ x). absurd (made.mappings.gone j x l a q (holds_of x n x (omega arith) (omega arith)) y u))
      (below? x b))
      (λ (w : x + n ≤ b). apart_of x n b len (inr w))
      (below? b (x + n)))
      (λ (u : b + len ≤ x). apart_of x n b len (inl u))
      (below? x (b + len))

  pub cleared : FreeIn c r b len
  cleared = record {
    slot = low;
    live = ap (λ (g : Region). g.live) same_region ∙ live;
    inner = subst (λ (g : Region). inside b len g.addr g.size ≡ true) (sym same_region) (inner_of _ _ _ _ from to);
    children = child_clear;
    mappings = mapping_clear;
  }

-- what a mapping held, it holds
pub same_self : (s : Space) (f : List ℕ) (i x : ℕ) → i < 64 → is_mapping s i ≡ true → contains (mapping_at s i).addr (mapping_at s i).size x ≡ true → SameAt s f i s f i x
same_self s f i x l a t = record { slot = l; live = a; holds = t; region = refl; vmo = refl; permissions = refl; offset = refl; flags = refl }

-- one more mapping changes nothing of it
pub same_after : (s : Space) (f : List ℕ) (i : ℕ) (c t : Space) (h g : List ℕ) (slot n fl j x : ℕ) → Passes c h → is_mapping c slot ≡ false → MappingsKept c t slot
    → PagesGiven h g slot n fl → SameAt s f i c h j x → SameAt s f i t g j x
same_after s f i c t h g slot n fl j x p free kept given w =
    let d : (j ≡ slot → ⊥) = λ q. clash (is_mapping c j) w.live (subst (λ (y : ℕ). is_mapping c y ≡ false) (sym q) free) in
    let e : mapping_at t j ≡ mapping_at c j = kept.mappings j d in
    let z = holds (mapping_at c j).addr (mapping_at c j).size x w.holds in
    let z0 = z.0 in
    let z1 = z.1 in
    let few = (p.paged j w.slot w.live).few in
    let pages = (p.paged j w.slot w.live).size in
    record {
      slot = w.slot;
      live = ap (λ (m : Mapping). m.live) e ∙ w.live;
      holds = subst (λ (m : Mapping). contains m.addr m.size x ≡ true) (sym e) w.holds;
      region = ap (λ (m : Mapping). m.region) e ∙ w.region;
      vmo = ap (λ (m : Mapping). m.vmo) e ∙ w.vmo;
      permissions = ap (λ (m : Mapping). m.permissions) e ∙ w.permissions;
      offset = subst (λ (m : Mapping). m.offset + (x - m.addr) ≡ (mapping_at s i).offset + (x - (mapping_at s i).addr)) (sym e) w.offset;
      flags = subst (λ (m : Mapping). page_at g j ((x - m.addr) / 4096) ≡ page_at f i ((x - (mapping_at s i).addr) / 4096)) (sym e)
          (given.kept j ((x - (mapping_at c j).addr) / 4096) d (omega arith) ∙ w.flags);
    }

-- a mapping in slot i of a space that passes its check
pub new_mapping : (t : Space) (g : List ℕ) → Passes t g → (r i addr v at len pm fl : ℕ) → i < 64 → is_mapping t i ≡ true → (mapping_at t i).region ≡ r → (mapping_at t i).addr ≡ addr
    → (mapping_at t i).size ≡ len → (mapping_at t i).vmo ≡ v → (mapping_at t i).offset ≡ at → (mapping_at t i).permissions ≡ pm → ((j : ℕ) → j < len / 4096 → page_at g i j ≡ fl)
    → (k : ℕ) × (t.mapcount ≡ k + 1) × (mapping_place t k ≡ i) → NewMapping t g r i addr v at len pm fl
new_mapping t g p r i addr v at len pm fl l a e1 e2 e3 e4 e5 e6 pages last = record {
  slot = l;
  live = a;
  region = e1;
  address = e2;
  size = e3;
  vmo = e4;
  offset = e5;
  permissions = e6;
  pages = pages;
  children = λ j h d q.
      subst (λ (x : ℕ). overlap (region_at t j).addr (region_at t j).size x len ≡ false) e2
      (subst (λ (x : ℕ). overlap (region_at t j).addr (region_at t j).size (mapping_at t i).addr x ≡ false) e3 (p.apart.both j i h l d a (q ∙ sym e1)));
  mappings = λ j h d q n.
      subst (λ (x : ℕ). overlap (mapping_at t j).addr (mapping_at t j).size x len ≡ false) e2
      (subst (λ (x : ℕ). overlap (mapping_at t j).addr (mapping_at t j).size (mapping_at t i).addr x ≡ false) e3 (apart_any p j i n h l d a (q ∙ sym e1)));
  last = last;
}
