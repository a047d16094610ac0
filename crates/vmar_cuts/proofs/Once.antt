-- Each mapping is cut once: mappings and children of a region do not overlap, and what goes with a child lies in it.
use Prim.Native.Nat.{ℕ, zero, suc, ◌-◌, ◌≤◌, ◌<◌}
use mathlib.Core.Path.{◌≡◌, refl, sym, ◌∙◌, subst}
use mathlib.Core.Bool.{true, false}
use mathlib.Core.List.{List}
use mathlib.Core.Logic.{inl, inr, ⊎_elim}
use native.Mathlib.Omega.{arith}
use Rattle.scan.proofs.Scans.{tell}
use Rattle.space.specs.Space.{region_at, mapping_at, region_place, mapping_place}
use Rattle.space.specs.Passes.{Passes}
use Rattle.space.specs.declared.Space.{Space}
use Rattle.space.proofs.Facts.{region_place_lem, mapping_in}
use Rattle.vmar_offset.specs.Offset.{mapping_meets}
use Rattle.vmar_doom.specs.Doomed.{is_child_in, Doomed}
use Rattle.table_cuts.specs.Cuts.{Cut, Among}
use Rattle.vmar_cuts.specs.Cuts.{END, part, part_at, parts, child_at, children}
use Rattle.vmar_cuts.specs.Laws.{OwnPart, WholeOf, Off, Distinct, none, next, Destroyed}
use Rattle.vmar_cuts.proofs.Parts.{meets, part_of_lem, part_none}
use Rattle.vmar_cuts.proofs.Members.{in_either, in_none, of_collect}
use Rattle.vmar_cuts.proofs.Apart.{Within, off_within, off_flip, distinct_append, distinct_collect, mappings_off, regions_off, both_off, doomed_in}
use Rattle.vmar_cuts.proofs.Below.{child_parent}
use Rattle.vmar_cuts.proofs.Whose.{part_at_lem, parts_from, all_from, widen, children_from}

module _ {s : Space} {flags : List ℕ} (p : Passes s flags) where
  -- a child within the range, and what goes with it
  child_at_lem : (d r b e k : ℕ) (c : Cut) → k < s.regcount → Among c (child_at s (λ i. children s d i 0 END) r b e k)
      → (is_child_in (region_at s (region_place s k)) r b e ≡ true) × WholeOf s (Destroyed s (region_place s k)) c
  unfolding child_at
  child_at_lem d r b e k c h m =
      ⊎_elim
      (λ (t : is_child_in (region_at s (region_place s k)) r b e ≡ true). (
        t,
        ⊎_elim
            (λ (n : Among c (children s d (region_place s k) 0 END)). widen p c (λ x u. inr u) (children_from p d (region_place s k) 0 END c n))
            (λ (n : Among c (parts s (region_place s k) 0 END)). widen p c (λ x u. inl u) (all_from p (region_place s k) c n))
            (in_either c (children s d (region_place s k) 0 END) (parts s (region_place s k) 0 END) (rw t at m)),
      ))
      (λ (t : is_child_in (region_at s (region_place s k)) r b e ≡ false). in_none c (rw t at m))
      (tell _)

  -- each lies in its mapping, and in the region that goes
  own_lies : (r b e : ℕ) (c : Cut) → b ≤ e → (o : OwnPart s r b e c) → Within c (mapping_at s o.slot).addr (mapping_at s o.slot).size
  unfolding part
  own_lies r b e c h o =
      let m = meets (mapping_at s o.slot) r b (e - b) o.meets in
      let f = m.from in
      let t = m.to in
      subst (λ (d : Cut). Within d (mapping_at s o.slot).addr (mapping_at s o.slot).size) (sym o.is) (omega arith, omega arith)

  whole_lies : (r : ℕ) (c : Cut) → r < 32 → WholeOf s (Destroyed s r) c → Within c (region_at s r).addr (region_at s r).size
  whole_lies r c l w =
      let i = mapping_in p w.slot (mapping_at s w.slot).region w.below w.live refl in
      subst (λ (d : Cut). Within d (region_at s r).addr (region_at s r).size) (sym w.is)
      (⊎_elim
      (λ (q : (mapping_at s w.slot).region ≡ r). mapping_in p w.slot r w.below w.live q)
      (λ (D : Doomed s r 0 END (mapping_at s w.slot).region). let o = doomed_in p l D in (omega (arith, i.0, o.0), omega (arith, i.1, o.1)))
      w.of)

  -- the parts of r's mappings share no address
  pub parts_once : (r b e : ℕ) → b ≤ e → Distinct (parts s r b e)
  parts_once r b e h = distinct_collect (part_at s r b e) s.mapcount each apart_parts s.mapcount 0 (omega arith)
    where
      each : (k : ℕ) → k < s.mapcount → Distinct (part_at s r b e k)
      each k l =
          ⊎_elim
          (λ (t : mapping_meets (mapping_at s (mapping_place s k)) r b (e - b) ≡ true). subst Distinct (sym (part_of_lem (mapping_at s (mapping_place s k)) r b e t)) (next (λ d m. in_none d m) none))
          (λ (t : mapping_meets (mapping_at s (mapping_place s k)) r b (e - b) ≡ false). subst Distinct (sym (part_none (mapping_at s (mapping_place s k)) r b e t)) none)
          (tell _)

      apart_parts : (j k : ℕ) → j < k → k < s.mapcount → (c d : Cut) → Among c (part_at s r b e j) → Among d (part_at s r b e k) → Off c.addr c.len d.addr d.len
      apart_parts j k l n c d mc md =
          let x = part_at_lem p r b e j c (omega arith) mc in
          let y = part_at_lem p r b e k d n md in
          let differ : (x.0.slot ≡ y.0.slot → ⊥) = λ q. p.mappings.once j k l n (sym x.1 ∙ q ∙ y.1) in
          off_within c d _ _ _ _ (own_lies r b e c h x.0) (own_lies r b e d h y.0)
          (mappings_off p x.0.slot y.0.slot differ x.0.below y.0.below x.0.live y.0.live (x.0.own ∙ sym y.0.own))

  -- nor do they with what is below
  pub own_off : (d r b e b' e' : ℕ) (c x : Cut) → b' ≤ e' → Among c (parts s r b' e') → Among x (children s d r b e) → Off c.addr c.len x.addr x.len
  unfolding children
  own_off zero r b e b' e' c x h m n = in_none x n
  own_off (suc d) r b e b' e' c x h m n =
      let o = parts_from p r b' e' c m in
      let j = of_collect x (child_at s (λ i. children s d i 0 END) r b e) s.regcount 0 n in
      let l = j.2 in
      let at = region_place_lem p j.0 (omega arith) in
      let t = child_at_lem d r b e j.0 x (omega arith) j.3 in
      off_flip x c
      (off_within x c _ _ _ _ (whole_lies (region_place s j.0) x at.0 t.1) (own_lies r b' e' c h o)
      (both_off p (region_place s j.0) o.slot at.0 o.below at.1 o.live (child_parent (region_at s (region_place s j.0)) r b e t.0 ∙ sym o.own)))

  child_once : (d r b e k : ℕ) → Distinct (children s d (region_place s k) 0 END) → Distinct (child_at s (λ i. children s d i 0 END) r b e k)
  unfolding child_at
  child_once d r b e k D =
      ⊎_elim
      (λ (t : is_child_in (region_at s (region_place s k)) r b e ≡ true).
      rw t (distinct_append (children s d (region_place s k) 0 END) (parts s (region_place s k) 0 END) D (parts_once (region_place s k) 0 END (omega arith))
      (λ c x m n. off_flip x c (own_off d (region_place s k) 0 END 0 END x c (omega arith) n m))))
      (λ (t : is_child_in (region_at s (region_place s k)) r b e ≡ false). rw t none)
      (tell _)

  pub children_once : (d r b e : ℕ) → Distinct (children s d r b e)
  unfolding children
  children_once zero r b e = none
  children_once (suc d) r b e = distinct_collect (child_at s (λ i. children s d i 0 END) r b e) s.regcount (each (children_once d)) apart_children s.regcount 0 (omega arith)
    where
      each : ((r b e : ℕ) → Distinct (children s d r b e)) → (k : ℕ) → k < s.regcount → Distinct (child_at s (λ i. children s d i 0 END) r b e k)
      each deeper k l = child_once d r b e k (deeper (region_place s k) 0 END)

      apart_children : (j k : ℕ) → j < k → k < s.regcount → (c x : Cut) → Among c (child_at s (λ i. children s d i 0 END) r b e j) → Among x (child_at s (λ i. children s d i 0 END) r b e k)
          → Off c.addr c.len x.addr x.len
      apart_children j k l n c x mc mx =
          let u = child_at_lem d r b e j c (omega arith) mc in
          let v = child_at_lem d r b e k x n mx in
          let a = region_place_lem p j (omega arith) in
          let z = region_place_lem p k n in
          off_within c x _ _ _ _ (whole_lies (region_place s j) c a.0 u.1) (whole_lies (region_place s k) x z.0 v.1)
          (regions_off p (region_place s j) (region_place s k) (λ q. p.regions.once j k l n q) a.0 z.0 a.1 z.1
          (child_parent (region_at s (region_place s j)) r b e u.0 ∙ sym (child_parent (region_at s (region_place s k)) r b e v.0)))
