-- Whose ranges are cut, both ways: parts of the region's own mappings, and all mappings of the regions that go.
use Prim.Native.Nat.{ℕ, zero, suc, ◌+◌, ◌-◌, ◌<◌, min, max}
use mathlib.Core.Path.{◌≡◌, refl, sym, ◌∙◌, ap, subst}
use mathlib.Core.Bool.{true, false}
use mathlib.Core.List.{List, ◌++◌}
use mathlib.Core.Logic.{⊎_elim}
use native.Mathlib.Omega.{arith}
use Rattle.scan.proofs.Scans.{tell}
use Rattle.space.specs.Space.{region_at, mapping_at, is_mapping, region_place, mapping_place}
use Rattle.space.specs.Passes.{Passes}
use Rattle.space.specs.declared.Mapping.{Mapping}
use Rattle.space.specs.declared.Space.{Space}
use Rattle.space.proofs.Facts.{region_place_lem, mapping_place_lem}
use Rattle.vmar_offset.specs.Offset.{mapping_meets}
use Rattle.vmar_doom.specs.Doomed.{is_child_in, Doomed, child}
use Rattle.table_cuts.specs.Cuts.{Cut, Fits, Among}
use Rattle.vmar_cuts.specs.Cuts.{END, whole, part, part_of, part_at, parts, child_at, children}
use Rattle.vmar_cuts.specs.Laws.{OwnPart, WholeOf}
use Rattle.vmar_cuts.proofs.Parts.{meets, meets_of, mapping_fits, fits_end, part_of_lem, part_none}
use Rattle.vmar_cuts.proofs.Members.{in_left, in_right, in_either, in_none, in_one, one_in, in_collect, of_collect}
use Rattle.vmar_cuts.proofs.Below.{child_parent, with, top, Reaches, reaches_below}

-- of a mapping that fits, the part in [0, END) is the whole
whole_part : (m : Mapping) → Fits (whole m) → part m 0 END ≡ whole m
unfolding part
whole_part m F =
    let l = fits_end m F in
    let x = F.page in
    let y = F.pages in
    let a : max m.addr 0 ≡ m.addr = omega arith in
    let n : min (m.addr + m.size) END - m.addr ≡ m.size = omega arith in
    rw (a, n)

-- one that is not empty meets it
whole_meets : (m : Mapping) (r : ℕ) → Fits (whole m) → m.live ≡ true → m.region ≡ r → 0 < m.size → mapping_meets m r 0 (END - 0) ≡ true
whole_meets m r F a q h =
    let l = fits_end m F in
    let x = F.page in
    let y = F.pages in
    meets_of m r 0 (END - 0) (record { live = a; own = q; from = omega arith; to = omega arith })

module _ {s : Space} {flags : List ℕ} (p : Passes s flags) where
  -- the part at a place, and the parts of r's mappings
  pub part_at_lem : (r b e k : ℕ) (c : Cut) → k < s.mapcount → Among c (part_at s r b e k) → (o : OwnPart s r b e c) × (o.slot ≡ mapping_place s k)
  part_at_lem r b e k c h m =
      let at = mapping_place_lem p k h in
      ⊎_elim
      (λ (t : mapping_meets (mapping_at s (mapping_place s k)) r b (e - b) ≡ true). (
        record {
          slot = mapping_place s k;
          below = at.0;
          live = at.1;
          own = (meets (mapping_at s (mapping_place s k)) r b (e - b) t).own;
          meets = t;
          is = in_one c _ (subst (Among c) (part_of_lem (mapping_at s (mapping_place s k)) r b e t) m);
        },
        refl,
      ))
      (λ (t : mapping_meets (mapping_at s (mapping_place s k)) r b (e - b) ≡ false). in_none c (subst (Among c) (part_none (mapping_at s (mapping_place s k)) r b e t) m))
      (tell _)

  pub parts_from : (r b e : ℕ) (c : Cut) → Among c (parts s r b e) → OwnPart s r b e c
  parts_from r b e c m =
      let j = of_collect c (part_at s r b e) s.mapcount 0 m in
      let h = j.2 in
      (part_at_lem r b e j.0 c (omega arith) j.3).0

  pub parts_to : (r b e i : ℕ) → i < 64 → is_mapping s i ≡ true → mapping_meets (mapping_at s i) r b (e - b) ≡ true → Among (part (mapping_at s i) b e) (parts s r b e)
  parts_to r b e i l a t =
      let k = p.mappings.whole i l a in
      in_collect (part (mapping_at s i) b e) (part_at s r b e) s.mapcount 0 k.0 (omega arith) (omega (arith, k.1))
      (subst (λ (x : ℕ). Among (part (mapping_at s i) b e) (part_of (mapping_at s x) r b e)) (sym k.2)
      (subst (Among (part (mapping_at s i) b e)) (sym (part_of_lem (mapping_at s i) r b e t)) (one_in (part (mapping_at s i) b e))))

  -- all of r's mappings
  pub all_from : (r : ℕ) (c : Cut) → Among c (parts s r 0 END) → WholeOf s (λ x. x ≡ r) c
  all_from r c m =
      let o = parts_from r 0 END c m in
      record { slot = o.slot; below = o.below; live = o.live; of = o.own; is = o.is ∙ whole_part (mapping_at s o.slot) (mapping_fits p o.slot o.below o.live) }

  pub all_to : (r i : ℕ) → i < 64 → is_mapping s i ≡ true → 0 < (mapping_at s i).size → (mapping_at s i).region ≡ r → Among (whole (mapping_at s i)) (parts s r 0 END)
  all_to r i l a h q =
      let F = mapping_fits p i l a in
      subst (λ (c : Cut). Among c (parts s r 0 END)) (whole_part (mapping_at s i) F) (parts_to r 0 END i l a (whole_meets (mapping_at s i) r F a q h))

  -- the mappings below: whose region goes
  pub widen : {A B : ℕ → Type 0} (c : Cut) → ((x : ℕ) → A x → B x) → WholeOf s A c → WholeOf s B c
  widen c f w = record { slot = w.slot; below = w.below; live = w.live; of = f _ w.of; is = w.is }

  pub children_from : (d r b e : ℕ) (c : Cut) → Among c (children s d r b e) → WholeOf s (Doomed s r b e) c
  unfolding children child_at
  children_from zero r b e c m = in_none c m
  children_from (suc d) r b e c m =
      let j = of_collect c (child_at s (λ i. children s d i 0 END) r b e) s.regcount 0 m in
      let h = j.2 in
      let at = region_place_lem p j.0 (omega arith) in
      ⊎_elim
      (λ (t : is_child_in (region_at s (region_place s j.0)) r b e ≡ true).
      let g = child (region_place s j.0) at.0 at.1 t in
      ⊎_elim
      (λ (n : Among c (children s d (region_place s j.0) 0 END)). widen c (λ x u. with g u) (children_from d (region_place s j.0) 0 END c n))
      (λ (n : Among c (parts s (region_place s j.0) 0 END)). widen c (λ x q. subst (Doomed s r b e) (sym q) g) (all_from (region_place s j.0) c n))
      (in_either c (children s d (region_place s j.0) 0 END) (parts s (region_place s j.0) 0 END) (rw t at j.3)))
      (λ (t : is_child_in (region_at s (region_place s j.0)) r b e ≡ false). in_none c (rw t at j.3))
      (tell _)

  module _ (i : ℕ) (l : i < 64) (a : is_mapping s i ≡ true) (h : 0 < (mapping_at s i).size) where
    abbrev W : Cut
    W = whole (mapping_at s i)

    pub children_to : (d r b e : ℕ) → Reaches p d r → Doomed s r b e (mapping_at s i).region → Among W (children s d r b e)
    unfolding children child_at
    children_to zero r b e R D =
        let t = top p D in
        let k = p.regions.whole t.slot t.in_slots t.live in
        let q = child_parent (region_at s t.slot) r b e t.is_child in
        let u = R k.0 k.1 (ap (λ (x : ℕ). (region_at s x).parent) k.2 ∙ q) in
        let v = k.1 in
        absurd (omega arith)
    children_to (suc d) r b e R D =
        let t = top p D in
        let k = p.regions.whole t.slot t.in_slots t.live in
        let q = child_parent (region_at s t.slot) r b e t.is_child in
        let R' = reaches_below p d r k.0 R k.1 (ap (λ (x : ℕ). (region_at s x).parent) k.2 ∙ q) in
        let deeper : Among W (children s d t.slot 0 END ++ parts s t.slot 0 END) = ⊎_elim
        (λ (z : (mapping_at s i).region ≡ t.slot). in_right W (children s d t.slot 0 END) (parts s t.slot 0 END) (all_to t.slot i l a h z))
        (λ (z : Doomed s t.slot 0 END (mapping_at s i).region).
        in_left W (children s d t.slot 0 END) (parts s t.slot 0 END) (children_to d t.slot 0 END (subst (Reaches p d) k.2 R') z))
        t.is_below in
        let here : Among W (child_at s (λ x. children s d x 0 END) r b e k.0) = rw (k.2, t.is_child) deeper in
        in_collect W (child_at s (λ x. children s d x 0 END) r b e) s.regcount 0 k.0 (omega arith) (omega (arith, k.1)) here
