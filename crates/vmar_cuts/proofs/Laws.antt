-- The laws of a region call's cuts, and what they leave of the table.
use Rattle.std.specs.Prelude.{Err}
use Prim.Native.Nat.{ℕ, ◌+◌, ◌-◌, ◌*◌, ◌/◌, ◌≤◌, ◌<◌, min, max}
use mathlib.Core.Path.{◌≡◌, refl, sym, ap, subst}
use mathlib.Core.List.{List}
use mathlib.Core.Logic.{◌⊎◌, inl, inr, ⊎_elim}
use native.Mathlib.Omega.{arith}
use Rattle.paging.proofs.Cases.{below?}
use Rattle.form.specs.Form.{Good}
use Rattle.refusal.specs.declared.Refusal.TheVariants.{NotMapped}
use Rattle.table.specs.Table.{queried}
use Rattle.table_split.specs.Split.{Tables}
use Rattle.table_unmap_cont.specs.Demand.{free}
use Rattle.space.specs.Space.{mapping_at}
use Rattle.space.specs.Passes.{Passes}
use Rattle.space.specs.declared.Mapping.{Mapping}
use Rattle.space.specs.declared.Space.{Space}
use Rattle.vmar_doom.specs.Doomed.{Doomed, child}
use Rattle.table_cuts.specs.Cuts.{Cut, Fits, Among, cut_all, non_empty}
use Rattle.table_cuts.specs.Laws.{AllCut}
use Rattle.table_cuts.proofs.All.{cuts}
use Rattle.vmar_cuts.specs.Cuts.{END, whole, part, parts, children, unmap_cuts, destroy_cuts, PageRange}
use Rattle.vmar_cuts.specs.Laws.{OwnPart, WholeOf, Destroyed, UnmapCuts, DestroyCuts, Lies, UnmapLeaves, DestroyLeaves, RegionCutsHold}
use Rattle.vmar_cuts.proofs.Parts.{meets_of, part_fits, mapping_fits}
use Rattle.vmar_cuts.proofs.Members.{in_left, in_right, in_either}
use Rattle.vmar_cuts.proofs.Apart.{off_flip, distinct_append}
use Rattle.vmar_cuts.proofs.Below.{any_child, reaches_all}
use Rattle.vmar_cuts.proofs.Whose.{parts_from, parts_to, all_from, all_to, widen, children_from, children_to}
use Rattle.vmar_cuts.proofs.Once.{parts_once, own_off, children_once}

module _ {s : Space} {flags : List ℕ} (p : Passes s flags) where
  -- unmap and overwrite
  module _ (r b e : ℕ) where
    unmap_from : (c : Cut) → Among c (unmap_cuts s r b e) → OwnPart s r b e c ⊎ WholeOf s (Doomed s r b e) c
    unmap_from c m = ⊎_elim
        (λ (n : Among c (parts s r b e)). inl (parts_from p r b e c n))
        (λ (n : Among c (children s 32 r b e)). inr (children_from p 32 r b e c n))
        (in_either c (parts s r b e) (children s 32 r b e) m)

    whole_fits : {A : ℕ → Type 0} (c : Cut) → WholeOf s A c → Fits c
    whole_fits c w = subst Fits (sym w.is) (mapping_fits p w.slot w.below w.live)

    unmap : PageRange b e → UnmapCuts s r b e
    unmap R = record {
      fits = λ c m. ⊎_elim
          (λ (o : OwnPart s r b e c). subst Fits (sym o.is) (part_fits (mapping_at s o.slot) r b e (mapping_fits p o.slot o.below o.live) R o.meets))
          (λ (w : WholeOf s (Doomed s r b e) c). whole_fits c w)
          (unmap_from c m);
      from = unmap_from;
      own = λ i l a t. in_left _ (parts s r b e) (children s 32 r b e) (parts_to p r b e i l a t);
      doomed = λ i l a h D. in_right _ (parts s r b e) (children s 32 r b e) (children_to p i l a h 32 r b e (reaches_all p r) D);
      once = distinct_append (parts s r b e) (children s 32 r b e) (parts_once p r b e R.order) (children_once p 32 r b e) (λ c x m n. own_off p 32 r b e b e c x R.order m n);
    }

  -- destroy and clear
  module _ (r : ℕ) where
    destroy_from : (c : Cut) → Among c (destroy_cuts s r) → WholeOf s (Destroyed s r) c
    destroy_from c m = ⊎_elim
        (λ (n : Among c (children s 32 r 0 END)). widen p c (λ x u. inr u) (children_from p 32 r 0 END c n))
        (λ (n : Among c (parts s r 0 END)). widen p c (λ x u. inl u) (all_from p r c n))
        (in_either c (children s 32 r 0 END) (parts s r 0 END) m)

    destroy : DestroyCuts s r
    destroy = record {
      fits = λ c m. whole_fits r 0 0 c (destroy_from c m);
      from = destroy_from;
      to = λ i l a h D. ⊎_elim
          (λ (q : (mapping_at s i).region ≡ r). in_right _ (children s 32 r 0 END) (parts s r 0 END) (all_to p r i l a h q))
          (λ (q : Doomed s r 0 END (mapping_at s i).region). in_left _ (children s 32 r 0 END) (parts s r 0 END) (children_to p i l a h 32 r 0 END (reaches_all p r) q))
          D;
      once = distinct_append (children s 32 r 0 END) (parts s r 0 END) (children_once p 32 r 0 END) (parts_once p r 0 END (omega arith))
          (λ c x m n. off_flip x c (own_off p 32 r 0 END 0 END x c (omega arith) n m));
      all = λ i l a q. child i l a (any_child p r i l a q);
    }

  -- an address that lies in no such mapping lies in none of the cuts that drop them
  off_whole : (v : ℕ) (A : ℕ → Type 0) → ((i : ℕ) → Lies s i v → A (mapping_at s i).region → ⊥) → (c : Cut) → WholeOf s A c → (v < c.addr) ⊎ (c.addr + c.len ≤ v)
  off_whole v A off c w =
      subst (λ (d : Cut). (v < d.addr) ⊎ (d.addr + d.len ≤ v)) (sym w.is)
      (⊎_elim
      (λ (l : v < (mapping_at s w.slot).addr). inl l)
      (λ (l : (mapping_at s w.slot).addr ≤ v). ⊎_elim
      (λ (h : v < (mapping_at s w.slot).addr + (mapping_at s w.slot).size). absurd (off w.slot (w.below, w.live, l, h) w.of))
      (λ (h : (mapping_at s w.slot).addr + (mapping_at s w.slot).size ≤ v). inr h)
      (below? v ((mapping_at s w.slot).addr + (mapping_at s w.slot).size)))
      (below? v (mapping_at s w.slot).addr))

  -- what is left of the table
  module _ (q : List ℕ) (base used : ℕ) (G : Good q base used) where
    module _ (r b e : ℕ) (R : PageRange b e) (room : 4 * non_empty (unmap_cuts s r b e) ≤ free q used) where
      abbrev t : Tables
      t = cut_all (base / 4096) (unmap_cuts s r b e) (record { pool = q; used = used })

      C : AllCut q base used (unmap_cuts s r b e) t
      C = cuts.holds q base used (unmap_cuts s r b e) G (unmap r b e R).fits room

      cut_page : (i v : ℕ) → Lies s i v → (mapping_at s i).region ≡ r → b ≤ v → v < e → queried t.pool (base / 4096) v ≡ Err NotMapped
      unfolding part
      cut_page i v L z l h =
          let x = L.2 in
          let y = L.3 in
          let m = meets_of (mapping_at s i) r b (e - b) (record { live = L.1; own = z; from = omega arith; to = omega arith }) in
          C.inside v (part (mapping_at s i) b e) ((unmap r b e R).own i L.0 L.1 m) (omega arith) (omega arith)

      dropped_page : (i v : ℕ) → Lies s i v → Doomed s r b e (mapping_at s i).region → queried t.pool (base / 4096) v ≡ Err NotMapped
      dropped_page i v L D =
          let x = L.2 in
          let y = L.3 in
          C.inside v (whole (mapping_at s i)) ((unmap r b e R).doomed i L.0 L.1 (omega arith) D) x y

      module _ (v : ℕ) (no_own : (i : ℕ) → Lies s i v → (mapping_at s i).region ≡ r → b ≤ v → v < e → ⊥)
          (no-doomed : (i : ℕ) → Lies s i v → Doomed s r b e (mapping_at s i).region → ⊥) where
        -- a part holds only what its mapping and the range hold
        off_part : (c : Cut) → OwnPart s r b e c → (v < c.addr) ⊎ (c.addr + c.len ≤ v)
        unfolding part
        off_part c o = subst (λ (d : Cut). (v < d.addr) ⊎ (d.addr + d.len ≤ v)) (sym o.is) (go (mapping_at s o.slot) refl)
          where
            go : (m : Mapping) → mapping_at s o.slot ≡ m → (v < max m.addr b) ⊎ (max m.addr b + (min (m.addr + m.size) e - max m.addr b) ≤ v)
            go m q = ⊎_elim
                (λ (l : v < max m.addr b). inl l)
                (λ (l : max m.addr b ≤ v). ⊎_elim
                (λ (h : v < min (m.addr + m.size) e).
                let from : (mapping_at s o.slot).addr ≤ v = omega (arith, ap (λ (x : Mapping). x.addr) q) in
                let to : v < (mapping_at s o.slot).addr + (mapping_at s o.slot).size = omega (arith, ap (λ (x : Mapping). x.addr) q, ap (λ (x : Mapping). x.size) q) in
                absurd (no_own o.slot (o.below, o.live, from, to) o.own (omega arith) (omega arith)))
                (λ (h : min (m.addr + m.size) e ≤ v). inr (omega arith))
                (below? v (min (m.addr + m.size) e)))
                (below? v (max m.addr b))

        off_all : (c : Cut) → Among c (unmap_cuts s r b e) → (v < c.addr) ⊎ (c.addr + c.len ≤ v)
        off_all c n = ⊎_elim (λ (o : OwnPart s r b e c). off_part c o) (λ (w : WholeOf s (Doomed s r b e) c). off_whole v (Doomed s r b e) no-doomed c w) (unmap_from r b e c n)

      unmap_leaves : UnmapLeaves s r b e q base used t
      unmap_leaves = record { all = C; cut = cut_page; dropped = dropped_page; kept = λ v k no_own no-doomed. C.outside v k (off_all v no_own no-doomed) }

    module _ (r : ℕ) (room : 4 * non_empty (destroy_cuts s r) ≤ free q used) where
      abbrev u : Tables
      u = cut_all (base / 4096) (destroy_cuts s r) (record { pool = q; used = used })

      E : AllCut q base used (destroy_cuts s r) u
      E = cuts.holds q base used (destroy_cuts s r) G (destroy r).fits room

      destroy_leaves : DestroyLeaves s r q base used u
      destroy_leaves = record {
        all = E;
        dropped = λ i v L D.
            let x = L.2 in
            let y = L.3 in
            E.inside v (whole (mapping_at s i)) ((destroy r).to i L.0 L.1 (omega arith) D) x y;
        kept = λ v k off. E.outside v k (λ c n. off_whole v (Destroyed s r) off c (destroy_from r c n));
      }

pub region_cuts : RegionCutsHold
region_cuts = record {
  unmap = λ s flags r b e p R. unmap p r b e R;
  destroy = λ s flags r p. destroy p r;
  unmap_leaves = λ s flags r b e q base used p R G room. unmap_leaves p q base used G r b e R room;
  destroy_leaves = λ s flags r q base used p G room. destroy_leaves p q base used G r room;
}
