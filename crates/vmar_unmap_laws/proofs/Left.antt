-- What every cut leaves, from the laws of its parts.
use Rattle.std.specs.Prelude.{Result, Ok, Err}
use Prim.Native.Nat.{ℕ, ◌+◌, ◌-◌, ◌*◌, ◌/◌, ◌≤◌, ◌<◌}
use mathlib.Core.Path.{◌≡◌, sym, ◌∙◌, ap, subst}
use mathlib.Core.Bool.{Bool, true, false, not}
use mathlib.Core.List.{List}
use mathlib.Core.Logic.{inl, inr, ⊎_elim}
use native.Mathlib.Omega.{arith}
use lib.ListN.{get_or}
use borrow.Author.Tests.{not-true}
use Rattle.paging.specs.Level.{Canonical}
use Rattle.paging.proofs.Cases.{clash, no_truth}
use Rattle.scan.proofs.Scans.{tell, before_first}
use Rattle.space.specs.Space.{region_at, mapping_at, is_region, region_place}
use Rattle.space.specs.Passes.{Passes, page_at}
use Rattle.space.specs.Range.{contains}
use Rattle.space.specs.declared.Region.{Region}
use Rattle.space.specs.declared.Mapping.{Mapping}
use Rattle.space.specs.declared.Space.{Space}
use Rattle.space.proofs.Facts.{region_place_lem}
use Rattle.space.proofs.Ranges.{holds_of}
use Rattle.table_cuts.specs.Cuts as table
use Rattle.table_cuts.specs.Laws.{AllCut}
use Rattle.vmar_offset.specs.Offset.{has_id, id_at, slot_of}
use Rattle.vmar_offset.proofs.Found.{has_id_lem, slot_live}
use Rattle.vmar_laws.specs.Later.{Later}
use Rattle.vmar_cuts.specs.Laws.{Lies}
use Rattle.vmar_cuts.proofs.Parts.{mapping_fits}
use Rattle.vmar_prune_laws.specs.Order.{InOrder}
use Rattle.vmar_prune_laws.specs.Cut.{Cut, SameAt}
use Rattle.refusal.specs.declared.Refusal.{Refusal}
use Rattle.vmar_unmap.specs.Unmap.{State, tables_of, free_frames}
use Rattle.vmar_unmap_laws.specs.Ready.{Frames, RegionsLeft, Same}
use Rattle.vmar_unmap_laws.proofs.One.{one_holds}

-- an address of a mapping is one of the table
pub address : {s : Space} {f : List ℕ} → Passes s f → (i v : ℕ) → Lies s i v → Canonical 4 v
address p i v L =
    let w = (mapping_fits p i L.0 L.1).range.1 in
    let a = L.2 in
    let b = L.3 in
    ⊎_elim (λ h. inl (omega arith)) (λ h. let h0 = h.0 in let h1 = h.1 in inr (omega arith, omega arith)) w

-- the frames that the cuts took
pub frames_of : (base : ℕ) (st t : State) (cs : List table.Cut) → AllCut st.pool base st.used cs (tables_of t) → 4 * table.non_empty cs ≤ free_frames st → Frames base st t cs
frames_of base st t cs c l = record {
  enough = l;
  carried = c.carried;
  least = c.least;
  most = c.most;
  there = c.good.sized.there;
  long = c.long;
}

pub done_refused : {A : Type 0} {why : Refusal} → ◌≡◌ {A = Result (Unit {0}) Refusal} (Ok tt) (Err why) → A
done_refused e = let z : ◌≡◌ {A = ℕ} 0 1 = cc in absurd (omega arith)

-- one that is as it was is found where it was
pub same_slot : (s t : Space) (id : ℕ) → Later s t → id < s.nextid → (slot_of s id ≡ 32 → ⊥) → region_at t (slot_of s id) ≡ region_at s (slot_of s id) → Same s t id
same_slot s t id later i n q =
    let h = slot_live s id n in
    ⊎_elim
    (λ (z : slot_of t id ≡ 32).
    let l = h.0 in
    clash (id_at t id (slot_of s id)) (subst (λ (g : Region). has_id g id ≡ true) (sym q) (has_id_lem (region_at s (slot_of s id)) id h.1 h.2))
    (before_first (id_at t id) 32 (slot_of s id) (omega arith)))
    (λ (z : Same s t id). z)
    (later.same id i h.0)

module _ {s : Space} {f : List ℕ} (p : Passes s f) {marks : List Bool} {r b e : ℕ} {t : Space} {g : List ℕ} (c : Cut s f marks r b e t g) where
  -- an address is held in the region that held it
  pub held : (i j x : ℕ) → Lies s i x → Lies t j x → (mapping_at t j).region ≡ (mapping_at s i).region
  held i j x L M =
      let o = c.mappings.part j M.0 M.1 in
      let k = o.1 in
      let a = k.part.addr in
      let n = k.part.end in
      let u = M.2 in
      let w = M.3 in
      let from : Lies s o.0 x = (k.slot, k.live, omega arith, omega arith) in
      k.part.region ∙ ap (λ (y : ℕ). (mapping_at s y).region) (one_holds p x o.0 i from L)

  -- a mapping of another region that stays
  pub other_at : (i x : ℕ) → Lies s i x → get_or marks (mapping_at s i).region false ≡ false → ((mapping_at s i).region ≡ r → ⊥) → SameAt s f i t g i x
  other_at i x L m n =
      let o = c.mappings.others i L.0 L.1 m n in
      let q = o.0 in
      let a = L.2 in
      let w = L.3 in
      let few = (p.paged i L.0 L.1).few in
      record {
        slot = L.0;
        live = ap (λ (k : Mapping). k.live) q ∙ L.1;
        holds = subst (λ (k : Mapping). contains k.addr k.size x ≡ true) (sym q) (holds_of _ _ _ a w);
        region = ap (λ (k : Mapping). k.region) q;
        vmo = ap (λ (k : Mapping). k.vmo) q;
        permissions = ap (λ (k : Mapping). k.permissions) q;
        offset = ap (λ (k : Mapping). k.offset + (x - k.addr)) q;
        flags = ap (λ (k : Mapping). page_at g i ((x - k.addr) / 4096)) q ∙ o.1 ((x - (mapping_at s i).addr) / 4096) (let z = (p.paged i L.0 L.1).size in omega arith);
      }

  -- the regions that stay and those that go, where the marks tell which go
  module _ (Goes : ℕ → Type 0) (marked : (i : ℕ) → Goes i → (i < 32) × (is_region s i ≡ true) × (get_or marks i false ≡ true))
      (told : (i : ℕ) → i < 32 → get_or marks i false ≡ true → Goes i) where
    stays : (i : ℕ) → i < 32 → (Goes i → ⊥) → get_or marks i false ≡ false
    stays i l n =
        ⊎_elim
        (λ (m : get_or marks i false ≡ true). absurd (n (told i l m)))
        (λ (m : get_or marks i false ≡ false). m)
        (tell (get_or marks i false))

    dead : (i : ℕ) → Goes i → (u : Space) → Later t u → slot_of u (region_at s i).id ≡ 32
    dead i h u later =
        let m = marked i h in
        let z = c.regions.next in
        let w = p.ids.issued i m.0 m.1 in
        later.gone (region_at s i).id (omega arith) (c.regions.dead i m.0 m.1 m.2)

    -- a listed region lives in t exactly when it has no mark
    lives : (i : ℕ) → i < 32 → is_region t i ≡ true → not (get_or marks i false) ≡ true
    lives i l a =
        ⊎_elim
        (λ (m : get_or marks i false ≡ true). no_truth (sym (ap (λ (k : Region). k.live) (c.regions.gone i l m)) ∙ a))
        (λ (m : get_or marks i false ≡ false). ap not m)
        (tell (get_or marks i false))

    list : InOrder (is_region t) s.reglist s.regcount t.reglist t.regcount
    list =
        let o = c.regions.list in
        record {
          to = o.to;
          stays = λ j l a. o.stays j l (lives (region_place s j) (region_place_lem p j l).0 a);
          order = λ j k l h a. o.order j k l h (lives (region_place s j) (region_place_lem p j (omega arith)).0 a);
          only = λ k l.
              let n = o.only k l in
              let at = region_place_lem p n.0 n.1 in (
                n.0,
                n.1,
                ap (λ (x : Region). x.live) (c.regions.kept (region_place s n.0) at.0 (not-true _ n.2)) ∙ at.1,
                n.3,
              );
        }

    pub regions_left : RegionsLeft s t Goes
    regions_left = record {
      kept = λ i l n. c.regions.kept i l (stays i l n);
      blank = λ i h. let m = marked i h in c.regions.gone i m.0 m.2;
      dead = dead;
      list = list;
    }
