-- What an overwrite does: refused, as the other half, or after a cut.
use Rattle.std.specs.Prelude.{Result, Ok, Err, Option, Some}
use Prim.Native.Nat.{ℕ, ◌+◌, ◌-◌, ◌*◌, ◌/◌, ◌≤◌, ◌<◌}
use mathlib.Core.Path.{◌≡◌, refl, sym, ◌∙◌, ap, subst}
use mathlib.Core.Bool.{Bool, true, false}
use mathlib.Core.List.{List}
use mathlib.Core.Logic.{⊎_elim}
use native.Mathlib.Omega.{arith}
use lib.ListN.{get_or}
use Rattle.paging.proofs.Cases.{same?, clash, decided_true}
use Rattle.scan.proofs.Scans.{tell}
use Rattle.form.specs.Form.{Good}
use Rattle.refusal.specs.declared.Refusal.{Refusal}
use Rattle.space.specs.Range.{contains}
use Rattle.space.specs.Space.{region_at, mapping_at, is_region, is_mapping, with_mapping, blank_mapping}
use Rattle.space.specs.Passes.{Passes, page_at}
use Rattle.space.specs.Arrays.{Arrays}
use Rattle.space.specs.declared.Mapping.{Mapping}
use Rattle.space.specs.declared.Space.{Space}
use Rattle.space.proofs.Facts.{mapping_room, region_end}
use Rattle.space.proofs.Ranges.{holds}
use Rattle.vmar_offset.specs.Offset.{slot_of, free_mapping, test_map}
use Rattle.vmar_offset.proofs.Found.{slot_live}
use Rattle.vmar_doom.specs.Doomed.{Doomed, marked}
use Rattle.vmar_cuts.specs.Cuts.{PageRange}
use Rattle.vmar_cuts.specs.Laws.{UnmapLeaves}
use Rattle.vmar_cuts.proofs.Laws.{region_cuts}
use Rattle.vmar_map.specs.Map.{filled, mapping, mapped}
use Rattle.vmar_laws.specs.Later.{Later}
use Rattle.vmar_laws.specs.Search.{FreeIn}
use Rattle.vmar_laws.specs.Maps.{MappingsKept, PagesGiven, Maps}
use Rattle.vmar_laws.specs.Maps as half
use Rattle.vmar_laws.proofs.Lists.{last_place, early_place}
use Rattle.vmar_laws.proofs.Slots.{Fills, here, there}
use Rattle.vmar_laws.proofs.Later.{later_none, later_more, later_mapping}
use Rattle.vmar_laws.proofs.Pages.{filled_length, pages_given}
use Rattle.vmar_laws.proofs.Mapping.{Born, zeros, mapping_passes, mapping_arrays}
use Rattle.vmar_laws.proofs.Maps.{maps}
use Rattle.vmar_prune_laws.specs.Calls.{Marking}
use Rattle.vmar_prune_laws.specs.Cut.{SameAt, Cut}
use Rattle.vmar_prune_laws.proofs.Calls.{calls_all}
use Rattle.vmar_unmap.specs.Unmap.{State, tables_of}
use Rattle.vmar_overwrite.specs.Overwrite.{OverwriteDone, new_slot, uncut}
use Rattle.vmar_overwrite_laws.specs.Answers.{NewSlot}
use Rattle.vmar_overwrite_laws.specs.Overwrites.{Kept, Accepted, cut_of, flags_of, Replaced, OverwritesAll}
use Rattle.vmar_overwrite_laws.proofs.Slots.{slot_is, free_slot}
use Rattle.vmar_overwrite_laws.proofs.Steps.{made, spare, cleared, same_self, same_after, new_mapping}
use Rattle.vmar_overwrite_laws.proofs.Ends.{Shown, leaves, Ends, refuses, places, replaces, alike, same_offset, ends}
use Rattle.vmar_overwrite_laws.proofs.Answers.{only, answers}

mapped_refused : {A : Type 0} {n : ℕ} {why : Refusal} → ◌≡◌ {A = Result ℕ Refusal} (Ok n) (Err why) → A
mapped_refused e = let z : ◌≡◌ {A = ℕ} 0 1 = cc in absurd (omega arith)

same_address : {a b : ℕ} → ◌≡◌ {A = Result ℕ Refusal} (Ok a) (Ok b) → a ≡ b
same_address e = cc

module _ (base : ℕ) (st : State) (arrays : Arrays st.space) (passes : Passes st.space st.flags) (good : Good st.pool base st.used) (id : ℕ) (o : Option ℕ)
    (vmo v at len p fl : ℕ) (faults : Bool) where
  abbrev s : Space
  s = st.space

  abbrev f : List ℕ
  f = st.flags

  abbrev r : ℕ
  r = slot_of s id

  -- what the other half tells
  other : Maps s f id o vmo v at len p fl faults
  other = maps.holds s f arrays passes id o vmo v at len p fl faults

  abbrev t : Space
  t = (mapped s f id o vmo v at len p fl faults).space

  abbrev g : List ℕ
  g = (mapped s f id o vmo v at len p fl faults).flags

  placed_same : (mapped s f id o vmo v at len p fl faults).space ≡ s → (mapped s f id o vmo v at len p fl faults).flags ≡ f
      → (uncut st (mapped s f id o vmo v at len p fl faults)).state ≡ st
  placed_same e h = λ i. record { space = e i; flags = h i; pool = st.pool; used = st.used }

  placed_kept : (addr : ℕ) → half.Accepted s t f g r addr o vmo v at len p fl faults → Kept s f r addr (addr + len) t g
  placed_kept addr a i x l c h d q =
      (i, same_after s f i s t f g (free_mapping s) (len / 4096) fl i x passes a.mapping.free a.kept a.pages (same_self s f i x l c h))

  free_taken : (addr : ℕ) → half.Accepted s t f g r addr o vmo v at len p fl faults → NewSlot s r addr (addr + len) (free_mapping s)
  free_taken addr a =
      let fits : FreeIn s r addr len = subst (λ (n : ℕ). FreeIn s r addr n) a.mapping.size (subst (λ (x : ℕ). FreeIn s r x (mapping_at t (free_mapping s)).size) a.address a.mapping.fits) in
      let q = free_slot s r addr len fits in
      let l = a.mapping.slot in
      subst (NewSlot s r addr (addr + len)) (sym q) (slot_is s r addr (addr + len) (omega arith) (omega arith))

  placed : (off addr : ℕ) → o ≡ Some off → half.Accepted s t f g r addr o vmo v at len p fl faults
      → Accepted base st (uncut st (mapped s f id o vmo v at len p fl faults)).state r addr o vmo v at len p fl faults
  placed off addr q a =
      let m = a.mapping in
      let z = a.hinted off q in
      record {
        passes = a.passes;
        arrays = a.arrays;
        good = good;
        slot = free_mapping s;
        free = free_taken addr a;
        mapping = new_mapping t g a.passes r (free_mapping s) addr vmo at len p fl m.slot m.live m.region a.address m.size m.vmo m.offset m.permissions
            a.pages.given (s.mapcount, m.count, m.last);
        asked = (off, q, z.0, z.1);
        aligned = a.aligned;
        granted = a.granted;
        within = a.within;
        kept = placed_kept addr a;
      }

  -- after a cut
  module _ (off : ℕ) (shown : Shown base st id o vmo v at len p fl faults off) where
    abbrev b : ℕ
    b = (region_at s r).addr + off

    abbrev e : ℕ
    e = b + len

    abbrev c : Space
    c = cut_of s r b e

    abbrev h : List ℕ
    h = flags_of s f r b e

    abbrev slot : ℕ
    slot = new_slot s r b e

    abbrev m : Mapping
    m = mapping s r off vmo at len p

    abbrev u : Space
    u = with_mapping c slot m

    abbrev k : List ℕ
    k = filled h (slot * 512) (len / 4096) fl

    home : (r < 32) × (is_region s r ≡ true) × ((region_at s r).id ≡ id)
    home = slot_live s id shown.live

    from : (region_at s r).addr ≤ b
    from = omega arith

    to : b + len ≤ (region_at s r).addr + (region_at s r).size
    to = let z = shown.inner in omega arith

    cut : Cut s f (marked s r b e) r b e c h
    cut = made s f arrays passes r b len home.0 home.1 shown.aligned shown.fine.pages.size shown.positive shown.apart shown.slot from to

    free : is_mapping c slot ≡ false
    free = spare s f arrays passes r b len home.0 home.1 shown.aligned shown.fine.pages.size shown.positive shown.apart shown.slot from to

    fits : FreeIn c r b len
    fits = cleared s f arrays passes r b len home.0 home.1 shown.aligned shown.fine.pages.size shown.positive shown.apart shown.slot from to

    few : len / 4096 ≤ 512
    few = let z = shown.few in omega arith

    born : Born c m
    born =
        let top = region_end passes r home.0 home.1 in
        let z = to in
        record {
          live = refl;
          fits = fits;
          paged = record {
            addr = shown.aligned;
            size = shown.fine.pages.size;
            offset = shown.fine.pages.offset;
            end = omega arith;
            vmo_end = shown.fine.pages.end;
            few = few;
          };
          known = shown.permissions;
        }

    fills : Fills (λ (n : Mapping). n.live) blank_mapping c.mappings 64 slot m
    fills = record { long = cut.arrays.mappings; slot = shown.slot; free = free; born = refl }

    given : PagesGiven h k slot (len / 4096) fl
    given = pages_given h slot (len / 4096) fl cut.passes.lent shown.slot few (zeros cut.passes slot shown.slot free)

    stays : MappingsKept c u slot
    stays = record {
      mappings = there fills;
      maplist = λ j l. early_place c.maplist c.mapcount slot j (λ q. omega arith);
      regions = refl;
      reglist = refl;
      regcount = refl;
      nextid = refl;
    }

    after_passes : Passes u k
    after_passes =
        mapping_passes c h cut.passes cut.arrays slot shown.slot free m born k fl (filled_length h (slot * 512) (len / 4096) fl ∙ cut.passes.lent) shown.flags given

    range : PageRange b e
    range = let x = shown.aligned in let y = shown.fine.pages.size in record { order = omega arith; begin = shown.aligned; end = omega arith }

    table : UnmapLeaves s r b e st.pool base st.used (tables_of (leaves base st id o vmo v at len p fl faults off))
    table = region_cuts.unmap_leaves s f r b e st.pool base st.used passes range good shown.frames

    is : mapping_at u slot ≡ m
    is = here fills slot refl

    marking : Marking s f (marked s r b e) r b e
    marking = calls_all.marks s f r b e arrays passes home.0 home.1

    -- a region that is not doomed has no mark
    no_mark : (i : ℕ) → i < 32 → (Doomed s r b e i → ⊥) → get_or (marked s r b e) i false ≡ false
    no_mark i l d =
        ⊎_elim
        (λ (y : get_or (marked s r b e) i false ≡ true). absurd (d (decided_true (Doomed s r b e i) (get_or (marked s r b e) i false) (marking.doomed i l) y)))
        (λ (y : get_or (marked s r b e) i false ≡ false). y)
        (tell (get_or (marked s r b e) i false))

    -- what the cut leaves of a mapping
    cut_kept : Kept s f r b e c h
    cut_kept i x l a y d q =
        let n = no_mark (mapping_at s i).region (passes.inner.region i l a).0 d in
        ⊎_elim
        (λ (w : (mapping_at s i).region ≡ r). cut.mappings.kept i x l a w (calls_all.stays s f (marked s r b e) r b e marking) y (q w))
        (λ (w : (mapping_at s i).region ≡ r → ⊥). (i, whole i x l a y (cut.mappings.others i l a n w)))
        (same? (mapping_at s i).region r)
      where
        whole : (i x : ℕ) → i < 64 → is_mapping s i ≡ true → contains (mapping_at s i).addr (mapping_at s i).size x ≡ true
            → (mapping_at c i ≡ mapping_at s i) × ((j : ℕ) → j < 512 → page_at h i j ≡ page_at f i j) → SameAt s f i c h i x
        whole i x l a y w =
            let z = holds (mapping_at s i).addr (mapping_at s i).size x y in
            let z0 = z.0 in
            let z1 = z.1 in
            let most = (passes.paged i l a).few in
            let pages = (passes.paged i l a).size in
            record {
              slot = l;
              live = ap (λ (n : Mapping). n.live) w.0 ∙ a;
              holds = subst (λ (n : Mapping). contains n.addr n.size x ≡ true) (sym w.0) y;
              region = ap (λ (n : Mapping). n.region) w.0;
              vmo = ap (λ (n : Mapping). n.vmo) w.0;
              permissions = ap (λ (n : Mapping). n.permissions) w.0;
              offset = ap (λ (n : Mapping). n.offset + (x - n.addr)) w.0;
              flags = ap (λ (n : Mapping). page_at h i ((x - n.addr) / 4096)) w.0 ∙ w.1 ((x - (mapping_at s i).addr) / 4096) (omega arith);
            }

    after_kept : Kept s f r b e u k
    after_kept i x l a y d q = let w = cut_kept i x l a y d q in (w.0, same_after s f i c u h k slot (len / 4096) fl w.0 x cut.passes free stays given w.1)

    replaced_accepted : Accepted base st (leaves base st id o vmo v at len p fl faults off) r b o vmo v at len p fl faults
    replaced_accepted = record {
      passes = after_passes;
      arrays = mapping_arrays c slot m cut.arrays;
      good = table.all.good;
      slot = slot;
      free = slot_is s r b e (omega arith) shown.slot;
      mapping = new_mapping u k after_passes r slot b vmo at len p fl shown.slot (ap (λ (n : Mapping). n.live) is) (ap (λ (n : Mapping). n.region) is)
          (ap (λ (n : Mapping). n.addr) is) (ap (λ (n : Mapping). n.size) is) (ap (λ (n : Mapping). n.vmo) is) (ap (λ (n : Mapping). n.offset) is)
          (ap (λ (n : Mapping). n.permissions) is) given.given (
            c.mapcount,
            refl,
            last_place c.maplist c.mapcount slot (let y = cut.arrays.maplist in let z = mapping_room cut.passes slot shown.slot free in omega arith) c.mapcount refl,
          );
      asked = (off, shown.asked, refl, shown.offset);
      aligned = shown.aligned;
      granted = shown.fine.granted;
      within = shown.fine.within;
      kept = after_kept;
    }

    replaced_all : Replaced base st (leaves base st id o vmo v at len p fl faults off) r b e m fl
    replaced_all = record {
      some = let z = shown.positive in omega arith;
      cut = cut;
      table = table;
      cleared = let z : len ≡ e - b = omega arith in subst (λ (n : ℕ). FreeIn c r b n) z fits;
      is = refl;
    }

    replaced_later : Later s u
    replaced_later = later_more s c u cut.later (later_mapping c slot m)

  nothing_changes : {out : OverwriteDone} → Ends base st id o vmo v at len p fl faults out → (why : Refusal) → out.result ≡ Err why → out.state ≡ st
  nothing_changes (refuses w) why q = refl
  nothing_changes (places off a t) why q = let z = other.refused why q in placed_same z.0 z.1
  nothing_changes (replaces off shown) why q = mapped_refused q

  accepts : {out : OverwriteDone} → Ends base st id o vmo v at len p fl faults out → (addr : ℕ) → out.result ≡ Ok addr
      → Accepted base st out.state r addr o vmo v at len p fl faults
  accepts (refuses w) addr q = mapped_refused (sym q)
  accepts (places off a t) addr q = placed off addr a (other.accepted addr q)
  accepts (replaces off shown) addr q =
      subst (λ (x : ℕ). Accepted base st (leaves base st id o vmo v at len p fl faults off) r x o vmo v at len p fl faults) (same_address q) (replaced_accepted off shown)

  replaces_all : {out : OverwriteDone} → Ends base st id o vmo v at len p fl faults out → (addr off : ℕ) → out.result ≡ Ok addr → o ≡ Some off
      → test_map s r off len ≡ false → Replaced base st out.state r addr (addr + len) (mapping s r off vmo at len p) fl
  replaces_all (refuses w) addr off q z n = mapped_refused (sym q)
  replaces_all (places off' a t) addr off q z n =
      clash (test_map s r off len) (subst (λ (x : ℕ). test_map s r x len ≡ true) (same_offset base st id o vmo v at len p fl faults (sym a ∙ z)) t) n
  replaces_all (replaces off' shown) addr off q z n =
      let d = same_offset base st id o vmo v at len p fl faults (sym shown.asked ∙ z) in
      subst (λ (x : ℕ). Replaced base st (leaves base st id o vmo v at len p fl faults off') r x (x + len) (mapping s r off vmo at len p) fl) (same_address q)
      (subst (λ (x : ℕ). Replaced base st (leaves base st id o vmo v at len p fl faults off') r ((region_at s r).addr + off') ((region_at s r).addr + off' + len) (mapping s r x vmo at len p) fl) d
      (replaced_all off' shown))

  later_all : {out : OverwriteDone} → Ends base st id o vmo v at len p fl faults out → Later s out.state.space
  later_all (refuses w) = later_none s
  later_all (places off a t) = other.later
  later_all (replaces off shown) = replaced_later off shown

pub overwrites : OverwritesAll
overwrites = record {
  holds = λ base st arrays passes good id o vmo v at len p fl faults.
      let out = ends base st id o vmo v at len p fl faults in
      record {
        refused = nothing_changes base st arrays passes good id o vmo v at len p fl faults out;
        accepted = accepts base st arrays passes good id o vmo v at len p fl faults out;
        alike = λ off q t. alike base st id o vmo v at len p fl faults off q t;
        replaced = replaces_all base st arrays passes good id o vmo v at len p fl faults out;
        later = later_all base st arrays passes good id o vmo v at len p fl faults out;
        answers = answers base st passes id o vmo v at len p fl faults;
        only = only base st passes id o vmo v at len p fl faults;
      };
}
