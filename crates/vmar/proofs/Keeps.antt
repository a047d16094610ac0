-- What a space keeps through calls, and what accepted ones do.
use Rattle.std.specs.Prelude.{Result, Ok, Err, Option}
use Prim.Native.Nat.{ℕ, ◌+◌, ◌/◌}
use mathlib.Core.Path.{◌≡◌, refl, sym, ◌∙◌, ap, subst}
use mathlib.Core.Bool.{Bool, true, false}
use mathlib.Core.List.{List}
use native.Mathlib.Omega.{arith}
use Rattle.paging.specs.Choice.{Answered, refused, taken}
use Rattle.refusal.specs.Reply.{Told}
use Rattle.refusal.specs.declared.Refusal.{Refusal}
use Rattle.refusal.specs.declared.Refusal.TheVariants.{BadSpace, BadTable}
use Rattle.space.specs.Passes.{Passes}
use Rattle.space.specs.declared.Space.{Space}
use Rattle.vmar_offset.specs.Offset.{slot_of}
use Rattle.vmar_allocate.specs.Allocate.{allocated}
use Rattle.vmar_allocate.specs.Allocate.{Allocation}
use Rattle.vmar_map.specs.Map.{MapDone, mapped}
use Rattle.vmar_map.specs.Map as map'
use Rattle.space.specs.Arrays.{Arrays}
use Rattle.vmar_laws.specs.Allocates as alloc
use Rattle.vmar_laws.specs.Maps as mapping
use Rattle.vmar_laws.proofs.Later.{later_none, later_more}
use Rattle.vmar_laws.proofs.Allocates.{allocates}
use Rattle.vmar_laws.proofs.Maps.{maps}
use Rattle.form.specs.Form.{Good}
use Rattle.vmar_unmap.specs.Unmap.{State, CutDone, unmapped, cleared_call}
use Rattle.vmar_laws.specs.Later.{Later}
use Rattle.vmar_unmap_laws.specs.Ready.{Ready}
use Rattle.vmar_unmap_laws.specs.Unmaps.{UnmapDone}
use Rattle.vmar_unmap_laws.specs.Clears.{ClearDone}
use Rattle.vmar_unmap_laws.proofs.Unmaps.{unmaps}
use Rattle.vmar_unmap_laws.proofs.Clears.{clears}
use Rattle.vmar_protect.specs.Protect.{lent, protected}
use Rattle.vmar_protect_laws.specs.Laws.{Protects, call}
use Rattle.vmar_protect_laws.proofs.Laws.{protect_laws}
use Rattle.vmar_overwrite.specs.Overwrite.{OverwriteDone, overwritten}
use Rattle.vmar_overwrite_laws.specs.Overwrites as over
use Rattle.vmar_overwrite_laws.proofs.Overwrites.{overwrites}
use Rattle.vmar.specs.Calls.{ProtectedDone, MapFits, Ordered, bad_space, bad_table, done, before, kept, protected_state, beside_table, map_ext}
use Rattle.vmar.specs.Laws.{Step, Keeps, Means, Through}
use Rattle.vmar.proofs.Replies.{AllocateIs, allocate_is, MapIs, map_is, MapExtIs, map_ext_is, CutIs, cut_is, ProtectIs, protect_is}

-- nothing changes
still : {s t : Space} {f g : List ℕ} → Arrays s → t ≡ s → g ≡ f → Step s t f g
still {s} {t} {f} {g} a e h =
    subst (λ (x : Space). Step s x f g) (sym e) (subst (λ (x : List ℕ). Step s s f x) (sym h) (record { arrays = a; passes = λ p. p; later = later_none s }))

more : (s t u : Space) (f g h : List ℕ) → Step s t f g → Step t u g h → Step s u f h
more s t u f g h a b = record { arrays = b.arrays; passes = λ p. b.passes (a.passes p); later = later_more s t u a.later b.later }

module _ (s : Space) (f : List ℕ) (id : ℕ) (o : Option ℕ) (len flags align : ℕ) (arrays : Arrays s) where
  allocated_step : Passes s f → Step s (allocated s id o len flags align).space f f
  allocated_step p = by (allocated s id o len flags align).result refl
    where
      law : alloc.Allocates s f id o len flags align
      law = allocates.holds s f arrays p id o len flags align

      by : (x : Result ℕ Refusal) → (allocated s id o len flags align).result ≡ x → Step s (allocated s id o len flags align).space f f
      by (Ok n) e = let w = law.accepted n e in record { arrays = w.arrays; passes = λ q. w.passes; later = law.later }
      by (Err why) e = still arrays (law.refused why e) refl

  refused_region : {A : Type 0} {n : ℕ} {why : Refusal} → ◌≡◌ {A = Result ℕ Refusal} (Err why) (Ok n) → A
  refused_region e = let z : ◌≡◌ {A = ℕ} 0 1 = cc in absurd (omega arith)

  allocate_means : {out : Allocation} → AllocateIs s f id o len flags align out → (n : ℕ) → out.result ≡ Ok n
      → alloc.Accepted s out.space f (slot_of s id) n o len flags align
  allocate_means (refused z e) n q = refused_region (sym (ap (λ (x : Allocation). x.result) e) ∙ q)
  allocate_means (taken p e) n q =
      subst (λ (x : Allocation). alloc.Accepted s x.space f (slot_of s id) n o len flags align) (sym e)
      ((allocates.holds s f arrays p id o len flags align).accepted n (sym (ap (λ (x : Allocation). x.result) e) ∙ q))

module _ (s : Space) (f p : List ℕ) (base used id : ℕ) (o : Option ℕ) (vmo vmo-len at len permissions flags : ℕ) (faults : Bool) (arrays : Arrays s) where
  abbrev outcome : MapDone
  outcome = mapped s f id o vmo vmo-len at len permissions flags faults

  mapped_step : Passes s f → Step s outcome.space f outcome.flags
  mapped_step q = by outcome.result refl
    where
      law : mapping.Maps s f id o vmo vmo-len at len permissions flags faults
      law = maps.holds s f arrays q id o vmo vmo-len at len permissions flags faults

      by : (x : Result ℕ Refusal) → outcome.result ≡ x → Step s outcome.space f outcome.flags
      by (Ok addr) e = let w = law.accepted addr e in record { arrays = w.arrays; passes = λ z. w.passes; later = law.later }
      by (Err why) e = let w = law.refused why e in still arrays w.0 w.1

  refused_mapped : {A : Type 0} {n : ℕ} {why : Refusal} → ◌≡◌ {A = Result ℕ Refusal} (Err why) (Ok n) → A
  refused_mapped e = let z : ◌≡◌ {A = ℕ} 0 1 = cc in absurd (omega arith)

  map_means : {out : MapDone} → MapIs s f p base used id o vmo vmo-len at len permissions flags faults out → (addr : ℕ) → out.result ≡ Ok addr
      → mapping.Accepted s out.space f out.flags (slot_of s id) addr o vmo vmo-len at len permissions flags faults
  map_means (bad_space n e) addr q = refused_mapped (sym (ap (λ (x : MapDone). x.result) e) ∙ q)
  map_means (bad_table u n e) addr q = refused_mapped (sym (ap (λ (x : MapDone). x.result) e) ∙ q)
  map_means (done u w e) addr q =
      subst (λ (x : MapDone). mapping.Accepted s x.space f x.flags (slot_of s id) addr o vmo vmo-len at len permissions flags faults) (sym e)
      ((maps.holds s f arrays u id o vmo vmo-len at len permissions flags faults).accepted addr (sym (ap (λ (x : MapDone). x.result) e) ∙ q))

-- a call that takes the space and the flags: where it is refused nothing changes
answered_step : {P : Type 0} {s : Space} {f : List ℕ} {a b out : Told Space} → Arrays s → a.after ≡ s → (P → Step s b.after f f) → Answered P a b out → Step s out.after f f
answered_step arrays x y (refused n e) = still arrays (ap (λ (t : Told Space). t.after) e ∙ x) refl
answered_step {s = s} {f = f} arrays x y (taken p e) = subst (λ (t : Told Space). Step s t.after f f) (sym e) (y p)

-- a lookup in the table changes nothing
ordered_step : {P Q : Type 0} {s : Space} {f : List ℕ} {a b c out : Told Space} → Arrays s → a.after ≡ s → b.after ≡ s → c.after ≡ s → Ordered P Q a b c out
    → Step s out.after f f
ordered_step arrays x y z (bad_space n e) = still arrays (ap (λ (t : Told Space). t.after) e ∙ x) refl
ordered_step arrays x y z (bad_table p n e) = still arrays (ap (λ (t : Told Space). t.after) e ∙ y) refl
ordered_step arrays x y z (done p q e) = still arrays (ap (λ (t : Told Space). t.after) e ∙ z) refl

-- a call that takes the table too
through_still : {base : ℕ} {st t : State} → Arrays st.space → t ≡ st → Through base st t
through_still {base} {st} {t} arrays e =
    subst (Through base st) (sym e) (record { step = record { arrays = arrays; passes = λ p. p; later = later_none st.space }; good = λ g. g })

-- where it is refused nothing changes, and where it is done both pass and ids are as they should be
through_done : {base : ℕ} {st : State} (d : CutDone) → Arrays st.space
    → ((why : Refusal) → d.result ≡ Err why → d.state ≡ st) → (d.result ≡ Ok tt → Ready base d.state) → Later st.space d.state.space
    → Through base st d.state
through_done {base} {st} d arrays stays ready later = by d.result refl
  where
    by : (x : Result (Unit {0}) Refusal) → d.result ≡ x → Through base st d.state
    by (Ok _) e = let r = ready e in record { step = record { arrays = r.arrays; passes = λ p. r.passes; later = later }; good = λ g. r.good }
    by (Err why) e = through_still arrays (stays why e)

through_ordered : {base : ℕ} {st : State} {P Q : Type 0} {a b does out : Told State} → Arrays st.space → a.after ≡ st → b.after ≡ st → (P → Q → Through base st does.after)
    → Ordered P Q a b does out → Through base st out.after
through_ordered arrays x y z (bad_space n e) = through_still arrays (ap (λ (t : Told State). t.after) e ∙ x)
through_ordered arrays x y z (bad_table p n e) = through_still arrays (ap (λ (t : Told State). t.after) e ∙ y)
through_ordered {base} {st} arrays x y z (done p q e) = subst (λ (t : Told State). Through base st t.after) (sym e) (z p q)

unmap_through : (s : Space) (f p : List ℕ) (base used id addr len : ℕ) → Arrays s → Passes s f → Good p base used
    → Through base (before s f p base used) (unmapped base (before s f p base used) id addr len).state
unmap_through s f p base used id addr len arrays passes good =
    let law = unmaps.holds base (before s f p base used) (record { arrays = arrays; passes = passes; good = good }) id addr len in
    through_done (unmapped base (before s f p base used) id addr len) arrays law.refused (λ e. (law.accepted e).ready) law.later

clear_through : (s : Space) (f p : List ℕ) (base used id : ℕ) (itself : Bool) → Arrays s → Passes s f → Good p base used
    → Through base (before s f p base used) (cleared_call base (before s f p base used) id itself).state
clear_through s f p base used id itself arrays passes good =
    let law = clears.holds base (before s f p base used) (record { arrays = arrays; passes = passes; good = good }) id itself in
    through_done (cleared_call base (before s f p base used) id itself) arrays law.refused (λ e. (law.accepted e).ready) law.later

protect_through : (s : Space) (f p : List ℕ) (base used id addr len access : ℕ) → Arrays s → Passes s f → Good p base used
    → Through base (before s f p base used) (protected_state used (kept s (protected s (lent f p) (base / 4096) id addr len access)))
protect_through s f p base used id addr len access arrays passes good =
    let law = protect_laws.protects s f p base used id addr len access passes good in
    record { step = record { arrays = arrays; passes = λ z. law.passes; later = later_none s }; good = λ z. law.good }

-- the half of map_ext that overwrites
over_through : (base : ℕ) (st : State) (id : ℕ) (o : Option ℕ) (vmo vmo-len at len permissions flags : ℕ) (faults : Bool) → Arrays st.space → Passes st.space st.flags
    → Good st.pool base st.used → Through base st (overwritten base st id o vmo vmo-len at len permissions flags faults).state
over_through base st id o vmo vmo-len at len permissions flags faults arrays passes good =
    by (overwritten base st id o vmo vmo-len at len permissions flags faults).result refl
  where
    law : over.Overwrites base st id o vmo vmo-len at len permissions flags faults (overwritten base st id o vmo vmo-len at len permissions flags faults)
    law = overwrites.holds base st arrays passes good id o vmo vmo-len at len permissions flags faults

    by : (x : Result ℕ Refusal) → (overwritten base st id o vmo vmo-len at len permissions flags faults).result ≡ x
        → Through base st (overwritten base st id o vmo vmo-len at len permissions flags faults).state
    by (Ok addr) e =
        let a = law.accepted addr e in
        record { step = record { arrays = a.arrays; passes = λ p. a.passes; later = law.later }; good = λ g. a.good }
    by (Err why) e = through_still arrays (law.refused why e)

-- and both
ext_through : (base : ℕ) (st : State) (id : ℕ) (o : Option ℕ) (vmo vmo-len at len permissions flags : ℕ) (overwrite faults : Bool) → Arrays st.space → Passes st.space st.flags
    → Good st.pool base st.used → Through base st (map_ext base st id o vmo vmo-len at len permissions flags overwrite faults).state
ext_through base st id o vmo vmo-len at len permissions flags true faults arrays passes good = over_through base st id o vmo vmo-len at len permissions flags faults arrays passes good
ext_through base st id o vmo vmo-len at len permissions flags false faults arrays passes good =
    record { step = mapped_step st.space st.flags st.pool base st.used id o vmo vmo-len at len permissions flags faults arrays passes; good = λ g. g }

pub keeps : Keeps
keeps = record {
  allocate = λ s f id o len flags align out arrays. answered_step arrays refl (allocated_step s f id o len flags align arrays);
  map = λ s f p base used id o vmo vmo-len at len permissions flags faults out arrays x.
      (through_ordered arrays refl refl (ext_through base (before s f p base used) id o vmo vmo-len at len permissions flags false faults arrays) x).step;
  mapping_flags = λ s f id x out arrays. answered_step arrays refl (λ p. still arrays refl refl);
  user_range = λ s f id addr len access out arrays. answered_step arrays refl (λ p. still arrays refl refl);
  vaddr_flags = λ s f p base used id x out arrays. ordered_step arrays refl refl refl;
  map_ext = λ s f p base used id o vmo vmo-len at len permissions flags overwrite faults out arrays.
      through_ordered arrays refl refl (ext_through base (before s f p base used) id o vmo vmo-len at len permissions flags overwrite faults arrays);
  unmap = λ s f p base used id addr len out arrays. through_ordered arrays refl refl (unmap_through s f p base used id addr len arrays);
  clear = λ s f p base used id itself out arrays. through_ordered arrays refl refl (clear_through s f p base used id itself arrays);
  protect = λ s f p base used id addr len access out arrays. through_ordered arrays refl refl (protect_through s f p base used id addr len access arrays);
  more = more;
}

-- where a call that takes the table is accepted, it is its core that was
accepted_by : {A R : Type 0} {P Q : Type 0} {no12 no13 does out : A} (of : A → R) (was : R) → (of no12 ≡ was → ⊥) → (of no13 ≡ was → ⊥) → Ordered P Q no12 no13 does out
    → of out ≡ was → P × Q × (out ≡ does) × (of does ≡ was)
accepted_by of was x y (bad_space n e) q = absurd (x (sym (ap of e) ∙ q))
accepted_by of was x y (bad_table p n e) q = absurd (y (sym (ap of e) ∙ q))
accepted_by of was x y (done p w e) q = (p, w, e, sym (ap of e) ∙ q)

cut_refused_done : {why : Refusal} → ◌≡◌ {A = Result (Unit {0}) Refusal} (Err why) (Ok tt) → ⊥
cut_refused_done e = let z : ◌≡◌ {A = ℕ} 0 1 = cc in omega arith

map_refused_mapped : {why : Refusal} {addr : ℕ} → ◌≡◌ {A = Result ℕ Refusal} (Err why) (Ok addr) → ⊥
map_refused_mapped e = let z : ◌≡◌ {A = ℕ} 0 1 = cc in omega arith

module _ (s : Space) (f p : List ℕ) (base used id : ℕ) (arrays : Arrays s) where
  unmap_means : (addr len : ℕ) (out : CutDone) → CutIs s f p base used (unmapped base (before s f p base used) id addr len) out → out.result ≡ Ok tt
      → UnmapDone base (before s f p base used) out.state (slot_of s id) addr (addr + len)
  unmap_means addr len out fits q =
      let a = accepted_by (λ (x : CutDone). x.result) (Ok tt) cut_refused_done cut_refused_done fits q in
      subst (λ (x : CutDone). UnmapDone base (before s f p base used) x.state (slot_of s id) addr (addr + len)) (sym a.2)
      ((unmaps.holds base (before s f p base used) (record { arrays = arrays; passes = a.0; good = a.1 }) id addr len).accepted a.3)

  clear_means : (itself : Bool) (out : CutDone) → CutIs s f p base used (cleared_call base (before s f p base used) id itself) out → out.result ≡ Ok tt
      → ClearDone base (before s f p base used) out.state (slot_of s id) itself
  clear_means itself out fits q =
      let a = accepted_by (λ (x : CutDone). x.result) (Ok tt) cut_refused_done cut_refused_done fits q in
      subst (λ (x : CutDone). ClearDone base (before s f p base used) x.state (slot_of s id) itself) (sym a.2)
      ((clears.holds base (before s f p base used) (record { arrays = arrays; passes = a.0; good = a.1 }) id itself).accepted a.3)

  over_means : (o : Option ℕ) (vmo vmo-len at len permissions flags : ℕ) (faults : Bool) (out : OverwriteDone)
      → MapExtIs s f p base used id o vmo vmo-len at len permissions flags true faults out → (addr : ℕ) → out.result ≡ Ok addr
      → over.Accepted base (before s f p base used) out.state (slot_of s id) addr o vmo vmo-len at len permissions flags faults
  over_means o vmo vmo-len at len permissions flags faults out fits addr q =
      let a = accepted_by (λ (x : OverwriteDone). x.result) (Ok addr) map_refused_mapped map_refused_mapped fits q in
      subst (λ (x : OverwriteDone). over.Accepted base (before s f p base used) x.state (slot_of s id) addr o vmo vmo-len at len permissions flags faults) (sym a.2)
      ((overwrites.holds base (before s f p base used) arrays a.0 a.1 id o vmo vmo-len at len permissions flags faults).accepted addr a.3)

-- without overwriting an outcome is that of `map`, beside the table
map_ext_means : (s : Space) (f p : List ℕ) (base used id : ℕ) (o : Option ℕ) (vmo vmo-len at len permissions flags : ℕ) (faults : Bool) (out : OverwriteDone)
    → MapExtIs s f p base used id o vmo vmo-len at len permissions flags false faults out
    → (d : MapDone) × MapFits s f p base used id o vmo vmo-len at len permissions flags faults d × (out ≡ beside_table (before s f p base used) d)
map_ext_means s f p base used id o vmo vmo-len at len permissions flags faults out (bad_space n e) = (map'.refused s f BadSpace, bad_space n refl, e)
map_ext_means s f p base used id o vmo vmo-len at len permissions flags faults out (bad_table u n e) = (map'.refused s f BadTable, bad_table u n refl, e)
map_ext_means s f p base used id o vmo vmo-len at len permissions flags faults out (done u w e) =
    (mapped s f id o vmo vmo-len at len permissions flags faults, done u w refl, e)

protect_refused_protected : {A : Type 0} {why : Refusal} → ◌≡◌ {A = Result (Unit {0}) Refusal} (Err why) (Ok tt) → A
protect_refused_protected e = let z : ◌≡◌ {A = ℕ} 0 1 = cc in absurd (omega arith)

protect_means : (s : Space) (f p : List ℕ) (base used id addr len access : ℕ) (out : ProtectedDone) → ProtectIs s f p base used id addr len access out
    → out.done.result ≡ Ok tt → (out ≡ kept s (call s f p base id addr len access)) × Protects s f p base used id addr len access
protect_means s f p base used id addr len access out fits q =
    let a = accepted_by (λ (x : ProtectedDone). x.done.result) (Ok tt) protect_refused_protected protect_refused_protected fits q in
    (a.2, protect_laws.protects s f p base used id addr len access a.0 a.1)

pub means : Means
means = record {
  map_ext = λ s f p base used id o vmo vmo-len at len permissions flags faults out x.
      map_ext_means s f p base used id o vmo vmo-len at len permissions flags faults out
      (map_ext_is s f p base used id o vmo vmo-len at len permissions flags false faults out x);
  protect = λ s f p base used id addr len access out x. protect_means s f p base used id addr len access out (protect_is s f p base used id addr len access out x);
  overwrite = λ s f p base used id o vmo vmo-len at len permissions flags faults out arrays x.
      over_means s f p base used id arrays o vmo vmo-len at len permissions flags faults out
      (map_ext_is s f p base used id o vmo vmo-len at len permissions flags true faults out x);
  clear = λ s f p base used id itself out arrays x.
      clear_means s f p base used id arrays itself out (cut_is s f p base used (cleared_call base (before s f p base used) id itself) out x);
  unmap = λ s f p base used id addr len out arrays x.
      unmap_means s f p base used id arrays addr len out (cut_is s f p base used (unmapped base (before s f p base used) id addr len) out x);
  allocate = λ s f id o len flags align out arrays x. allocate_means s f id o len flags align arrays (allocate_is s f id o len flags align out x);
  map = λ s f p base used id o vmo vmo-len at len permissions flags faults out arrays x.
      map_means s f p base used id o vmo vmo-len at len permissions flags faults arrays (map_is s f p base used id o vmo vmo-len at len permissions flags faults out x);
}
