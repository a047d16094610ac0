-- A refused call changes nothing: where 12 and 13 come by the promise, and after them by the cores' laws.
use Rattle.std.specs.Prelude.{Err, Option}
use Prim.Native.Nat.{ℕ}
use mathlib.Core.Path.{◌≡◌, refl, sym, ◌∙◌, ap}
use mathlib.Core.Bool.{Bool, true, false}
use mathlib.Core.List.{List}
use Rattle.paging.specs.Choice.{refused, taken}
use Rattle.refusal.specs.declared.Refusal.{Refusal}
use Rattle.form.specs.Form.{Good}
use Rattle.space.specs.Arrays.{Arrays}
use Rattle.space.specs.Passes.{Passes}
use Rattle.space.specs.declared.Space.{Space}
use Rattle.vmar_allocate.specs.Allocate.{Allocation}
use Rattle.vmar_map.specs.Map.{MapDone}
use Rattle.vmar_laws.proofs.Allocates.{allocates}
use Rattle.vmar_laws.proofs.Maps.{maps}
use Rattle.vmar_overwrite.specs.Overwrite.{OverwriteDone}
use Rattle.vmar_overwrite_laws.proofs.Overwrites.{overwrites}
use Rattle.vmar_protect_laws.proofs.Laws.{protect_laws}
use Rattle.vmar_unmap.specs.Unmap.{CutDone, unmapped, cleared_call}
use Rattle.vmar_unmap_laws.proofs.Unmaps.{unmaps}
use Rattle.vmar_unmap_laws.proofs.Clears.{clears}
use Rattle.vmar.specs.Calls.{map_ext, ProtectedDone, protected_state, before, Ordered, bad_space, bad_table, done}
use Rattle.vmar.specs.Laws.{Refuses}
use Rattle.vmar.proofs.Replies.{AllocateIs, allocate_is, MapIs, map_is, MapExtIs, map_ext_is, CutIs, cut_is, ProtectIs, protect_is}

-- of a call that takes the pool: the part `of` of its outcome is what it was in all three cases
ordered : {A B : Type 0} {P Q : Type 0} {no12 no13 does out : A} (of : A → B) (was : B) → of no12 ≡ was → of no13 ≡ was → (P → Q → out ≡ does → of does ≡ was)
    → Ordered P Q no12 no13 does out → of out ≡ was
ordered of was x y z (bad_space n e) = ap of e ∙ x
ordered of was x y z (bad_table p n e) = ap of e ∙ y
ordered of was x y z (done p q e) = ap of e ∙ z p q e

module _ (s : Space) (f p : List ℕ) (base used id : ℕ) where
  allocate_refuses : (o : Option ℕ) (len flags align : ℕ) (out : Allocation) (why : Refusal) → Arrays s → AllocateIs s f id o len flags align out
      → out.result ≡ Err why → out.space ≡ s
  allocate_refuses o len flags align out why arrays (refused n e) q = ap (λ (x : Allocation). x.space) e
  allocate_refuses o len flags align out why arrays (taken passes e) q =
      ap (λ (x : Allocation). x.space) e
      ∙ (allocates.holds s f arrays passes id o len flags align).refused why (sym (ap (λ (x : Allocation). x.result) e) ∙ q)

  module _ (o : Option ℕ) (vmo vmo-len at len permissions flags : ℕ) (faults : Bool) (why : Refusal) (arrays : Arrays s) where
    map_refuses : (out : MapDone) → MapIs s f p base used id o vmo vmo-len at len permissions flags faults out → out.result ≡ Err why
        → (out.space ≡ s) × (out.flags ≡ f)
    map_refuses out is q = (
      ordered (λ (x : MapDone). x.space) s refl refl
          (λ passes good e. ((maps.holds s f arrays passes id o vmo vmo-len at len permissions flags faults).refused why (sym (ap (λ (x : MapDone). x.result) e) ∙ q)).0) is,
      ordered (λ (x : MapDone). x.flags) f refl refl
          (λ passes good e. ((maps.holds s f arrays passes id o vmo vmo-len at len permissions flags faults).refused why (sym (ap (λ (x : MapDone). x.result) e) ∙ q)).1) is,
    )

    -- the half that never overwrites, and the other
    ext : (overwrite : Bool) → Passes s f → Good p base used → (map_ext base (before s f p base used) id o vmo vmo-len at len permissions flags overwrite faults).result ≡ Err why
        → (map_ext base (before s f p base used) id o vmo vmo-len at len permissions flags overwrite faults).state ≡ before s f p base used
    ext true passes good q = (overwrites.holds base (before s f p base used) arrays passes good id o vmo vmo-len at len permissions flags faults).refused why q
    ext false passes good q =
        let w = (maps.holds s f arrays passes id o vmo vmo-len at len permissions flags faults).refused why q in
        λ i. record { space = w.0 i; flags = w.1 i; pool = p; used = used }

    ext_refuses : (overwrite : Bool) (out : OverwriteDone) → MapExtIs s f p base used id o vmo vmo-len at len permissions flags overwrite faults out
        → out.result ≡ Err why → out.state ≡ before s f p base used
    ext_refuses overwrite out is q =
        ordered (λ (x : OverwriteDone). x.state) (before s f p base used) refl refl
        (λ passes good e. ext overwrite passes good (sym (ap (λ (x : OverwriteDone). x.result) e) ∙ q)) is

  unmap_refuses : (addr len : ℕ) (out : CutDone) (why : Refusal) → Arrays s → CutIs s f p base used (unmapped base (before s f p base used) id addr len) out → out.result ≡ Err why
      → out.state ≡ before s f p base used
  unmap_refuses addr len out why arrays is q =
      ordered (λ (x : CutDone). x.state) (before s f p base used) refl refl
      (λ passes good e. (unmaps.holds base (before s f p base used) (record { arrays = arrays; passes = passes; good = good }) id addr len).refused why
      (sym (ap (λ (x : CutDone). x.result) e) ∙ q)) is

  clear_refuses : (itself : Bool) (out : CutDone) (why : Refusal) → Arrays s → CutIs s f p base used (cleared_call base (before s f p base used) id itself) out → out.result ≡ Err why
      → out.state ≡ before s f p base used
  clear_refuses itself out why arrays is q =
      ordered (λ (x : CutDone). x.state) (before s f p base used) refl refl
      (λ passes good e. (clears.holds base (before s f p base used) (record { arrays = arrays; passes = passes; good = good }) id itself).refused why
      (sym (ap (λ (x : CutDone). x.result) e) ∙ q)) is

  protect_refuses : (addr len access : ℕ) (out : ProtectedDone) (why : Refusal) → ProtectIs s f p base used id addr len access out → out.done.result ≡ Err why
      → protected_state used out ≡ before s f p base used
  protect_refuses addr len access out why is q =
      ordered (protected_state used) (before s f p base used) refl refl
      (λ passes good e.
      let w = (protect_laws.protects s f p base used id addr len access passes good).refused why (sym (ap (λ (x : ProtectedDone). x.done.result) e) ∙ q) in
      λ i. record { space = s; flags = w.0 i; pool = w.1 i; used = used }) is

pub refuses : Refuses
refuses = record {
  allocate = λ s f id o len flags align out why arrays x. allocate_refuses s f f 0 0 id o len flags align out why arrays (allocate_is s f id o len flags align out x);
  map = λ s f p base used id o vmo vmo-len at len permissions flags faults out why arrays x.
      map_refuses s f p base used id o vmo vmo-len at len permissions flags faults why arrays out (map_is s f p base used id o vmo vmo-len at len permissions flags faults out x);
  map_ext = λ s f p base used id o vmo vmo-len at len permissions flags overwrite faults out why arrays x.
      ext_refuses s f p base used id o vmo vmo-len at len permissions flags faults why arrays overwrite out
      (map_ext_is s f p base used id o vmo vmo-len at len permissions flags overwrite faults out x);
  unmap = λ s f p base used id addr len out why arrays x.
      unmap_refuses s f p base used id addr len out why arrays (cut_is s f p base used (unmapped base (before s f p base used) id addr len) out x);
  clear = λ s f p base used id itself out why arrays x.
      clear_refuses s f p base used id itself out why arrays (cut_is s f p base used (cleared_call base (before s f p base used) id itself) out x);
  protect = λ s f p base used id addr len access out why x. protect_refuses s f p base used id addr len access out why (protect_is s f p base used id addr len access out x);
}
