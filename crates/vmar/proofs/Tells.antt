-- What a call answers on a space that passes its check and a good pool: the laws of its core, read off its promise.
use Rattle.std.specs.Prelude.{Result}
use Rattle.refusal.specs.declared.Refusal.{Refusal}
use Rattle.common.specs.declared.defs.MMUFlags.{MMUFlags}
use Prim.Native.Nat.{ℕ, ◌/◌, ◌≤◌, ◌<◌}
use mathlib.Core.Path.{◌≡◌, refl, sym, subst}
use mathlib.Core.Bool.{true}
use mathlib.Core.List.{List}
use mathlib.Core.Logic.{⊎_elim}
use borrow.Author.Tests.{lt-ltb, le-ltb, eq-eqb, ne_eqb}
use Rattle.paging.specs.Choice.{Answered, refused, taken}
use Rattle.paging.proofs.Cases.{same?, below?}
use Rattle.form.specs.Form.{Good}
use Rattle.space.specs.Passes.{Passes}
use Rattle.space.specs.Space.{is_region}
use Rattle.space.specs.Arrays.{Arrays}
use Rattle.space.specs.declared.Space.{Space}
use Rattle.table.specs.Table.{queried}
use Rattle.vmar_offset.specs.Offset.{slot_of}
use Rattle.vmar_offset.proofs.Found.{slot_live}
use Rattle.vmar_allocate.specs.Allocate.{allocated}
use Rattle.vmar_allocate.specs.Allocate.{Allocation}
use Rattle.vmar_map.specs.Map.{MapDone, mapped}
use Rattle.vmar_laws.specs.Answers.{AllocateAnswers, MapAnswers}
use Rattle.vmar_laws.proofs.Allocates.{allocates}
use Rattle.vmar_laws.proofs.Maps.{maps}
use Rattle.vmar_lookup.specs.Laws.{FlagsAnswers, of_page}
use Rattle.vmar_lookup.specs.Lookup.{answered}
use Rattle.vmar_lookup.proofs.Laws.{lookups}
use Rattle.vmar_overwrite.specs.Overwrite.{OverwriteDone}
use Rattle.vmar_overwrite_laws.specs.Answers.{OverwriteAnswers}
use Rattle.vmar_overwrite_laws.proofs.Overwrites.{overwrites}
use Rattle.vmar_protect_laws.specs.Answers.{ProtectAnswers}
use Rattle.vmar_protect_laws.specs.Laws.{call}
use Rattle.vmar_protect_laws.proofs.Laws.{protect_laws}
use Rattle.vmar_unmap.specs.Unmap.{CutDone, unmapped, cleared_call}
use Rattle.vmar_unmap_laws.specs.Ready.{Ready}
use Rattle.vmar_unmap_laws.specs.Unmaps.{UnmapAnswers}
use Rattle.vmar_unmap_laws.specs.Clears.{ClearAnswers}
use Rattle.vmar_unmap_laws.proofs.Unmaps.{unmaps}
use Rattle.vmar_unmap_laws.proofs.Clears.{clears}
use Rattle.vmar_user_range.specs.Laws.{UserRangeAnswers}
use Rattle.vmar_user_range.specs.UserRange.{user_range}
use Rattle.vmar_user_range.proofs.Laws.{user_ranges}
use Rattle.vmar.specs.Calls.{FlagsDone, UserRangeDone, ProtectedDone, Ordered, bad_space, bad_table, done, looked, seen, kept, flags_call, vaddr_call, map_ext, before, FlagsFit, VaddrFits}
use Rattle.vmar.specs.Laws.{LookupAnswers, unissued, dead, alive, Tells}
use Rattle.vmar.proofs.Parts.{flags_unissued, flags_dead, flags_alive, vaddr_unissued, vaddr_dead, vaddr_alive}
use Rattle.vmar.proofs.Replies.{allocate_once, map_once, flags_once, user_once, ext_once, cut_once, protect_once}

-- on what passes the outcome is the call's
taken_is : {A P : Type 0} {no' yes' out : A} → P → Answered P no' yes' out → out ≡ yes'
taken_is p (refused n e) = absurd (n p)
taken_is p (taken q e) = e

done_is : {A P Q : Type 0} {no12 no13 does out : A} → P → Q → Ordered P Q no12 no13 does out → out ≡ does
done_is p q (bad_space n e) = absurd (n p)
done_is p q (bad_table r n e) = absurd (n q)
done_is p q (done r t e) = e

-- a lookup by an id, given what it answers in a region that lives
by_id : (s : Space) (id x : ℕ) (value : ℕ → (Result MMUFlags Refusal)) (y : Result MMUFlags Refusal)
    → (s.nextid ≤ id → LookupAnswers s id x value y)
    → (id < s.nextid → slot_of s id ≡ 32 → LookupAnswers s id x value y)
    → (id < s.nextid → slot_of s id < 32 → is_region s (slot_of s id) ≡ true → (slot_of s id ≡ 32 → ⊥) → LookupAnswers s id x value y)
    → LookupAnswers s id x value y
by_id s id x value y none gone there =
    ⊎_elim
    (λ (l : id < s.nextid). ⊎_elim
    (λ (e : slot_of s id ≡ 32). gone l e)
    (λ (n : slot_of s id ≡ 32 → ⊥). let h = slot_live s id n in there l h.0 h.1 n)
    (same? (slot_of s id) 32))
    none
    (below? id s.nextid)

mapping_flags_lem : (s : Space) (f : List ℕ) (id x : ℕ) (out : FlagsDone) → Passes s f → FlagsFit s f id x out → LookupAnswers s id x (of_page s f x) out.result
mapping_flags_lem s f id x out p fits =
    subst (λ (d : FlagsDone). LookupAnswers s id x (of_page s f x) d.result) (sym (flags_once out (looked s (flags_call s f id x)) (taken_is p fits)))
    (by_id s id x (of_page s f x) (flags_call s f id x)
    (λ l. unissued l (sym (flags_unissued s f id x (le-ltb id s.nextid l))))
    (λ l e. dead l e (sym (flags_dead s f id x (lt-ltb id s.nextid l) (eq-eqb (slot_of s id) 32 e))))
    (λ l h live n. alive l h
    (subst (FlagsAnswers s x (slot_of s id) (of_page s f x)) (flags_alive s f id x (slot_of s id) refl (lt-ltb id s.nextid l) (ne_eqb (slot_of s id) 32 n))
    ((lookups.holds s f p).mapping x (slot_of s id) h live).answers)))

vaddr_flags_lem : (s : Space) (f p : List ℕ) (base used id x : ℕ) (out : FlagsDone) → Passes s f → Good p base used → VaddrFits s f p base used id x out
    → LookupAnswers s id x (λ m. answered (queried p (base / 4096) x)) out.result
vaddr_flags_lem s f p base used id x out pass good fits =
    let value : ℕ → (Result MMUFlags Refusal) = λ m. answered (queried p (base / 4096) x) in
    subst (λ (d : FlagsDone). LookupAnswers s id x value d.result) (sym (flags_once out (looked s (vaddr_call s p base id x)) (done_is pass good fits)))
    (by_id s id x value (vaddr_call s p base id x)
    (λ l. unissued l (sym (vaddr_unissued s p base id x (le-ltb id s.nextid l))))
    (λ l e. dead l e (sym (vaddr_dead s p base id x (lt-ltb id s.nextid l) (eq-eqb (slot_of s id) 32 e))))
    (λ l h live n. alive l h
    (subst (FlagsAnswers s x (slot_of s id) value) (vaddr_alive s p base id x (slot_of s id) refl (lt-ltb id s.nextid l) (ne_eqb (slot_of s id) 32 n))
    ((lookups.holds s f pass).vaddr x (slot_of s id) h live p (base / 4096)).answers)))

ready : (s : Space) (f p : List ℕ) (base used : ℕ) → Arrays s → Passes s f → Good p base used → Ready base (before s f p base used)
ready s f p base used arrays pass good = record { arrays = arrays; passes = pass; good = good }

pub tells : Tells
tells = record {
  allocate = λ s f id o len flags align out arrays p fits.
      subst (λ (d : Allocation). AllocateAnswers s id o len flags align d.result) (sym (allocate_once out (allocated s id o len flags align) (taken_is p fits)))
      (allocates.holds s f arrays p id o len flags align).answers;
  map = λ s f p base used id o vmo vmo-len at len permissions flags faults out arrays pass good fits.
      subst (λ (d : MapDone). MapAnswers s id o vmo-len at len permissions flags faults d.result)
      (sym (map_once (before s f p base used) out (mapped s f id o vmo vmo-len at len permissions flags faults) (done_is pass good fits)))
      (maps.holds s f arrays pass id o vmo vmo-len at len permissions flags faults).answers;
  mapping_flags = mapping_flags_lem;
  vaddr_flags = vaddr_flags_lem;
  user_range = λ s f id addr len access out p fits.
      subst (λ (d : UserRangeDone). UserRangeAnswers s f id addr len access d.result)
      (sym (user_once out (seen s (user_range s f id addr len access)) (taken_is p fits)))
      ((user_ranges.holds s f p).answers id addr len access);
  overwrite = λ s f p base used id o vmo vmo-len at len permissions flags faults out arrays pass good fits.
      subst (λ (d : OverwriteDone). OverwriteAnswers (before s f p base used) id o vmo-len at len permissions flags faults d.result)
      (sym (ext_once out (map_ext base (before s f p base used) id o vmo vmo-len at len permissions flags true faults) (done_is pass good fits)))
      (overwrites.holds base (before s f p base used) arrays pass good id o vmo vmo-len at len permissions flags faults).answers;
  unmap = λ s f p base used id addr len out arrays pass good fits.
      subst (λ (d : CutDone). UnmapAnswers (before s f p base used) id addr len d.result)
      (sym (cut_once out (unmapped base (before s f p base used) id addr len) (done_is pass good fits)))
      (unmaps.holds base (before s f p base used) (ready s f p base used arrays pass good) id addr len).answers;
  clear = λ s f p base used id itself out arrays pass good fits.
      subst (λ (d : CutDone). ClearAnswers (before s f p base used) id d.result)
      (sym (cut_once out (cleared_call base (before s f p base used) id itself) (done_is pass good fits)))
      (clears.holds base (before s f p base used) (ready s f p base used arrays pass good) id itself).answers;
  protect = λ s f p base used id addr len access out pass good fits.
      subst (λ (d : ProtectedDone). ProtectAnswers s id addr len access d.done.result)
      (sym (protect_once used out (kept s (call s f p base id addr len access)) (done_is pass good fits)))
      (protect_laws.protects s f p base used id addr len access pass good).answers;
}
