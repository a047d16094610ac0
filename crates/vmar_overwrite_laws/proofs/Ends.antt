-- How an overwrite ends, and that it is the other half where nothing is met.
use Rattle.std.specs.Prelude.{Result, Ok, Option, Some, None}
use Prim.Native.Nat.{ℕ, ◌+◌, ◌*◌, ◌%◌, ◌≤◌, ◌<◌}
use mathlib.Core.Path.{◌≡◌, refl, sym, ◌∙◌, ap, subst}
use mathlib.Core.Bool.{Bool, true, false}
use mathlib.Core.List.{List}
use mathlib.Core.Logic.{⊎_elim}
use native.Mathlib.Omega.{arith}
use lib.Dec.{eqb, leb, ltb}
use borrow.Author.Tests.{leb-true, eqb-true, eqb-false, eq-eqb}
use Rattle.paging.proofs.Cases.{same?}
use Rattle.common.specs.Flags.{known_page}
use Rattle.scan.specs.Scan.{some}
use Rattle.scan.proofs.Scans.{tell}
use Rattle.vm.specs.Align.{multiple}
use Rattle.refusal.specs.declared.Refusal.{Refusal}
use Rattle.refusal.specs.declared.Refusal.TheVariants.{InvalidArgs, BadState, BadHandle}
use Rattle.space.specs.Space.{region_at}
use Rattle.space.specs.declared.Mapping.{Mapping}
use Rattle.space.specs.declared.Space.{Space}
use Rattle.table_cuts.specs.Cuts.{non_empty}
use Rattle.vmar_offset.specs.Offset.{slot_of, test_map, determine_offset}
use Rattle.vmar_offset.proofs.Offsets.{asked_odd, asked_free}
use Rattle.vmar_offset.proofs.Found.{free_fits}
use Rattle.vmar_doom.specs.Doomed.{marked}
use Rattle.vmar_cuts.specs.Cuts.{unmap_cuts}
use Rattle.vmar_map.specs.Map.{mapping, settled, mapped}
use Rattle.vmar_map.specs.Map as half
use Rattle.vmar_map.proofs.Maps as maps
use Rattle.vmar_laws.specs.Answers.{Fine}
use Rattle.vmar_laws.proofs.Maps.{Tests, fine, fails, tests}
use Rattle.vmar_unmap.specs.Unmap.{State, CutDone, free_frames, cut_state, partly_at}
use Rattle.vmar_overwrite.specs.Overwrite.{OverwriteDone, refused, new_slot, is_short, with_new, after_cut, cut_for, slot_for, replaced, uncut, at_offset, by_offset, in_region, after_tests, overwritten}
use Rattle.vmar_overwrite.proofs.Room.{RangeEnds, refusal, cuts, range_ends, not_short}
use Rattle.vmar_overwrite.proofs.Calls.{empty, some_bytes, nothing_met, something_met, odd_offset, past_region, odd_address, at_address, dead, alive, never_issued, unknown_permissions, unknown_flags, known_all}

module _ (base : ℕ) (st : State) (id : ℕ) (o : Option ℕ) (vmo v at len p fl : ℕ) (faults : Bool) where
  abbrev s : Space
  s = st.space

  abbrev f : List ℕ
  f = st.flags

  abbrev r : ℕ
  r = slot_of s id

  -- the other half of the call
  abbrev other : OverwriteDone
  other = uncut st (mapped s f id o vmo v at len p fl faults)

  -- where nothing is met, by the offset
  module _ (off : ℕ) (q : o ≡ Some off) (t : test_map s r off len ≡ true) where
    abbrev settles : Result ℕ Refusal → OverwriteDone
    settles d = uncut st (settled s f r vmo at len p fl d)

    at_alike : multiple len 4096 ≡ true → at_offset base st r off vmo at len p fl ≡ settles (determine_offset s r o len 4096)
    at_alike w =
        ⊎_elim
        (λ (a : multiple off 4096 ≡ true).
        let fits = free_fits s r off len t in
        let found = ap settles (asked_free s r len 4096 o w off q a t) in
        ⊎_elim
        (λ (c : multiple ((region_at s r).addr + off) 4096 ≡ true).
        sym (at_address base st r off vmo at len p fl a fits c) ∙ sym (nothing_met base st r off vmo at len p fl t) ∙ found)
        (λ (c : multiple ((region_at s r).addr + off) 4096 ≡ false).
        sym (odd_address base st r off vmo at len p fl a fits c) ∙ ap (uncut st) (maps.unaligned s f r off vmo at len p fl c) ∙ found)
        (tell (multiple ((region_at s r).addr + off) 4096)))
        (λ (a : multiple off 4096 ≡ false). sym (odd_offset base st r off vmo at len p fl a) ∙ ap settles (asked_odd s r len 4096 o w off q a))
        (tell (multiple off 4096))

    in_alike : multiple len 4096 ≡ true → in_region base st id o vmo at len p fl ≡ uncut st (half.in_region s f id o vmo at len p fl)
    in_alike w =
        ⊎_elim
        (λ (d : eqb r 32 ≡ true). sym (dead base st id o vmo at len p fl r refl (eqb-true _ _ d)) ∙ ap (uncut st) (maps.dead s f id o vmo at len p fl d))
        (λ (d : eqb r 32 ≡ false).
        sym (alive base st id o vmo at len p fl r refl (eqb-false _ _ d)) ∙ ap (by_offset base st r vmo at len p fl) q ∙ at_alike w
        ∙ ap (uncut st) (maps.alive s f id o vmo at len p fl r refl d))
        (tell (eqb r 32))

    tests_alike : (d : Result (Unit {0}) Refusal) → Tests v at len p fl faults d → after_tests base st id o vmo at len p fl d ≡ uncut st (half.after_tests s f id o vmo at len p fl d)
    tests_alike d (fine w) = in_alike (eq-eqb _ _ w.pages.size)
    tests_alike d (fails why n) = refl

    pub alike : overwritten base st id o vmo v at len p fl faults ≡ other
    alike =
        ⊎_elim
        (λ (h : ltb id s.nextid ≡ true). ⊎_elim
        (λ (k : known_page p ≡ true). ⊎_elim
        (λ (l : known_page fl ≡ true).
        sym (known_all base st id o vmo at len p fl v faults h k l) ∙ tests_alike (half.tested v at len p fl faults) (tests v at len p fl faults)
        ∙ ap (uncut st) (maps.known_all s f id o vmo at len p fl v faults h k l))
        (λ (l : known_page fl ≡ false).
        sym (unknown_flags base st id o vmo at len p fl v faults h k l) ∙ ap (uncut st) (maps.unknown_flags s f id o vmo at len p fl v faults h k l))
        (tell (known_page fl)))
        (λ (k : known_page p ≡ false).
        sym (unknown_permissions base st id o vmo at len p fl v faults h k) ∙ ap (uncut st) (maps.unknown_permissions s f id o vmo at len p fl v faults h k))
        (tell (known_page p)))
        (λ (h : ltb id s.nextid ≡ false).
        sym (never_issued base st id o vmo at len p fl v faults h) ∙ ap (uncut st) (maps.never_issued s f id o vmo at len p fl v faults h))
        (tell (ltb id s.nextid))

  -- what a call that cut something has shown
  pub record Shown (off : ℕ) : Type 0 where
    pub permissions : known_page p ≡ true
    pub flags : known_page fl ≡ true
    pub fine : Fine v at len p fl faults
    pub live : r ≡ 32 → ⊥
    pub asked : o ≡ Some off
    pub offset : off % 4096 ≡ 0
    pub inner : off + len ≤ (region_at s r).size
    pub aligned : ((region_at s r).addr + off) % 4096 ≡ 0
    pub met : test_map s r off len ≡ false
    pub positive : 0 < len
    pub apart : some (partly_at s r ((region_at s r).addr + off) ((region_at s r).addr + off + len)) 0 32 ≡ false
    pub few : len ≤ 0x200000
    pub slot : new_slot s r ((region_at s r).addr + off) ((region_at s r).addr + off + len) < 64
    pub frames : 4 * non_empty (unmap_cuts s r ((region_at s r).addr + off) ((region_at s r).addr + off + len)) ≤ free_frames st

  -- the state that it leaves
  abbrev pub leaves : ℕ → State
  leaves off =
      let b = (region_at s r).addr + off in
      with_new (cut_state base st (marked s r b (b + len)) (unmap_cuts s r b (b + len)) r b (b + len)) (new_slot s r b (b + len)) (mapping s r off vmo at len p) fl

  -- how a call ends: refused, as the other half, or with the mapping after a cut
  pub data Ends : OverwriteDone → Type 0 where
    refuses : (why : Refusal) → Ends (refused st why)
    places : (off : ℕ) → o ≡ Some off → test_map s r off len ≡ true → Ends other
    replaces : (off : ℕ) → Shown off → Ends (record { result = Ok ((region_at s r).addr + off); state = leaves off })

  no_way : (why : Refusal) (out : OverwriteDone) → refused st why ≡ out → Ends out
  no_way why out e = subst Ends e (refuses why)

  -- where something is met
  module _ (off : ℕ) (q : o ≡ Some off) (k : known_page p ≡ true) (l : known_page fl ≡ true) (w : Fine v at len p fl faults) (n : r ≡ 32 → ⊥) (a : multiple off 4096 ≡ true)
      (i : leb (off + len) (region_at s r).size ≡ true) (c : multiple ((region_at s r).addr + off) 4096 ≡ true) (t : test_map s r off len ≡ false) where
    abbrev m : Mapping
    m = mapping s r off vmo at len p

    abbrev b : ℕ
    b = (region_at s r).addr + off

    by_cut : (len ≡ 0 → ⊥) → (d : CutDone) → RangeEnds base st r b (b + len) (is_short len (slot_for s m)) d → Ends (after_cut d.state (slot_for s m) m fl d.result)
    by_cut z d (refusal why) = refuses why
    by_cut z d (cuts u x y) =
        let few = not_short len (slot_for s m) x in
        replaces off (record {
          permissions = k;
          flags = l;
          fine = w;
          live = n;
          asked = q;
          offset = eqb-true _ _ a;
          inner = leb-true _ _ i;
          aligned = eqb-true _ _ c;
          met = t;
          positive = omega arith;
          apart = u;
          few = few.0;
          slot = few.1;
          frames = leb-true _ _ y;
        })

    by_length : Ends (replaced base st m fl)
    by_length =
        ⊎_elim
        (λ (z : len ≡ 0). no_way InvalidArgs _ (empty base st m fl z))
        (λ (z : len ≡ 0 → ⊥).
        subst Ends (some_bytes base st m fl z (slot_for s m) refl (cut_for base st m (slot_for s m)) refl)
        (by_cut z (cut_for base st m (slot_for s m)) (range_ends base st r b (b + len) (is_short len (slot_for s m)))))
        (same? len 0)

  -- at the offset, where something is met
  by_offset_lem : (off : ℕ) → o ≡ Some off → test_map s r off len ≡ false → known_page p ≡ true → known_page fl ≡ true → Fine v at len p fl faults → (r ≡ 32 → ⊥)
      → Ends (at_offset base st r off vmo at len p fl)
  by_offset_lem off q t k l w n =
      ⊎_elim
      (λ (a : multiple off 4096 ≡ true). ⊎_elim
      (λ (i : leb (off + len) (region_at s r).size ≡ true). ⊎_elim
      (λ (c : multiple ((region_at s r).addr + off) 4096 ≡ true).
      subst Ends (something_met base st r off vmo at len p fl t ∙ at_address base st r off vmo at len p fl a i c) (by_length off q k l w n a i c t))
      (λ (c : multiple ((region_at s r).addr + off) 4096 ≡ false). no_way InvalidArgs _ (odd_address base st r off vmo at len p fl a i c))
      (tell (multiple ((region_at s r).addr + off) 4096)))
      (λ (i : leb (off + len) (region_at s r).size ≡ false). no_way InvalidArgs _ (past_region base st r off vmo at len p fl a i))
      (tell (leb (off + len) (region_at s r).size)))
      (λ (a : multiple off 4096 ≡ false). no_way InvalidArgs _ (odd_offset base st r off vmo at len p fl a))
      (tell (multiple off 4096))

  -- the offset that is given, if one is, meets something
  abbrev Meets : Type 0
  Meets = (off : ℕ) → o ≡ Some off → test_map s r off len ≡ false

  by_asked : Meets → known_page p ≡ true → known_page fl ≡ true → Fine v at len p fl faults → (r ≡ 32 → ⊥) → (x : Option ℕ) → o ≡ x → Ends (by_offset base st r vmo at len p fl x)
  by_asked meets k l w n (Some off) q = by_offset_lem off q (meets off q) k l w n
  by_asked meets k l w n None q = refuses InvalidArgs

  by_region : Meets → known_page p ≡ true → known_page fl ≡ true → Fine v at len p fl faults → Ends (in_region base st id o vmo at len p fl)
  by_region meets k l w =
      ⊎_elim
      (λ (z : r ≡ 32). no_way BadState _ (dead base st id o vmo at len p fl r refl z))
      (λ (n : r ≡ 32 → ⊥). subst Ends (alive base st id o vmo at len p fl r refl n) (by_asked meets k l w n o refl))
      (same? r 32)

  by_tests : Meets → known_page p ≡ true → known_page fl ≡ true → (d : Result (Unit {0}) Refusal) → Tests v at len p fl faults d → Ends (after_tests base st id o vmo at len p fl d)
  by_tests meets k l d (fine w) = by_region meets k l w
  by_tests meets k l d (fails why n) = refuses why

  by_all : Meets → Ends (overwritten base st id o vmo v at len p fl faults)
  by_all meets =
      ⊎_elim
      (λ (h : ltb id s.nextid ≡ true). ⊎_elim
      (λ (k : known_page p ≡ true). ⊎_elim
      (λ (l : known_page fl ≡ true).
      subst Ends (known_all base st id o vmo at len p fl v faults h k l) (by_tests meets k l (half.tested v at len p fl faults) (tests v at len p fl faults)))
      (λ (l : known_page fl ≡ false). no_way InvalidArgs _ (unknown_flags base st id o vmo at len p fl v faults h k l))
      (tell (known_page fl)))
      (λ (k : known_page p ≡ false). no_way InvalidArgs _ (unknown_permissions base st id o vmo at len p fl v faults h k))
      (tell (known_page p)))
      (λ (h : ltb id s.nextid ≡ false). no_way BadHandle _ (never_issued base st id o vmo at len p fl v faults h))
      (tell (ltb id s.nextid))

  pub same_offset : {a b : ℕ} → ◌≡◌ {A = (Option ℕ)} (Some a) (Some b) → a ≡ b
  same_offset e = cc

  none_some : {A : Type 0} {a : ℕ} → ◌≡◌ {A = (Option ℕ)} None (Some a) → A
  none_some e = let z : ◌≡◌ {A = ℕ} 0 1 = cc in absurd (omega arith)

  by_any : (x : Option ℕ) → o ≡ x → Ends (overwritten base st id o vmo v at len p fl faults)
  by_any (Some off) q =
      ⊎_elim
      (λ (t : test_map s r off len ≡ true). subst Ends (sym (alike off q t)) (places off q t))
      (λ (t : test_map s r off len ≡ false). by_all (λ a e. subst (λ (y : ℕ). test_map s r y len ≡ false) (same_offset (sym q ∙ e)) t))
      (tell (test_map s r off len))
  by_any None q = by_all (λ a e. none_some (sym q ∙ e))

  pub ends : Ends (overwritten base st id o vmo v at len p fl faults)
  ends = by_any o refl
