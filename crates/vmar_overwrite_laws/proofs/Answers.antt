-- What an overwrite answers: some answer fits, and one that fits is the call's.
use Rattle.std.specs.Prelude.{Result, Ok, Err, Option, Some, None}
use Prim.Native.Nat.{ℕ, ◌+◌, ◌*◌, ◌≤◌, ◌<◌}
use mathlib.Core.Path.{◌≡◌, refl, sym, ◌∙◌, ap, subst}
use mathlib.Core.Bool.{Bool, true, false}
use mathlib.Core.Logic.{◌⊎◌, inl, inr, ⊎_elim}
use native.Mathlib.Omega.{arith}
use lib.Dec.{leb}
use borrow.Author.Tests.{lt-ltb, le-ltb, le-leb, lt-leb, leb-true, eq-eqb, ne_eqb, eqb-true}
use Rattle.paging.proofs.Cases.{same?, below?, clash}
use Rattle.common.specs.Flags.{known_page}
use Rattle.scan.specs.Scan.{some}
use Rattle.scan.proofs.Scans.{tell, first_most}
use Rattle.vm.specs.Align.{multiple}
use Rattle.refusal.specs.declared.Refusal.{Refusal}
use Rattle.refusal.specs.declared.Refusal.TheVariants.{InvalidArgs, NoFrames, NoSlot}
use Rattle.space.specs.Space.{region_at, is_region}
use Rattle.space.specs.Passes.{Passes}
use Rattle.space.specs.declared.Mapping.{Mapping}
use Rattle.space.specs.declared.Space.{Space}
use Rattle.table_cuts.specs.Cuts.{non_empty}
use Rattle.vmar_offset.specs.Offset.{slot_of, is_free_mapping, free_mapping, test_map}
use Rattle.vmar_offset.proofs.Found.{slot_live}
use Rattle.vmar_laws.specs.Search.{FreeIn}
use Rattle.vmar_laws.specs.Answers.{Known, Called, ArgumentsRefused}
use Rattle.vmar_laws.specs.Answers as argument
use Rattle.vmar_laws.proofs.Search.{free_in, free_tests}
use Rattle.vmar_laws.proofs.Answers.{odd_tested, denied_tested, past_tested, fine_tested, unknown_bits, called?}
use Rattle.vmar_cuts.specs.Cuts.{unmap_cuts}
use Rattle.vmar_cuts.proofs.Parts.{overlap_of}
use Rattle.vmar_map.specs.Map.{mapping, tested}
use Rattle.vmar_map.proofs.Maps as maps
use Rattle.vmar_unmap.specs.Unmap.{State, CutDone, free_frames, partly_at}
use Rattle.vmar_unmap.proofs.Calls.{range_partly, range_short, range_frames, range_cut}
use Rattle.vmar_unmap_laws.specs.Unmaps.{Partly}
use Rattle.vmar_unmap_laws.proofs.Tests.{none_dead, some_partly, no_partly, partly_some, partly_none}
use Rattle.vmar_overwrite.specs.Overwrite.{OverwriteDone, refused, is_short, new_slot, after_cut, cut_for, uncut, overlaid, at_offset, by_offset, after_tests, overwritten}
use Rattle.vmar_overwrite.proofs.Calls.{too_long, by_slot, empty, some_bytes, nothing_met, something_met, odd_offset, past_region, odd_address, at_address, dead, alive, never_issued, unknown_permissions, unknown_flags, known_all}
use Rattle.vmar_overwrite_laws.specs.Answers.{Aimed, Cuttable, Fits, RangeAnswers, OverwriteAnswers}
use Rattle.vmar_overwrite_laws.specs.Answers as answer
use Rattle.vmar_overwrite_laws.proofs.Slots.{slot_is, slot_there, free_slot}

-- a free range covers no child in part
free_uncovered : (s : Space) (r b len : ℕ) → FreeIn s r b len → (i : ℕ) → Partly s r b (b + len) i → ⊥
free_uncovered s r b len f i k = clash _ (overlap_of (region_at s i).addr (region_at s i).size b len k.from k.to) (f.children i k.slot k.live k.parent)

-- a mapping that fits is not short of a slot, and one that does not is
module _ (s : Space) (r b len : ℕ) where
  order : b ≤ b + len
  order = omega arith

  fits_not : Fits s r b len → is_short len (new_slot s r b (b + len)) ≡ false
  fits_not w = sym (by_slot len (new_slot s r b (b + len)) w.few) ∙ lt-leb 64 (new_slot s r b (b + len)) (slot_there s r b (b + len) order w.slot.0 w.slot.1)

  -- too long, or no slot is left
  unfit : (Fits s r b len → ⊥) → (0x200000 < len) ⊎ ((len ≤ 0x200000) × (64 ≤ new_slot s r b (b + len)))
  unfit n =
      ⊎_elim
      (λ (l : 0x200000 < len). inl l)
      (λ (l : len ≤ 0x200000). ⊎_elim
      (λ (m : new_slot s r b (b + len) < 64). absurd (n (record { few = l; slot = (new_slot s r b (b + len), slot_is s r b (b + len) order m) })))
      (λ (m : 64 ≤ new_slot s r b (b + len)). inr (l, m))
      (below? (new_slot s r b (b + len)) 64))
      (below? 0x200000 len)

  unfit_short : (Fits s r b len → ⊥) → is_short len (new_slot s r b (b + len)) ≡ true
  unfit_short n =
      ⊎_elim
      (λ (l : 0x200000 < len). sym (too_long len (new_slot s r b (b + len)) l))
      (λ (l : (len ≤ 0x200000) × (64 ≤ new_slot s r b (b + len))). sym (by_slot len (new_slot s r b (b + len)) l.0) ∙ le-leb 64 (new_slot s r b (b + len)) l.1)
      (unfit n)

  fits? : Fits s r b len ⊎ (Fits s r b len → ⊥)
  fits? =
      ⊎_elim
      (λ (l : 0x200000 < len). inr (λ w. let z = w.few in omega arith))
      (λ (l : len ≤ 0x200000). ⊎_elim
      (λ (m : new_slot s r b (b + len) < 64). inl (record { few = l; slot = (new_slot s r b (b + len), slot_is s r b (b + len) order m) }))
      (λ (m : 64 ≤ new_slot s r b (b + len)). inr (λ w. let z = slot_there s r b (b + len) order w.slot.0 w.slot.1 in omega arith))
      (below? (new_slot s r b (b + len)) 64))
      (below? 0x200000 len)

-- at the range
module _ (base : ℕ) (st : State) (passes : Passes st.space st.flags) (r off vmo at len p fl : ℕ) (low : r < 32) (live : is_region st.space r ≡ true)
    (aim : Aimed st.space r off len) where
  abbrev s : Space
  s = st.space

  abbrev b : ℕ
  b = (region_at s r).addr + off

  abbrev m : Mapping
  m = mapping s r off vmo at len p

  abbrev slot : ℕ
  slot = new_slot s r b (b + len)

  abbrev Is : Result ℕ Refusal → Type 0
  Is x = x ≡ (overlaid base st r off vmo at len p fl).result

  is : {d : OverwriteDone} → d ≡ overlaid base st r off vmo at len p fl → Is d.result
  is q = ap (λ (d : OverwriteDone). d.result) q

  met : (FreeIn s r b len → ⊥) → test_map s r off len ≡ false
  met n = ⊎_elim (λ (t : test_map s r off len ≡ true). absurd (n (free_in s r off len t low live))) (λ (t : test_map s r off len ≡ false). t) (tell (test_map s r off len))

  unmet : FreeIn s r b len → test_map s r off len ≡ true
  unmet f = free_tests s r off len f

  -- where something is met, the cut tells
  by_cut : test_map s r off len ≡ false → (len ≡ 0 → ⊥) → (c : CutDone) → c ≡ cut_for base st m slot → Is (after_cut c.state slot m fl c.result).result
  by_cut t z c e = is (some_bytes base st m fl z slot refl c e ∙ something_met base st r off vmo at len p fl t)

  module _ (C : Cuttable s r b len) where
    none : some (partly_at s r b (b + len)) 0 32 ≡ false
    none = partly_none s r b (b + len) (omega arith) C.whole

    positive : test_map s r off len ≡ false → len ≡ 0 → ⊥
    positive t z = clash _ (unmet (C.empty z)) t

    aligned : multiple b 4096 ≡ true
    aligned = eq-eqb _ _ aim.address

    no_slots : (Fits s r b len → ⊥) → Is (Err NoSlot)
    no_slots n =
        ⊎_elim
        (λ (t : test_map s r off len ≡ true).
        let q = free_slot s r b len (free_in s r off len t low live) in
        let most = first_most (is_free_mapping s) 64 in
        ⊎_elim
        (λ (l : 0x200000 < len). is (ap (uncut st) (maps.too_many s st.flags r off vmo at len p fl aligned (lt-ltb _ _ l)) ∙ nothing_met base st r off vmo at len p fl t))
        (λ (l : (len ≤ 0x200000) × (64 ≤ slot)).
        let l1 = l.1 in
        is (ap (uncut st) (maps.no_slot s st.flags r off vmo at len p fl aligned (le-ltb _ _ l.0) (eq-eqb (free_mapping s) 64 (omega arith)))
        ∙ nothing_met base st r off vmo at len p fl t))
        (unfit s r b len n))
        (λ (t : test_map s r off len ≡ false). by_cut t (positive t) _ (range_short base st r b (b + len) (is_short len slot) none (none_dead passes) (unfit_short s r b len n)))
        (tell (test_map s r off len))

    module _ (F : Fits s r b len) where
      no_frames : (FreeIn s r b len → ⊥) → free_frames st < 4 * non_empty (unmap_cuts s r b (b + len)) → Is (Err NoFrames)
      no_frames n l =
          by_cut (met n) (positive (met n)) _ (range_frames base st r b (b + len) (is_short len slot) none (none_dead passes) (fits_not s r b len F) (lt-leb _ _ l))

      placed : test_map s r off len ≡ true → Is (Ok b)
      placed t =
          let q = free_slot s r b len (free_in s r off len t low live) in
          let l = slot_there s r b (b + len) (omega arith) F.slot.0 F.slot.1 in
          is (ap (uncut st) (maps.made s st.flags r off vmo at len p fl aligned (le-ltb _ _ F.few) (free_mapping s) _ _ refl (ne_eqb (free_mapping s) 64 (λ z. omega arith)) refl refl)
          ∙ nothing_met base st r off vmo at len p fl t)

      cut_out : 4 * non_empty (unmap_cuts s r b (b + len)) ≤ free_frames st → test_map s r off len ≡ false → Is (Ok b)
      cut_out l t = by_cut t (positive t) _ (range_cut base st r b (b + len) (is_short len slot) none (none_dead passes) (fits_not s r b len F) (le-leb _ _ l))

  range_only : (x : Result ℕ Refusal) → RangeAnswers st r b len x → Is x
  range_only x (answer.empty z n) = is (empty base st m fl z ∙ something_met base st r off vmo at len p fl (met n))
  range_only x (answer.partly z i k) =
      by_cut (met (λ f. free_uncovered s r b len f i k)) (λ q. omega arith) _
      (range_partly base st r b (b + len) (is_short len slot) (partly_some s r b (b + len) (omega arith) i k))
  range_only x (answer.slots C n) = no_slots C n
  range_only x (answer.frames C F n l) = no_frames C F n l
  range_only x (answer.done C F (inl f)) = placed C F (unmet f)
  range_only x (answer.done C F (inr l)) =
      ⊎_elim (λ (t : test_map s r off len ≡ true). placed C F t) (λ (t : test_map s r off len ≡ false). cut_out C F l t) (tell (test_map s r off len))

  -- some answer fits
  abbrev Fit : Type 0
  Fit = (x : Result ℕ Refusal) × RangeAnswers st r b len x

  range_free : FreeIn s r b len → Fit
  range_free f =
      let C : Cuttable s r b len = record { whole = free_uncovered s r b len f; empty = λ z. f } in
      ⊎_elim
      (λ (F : Fits s r b len). (Ok b, answer.done C F (inl f)))
      (λ (n : Fits s r b len → ⊥). (Err NoSlot, answer.slots C n))
      (fits? s r b len)

  range_met : (FreeIn s r b len → ⊥) → (len ≡ 0 → ⊥) → ((i : ℕ) → Partly s r b (b + len) i → ⊥) → Fit
  range_met n z whole =
      let C : Cuttable s r b len = record { whole = whole; empty = λ q. absurd (z q) } in
      ⊎_elim
      (λ (F : Fits s r b len). ⊎_elim
      (λ (l : free_frames st < 4 * non_empty (unmap_cuts s r b (b + len))). (Err NoFrames, answer.frames C F n l))
      (λ (l : 4 * non_empty (unmap_cuts s r b (b + len)) ≤ free_frames st). (Ok b, answer.done C F (inr l)))
      (below? (free_frames st) (4 * non_empty (unmap_cuts s r b (b + len)))))
      (λ (k : Fits s r b len → ⊥). (Err NoSlot, answer.slots C k))
      (fits? s r b len)

  range_some : Fit
  range_some =
      ⊎_elim
      (λ (t : test_map s r off len ≡ true). range_free (free_in s r off len t low live))
      (λ (t : test_map s r off len ≡ false).
      let n : (FreeIn s r b len → ⊥) = λ f. clash _ (unmet f) t in
      ⊎_elim
      (λ (z : len ≡ 0). (Err InvalidArgs, answer.empty z n))
      (λ (z : len ≡ 0 → ⊥). ⊎_elim
      (λ (k : some (partly_at s r b (b + len)) 0 32 ≡ true).
      let w = some_partly s r b (b + len) (omega arith) k in
      (Err InvalidArgs, answer.partly (omega arith) w.0 w.1))
      (λ (k : some (partly_at s r b (b + len)) 0 32 ≡ false). range_met n z (no_partly s r b (b + len) (omega arith) k))
      (tell (some (partly_at s r b (b + len)) 0 32)))
      (same? len 0))
      (tell (test_map s r off len))

-- the whole call
module _ (base : ℕ) (st : State) (passes : Passes st.space st.flags) (id : ℕ) (o : Option ℕ) (vmo v at len p fl : ℕ) (faults : Bool) where
  abbrev q : ℕ
  q = slot_of st.space id

  abbrev All : Result ℕ Refusal → Type 0
  All x = OverwriteAnswers st id o v at len p fl faults x

  abbrev Call : OverwriteDone
  Call = overwritten base st id o vmo v at len p fl faults

  result_is : {d : OverwriteDone} → d ≡ Call → d.result ≡ Call.result
  result_is e = ap (λ (d : OverwriteDone). d.result) e

  -- a test of the arguments holds, or this is what follows
  abbrev Else : Type 0 → Type 0 → Type 0
  Else P Q = P ⊎ ((P → ⊥) × Q)

  otherwise : {P Q : Type 0} → Else P Q → (P → ⊥) → Q
  otherwise (inl x) n = absurd (n x)
  otherwise (inr x) n = x.1

  aimed? : (off : ℕ) → Else (Aimed st.space q off len) (refused st InvalidArgs ≡ at_offset base st q off vmo at len p fl)
  aimed? off =
      ⊎_elim
      (λ (x : multiple off 4096 ≡ true). ⊎_elim
      (λ (y : leb (off + len) (region_at st.space q).size ≡ true). ⊎_elim
      (λ (z : multiple ((region_at st.space q).addr + off) 4096 ≡ true). inl (record { offset = eqb-true _ _ x; inner = leb-true _ _ y; address = eqb-true _ _ z }))
      (λ (z : multiple ((region_at st.space q).addr + off) 4096 ≡ false). inr (λ w. clash _ (eq-eqb _ _ w.address) z, odd_address base st q off vmo at len p fl x y z))
      (tell (multiple ((region_at st.space q).addr + off) 4096)))
      (λ (y : leb (off + len) (region_at st.space q).size ≡ false). inr (λ w. clash _ (le-leb _ _ w.inner) y, past_region base st q off vmo at len p fl x y))
      (tell (leb (off + len) (region_at st.space q).size)))
      (λ (x : multiple off 4096 ≡ false). inr (λ w. clash _ (eq-eqb _ _ w.offset) x, odd_offset base st q off vmo at len p fl x))
      (tell (multiple off 4096))

  -- from the tests on
  by_tests : id < st.space.nextid → Known p fl → {d : (Result (Unit {0}) Refusal)} → d ≡ tested v at len p fl faults → after_tests base st id o vmo at len p fl d ≡ Call
  by_tests h k e = ap (after_tests base st id o vmo at len p fl) e ∙ known_all base st id o vmo at len p fl v faults (lt-ltb _ _ h) k.0 k.1

  refused_only : (why : Refusal) → ArgumentsRefused st.space id v at len p fl faults why → refused st why ≡ Call
  refused_only why (argument.unissued h) = never_issued base st id o vmo at len p fl v faults (le-ltb _ _ h)
  refused_only why (argument.unknown h n) =
      ⊎_elim
      (λ (k : known_page p ≡ false). unknown_permissions base st id o vmo at len p fl v faults (lt-ltb _ _ h) k)
      (λ (k : (known_page p ≡ true) × (known_page fl ≡ false)). unknown_flags base st id o vmo at len p fl v faults (lt-ltb _ _ h) k.0 k.1)
      (unknown_bits v at len p fl faults n)
  refused_only why (argument.odd h k n) = by_tests h k (odd_tested v at len p fl faults n)
  refused_only why (argument.denied h k w d) = by_tests h k (denied_tested v at len p fl faults w d)
  refused_only why (argument.past h k w d e l) = by_tests h k (past_tested v at len p fl faults w d e l)
  refused_only why (argument.dead h k w z) = dead base st id o vmo at len p fl q refl z ∙ by_tests h k (fine_tested v at len p fl faults w)

  -- in a region that lives
  module _ (A : Called st.space id v at len p fl faults) where
    to_offset : by_offset base st q vmo at len p fl o ≡ Call
    to_offset = let l = A.live in alive base st id o vmo at len p fl q refl (λ z. omega arith) ∙ by_tests A.issued A.known (fine_tested v at len p fl faults A.fine)

    to_place : {x : (Option ℕ)} → o ≡ x → by_offset base st q vmo at len p fl x ≡ Call
    to_place e = ap (by_offset base st q vmo at len p fl) (sym e) ∙ to_offset

    to_range : (off : ℕ) → o ≡ Some off → Aimed st.space q off len → overlaid base st q off vmo at len p fl ≡ Call
    to_range off e w = at_address base st q off vmo at len p fl (eq-eqb _ _ w.offset) (le-leb _ _ w.inner) (eq-eqb _ _ w.address) ∙ to_place e

    home : is_region st.space q ≡ true
    home = let l = A.live in (slot_live st.space id (λ z. omega arith)).1

  -- no second answer fits
  pub only : (x : Result ℕ Refusal) → All x → x ≡ Call.result
  only x (answer.arguments why k) = result_is (refused_only why k)
  only x (answer.unasked A e) = result_is (to_place A e)
  only x (answer.outside A off e n) = result_is (otherwise (aimed? off) n ∙ to_place A e)
  only x (answer.range A off e w y k) = range_only base st passes q off vmo at len p fl A.live (home A) w y k ∙ result_is (to_range A off e w)

  -- one does
  abbrev Fitting : Type 0
  Fitting = (x : Result ℕ Refusal) × All x

  some_offset : Called st.space id v at len p fl faults → (x : Option ℕ) → o ≡ x → Fitting
  some_offset A None e = (Err InvalidArgs, answer.unasked A e)
  some_offset A (Some off) e =
      ⊎_elim
      (λ (w : Aimed st.space q off len).
      let k = range_some base st passes q off vmo at len p fl A.live (home A) w in
      (k.0, answer.range A off e w k.0 k.1))
      (λ n. (Err InvalidArgs, answer.outside A off e n.0))
      (aimed? off)

  some_answer : Fitting
  some_answer =
      ⊎_elim
      (λ (A : Called st.space id v at len p fl faults). some_offset A o refl)
      (λ (k : (why : Refusal) × ArgumentsRefused st.space id v at len p fl faults why). (Err k.0, answer.arguments k.0 k.1))
      (called? v at len p fl faults st.space id)

  pub answers : All Call.result
  answers = subst All (only some_answer.0 some_answer.1) some_answer.1
