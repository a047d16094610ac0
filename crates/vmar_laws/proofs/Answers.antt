-- What `allocate` and `map` answer: some answer fits, and one that fits is the call's.
use Rattle.std.specs.Prelude.{Option, Some, None, Result, Ok, Err}
use Prim.Native.Nat.{ℕ, ◌+◌, ◌-◌, ◌%◌, ◌^◌, ◌≤◌, ◌<◌}
use mathlib.Core.Path.{◌≡◌, refl, ◌∙◌, ap, subst}
use mathlib.Core.Bool.{Bool, true, false, not}
use mathlib.Core.List.{List}
use mathlib.Core.Logic.{◌⊎◌, inl, inr, ⊎_elim}
use native.Mathlib.Omega.{arith}
use lib.Dec.{leb}
use borrow.Author.Tests.{lt-ltb, le-ltb, le-leb, lt-leb, eq-eqb, ne_eqb, eqb-true, not-true, not-false}
use Rattle.paging.proofs.Cases.{same?, below?, clash}
use Rattle.common.specs.Flags.{known_region, known_page, grants, rights}
use Rattle.scan.specs.Scan.{first}
use Rattle.scan.proofs.Scans.{tell, first_passes, first_most, before_first}
use Rattle.vm.specs.Align.{multiple}
use Rattle.refusal.specs.declared.Refusal.{Refusal}
use Rattle.refusal.specs.declared.Refusal.TheVariants.{InvalidArgs, AccessDenied, NoMemory, BadState, NoSlot, BadHandle}
use Rattle.space.specs.Space.{region_at, is_region, is_mapping}
use Rattle.space.specs.declared.Space.{Space}
use Rattle.space.proofs.Ranges.{sum_fits, sum_over}
use Rattle.vmar_offset.specs.Offset.{slot_of, free_region, free_mapping, test_map, determine_offset}
use Rattle.vmar_offset.proofs.Offsets.{odd_length, asked_odd, asked_full, asked_free, too_large, searched}
use Rattle.vmar_offset.proofs.Found.{slot_live}
use Rattle.vmar_allocate.specs.Allocate.{placed, settled, allocated}
use Rattle.vmar_allocate.specs.Allocate.{Allocation}
use Rattle.vmar_allocate.proofs.Allocates as allocates
use Rattle.vmar_map.specs.Map as map
use Rattle.vmar_map.specs.Map.{MapDone, tested, after_tests, mapped}
use Rattle.vmar_map.proofs.Maps as maps
use Rattle.vmar_laws.specs.Search.{FirstFit, NoFit}
use Rattle.vmar_laws.specs.Answers.{Goes, OffsetAnswers, ChildAnswers, Asked, AllocateAnswers, Known, VmoPages, Fine, Called, ArgumentsRefused, MappingAnswers, MapAnswers}
use Rattle.vmar_laws.specs.Answers as answer
use Rattle.vmar_laws.proofs.Search.{free_in, free_tests, fit_found, none_found, fits?}

-- the lowest free slot of n: there is none, or one
module _ (live : ℕ → Bool) (n : ℕ) where
  abbrev lowest : ℕ
  lowest = first (λ (i : ℕ). not (live i)) 0 n

  lowest_free : lowest < n → live lowest ≡ false
  lowest_free l = not-true (live lowest) (first_passes (λ (i : ℕ). not (live i)) n l)

  all_full : ((i : ℕ) → i < n → live i ≡ true) → lowest ≡ n
  all_full f =
      let most = first_most (λ (i : ℕ). not (live i)) n in
      ⊎_elim (λ (l : lowest < n). clash (live lowest) (f lowest l) (lowest_free l)) (λ (l : n ≤ lowest). omega arith) (below? lowest n)

  not_full : (i : ℕ) → i < n → live i ≡ false → lowest ≡ n → ⊥
  not_full i l f e = clash (live i) (not-false (live i) (before_first (λ (j : ℕ). not (live j)) n i (omega arith))) f

  free? : ((i : ℕ) × (i < n) × (live i ≡ false)) ⊎ ((i : ℕ) → i < n → live i ≡ true)
  free? =
      ⊎_elim
      (λ (l : lowest < n). inl (lowest, l, lowest_free l))
      (λ (l : n ≤ lowest). inr (λ i h. not-false (live i) (before_first (λ (j : ℕ). not (live j)) n i (omega arith))))
      (below? lowest n)

-- the offset
module _ (s : Space) (r : ℕ) (o : Option ℕ) (len align : ℕ) where
  pub offset_only : (d : Result ℕ Refusal) → r < 32 → is_region s r ≡ true → OffsetAnswers s r o len align d → d ≡ determine_offset s r o len align
  offset_only d low live (answer.odd m) = odd_length s r len align o m
  offset_only d low live (answer.full m off e n) =
      ⊎_elim
      (λ (a : multiple off align ≡ true). asked_full s r len align o m off e a (⊎_elim
      (λ (t : test_map s r off len ≡ true). absurd (n (record { aligned = a; free = free_in s r off len t low live })))
      (λ (t : test_map s r off len ≡ false). t)
      (tell (test_map s r off len))))
      (λ (a : multiple off align ≡ false). asked_odd s r len align o m off e a)
      (tell (multiple off align))
  offset_only d low live (answer.asked m off e g) = asked_free s r len align o m off e g.aligned (free_tests s r off len g.free)
  offset_only d low live (answer.large m e l) = too_large s r len align o m e (lt-ltb _ _ l)
  offset_only d low live (answer.nowhere m e l n) = none_found s r len align n ∙ searched s r len align o m e (le-ltb _ _ l)
  offset_only d low live (answer.first m e l off f) = fit_found s r len align off f ∙ searched s r len align o m e (le-ltb _ _ l)

  goes? : (off : ℕ) → r < 32 → is_region s r ≡ true → Goes s r len align off ⊎ (Goes s r len align off → ⊥)
  goes? off low live =
      ⊎_elim
      (λ (a : multiple off align ≡ true). ⊎_elim
      (λ (t : test_map s r off len ≡ true). inl (record { aligned = a; free = free_in s r off len t low live }))
      (λ (t : test_map s r off len ≡ false). inr (λ g. clash (test_map s r off len) (free_tests s r off len g.free) t))
      (tell (test_map s r off len)))
      (λ (a : multiple off align ≡ false). inr (λ g. clash (multiple off align) g.aligned a))
      (tell (multiple off align))

  abbrev SomeOffset : Type 0
  SomeOffset = (d : Result ℕ Refusal) × OffsetAnswers s r o len align d

  some_asked : r < 32 → is_region s r ≡ true → multiple len align ≡ true → (x : Option ℕ) → o ≡ x → SomeOffset
  some_asked low live m None e =
      ⊎_elim
      (λ (l : (region_at s r).size < len). (Err InvalidArgs, answer.large m e l))
      (λ (l : len ≤ (region_at s r).size). ⊎_elim
      (λ (f : (off : ℕ) × FirstFit s r len align off). (Ok f.0, answer.first m e l f.0 f.1))
      (λ (n : NoFit s r len align). (Err NoMemory, answer.nowhere m e l n))
      (fits? s r len align))
      (below? (region_at s r).size len)
  some_asked low live m (Some off) e =
      ⊎_elim
      (λ (g : Goes s r len align off). (Ok off, answer.asked m off e g))
      (λ (n : Goes s r len align off → ⊥). (Err InvalidArgs, answer.full m off e n))
      (goes? off low live)

  pub some_offset : r < 32 → is_region s r ≡ true → SomeOffset
  some_offset low live =
      ⊎_elim
      (λ (m : multiple len align ≡ true). some_asked low live m o refl)
      (λ (m : multiple len align ≡ false). (Err InvalidArgs, answer.odd m))
      (tell (multiple len align))

-- the region of an id lives
home : (s : Space) (id : ℕ) → slot_of s id < 32 → is_region s (slot_of s id) ≡ true
home s id l = (slot_live s id (λ z. omega arith)).1

-- `allocate`
module _ (s : Space) (id : ℕ) (o : Option ℕ) (len flags align : ℕ) where
  abbrev r : ℕ
  r = slot_of s id

  abbrev Call : Allocation
  Call = allocated s id o len flags align

  result_is : {d e : Allocation} → d ≡ e → d.result ≡ e.result
  result_is e = ap (λ (d : Allocation). d.result) e

  to_offset : Asked s id flags → (d : Result ℕ Refusal) → OffsetAnswers s r o len align d → settled s r len flags d ≡ Call
  to_offset A d k =
      let l = A.live in
      ap (settled s r len flags) (offset_only s r o len align d l (home s id l) k)
      ∙ allocates.alive s id o len flags align (lt-ltb _ _ A.issued) A.known (slot_of s id) refl (ne_eqb r 32 (λ z. omega arith))

  child_only : (off : ℕ) (x : Result ℕ Refusal) → ChildAnswers s x → x ≡ (placed s r off len flags).result
  child_only off x (answer.slots f) = result_is (allocates.no_slot s r off len flags (eq-eqb (free_region s) 32 (all_full (is_region s) 32 f)))
  child_only off x (answer.ids l) =
      ⊎_elim
      (λ (e : free_region s ≡ 32). result_is (allocates.no_slot s r off len flags (eq-eqb (free_region s) 32 e)))
      (λ (e : free_region s ≡ 32 → ⊥). result_is (allocates.no_id s r off len flags (ne_eqb (free_region s) 32 e) (le-ltb _ _ l)))
      (same? (free_region s) 32)
  child_only off x (answer.done i h f l) =
      result_is (allocates.made s r off len flags (free_region s) refl (ne_eqb (free_region s) 32 (not_full (is_region s) 32 i h f)) (lt-ltb _ _ l))

  pub allocate_only : (x : Result ℕ Refusal) → AllocateAnswers s id o len flags align x → x ≡ Call.result
  allocate_only x (answer.unissued h) = result_is (allocates.never_issued s id o len flags align (le-ltb _ _ h))
  allocate_only x (answer.unknown h k) = result_is (allocates.unknown s id o len flags align (lt-ltb _ _ h) k)
  allocate_only x (answer.dead h k z) = result_is (allocates.dead s id o len flags align (lt-ltb _ _ h) k (eq-eqb r 32 z))
  allocate_only x (answer.refused A why k) = result_is (to_offset A (Err why) k)
  allocate_only x (answer.child A off k y c) = child_only off y c ∙ result_is (to_offset A (Ok off) k)

  some_child : (x : Result ℕ Refusal) × ChildAnswers s x
  some_child =
      ⊎_elim
      (λ (f : (i : ℕ) × (i < 32) × (is_region s i ≡ false)). ⊎_elim
      (λ (l : s.nextid < 2 ^ 32 - 1). (Ok s.nextid, answer.done f.0 f.1 f.2 l))
      (λ (l : 2 ^ 32 - 1 ≤ s.nextid). (Err NoSlot, answer.ids l))
      (below? s.nextid (2 ^ 32 - 1)))
      (λ f. (Err NoSlot, answer.slots f))
      (free? (is_region s) 32)

  abbrev SomeAllocate : Type 0
  SomeAllocate = (x : Result ℕ Refusal) × AllocateAnswers s id o len flags align x

  at_offset : Asked s id flags → (d : Result ℕ Refusal) → OffsetAnswers s r o len align d → SomeAllocate
  at_offset A (Ok off) k = (some_child.0, answer.child A off k some_child.0 some_child.1)
  at_offset A (Err why) k = (Err why, answer.refused A why k)

  some_allocate : SomeAllocate
  some_allocate =
      ⊎_elim
      (λ (h : id < s.nextid). ⊎_elim
      (λ (k : known_region flags ≡ true). ⊎_elim
      (λ (z : r ≡ 32). (Err BadState, answer.dead h k z))
      (λ (z : r ≡ 32 → ⊥).
      let l = slot_live s id z in
      let d = some_offset s r o len align l.0 l.1 in
      at_offset (record { issued = h; known = k; live = l.0 }) d.0 d.1)
      (same? r 32))
      (λ (k : known_region flags ≡ false). (Err InvalidArgs, answer.unknown h k))
      (tell (known_region flags)))
      (λ (h : s.nextid ≤ id). (Err BadHandle, answer.unissued h))
      (below? id s.nextid)

  pub allocate_answers : AllocateAnswers s id o len flags align Call.result
  allocate_answers = subst (AllocateAnswers s id o len flags align) (allocate_only some_allocate.0 some_allocate.1) some_allocate.1

-- what the first tests of `map_ext` say
module _ (v at len p fl : ℕ) (faults : Bool) where
  pages? : VmoPages at len ⊎ ((VmoPages at len → ⊥) × (Err InvalidArgs ≡ tested v at len p fl faults))
  pages? =
      ⊎_elim
      (λ (a : multiple at 4096 ≡ true). ⊎_elim
      (λ (b : multiple len 4096 ≡ true). ⊎_elim
      (λ (c : leb (at + len) 0xffff_ffff_ffff_ffff ≡ true). inl (record { offset = eqb-true _ _ a; size = eqb-true _ _ b; end = sum_fits at len c }))
      (λ (c : leb (at + len) 0xffff_ffff_ffff_ffff ≡ false). inr (λ w. sum_over at len c w.end, maps.over v at len p fl faults a b c))
      (tell (leb (at + len) 0xffff_ffff_ffff_ffff)))
      (λ (b : multiple len 4096 ≡ false). inr (λ w. clash _ (eq-eqb _ _ w.size) b, maps.odd_length v at len p fl faults a b))
      (tell (multiple len 4096)))
      (λ (a : multiple at 4096 ≡ false). inr (λ w. clash _ (eq-eqb _ _ w.offset) a, maps.odd_offset v at len p fl faults a))
      (tell (multiple at 4096))

  pub odd_tested : (VmoPages at len → ⊥) → Err InvalidArgs ≡ tested v at len p fl faults
  odd_tested n = ⊎_elim (λ (w : VmoPages at len). absurd (n w)) (λ k. k.1) pages?

  module _ (w : VmoPages at len) where
    whole_at : multiple at 4096 ≡ true
    whole_at = eq-eqb _ _ w.offset

    whole_len : multiple len 4096 ≡ true
    whole_len = eq-eqb _ _ w.size

    in_time : leb (at + len) 0xffff_ffff_ffff_ffff ≡ true
    in_time = let z = w.end in le-leb (at + len) 0xffff_ffff_ffff_ffff (omega arith)

    pub denied_tested : grants p (rights fl) ≡ false → Err AccessDenied ≡ tested v at len p fl faults
    denied_tested d = maps.denied v at len p fl faults whole_at whole_len in_time d

    pub past_tested : grants p (rights fl) ≡ true → faults ≡ false → v < at + len → Err InvalidArgs ≡ tested v at len p fl faults
    past_tested d e l = maps.past_vmo v at len p fl faults whole_at whole_len in_time d e (lt-leb _ _ l)

    within_tested : grants p (rights fl) ≡ true → (faults ≡ false → at + len ≤ v) → Ok tt ≡ tested v at len p fl faults
    within_tested d l =
        ⊎_elim
        (λ (e : faults ≡ true). maps.faulting v at len p fl faults whole_at whole_len in_time d e)
        (λ (e : faults ≡ false). maps.in_vmo v at len p fl faults whole_at whole_len in_time d e (le-leb _ _ (l e)))
        (tell faults)

  pub fine_tested : Fine v at len p fl faults → Ok tt ≡ tested v at len p fl faults
  fine_tested w = within_tested w.pages w.granted w.within

  -- which bits are unknown
  pub unknown_bits : (Known p fl → ⊥) → (known_page p ≡ false) ⊎ ((known_page p ≡ true) × (known_page fl ≡ false))
  unknown_bits n =
      ⊎_elim
      (λ (k : known_page p ≡ true). ⊎_elim (λ (l : known_page fl ≡ true). absurd (n (k, l))) (λ (l : known_page fl ≡ false). inr (k, l)) (tell (known_page fl)))
      (λ (k : known_page p ≡ false). inl k)
      (tell (known_page p))

  known? : Known p fl ⊎ (Known p fl → ⊥)
  known? =
      ⊎_elim
      (λ (k : known_page p ≡ true). ⊎_elim (λ (l : known_page fl ≡ true). inl (k, l)) (λ (l : known_page fl ≡ false). inr (λ w. clash _ w.1 l)) (tell (known_page fl)))
      (λ (k : known_page p ≡ false). inr (λ w. clash _ w.0 k))
      (tell (known_page p))

  -- the arguments pass, or are refused
  module _ (s : Space) (id : ℕ) where
    abbrev Tried : Type 0
    Tried = Called s id v at len p fl faults ⊎ ((why : Refusal) × ArgumentsRefused s id v at len p fl faults why)

    live? : id < s.nextid → Known p fl → Fine v at len p fl faults → Tried
    live? h k w =
        ⊎_elim
        (λ (z : slot_of s id ≡ 32). inr (BadState, answer.dead h k w z))
        (λ (z : slot_of s id ≡ 32 → ⊥). inl (record { issued = h; known = k; fine = w; live = (slot_live s id z).0 }))
        (same? (slot_of s id) 32)

    fine? : id < s.nextid → Known p fl → VmoPages at len → Tried
    fine? h k w =
        ⊎_elim
        (λ (d : grants p (rights fl) ≡ true). ⊎_elim
        (λ (l : v < at + len). ⊎_elim
        (λ (e : faults ≡ true). live? h k (record { pages = w; granted = d; within = λ f. clash faults e f }))
        (λ (e : faults ≡ false). inr (InvalidArgs, answer.past h k w d e l))
        (tell faults))
        (λ (l : at + len ≤ v). live? h k (record { pages = w; granted = d; within = λ f. l }))
        (below? v (at + len)))
        (λ (d : grants p (rights fl) ≡ false). inr (AccessDenied, answer.denied h k w d))
        (tell (grants p (rights fl)))

    pub called? : Tried
    called? =
        ⊎_elim
        (λ (h : id < s.nextid). ⊎_elim
        (λ (k : Known p fl). ⊎_elim (λ (w : VmoPages at len). fine? h k w) (λ n. inr (InvalidArgs, answer.odd h k n.0)) pages?)
        (λ (n : Known p fl → ⊥). inr (InvalidArgs, answer.unknown h n))
        known?)
        (λ (h : s.nextid ≤ id). inr (BadHandle, answer.unissued h))
        (below? id s.nextid)

-- `map`
module _ (s : Space) (f : List ℕ) (id : ℕ) (o : Option ℕ) (vmo v at len p fl : ℕ) (faults : Bool) where
  abbrev q : ℕ
  q = slot_of s id

  abbrev Map : MapDone
  Map = mapped s f id o vmo v at len p fl faults

  map_is : {d e : MapDone} → d ≡ e → d.result ≡ e.result
  map_is e = ap (λ (d : MapDone). d.result) e

  by_tests : id < s.nextid → Known p fl → {d : Result (Unit {0}) Refusal} → d ≡ tested v at len p fl faults → after_tests s f id o vmo at len p fl d ≡ Map
  by_tests h k e = ap (after_tests s f id o vmo at len p fl) e ∙ maps.known_all s f id o vmo at len p fl v faults (lt-ltb _ _ h) k.0 k.1

  refused_only : (why : Refusal) → ArgumentsRefused s id v at len p fl faults why → map.refused s f why ≡ Map
  refused_only why (answer.unissued h) = maps.never_issued s f id o vmo at len p fl v faults (le-ltb _ _ h)
  refused_only why (answer.unknown h n) =
      ⊎_elim
      (λ (k : known_page p ≡ false). maps.unknown_permissions s f id o vmo at len p fl v faults (lt-ltb _ _ h) k)
      (λ (k : (known_page p ≡ true) × (known_page fl ≡ false)). maps.unknown_flags s f id o vmo at len p fl v faults (lt-ltb _ _ h) k.0 k.1)
      (unknown_bits v at len p fl faults n)
  refused_only why (answer.odd h k n) = by_tests h k (odd_tested v at len p fl faults n)
  refused_only why (answer.denied h k w d) = by_tests h k (denied_tested v at len p fl faults w d)
  refused_only why (answer.past h k w d e l) = by_tests h k (past_tested v at len p fl faults w d e l)
  refused_only why (answer.dead h k w z) = maps.dead s f id o vmo at len p fl (eq-eqb q 32 z) ∙ by_tests h k (fine_tested v at len p fl faults w)

  mapping_offset : Called s id v at len p fl faults → (d : Result ℕ Refusal) → OffsetAnswers s q o len 4096 d → map.settled s f q vmo at len p fl d ≡ Map
  mapping_offset A d k =
      let l = A.live in
      ap (map.settled s f q vmo at len p fl) (offset_only s q o len 4096 d l (home s id l) k)
      ∙ maps.alive s f id o vmo at len p fl (slot_of s id) refl (ne_eqb q 32 (λ z. omega arith))
      ∙ by_tests A.issued A.known (fine_tested v at len p fl faults A.fine)

  module _ (off : ℕ) where
    abbrev addr : ℕ
    addr = (region_at s q).addr + off

    mapping_only : (x : Result ℕ Refusal) → MappingAnswers s addr len x → x ≡ (map.placed s f q off vmo at len p fl).result
    mapping_only x (answer.unaligned n) = map_is (maps.unaligned s f q off vmo at len p fl (ne_eqb _ _ n))
    mapping_only x (answer.long a l) = map_is (maps.too_many s f q off vmo at len p fl (eq-eqb _ _ a) (lt-ltb _ _ l))
    mapping_only x (answer.slots a g) =
        ⊎_elim
        (λ (l : 0x200000 < len). map_is (maps.too_many s f q off vmo at len p fl (eq-eqb _ _ a) (lt-ltb _ _ l)))
        (λ (l : len ≤ 0x200000). map_is (maps.no_slot s f q off vmo at len p fl (eq-eqb _ _ a) (le-ltb _ _ l) (eq-eqb (free_mapping s) 64 (all_full (is_mapping s) 64 g))))
        (below? 0x200000 len)
    mapping_only x (answer.done a l i h g) =
        map_is (maps.made s f q off vmo at len p fl (eq-eqb _ _ a) (le-ltb _ _ l) (free_mapping s) _ _ refl (ne_eqb (free_mapping s) 64 (not_full (is_mapping s) 64 i h g)) refl refl)

    some_mapping : (x : Result ℕ Refusal) × MappingAnswers s addr len x
    some_mapping =
        ⊎_elim
        (λ (a : addr % 4096 ≡ 0). ⊎_elim
        (λ (l : 0x200000 < len). (Err NoSlot, answer.long a l))
        (λ (l : len ≤ 0x200000). ⊎_elim
        (λ (g : (i : ℕ) × (i < 64) × (is_mapping s i ≡ false)). (Ok addr, answer.done a l g.0 g.1 g.2))
        (λ g. (Err NoSlot, answer.slots a g))
        (free? (is_mapping s) 64))
        (below? 0x200000 len))
        (λ (a : addr % 4096 ≡ 0 → ⊥). (Err InvalidArgs, answer.unaligned a))
        (same? (addr % 4096) 0)

  pub map_only : (x : Result ℕ Refusal) → MapAnswers s id o v at len p fl faults x → x ≡ Map.result
  map_only x (answer.arguments why k) = map_is (refused_only why k)
  map_only x (answer.refused A why k) = map_is (mapping_offset A (Err why) k)
  map_only x (answer.mapping A off k y c) = mapping_only off y c ∙ map_is (mapping_offset A (Ok off) k)

  abbrev SomeMap : Type 0
  SomeMap = (x : Result ℕ Refusal) × MapAnswers s id o v at len p fl faults x

  at_address : Called s id v at len p fl faults → (d : Result ℕ Refusal) → OffsetAnswers s q o len 4096 d → SomeMap
  at_address A (Ok off) k = let m = some_mapping off in (m.0, answer.mapping A off k m.0 m.1)
  at_address A (Err why) k = (Err why, answer.refused A why k)

  some_map : SomeMap
  some_map =
      ⊎_elim
      (λ (A : Called s id v at len p fl faults).
      let l = A.live in
      let d = some_offset s q o len 4096 l (home s id l) in
      at_address A d.0 d.1)
      (λ (k : (why : Refusal) × ArgumentsRefused s id v at len p fl faults why). (Err k.0, answer.arguments k.0 k.1))
      (called? v at len p fl faults s id)

  pub map_answers : MapAnswers s id o v at len p fl faults Map.result
  map_answers = subst (MapAnswers s id o v at len p fl faults) (map_only some_map.0 some_map.1) some_map.1
