-- What `protect` answers: some answer fits, and one that fits is the call's.
use Rattle.std.specs.Prelude.{Result, Ok, Err}
use Rattle.refusal.specs.declared.Refusal.{Refusal}
use Prim.Native.Nat.{ℕ, zero, suc, ◌+◌, ◌%◌, ◌^◌, ◌≤◌, ◌<◌}
use mathlib.Core.Path.{◌≡◌, refl, sym, ◌∙◌, ap, subst}
use mathlib.Core.Bool.{Bool, true, false, not}
use mathlib.Core.List.{List}
use mathlib.Core.Logic.{◌⊎◌, inl, inr, ⊎_elim}
use native.Mathlib.Omega.{arith}
use lib.Dec.{eqb}
use borrow.Author.Tests.{lt-ltb, le-ltb, le-leb, lt-leb, eqb-true, eq-eqb, ne_eqb, not-true}
use Rattle.paging.proofs.Cases.{same?, below?, clash}
use Rattle.common.specs.Flags.{known_page, grants, rights}
use Rattle.scan.specs.Scan.{first, some}
use Rattle.scan.proofs.Scans.{tell, some_later, some_none, none_passes, first_passes, before_first}
use Rattle.vm.specs.Align.{multiple}
use Rattle.refusal.specs.declared.Refusal.TheVariants.{InvalidArgs, AccessDenied, NotFound, BadState, BadHandle}
use Rattle.space.specs.Space.{region_at, mapping_at, region_place, mapping_place}
use Rattle.space.specs.Passes.{Passes}
use Rattle.space.specs.declared.Space.{Space}
use Rattle.space.proofs.Facts.{region_place_lem, mapping_place_lem}
use Rattle.vmar_offset.specs.Offset.{slot_of}
use Rattle.vmar_offset.proofs.Found.{slot_live}
use Rattle.vmar_protect.specs.Protect.{touches, touches_child, child_touched, touching, total, denies, denies_at, Lent, mappings_done, ProtectDone, refused, in_region, protected}
use Rattle.vmar_protect.specs.Protect as protect
use Rattle.vmar_protect_laws.specs.Answers.{ChildTouches, Touches, HeldIn, WholePages, Asked, Allowed, ProtectAnswers, unissued, unknown, odd, dead, over, touched, uncovered, denied, done}
use Rattle.vmar_protect.proofs.Calls as calls
use Rattle.vmar_protect.proofs.Parts.{touch_means, touch_of, denies_there, denies_none}
use Rattle.vmar_protect_laws.proofs.Covers.{covers, filled, gap?}

-- a scan where each index fails
all_fail : (p : ℕ → Bool) (n k i : ℕ) → n ≤ i + k → ((j : ℕ) → j < n → p j ≡ false) → some p i n ≡ false
all_fail p n zero i h none = some_none p i n (omega arith)
all_fail p n (suc k) i h none =
    ⊎_elim (λ (l : i < n). some_later p i n l (none i l) ∙ all_fail p n k (i + 1) (omega arith) none) (λ (l : n ≤ i). some_none p i n l) (below? i n)

-- a scan of a list whose test says what P means of the slot at each place
module _ (p : ℕ → Bool) (n : ℕ) (P : ℕ → Type 0) (slot : ℕ → ℕ) (is : (k : ℕ) → k < n → p k ≡ true → P (slot k)) (at : (i : ℕ) → P i → (k : ℕ) × (k < n) × (p k ≡ true)) where
  some_of : (i : ℕ) → P i → some p 0 n ≡ true
  some_of i w =
      let q = at i w in
      ⊎_elim (λ (t : some p 0 n ≡ true). t) (λ (t : some p 0 n ≡ false). clash _ q.2 (none_passes p 0 n q.0 t (omega arith) q.1)) (tell (some p 0 n))

  none_of : ((i : ℕ) → P i → ⊥) → some p 0 n ≡ false
  none_of no' = all_fail p n n 0 (omega arith) (λ k l. ⊎_elim (λ (t : p k ≡ true). absurd (no' (slot k) (is k l t))) (λ (t : p k ≡ false). t) (tell (p k)))

  some? : ((i : ℕ) × P i) ⊎ ((i : ℕ) → P i → ⊥)
  some? =
      ⊎_elim
      (λ (l : first p 0 n < n). inl (slot (first p 0 n), is (first p 0 n) l (first_passes p n l)))
      (λ (l : n ≤ first p 0 n). inr (λ i w. let q = at i w in let h = q.1 in clash _ q.2 (before_first p n q.0 (omega arith))))
      (below? (first p 0 n) n)

module _ (s : Space) (f : List ℕ) (g : Passes s f) (r begin end access : ℕ) where
  -- children
  child_is : (k : ℕ) → k < s.regcount → touches_child s r begin end k ≡ true → ChildTouches s r begin end (region_place s k)
  child_is k l t =
      let q = region_place_lem g k l in
      let w = touch_means _ r _ _ begin end t in
      record { slot = q.0; live = q.1; parent = w.0; from = w.1; to = w.2 }

  child_at_lem : (i : ℕ) → ChildTouches s r begin end i → (k : ℕ) × (k < s.regcount) × (touches_child s r begin end k ≡ true)
  child_at_lem i w =
      let q = g.regions.whole i w.slot w.live in (
        q.0,
        q.1,
        subst (λ (x : ℕ). touches (region_at s x).parent r (region_at s x).addr (region_at s x).size begin end ≡ true) (sym q.2)
            (touch_of _ _ _ _ begin end w.parent w.from w.to),
      )

  -- mappings that do not grant the rights
  abbrev Denies : ℕ → Type 0
  Denies i = Touches s r begin end i × (grants (mapping_at s i).permissions (rights access) ≡ false)

  denies_is : (k : ℕ) → k < s.mapcount → denies_at s r begin end access k ≡ true → Denies (mapping_place s k)
  denies_is k l t =
      let q = mapping_place_lem g k l in
      ⊎_elim
      (λ (y : touching (mapping_at s (mapping_place s k)) r begin end ≡ true).
      let w = touch_means _ r _ _ begin end y in (
        record { slot = q.0; live = q.1; mine = w.0; from = w.1; to = w.2 },
        not-true _ (denies_there (mapping_at s (mapping_place s k)) r begin end access y ∙ t),
      ))
      (λ (y : touching (mapping_at s (mapping_place s k)) r begin end ≡ false). clash _ t (sym (denies_none (mapping_at s (mapping_place s k)) r begin end access y)))
      (tell (touching (mapping_at s (mapping_place s k)) r begin end))

  denies_at_lem : (i : ℕ) → Denies i → (k : ℕ) × (k < s.mapcount) × (denies_at s r begin end access k ≡ true)
  denies_at_lem i w =
      let m = w.0 in
      let q = g.mappings.whole i m.slot m.live in (
        q.0,
        q.1,
        subst (λ (x : ℕ). denies (mapping_at s x) r begin end access ≡ true) (sym q.2)
            (sym (denies_there (mapping_at s i) r begin end access (touch_of _ _ _ _ begin end m.mine m.from m.to)) ∙ ap not w.1),
      )

  touched_some : (i : ℕ) → ChildTouches s r begin end i → child_touched s r begin end ≡ true
  touched_some = some_of (touches_child s r begin end) s.regcount (ChildTouches s r begin end) (region_place s) child_is child_at_lem

  touched_none : ((i : ℕ) → ChildTouches s r begin end i → ⊥) → child_touched s r begin end ≡ false
  touched_none = none_of (touches_child s r begin end) s.regcount (ChildTouches s r begin end) (region_place s) child_is child_at_lem

  child? : ((i : ℕ) × ChildTouches s r begin end i) ⊎ ((i : ℕ) → ChildTouches s r begin end i → ⊥)
  child? = some? (touches_child s r begin end) s.regcount (ChildTouches s r begin end) (region_place s) child_is child_at_lem

  denied_some : (i : ℕ) → Denies i → protect.denied s r begin end access ≡ true
  denied_some = some_of (denies_at s r begin end access) s.mapcount Denies (mapping_place s) denies_is denies_at_lem

  denied_none : ((i : ℕ) → Denies i → ⊥) → protect.denied s r begin end access ≡ false
  denied_none = none_of (denies_at s r begin end access) s.mapcount Denies (mapping_place s) denies_is denies_at_lem

  denies? : ((i : ℕ) × Denies i) ⊎ ((i : ℕ) → Denies i → ⊥)
  denies? = some? (denies_at s r begin end access) s.mapcount Denies (mapping_place s) denies_is denies_at_lem

-- the call on any two buffers
module _ (s : Space) (f : List ℕ) (g : Passes s f) (t : Lent) (b id begin len access : ℕ) where
  abbrev r : ℕ
  r = slot_of s id

  abbrev end : ℕ
  end = begin + len

  abbrev Call : ProtectDone
  Call = protected s t b id begin len access

  abbrev All : Result (Unit {0}) Refusal → Type 0
  All x = ProtectAnswers s id begin len access x

  -- what a call with this answer leaves
  abbrev pub Left : Result (Unit {0}) Refusal → ProtectDone
  Left (Ok _) = protect.done (Ok tt) (mappings_done t b s r begin end access s.mapcount)
  Left (Err why) = refused t why

  module _ (i : id < s.nextid) (k : known_page access ≡ true) where
    is_odd : (WholePages begin len → ⊥) → refused t InvalidArgs ≡ Call
    is_odd n =
        ⊎_elim
        (λ (x : multiple begin 4096 ≡ true). ⊎_elim
        (λ (y : multiple len 4096 ≡ true). absurd (n (eqb-true _ _ x, eqb-true _ _ y)))
        (λ (y : multiple len 4096 ≡ false). calls.odd_length s t b id begin len access (lt-ltb _ _ i) k x y)
        (tell (multiple len 4096)))
        (λ (x : multiple begin 4096 ≡ false). calls.odd_address s t b id begin len access (lt-ltb _ _ i) k x)
        (tell (multiple begin 4096))

    module _ (w : WholePages begin len) where
      is_dead : r ≡ 32 → refused t BadState ≡ Call
      is_dead z = calls.dead s t b id begin len access (lt-ltb _ _ i) k (eq-eqb _ _ w.0) (eq-eqb _ _ w.1) r refl z

      is_over : r < 32 → 2 ^ 64 ≤ end → refused t InvalidArgs ≡ Call
      is_over l h =
          calls.over s t b id begin len access (lt-ltb _ _ i) k (eq-eqb _ _ w.0) (eq-eqb _ _ w.1) r refl (λ z. omega arith)
          (lt-leb end 0xffff_ffff_ffff_ffff (omega arith))

  -- in the region
  module _ (A : Asked s id begin len access) where
    to_region : in_region s t b r begin len access ≡ Call
    to_region =
        let l = A.live in
        let h = A.end in
        calls.live s t b id begin len access (lt-ltb _ _ A.issued) A.known (eq-eqb _ _ A.pages.0) (eq-eqb _ _ A.pages.1) r refl (λ z. omega arith)
        (le-leb end 0xffff_ffff_ffff_ffff (omega arith))

    module _ (none : (i : ℕ) → ChildTouches s r begin end i → ⊥) where
      childless : child_touched s r begin end ≡ false
      childless = touched_none s f g r begin end access none

      is_uncovered : (x : ℕ) → begin ≤ x → x < end → (HeldIn s r x → ⊥) → refused t NotFound ≡ Call
      is_uncovered x l h n =
          calls.uncovered s t b r begin len access childless (ne_eqb (total s r begin end s.mapcount) len (λ e. n (covers s f g r begin len x e l h))) ∙ to_region

      whole : ((x : ℕ) → begin ≤ x → x < end → HeldIn s r x) → eqb (total s r begin end s.mapcount) len ≡ true
      whole each = eq-eqb (total s r begin end s.mapcount) len (filled s f g r begin len each)

    is_done : Allowed s r begin end access → Left (Ok tt) ≡ Call
    is_done w =
        calls.allowed s t b r begin len access (childless w.childless) (whole w.childless w.covered)
        (denied_none s f g r begin end access (λ i d. clash _ (w.granting i d.0) d.1)) ∙ to_region

  pub leaves : (x : Result (Unit {0}) Refusal) → All x → Left x ≡ Call
  leaves x (unissued h) = calls.never_issued s t b id begin len access (le-ltb _ _ h)
  leaves x (unknown i k) = calls.unknown s t b id begin len access (lt-ltb _ _ i) k
  leaves x (odd i k n) = is_odd i k n
  leaves x (dead i k w z) = is_dead i k w z
  leaves x (over i k w l h) = is_over i k w l h
  leaves x (touched A i w) = calls.child_there s t b r begin len access (touched_some s f g r begin end access i w) ∙ to_region A
  leaves x (uncovered A n y l h w) = is_uncovered A n y l h w
  leaves x (denied A n each i w d) =
      calls.forbidden s t b r begin len access (childless A n) (whole A n each) (denied_some s f g r begin end access i (w, d)) ∙ to_region A
  leaves x (done A w) = is_done A w

  pub only : (x : Result (Unit {0}) Refusal) → All x → x ≡ Call.result
  only x k = same x ∙ ap (λ (d : ProtectDone). d.result) (leaves x k)
    where
      same : (x : Result (Unit {0}) Refusal) → x ≡ (Left x).result
      same (Ok _) = refl
      same (Err why) = refl

  -- some answer fits
  abbrev pub Fit : Type 0
  Fit = (x : Result (Unit {0}) Refusal) × All x

  some_region : Asked s id begin len access → Fit
  some_region A =
      ⊎_elim
      (λ w. (Err InvalidArgs, touched A w.0 w.1))
      (λ (n : (i : ℕ) → ChildTouches s r begin end i → ⊥). ⊎_elim
      (λ (each : (x : ℕ) → begin ≤ x → x < end → HeldIn s r x). ⊎_elim
      (λ w. (Err AccessDenied, denied A n each w.0 w.1.0 w.1.1))
      (λ (d : (i : ℕ) → Denies s f g r begin end access i → ⊥). (
        (Ok tt),
        done A (record {
          childless = n;
          covered = each;
          granting = λ i w. ⊎_elim
              (λ (y : grants (mapping_at s i).permissions (rights access) ≡ true). y)
              (λ (y : grants (mapping_at s i).permissions (rights access) ≡ false). absurd (d i (w, y)))
              (tell (grants (mapping_at s i).permissions (rights access)));
        }),
      ))
      (denies? s f g r begin end access))
      (λ w. (Err NotFound, uncovered A n w.0 w.1 w.2 w.3))
      (gap? s f g r begin len))
      (child? s f g r begin end access)

  some_pages : id < s.nextid → known_page access ≡ true → WholePages begin len → Fit
  some_pages i k w =
      ⊎_elim
      (λ (z : r ≡ 32). (Err BadState, dead i k w z))
      (λ (z : r ≡ 32 → ⊥).
      let l = (slot_live s id z).0 in
      ⊎_elim
      (λ (h : end < 2 ^ 64). some_region (record { issued = i; known = k; pages = w; live = l; end = h }))
      (λ (h : 2 ^ 64 ≤ end). (Err InvalidArgs, over i k w l h))
      (below? end (2 ^ 64)))
      (same? r 32)

  some_known : id < s.nextid → known_page access ≡ true → Fit
  some_known i k =
      ⊎_elim
      (λ (x : begin % 4096 ≡ 0). ⊎_elim
      (λ (y : len % 4096 ≡ 0). some_pages i k (x, y))
      (λ (y : len % 4096 ≡ 0 → ⊥). (Err InvalidArgs, odd i k (λ w. y w.1)))
      (same? (len % 4096) 0))
      (λ (x : begin % 4096 ≡ 0 → ⊥). (Err InvalidArgs, odd i k (λ w. x w.0)))
      (same? (begin % 4096) 0)

  pub some_answer : Fit
  some_answer =
      ⊎_elim
      (λ (i : id < s.nextid). ⊎_elim
      (λ (k : known_page access ≡ true). some_known i k)
      (λ (k : known_page access ≡ false). (Err InvalidArgs, unknown i k))
      (tell (known_page access)))
      (λ (i : s.nextid ≤ id). (Err BadHandle, unissued i))
      (below? id s.nextid)

  pub answers : All Call.result
  answers = subst All (only some_answer.0 some_answer.1) some_answer.1

-- what an accepted call asked for, and what it was allowed by
pub accepted : {s : Space} {id begin len access : ℕ} {x : (Result (Unit {0}) Refusal)} → ProtectAnswers s id begin len access x → x ≡ Ok tt
    → Asked s id begin len access × Allowed s (slot_of s id) begin (begin + len) access
accepted (unissued h) q = let z : ◌≡◌ {A = ℕ} 0 1 = cc in absurd (omega arith)
accepted (unknown i k) q = let z : ◌≡◌ {A = ℕ} 0 1 = cc in absurd (omega arith)
accepted (odd i k n) q = let z : ◌≡◌ {A = ℕ} 0 1 = cc in absurd (omega arith)
accepted (dead i k w z) q = let z : ◌≡◌ {A = ℕ} 0 1 = cc in absurd (omega arith)
accepted (over i k w l h) q = let z : ◌≡◌ {A = ℕ} 0 1 = cc in absurd (omega arith)
accepted (touched A i w) q = let z : ◌≡◌ {A = ℕ} 0 1 = cc in absurd (omega arith)
accepted (uncovered A n y l h w) q = let z : ◌≡◌ {A = ℕ} 0 1 = cc in absurd (omega arith)
accepted (denied A n each i w d) q = let z : ◌≡◌ {A = ℕ} 0 1 = cc in absurd (omega arith)
accepted (done A w) q = (A, w)
