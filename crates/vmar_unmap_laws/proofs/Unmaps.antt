-- The laws of unmap.
use Rattle.std.specs.Prelude.{Result, Ok, Err}
use Prim.Native.Nat.{ℕ, ◌+◌, ◌*◌, ◌≤◌, ◌<◌}
use mathlib.Core.Path.{◌≡◌, refl, sym, ◌∙◌, ap, subst}
use mathlib.Core.Bool.{true, false}
use mathlib.Core.Logic.{⊎_elim}
use native.Mathlib.Omega.{arith}
use lib.Dec.{leb, ltb}
use borrow.Author.Tests.{ltb-true, ltb-false, lt-ltb, le-ltb, leb-true, leb-false, le-leb, lt-leb, eq-eqb}
use Rattle.paging.proofs.Cases.{same?, clash}
use Rattle.scan.specs.Scan.{some}
use Rattle.scan.proofs.Scans.{tell}
use Rattle.vm.specs.Align.{multiple}
use Rattle.refusal.specs.declared.Refusal.{Refusal}
use Rattle.refusal.specs.declared.Refusal.TheVariants.{InvalidArgs, BadState, NoFrames, NoSlot, BadHandle, ChildDead}
use Rattle.space.specs.declared.Space.{Space}
use Rattle.table_cuts.specs.Cuts.{non_empty}
use Rattle.vmar_offset.specs.Offset.{slot_of}
use Rattle.vmar_offset.proofs.Found.{slot_live}
use Rattle.vmar_laws.specs.Later.{Later}
use Rattle.vmar_laws.proofs.Later.{later_none}
use Rattle.vmar_doom.specs.Doomed.{marked}
use Rattle.vmar_cuts.specs.Cuts.{unmap_cuts, PageRange}
use Rattle.vmar_unmap.specs.Unmap.{State, CutDone, refused, free_frames, partly_at, lacks_slot, cut_state, cut_range, in_region, unmapped}
use Rattle.vmar_unmap.proofs.Calls.{whole_pages, has_slot, range_partly, range_short, range_frames, range_cut, in_dead, in_over, in_range, unmap_unissued, unmap_odd, unmap_odd_length, unmap_nothing, unmap_some}
use Rattle.vmar_unmap_laws.specs.Ready.{Ready, Same}
use Rattle.vmar_unmap_laws.specs.Unmaps.{WholePages, Asked, Takes, UnmapAnswers, unissued, odd, dead, over, partly, short, frames, done, UnmapDone, UnmapsAll}
use Rattle.vmar_unmap_laws.proofs.Left.{done_refused, same_slot}
use Rattle.vmar_unmap_laws.proofs.Tests.{none_dead, some_partly, no_partly, partly_some, partly_none, short_is, short_of, short_none, no_short}
use Rattle.vmar_unmap_laws.proofs.Unmap.{unmap_own, unmap_done}

-- how a call ends: refused, or the range cut out
data Ends (base : ℕ) (st : State) (id addr len : ℕ) : CutDone → Type 0 where
  refusal : (why : Refusal) → UnmapAnswers st id addr len (Err why) → Ends base st id addr len (refused st why)
  accepts : (t : State) → UnmapAnswers st id addr len (Ok tt) → UnmapDone base st t (slot_of st.space id) addr (addr + len) → Same st.space t.space id
      → Ends base st id addr len (record { result = (Ok tt); state = t })

module _ (base : ℕ) (st : State) (R : Ready base st) (id addr len : ℕ) where
  abbrev s : Space
  s = st.space

  abbrev r : ℕ
  r = slot_of s id

  abbrev e : ℕ
  e = addr + len

  abbrev E : CutDone → Type 0
  E = Ends base st id addr len

  order : addr ≤ e
  order = omega arith

  -- the call is that of the range
  to_range : Asked s id addr len → cut_range base st r addr e (lacks_slot s r addr e) ≡ unmapped base st id addr len
  to_range A =
      let l = A.live in
      let n = A.end in
      let z = A.pages.2 in
      in_range base st id addr len r refl (λ q. omega arith) (le-leb e 0xffff_ffff_ffff_ffff (omega arith)) (lacks_slot s r addr e) refl
      ∙ unmap_some base st id addr len (lt-ltb _ _ A.issued) (eq-eqb _ _ A.pages.0) (eq-eqb _ _ A.pages.1) (λ q. omega arith)

  range_ends : Asked s id addr len → E (cut_range base st r addr e (lacks_slot s r addr e))
  range_ends A =
      let none = none_dead R.passes in
      ⊎_elim
      (λ (p : some (partly_at s r addr e) 0 32 ≡ true).
      let k = some_partly s r addr e order p in
      subst E (range_partly base st r addr e (lacks_slot s r addr e) p) (refusal InvalidArgs (partly A k.0 k.1)))
      (λ (p : some (partly_at s r addr e) 0 32 ≡ false). ⊎_elim
      (λ (z : lacks_slot s r addr e ≡ true).
      subst E (range_short base st r addr e (lacks_slot s r addr e) p none z) (refusal NoSlot (short A (no_partly s r addr e order p) _ (short_is s r addr e z))))
      (λ (z : lacks_slot s r addr e ≡ false).
      let takes : Takes s r addr e = record { whole = no_partly s r addr e order p; slots = no_short s r addr e order z } in
      ⊎_elim
      (λ (n : leb (4 * non_empty (unmap_cuts s r addr e)) (free_frames st) ≡ true).
      let still : (r ≡ 32 → ⊥) = λ q. let l = A.live in omega arith in
      let home = slot_live s id still in
      let x = A.pages.0 in
      let y = A.pages.1 in
      let P : PageRange addr e = record { order = order; begin = x; end = omega arith } in
      let cut = unmap_done base st R r addr e home.0 home.1 P (has_slot s r addr e z) (leb-true _ _ n) in
      subst E (range_cut base st r addr e (lacks_slot s r addr e) p none z n)
      (accepts (cut_state base st (marked s r addr e) (unmap_cuts s r addr e) r addr e) (done A takes (leb-true _ _ n))
      cut (same_slot s _ id cut.space.later A.issued still (unmap_own base st R r addr e home.0 home.1 P (has_slot s r addr e z) (leb-true _ _ n)))))
      (λ (n : leb (4 * non_empty (unmap_cuts s r addr e)) (free_frames st) ≡ false).
      subst E (range_frames base st r addr e (lacks_slot s r addr e) p none z n) (refusal NoFrames (frames A takes (leb-false _ _ n))))
      (tell (leb (4 * non_empty (unmap_cuts s r addr e)) (free_frames st))))
      (tell (lacks_slot s r addr e)))
      (tell (some (partly_at s r addr e) 0 32))

  -- with an issued id and whole pages
  paged_ends : id < s.nextid → WholePages addr len → E (unmapped base st id addr len)
  paged_ends i w =
      let z = w.2 in
      let go = unmap_some base st id addr len (lt-ltb _ _ i) (eq-eqb _ _ w.0) (eq-eqb _ _ w.1) (λ q. omega arith) in
      ⊎_elim
      (λ (d : r ≡ 32). subst E (in_dead base st id addr len r refl d ∙ go) (refusal BadState (dead i w d)))
      (λ (d : r ≡ 32 → ⊥).
      let home = (slot_live s id d).0 in
      ⊎_elim
      (λ (n : leb e 0xffff_ffff_ffff_ffff ≡ true).
      let m = leb-true e 0xffff_ffff_ffff_ffff n in
      let A : Asked s id addr len = record { issued = i; pages = w; live = home; end = omega arith } in
      subst E (to_range A) (range_ends A))
      (λ (n : leb e 0xffff_ffff_ffff_ffff ≡ false).
      let m = leb-false e 0xffff_ffff_ffff_ffff n in
      subst E (in_over base st id addr len r refl d n ∙ go) (refusal InvalidArgs (over i w home (omega arith))))
      (tell (leb e 0xffff_ffff_ffff_ffff)))
      (same? r 32)

  ends : E (unmapped base st id addr len)
  ends =
      ⊎_elim
      (λ (i : ltb id s.nextid ≡ true). ⊎_elim
      (λ (a : multiple addr 4096 ≡ true). ⊎_elim
      (λ (l : multiple len 4096 ≡ true). ⊎_elim
      (λ (z : len ≡ 0). subst E (unmap_nothing base st id addr len i a l z) (refusal InvalidArgs (odd (ltb-true _ _ i) (λ w. let w2 = w.2 in omega arith))))
      (λ (z : len ≡ 0 → ⊥). paged_ends (ltb-true _ _ i) (whole_pages addr a, whole_pages len l, omega arith))
      (same? len 0))
      (λ (l : multiple len 4096 ≡ false).
      subst E (unmap_odd_length base st id addr len i a l) (refusal InvalidArgs (odd (ltb-true _ _ i) (λ w. clash _ (eq-eqb _ _ w.1) l))))
      (tell (multiple len 4096)))
      (λ (a : multiple addr 4096 ≡ false).
      subst E (unmap_odd base st id addr len i a) (refusal InvalidArgs (odd (ltb-true _ _ i) (λ w. clash _ (eq-eqb _ _ w.0) a))))
      (tell (multiple addr 4096)))
      (λ (i : ltb id s.nextid ≡ false). subst E (unmap_unissued base st id addr len i) (refusal BadHandle (unissued (ltb-false _ _ i))))
      (tell (ltb id s.nextid))

  nothing_changes : {out : CutDone} → E out → (why : Refusal) → out.result ≡ Err why → out.state ≡ st
  nothing_changes (refusal w x) why q = refl
  nothing_changes (accepts t x d o) why q = done_refused q

  does : {out : CutDone} → E out → out.result ≡ Ok tt → UnmapDone base st out.state r addr e
  does (refusal w x) q = done_refused (sym q)
  does (accepts t x d o) q = d

  later : {out : CutDone} → E out → Later s out.state.space
  later (refusal w x) = later_none s
  later (accepts t x d o) = d.space.later

  stays : {out : CutDone} → E out → Same s out.state.space id
  stays (refusal w x) = (refl, refl)
  stays (accepts t x d o) = o

  answers : {out : CutDone} → E out → UnmapAnswers st id addr len out.result
  answers (refusal w x) = x
  answers (accepts t x d o) = x

  -- no second answer fits
  abbrev Is : Result (Unit {0}) Refusal → Type 0
  Is x = x ≡ (unmapped base st id addr len).result

  is : {out : CutDone} → out ≡ unmapped base st id addr len → Is out.result
  is q = ap (λ (d : CutDone). d.result) q

  is_odd : id < s.nextid → (WholePages addr len → ⊥) → Is (Err InvalidArgs)
  is_odd h n =
      let i = lt-ltb _ _ h in
      ⊎_elim
      (λ (a : multiple addr 4096 ≡ true). ⊎_elim
      (λ (l : multiple len 4096 ≡ true). ⊎_elim
      (λ (z : len ≡ 0). is (unmap_nothing base st id addr len i a l z))
      (λ (z : len ≡ 0 → ⊥). absurd (n (whole_pages addr a, whole_pages len l, omega arith)))
      (same? len 0))
      (λ (l : multiple len 4096 ≡ false). is (unmap_odd_length base st id addr len i a l))
      (tell (multiple len 4096)))
      (λ (a : multiple addr 4096 ≡ false). is (unmap_odd base st id addr len i a))
      (tell (multiple addr 4096))

  paged : id < s.nextid → WholePages addr len → in_region base st id addr len ≡ unmapped base st id addr len
  paged h w = let z = w.2 in unmap_some base st id addr len (lt-ltb _ _ h) (eq-eqb _ _ w.0) (eq-eqb _ _ w.1) (λ q. omega arith)

  only : (x : Result (Unit {0}) Refusal) → UnmapAnswers st id addr len x → Is x
  only x (unissued h) = is (unmap_unissued base st id addr len (le-ltb _ _ h))
  only x (odd h n) = is_odd h n
  only x (dead h w z) = is (in_dead base st id addr len r refl z ∙ paged h w)
  only x (over h w l n) = is (in_over base st id addr len r refl (λ z. omega arith) (lt-leb e 0xffff_ffff_ffff_ffff (omega arith)) ∙ paged h w)
  only x (partly A i k) = is (range_partly base st r addr e (lacks_slot s r addr e) (partly_some s r addr e order i k) ∙ to_range A)
  only x (short A n i k) =
      is (range_short base st r addr e (lacks_slot s r addr e) (partly_none s r addr e order n) (none_dead R.passes) (short_of s r addr e i order k) ∙ to_range A)
  only x (frames A k n) =
      is (range_frames base st r addr e (lacks_slot s r addr e) (partly_none s r addr e order k.whole) (none_dead R.passes) (short_none s r addr e order k.slots)
      (lt-leb _ _ n) ∙ to_range A)
  only x (done A k n) =
      is (range_cut base st r addr e (lacks_slot s r addr e) (partly_none s r addr e order k.whole) (none_dead R.passes) (short_none s r addr e order k.slots)
      (le-leb _ _ n) ∙ to_range A)

  -- no answer is 14
  alive : {x : (Result (Unit {0}) Refusal)} → UnmapAnswers st id addr len x → x ≡ Err ChildDead → ⊥
  alive (unissued h) q = let z : ◌≡◌ {A = ℕ} 0 1 = cc in omega arith
  alive (odd h n) q = let z : ◌≡◌ {A = ℕ} 0 1 = cc in omega arith
  alive (dead h w z) q = let z : ◌≡◌ {A = ℕ} 0 1 = cc in omega arith
  alive (over h w l n) q = let z : ◌≡◌ {A = ℕ} 0 1 = cc in omega arith
  alive (partly A i k) q = let z : ◌≡◌ {A = ℕ} 0 1 = cc in omega arith
  alive (short A n i k) q = let z : ◌≡◌ {A = ℕ} 0 1 = cc in omega arith
  alive (frames A k n) q = let z : ◌≡◌ {A = ℕ} 0 1 = cc in omega arith
  alive (done A k n) q = let z : ◌≡◌ {A = ℕ} 0 1 = cc in omega arith

pub unmaps : UnmapsAll
unmaps = record {
  holds = λ base st R id addr len. record {
    refused = nothing_changes base st R id addr len (ends base st R id addr len);
    accepted = does base st R id addr len (ends base st R id addr len);
    later = later base st R id addr len (ends base st R id addr len);
    stays = stays base st R id addr len (ends base st R id addr len);
    answers = answers base st R id addr len (ends base st R id addr len);
    only = only base st R id addr len;
    alive = alive base st R id addr len (answers base st R id addr len (ends base st R id addr len));
  };
}
