-- The laws of clear and destroy.
use Rattle.std.specs.Prelude.{Result, Ok, Err}
use Prim.Native.Nat.{ℕ, ◌*◌}
use mathlib.Core.Path.{◌≡◌, refl, sym, ◌∙◌, ap, subst}
use mathlib.Core.Bool.{Bool, true, false}
use mathlib.Core.Logic.{inr, ⊎_elim}
use native.Mathlib.Omega.{arith}
use lib.Dec.{leb, ltb}
use borrow.Author.Tests.{ltb-true, ltb-false, lt-ltb, le-ltb, leb-true, leb-false, le-leb, lt-leb}
use Rattle.paging.proofs.Cases.{same?}
use Rattle.scan.proofs.Scans.{tell}
use Rattle.refusal.specs.declared.Refusal.{Refusal}
use Rattle.refusal.specs.declared.Refusal.TheVariants.{BadState, NoFrames, BadHandle, ChildDead}
use Rattle.space.specs.Space.{region_at}
use Rattle.space.specs.declared.Space.{Space}
use Rattle.table_cuts.specs.Cuts.{non_empty}
use Rattle.vmar_offset.specs.Offset.{slot_of}
use Rattle.vmar_offset.proofs.Found.{slot_live}
use Rattle.vmar_laws.specs.Later.{Later}
use Rattle.vmar_laws.proofs.Later.{later_none}
use Rattle.vmar_cuts.specs.Cuts.{END, destroy_cuts}
use Rattle.vmar_unmap.specs.Unmap.{State, CutDone, refused, free_frames, going_with, cut_state, cleared_call}
use Rattle.vmar_unmap.proofs.Calls.{clear_frames, clear_cut, clear_unissued, clear_gone, clear_live}
use Rattle.vmar_unmap_laws.specs.Ready.{Ready, Same}
use Rattle.vmar_unmap_laws.specs.Clears.{ClearAnswers, unissued, dead, frames, done, ClearDone, ClearsAll}
use Rattle.vmar_unmap_laws.proofs.Left.{done_refused, same_slot}
use Rattle.vmar_unmap_laws.proofs.Tests.{none_dead}
use Rattle.vmar_unmap_laws.proofs.Clear.{clear_own, clear_done}

-- how a call ends: refused, or all cut
data Ends (base : ℕ) (st : State) (id : ℕ) (itself : Bool) : CutDone → Type 0 where
  refusal : (why : Refusal) → ClearAnswers st id (Err why) → Ends base st id itself (refused st why)
  accepts : (t : State) → ClearAnswers st id (Ok tt) → ClearDone base st t (slot_of st.space id) itself
      → (itself ≡ false → Same st.space t.space id) → ((region_at st.space (slot_of st.space id)).id ≡ id) → Ends base st id itself (record { result = (Ok tt); state = t })

module _ (base : ℕ) (st : State) (R : Ready base st) (id : ℕ) (itself : Bool) where
  abbrev r : ℕ
  r = slot_of st.space id

  ends : Ends base st id itself (cleared_call base st id itself)
  ends =
      ⊎_elim
      (λ (i : ltb id st.space.nextid ≡ true). ⊎_elim
      (λ (z : r ≡ 32). subst (Ends base st id itself) (clear_gone base st id itself i r refl z) (refusal BadState (dead (ltb-true _ _ i) z)))
      (λ (z : r ≡ 32 → ⊥).
      let live = slot_live st.space id z in
      let none = none_dead R.passes in
      subst (Ends base st id itself) (clear_live base st id itself i r refl z)
      (⊎_elim
      (λ (n : leb (4 * non_empty (destroy_cuts st.space r)) (free_frames st) ≡ true).
      let cut = clear_done base st R r live.0 live.1 (leb-true _ _ n) itself in
      subst (Ends base st id itself) (clear_cut base st r itself none n)
      (accepts (cut_state base st (going_with st.space r itself) (destroy_cuts st.space r) r 0 END) (done (ltb-true _ _ i) live.0 (leb-true _ _ n))
      cut
      (λ y. same_slot st.space _ id cut.space.later (ltb-true _ _ i) z (clear_own base st R r live.0 live.1 (leb-true _ _ n) itself y))
      live.2))
      (λ (n : leb (4 * non_empty (destroy_cuts st.space r)) (free_frames st) ≡ false).
      subst (Ends base st id itself) (clear_frames base st r itself none n) (refusal NoFrames (frames (ltb-true _ _ i) live.0 (leb-false _ _ n))))
      (tell (leb (4 * non_empty (destroy_cuts st.space r)) (free_frames st)))))
      (same? r 32))
      (λ (i : ltb id st.space.nextid ≡ false). subst (Ends base st id itself) (clear_unissued base st id itself i) (refusal BadHandle (unissued (ltb-false _ _ i))))
      (tell (ltb id st.space.nextid))

  nothing_changes : {out : CutDone} → Ends base st id itself out → (why : Refusal) → out.result ≡ Err why → out.state ≡ st
  nothing_changes (refusal w x) why e = refl
  nothing_changes (accepts t x d o k) why e = done_refused e

  does : {out : CutDone} → Ends base st id itself out → out.result ≡ Ok tt → ClearDone base st out.state r itself
  does (refusal w x) e = done_refused (sym e)
  does (accepts t x d o k) e = d

  later : {out : CutDone} → Ends base st id itself out → Later st.space out.state.space
  later (refusal w x) = later_none st.space
  later (accepts t x d o k) = d.space.later

  gone : {out : CutDone} → Ends base st id itself out → itself ≡ true → out.result ≡ Ok tt → (u : Space) → Later out.state.space u → slot_of u id ≡ 32
  gone (refusal w x) y e u n = done_refused (sym e)
  gone (accepts t x d o k) y e u n = subst (λ (j : ℕ). slot_of u j ≡ 32) k (d.regions.dead r (inr (y, refl)) u n)

  stays : {out : CutDone} → Ends base st id itself out → itself ≡ false → Same st.space out.state.space id
  stays (refusal w x) y = (refl, refl)
  stays (accepts t x d o k) y = o y

  answers : {out : CutDone} → Ends base st id itself out → ClearAnswers st id out.result
  answers (refusal w x) = x
  answers (accepts t x d o k) = x

  only : (x : Result (Unit {0}) Refusal) → ClearAnswers st id x → x ≡ (cleared_call base st id itself).result
  only x (unissued h) = ap (λ (d : CutDone). d.result) (clear_unissued base st id itself (le-ltb _ _ h))
  only x (dead h z) = ap (λ (d : CutDone). d.result) (clear_gone base st id itself (lt-ltb _ _ h) r refl z)
  only x (frames h l n) =
      ap (λ (d : CutDone). d.result)
      (clear_frames base st r itself (none_dead R.passes) (lt-leb _ _ n) ∙ clear_live base st id itself (lt-ltb _ _ h) r refl (λ z. omega arith))
  only x (done h l n) =
      ap (λ (d : CutDone). d.result)
      (clear_cut base st r itself (none_dead R.passes) (le-leb _ _ n) ∙ clear_live base st id itself (lt-ltb _ _ h) r refl (λ z. omega arith))

  -- no answer is 14
  alive : {x : (Result (Unit {0}) Refusal)} → ClearAnswers st id x → x ≡ Err ChildDead → ⊥
  alive (unissued h) q = let z : ◌≡◌ {A = ℕ} 0 1 = cc in omega arith
  alive (dead h z) q = let z : ◌≡◌ {A = ℕ} 0 1 = cc in omega arith
  alive (frames h l n) q = let z : ◌≡◌ {A = ℕ} 0 1 = cc in omega arith
  alive (done h l n) q = let z : ◌≡◌ {A = ℕ} 0 1 = cc in omega arith

pub clears : ClearsAll
clears = record {
  holds = λ base st R id itself. record {
    refused = nothing_changes base st R id itself (ends base st R id itself);
    accepted = does base st R id itself (ends base st R id itself);
    later = later base st R id itself (ends base st R id itself);
    gone = gone base st R id itself (ends base st R id itself);
    stays = stays base st R id itself (ends base st R id itself);
    answers = answers base st R id itself (ends base st R id itself);
    only = only base st R id itself;
    alive = alive base st R id itself (answers base st R id itself (ends base st R id itself));
  };
}
