-- All cuts, one after another.
use Rattle.std.specs.Prelude.{Err}
use Prim.Native.Nat.{ℕ, ◌+◌, ◌*◌, ◌/◌, ◌≤◌, ◌<◌}
use mathlib.Core.Path.{◌≡◌, refl, sym, ◌∙◌, ap, subst}
use mathlib.Core.List.{List, [], ◌∷◌}
use mathlib.Core.Logic.{◌⊎◌, inl, inr, ⊎_elim}
use native.Mathlib.Omega.{arith}
use Rattle.paging.specs.Level.{Canonical, Within}
use Rattle.paging.specs.Table.{nowhere}
use Rattle.paging.proofs.Cases.{below?}
use Rattle.form.specs.Form.{Good}
use Rattle.refusal.specs.declared.Refusal.TheVariants.{NotMapped}
use Rattle.walk.specs.Walk.{found}
use Rattle.walk.specs.declared.Walk.{Walk}
use Rattle.walk.specs.declared.Walk.TheVariants.{Leaf, Open}
use Rattle.table.specs.Table.{queried}
use Rattle.table_split.specs.Split.{Tables}
use Rattle.table_unmap_cont.specs.Demand.{free, answered}
use Rattle.table_cuts.specs.Cuts.{Cut, Fits, Among, cut_one, cut_all, non_empty}
use Rattle.table_cuts.specs.Laws.{AllFit, none, next, AllCut, CutsHold}
use mathlib.Core.List.Memᴰ
use Rattle.table_cuts.proofs.One.{some, cut_good, cut_long, cut_carried, cut_few, cut_outside, cut_inside}

abbrev here : (c : Cut) (cs : List Cut) → Among c (c ∷ cs)
here c cs = Memᴰ.head refl

abbrev later : (c d : Cut) (cs : List Cut) → Among d cs → Among d (c ∷ cs)
later c d cs m = Memᴰ.tail m

-- an address of a cut is one that the levels tell apart
within_canonical : (a e v : ℕ) → Within 4 a e → a ≤ v → v < e → Canonical 4 v
within_canonical a e v w h l = ⊎_elim (λ k. inl (omega arith)) (λ k. inr (omega (arith, k.0), omega (arith, k.1))) w.1

-- what has no frame, `query` refuses
no_frame : (p : List ℕ) (b v : ℕ) → answered (queried p b v) ≡ nowhere → queried p b v ≡ Err NotMapped
no_frame p b v q = go (found p b v) refl
  where
    go : (w : Walk) → found p b v ≡ w → queried p b v ≡ Err NotMapped
    go (Open o) e = rw e
    go (Leaf l) e = let z : ◌≡◌ {A = ℕ} 0 1 = let y = rw e at q in cc in absurd (omega arith)

-- an address lies in one of the cuts, or in none
abbrev Outside : ℕ → List Cut → Type 0
Outside v cs = (c : Cut) → Among c cs → (v < c.addr) ⊎ (c.addr + c.len ≤ v)

abbrev Lies : ℕ → List Cut → Type 0
Lies v cs = (c : Cut) × Among c cs × (c.addr ≤ v) × (v < c.addr + c.len)

lies? : (v : ℕ) (cs : List Cut) → Lies v cs ⊎ Outside v cs
lies? v [] = inr (λ c m. absurd (Memᴰ.not-nil m))
lies? v (c ∷ cs) = go (lies? v cs)
  where
    out : Outside v cs → (v < c.addr) ⊎ (c.addr + c.len ≤ v) → Outside v (c ∷ cs)
    out k h d m = ⊎_elim (λ (e : d ≡ c). subst (λ (x : Cut). (v < x.addr) ⊎ (x.addr + x.len ≤ v)) (sym e) h) (λ (n : Among d cs). k d n) (Memᴰ.cases_cons m)

    go : Lies v cs ⊎ Outside v cs → Lies v (c ∷ cs) ⊎ Outside v (c ∷ cs)
    go (inl k) = inl (k.0, later c k.0 cs k.1, k.2, k.3)
    go (inr k) =
        ⊎_elim
        (λ (l : v < c.addr). inr (out k (inl l)))
        (λ (l : c.addr ≤ v). ⊎_elim (λ (h : v < c.addr + c.len). inl (c, here c cs, l, h)) (λ (h : c.addr + c.len ≤ v). inr (out k (inr h))) (below? v (c.addr + c.len)))
        (below? v c.addr)

-- what is left of the first cut is cut on
module _ (p : List ℕ) (base used : ℕ) (c : Cut) (cs : List Cut) (G : Good p base used) (A : AllFit (c ∷ cs)) (room : 4 * (some c + non_empty cs) ≤ free p used) where
  abbrev u : Tables
  u = cut_one (base / 4096) c (record { pool = p; used = used })

  abbrev F : Fits c
  F = A c (here c cs)

  r : 4 * some c ≤ free p used
  r = omega arith

  rest_room : 4 * non_empty cs ≤ free u.pool u.used
  rest_room = let w = cut_few p base used G c F r in let e = cut_long p base used G c F in rw e (omega (arith, w.1))

  module _ (t : Tables) (C : AllCut u.pool base u.used cs t) where
    inside : (v : ℕ) (d : Cut) → Among d (c ∷ cs) → d.addr ≤ v → v < d.addr + d.len → queried t.pool (base / 4096) v ≡ Err NotMapped
    inside v d m a h = ⊎_elim
        (λ (e : d ≡ c). ⊎_elim
        (λ (k : Lies v cs). C.inside v k.0 k.1 k.2 k.3)
        (λ (k : Outside v cs).
        let w = (A d m).range in
        no_frame t.pool (base / 4096) v
        (C.outside v (within_canonical d.addr (d.addr + d.len) v w a h) k
        ∙ ap answered (cut_inside p base used G c F r v (subst (λ (x : Cut). x.addr ≤ v) e a) (subst (λ (x : Cut). v < x.addr + x.len) e h))))
        (lies? v cs))
        (λ (n : Among d cs). C.inside v d n a h)
        (Memᴰ.cases_cons m)

    both : AllCut p base used (c ∷ cs) t
    unfolding non_empty
    both =
        let w = cut_few p base used G c F r in
        let l = C.least in
        let m = C.most in
        record {
          good = C.good;
          long = C.long ∙ cut_long p base used G c F;
          least = omega (arith, w.0);
          most = omega (arith, w.1);
          outside = λ v k h. C.outside v k (λ d n. h d (later c d cs n)) ∙ cut_outside p base used G c F r v k (h c (here c cs));
          inside = inside;
          carried = next _ (cut_carried p base used G c F r) C.carried;
        }

holds : (cs : List Cut) (p : List ℕ) (base used : ℕ) → Good p base used → AllFit cs → 4 * non_empty cs ≤ free p used
    → AllCut p base used cs (cut_all (base / 4096) cs (record { pool = p; used = used }))
unfolding cut_all non_empty
holds [] p base used G A room = record {
  good = G;
  long = refl;
  least = omega arith;
  most = omega arith;
  outside = λ v k h. refl;
  inside = λ v c m. absurd (Memᴰ.not-nil m);
  carried = none;
}
holds (c ∷ cs) p base used G A room =
    both p base used c cs G A room _
    (holds cs (u p base used c cs G A room).pool base (u p base used c cs G A room).used (cut_good p base used G c (A c (here c cs))) (λ d m. A d (later c d cs m)) (rest_room p base used c cs G A room))

pub good_always : (cs : List Cut) (p : List ℕ) (base used : ℕ) → Good p base used → AllFit cs
    → Good (cut_all (base / 4096) cs (record { pool = p; used = used })).pool base (cut_all (base / 4096) cs (record { pool = p; used = used })).used
unfolding cut_all
good_always [] p base used G A = G
good_always (c ∷ cs) p base used G A = good_always cs _ base _ (cut_good p base used G c (A c (here c cs))) (λ d m. A d (later c d cs m))

pub cuts : CutsHold
cuts = record { holds = λ p base used cs. holds cs p base used; good_always = λ p base used cs. good_always cs p base used }
