-- One cut: what it leaves, whether it is refused or not.
use Rattle.std.specs.Prelude.{Err, Ok, Result}
use Prim.Native.Nat.{ℕ, zero, suc, ◌+◌, ◌-◌, ◌*◌, ◌/◌, ◌%◌, ◌≤◌, ◌<◌}
use mathlib.Core.Path.{◌≡◌, refl, sym, ◌∙◌, ap, subst}
use mathlib.Core.Bool.{Bool, true, false}
use mathlib.Core.List.{List}
use mathlib.Core.Logic.{◌⊎◌, ⊎_elim}
use native.Mathlib.Omega.{arith}
use lib.Dec.{eqb, leb}
use lib.ListN.{length, length-set}
use borrow.Author.Tests.{ne_eqb}
use Rattle.paging.specs.Choice.{pick}
use Rattle.paging.specs.Level.{Canonical}
use Rattle.paging.proofs.Cases.{same?, below?}
use Rattle.form.specs.Form.{Good}
use Rattle.refusal.specs.declared.Refusal.TheVariants.{NotMapped, NoFrames}
use Rattle.walk.specs.Walk.{found}
use Rattle.walk.specs.declared.Walk.{Walk}
use Rattle.walk.specs.declared.Walk.TheVariants.{Leaf, Open}
use Rattle.table.specs.Table.{by_leaf, queried}
use Rattle.pool.specs.Pool.{put_word}
use Rattle.table_split.specs.Split.{Tables, needed}
use Rattle.table_split.proofs.Ends.{D₁, D₂}
use Rattle.table_unmap_cont.specs.UnmapCont.{emptied, after, cleared, ContUnmapping, unmap_cont}
use Rattle.table_unmap_cont.specs.Demand.{frames_for, free, answered, Demand}
use Rattle.table_unmap_cont.proofs.Calls.{cont_empty, cont_short, cont_done}
use Rattle.table_unmap_cont.proofs.Demand.{demands}
use Rattle.table_cuts.specs.Cuts.{Cut, Fits, taken, cut_one}
use Rattle.refusal.specs.declared.Refusal.{Refusal}

-- emptying entries leaves the pool as long as it was
emptied_long : (p : List ℕ) (b v : ℕ) → length (emptied p b v) ≡ length p
emptied_long p b v = go (found p b v)
  where
    go : (w : Walk) → length (by_leaf w (λ e. put_word p e.frame e.place 0) p) ≡ length p
    go (Leaf e) = length-set p (e.frame * 512 + e.place) 0
    go (Open o) = refl

cleared_long : (n : ℕ) (p : List ℕ) (b v e : ℕ) → length (cleared n p b v e) ≡ length p
unfolding cleared
cleared_long zero p b v e = refl
cleared_long (suc n) p b v e = go (leb e v) (cleared_long n (emptied p b v) b (after p b v) e ∙ emptied_long p b v)
  where
    go : (t : Bool) → length (cleared n (emptied p b v) b (after p b v) e) ≡ length p → length (pick t p (cleared n (emptied p b v) b (after p b v) e)) ≡ length p
    go true q = refl
    go false q = q

-- one where the cut is not empty
abbrev pub some : Cut → ℕ
some c = pick (eqb c.len 0) 0 1

module _ (p : List ℕ) (base used : ℕ) (G : Good p base used) (c : Cut) (F : Fits c) where
  abbrev o : ContUnmapping
  o = unmap_cont p (base / 4096) used c.addr c.len

  abbrev D : Demand p base used c.addr c.len
  D = demands.holds p base used c.addr c.len G F.page F.pages F.range

  abbrev need : ℕ
  need = frames_for p base c.addr (c.addr + c.len)

  abbrev t : Tables
  t = cut_one (base / 4096) c (record { pool = p; used = used })

  -- what is left is good, refused or not
  pub cut_good : Good t.pool base t.used
  unfolding cut_one
  cut_good =
      ⊎_elim
      (λ (l : free p used < need). subst (λ (x : ContUnmapping). Good x.pool base (used + taken x.result)) (sym (D.refused l)) (subst (Good p base) (omega arith) G))
      (λ (l : need ≤ free p used). let k = D.carried l in subst (λ (x : Result ℕ Refusal). Good o.pool base (used + taken x)) (sym k.0) k.1.good)
      (below? (free p used) need)

  pub cut_long : length t.pool ≡ length p
  unfolding cut_one
  cut_long = ⊎_elim empty full (same? c.len 0)
    where
      empty : c.len ≡ 0 → length o.pool ≡ length p
      empty z = sym (ap (λ (x : ContUnmapping). length x.pool) (cont_empty p (base / 4096) used c.addr c.len z))

      e : ℕ
      e = c.addr + c.len

      full : (c.len ≡ 0 → ⊥) → length o.pool ≡ length p
      full n =
          ⊎_elim
          (λ (l : length p / 512 - used < needed p (base / 4096) c.addr (c.addr + c.len)). sym (ap (λ (x : ContUnmapping). length x.pool) (cont_short p (base / 4096) used c.addr c.len n l)))
          (λ (l : needed p (base / 4096) c.addr (c.addr + c.len) ≤ length p / 512 - used).
          let more : c.addr < c.addr + c.len = ⊎_elim (λ h. h) (λ h. absurd (n (omega arith))) (below? c.addr (c.addr + c.len)) in
          let a = F.page in
          let b = F.pages in
          let pe : (c.addr + c.len) % 4096 ≡ 0 = omega arith in
          sym (ap (λ (x : ContUnmapping). length x.pool) (cont_done p (base / 4096) used c.addr c.len n l))
          ∙ cleared_long _ _ _ _ _
          ∙ (D₂ p base used G c.addr (c.addr + c.len) F.page pe more F.range l).long
          ∙ (D₁ p base used G c.addr (c.addr + c.len) F.page pe more F.range l).long)
          (below? _ _)

  -- an empty cut requires no frame, any other four at most
  few : need ≤ 4 * some c
  few = ⊎_elim empty (λ n. let e : some c ≡ 1 = rw (ne_eqb c.len 0 n) in omega (arith, D.most, e)) (same? c.len 0)
    where
      empty : c.len ≡ 0 → need ≤ 4 * some c
      empty z =
          let d = ap (λ (x : ContUnmapping). x.result) (cont_empty p (base / 4096) used c.addr c.len z) in
          ⊎_elim
          (λ (l : free p used < need).
          let r = ap (λ (x : ContUnmapping). x.result) (D.refused l) in
          let clash : Ok 0 ≡ Err NoFrames = d ∙ r in
          let z : ◌≡◌ {A = ℕ} 0 1 = cc in
          absurd (omega arith))
          (λ (l : need ≤ free p used).
          let same : Ok 0 ≡ Ok need = d ∙ (D.carried l).0 in
          let z : 0 ≡ need = cc in
          omega arith)
          (below? (free p used) need)

  -- with four frames for a cut that is not empty
  module _ (room : 4 * some c ≤ free p used) where
    carries : need ≤ free p used
    carries = let f = few in omega arith

    pub cut_carried : o.result ≡ Ok need
    cut_carried = (D.carried carries).0

    pub cut_takes : t.used ≡ used + need
    unfolding cut_one
    cut_takes = ap (λ (x : Result ℕ Refusal). used + taken x) cut_carried

    pub cut_few : (used ≤ t.used) × (t.used ≤ used + 4 * some c)
    cut_few = let f = few in let k = cut_takes in (omega arith, omega arith)

    pub cut_outside : (v : ℕ) → Canonical 4 v → (v < c.addr) ⊎ (c.addr + c.len ≤ v) → answered (queried t.pool (base / 4096) v) ≡ answered (queried p (base / 4096) v)
    unfolding cut_one
    cut_outside v k h = (D.carried carries).1.outside v k h

    pub cut_inside : (v : ℕ) → c.addr ≤ v → v < c.addr + c.len → queried t.pool (base / 4096) v ≡ Err NotMapped
    unfolding cut_one
    cut_inside v a h = (D.carried carries).1.inside v a h

-- the code's answer is the definition's, and the pool stays good
module _ (p q : List ℕ) (base used : ℕ) (G : Good p base used) (c : Cut) (F : Fits c) (r : Result ℕ Refusal) (n : ℕ)
    (e : record { result = r; pool = q } ≡ unmap_cont p (base / 4096) used c.addr c.len) (k : n ≡ used + taken r) where
  pub answer_is : record { pool = q; used = n } ≡ cut_one (base / 4096) c (record { pool = p; used = used })
  unfolding cut_one
  answer_is = ap (λ (m : ℕ). record { pool = q; used = m }) k ∙ ap (λ (o : ContUnmapping). record { pool = o.pool; used = used + taken o.result }) e

  pub answer_good : Good q base n
  answer_good = subst (λ (t : Tables). Good t.pool base t.used) (sym answer_is) (cut_good p base used G c F)
