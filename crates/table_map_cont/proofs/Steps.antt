-- One page, and one page after another: what the count and the writing make of each.
use Rattle.std.specs.Prelude.{Err, Ok}
use Prim.Native.Nat.{ℕ, zero, suc, ◌+◌, ◌-◌, ◌/◌, ◌≤◌, ◌<◌, min}
use mathlib.Core.Path.{◌≡◌, refl, sym, ap, ◌∙◌, subst}
use mathlib.Core.List.{List}
use mathlib.Core.Logic.{◌⊎◌, inl, inr, ⊎_elim}
use native.Mathlib.Omega.{arith}
use lib.ListN.{length}
use borrow.Author.Tests.{eq-eqb, ne_eqb, lt-ltb, le-ltb}
use Rattle.paging.specs.Level.{span}
use Rattle.paging.proofs.Cases.{below?}
use Rattle.refusal.specs.declared.Refusal.{Refusal}
use Rattle.refusal.specs.declared.Refusal.TheVariants.{AlreadyMapped, NoFrames}
use Rattle.walk.specs.Walk.{size_at, found}
use Rattle.walk.specs.declared.Walk.{Walk}
use Rattle.walk.specs.declared.Walk.TheVariants.{Leaf, Open}
use Rattle.walk.specs.declared.LeafEntry.{LeafEntry}
use Rattle.walk.specs.declared.OpenEntry.{OpenEntry}
use Rattle.table_map.specs.Map.{mapped, Mapping}
use Rattle.table_map_cont.specs.MapCont.{page_level, and_then, pages}
use Rattle.table_map_cont.specs.Count.{begins, count_page, counted}

-- no answer is both
pub not_both : {A : Type 0} {u : ℕ} {r : Refusal} → Err r ≡ Ok u → A
not_both e = let z : ◌≡◌ {A = ℕ} 0 1 = cc in absurd (omega arith)

-- a page's answer, by what the walk of its address finds in the table as it stands
module _ (p : List ℕ) (b used c v t : ℕ) where
  pub page_taken : (e : LeafEntry) → found p b v ≡ Leaf e → count_page p b used c v t ≡ Err AlreadyMapped
  page_taken e q = rw q

  module _ (o : OpenEntry) (q : found p b v ≡ Open o) where
    pub page_over : o.level < t → count_page p b used c v t ≡ Err AlreadyMapped
    page_over h = rw (q, lt-ltb o.level t h)

    module _ (h : t ≤ o.level) where
      pub page_short : length p / 512 - used < min o.level c - t → count_page p b used c v t ≡ Err NoFrames
      page_short g = rw (q, le-ltb o.level t h, lt-ltb (length p / 512 - used) (min o.level c - t) g)

      pub page_done_lem : min o.level c - t ≤ length p / 512 - used → count_page p b used c v t ≡ Ok (used + (min o.level c - t))
      page_done_lem g = rw (q, le-ltb o.level t h, le-ltb (length p / 512 - used) (min o.level c - t) g)

  -- one of these it is
  data Counts : Type 0 where
    refuses : (r : Refusal) → count_page p b used c v t ≡ Err r → (r ≡ AlreadyMapped) ⊎ (r ≡ NoFrames) → Counts
    takes : (n : ℕ) → count_page p b used c v t ≡ Ok (used + n) → n ≤ length p / 512 - used → Counts

  counts : Counts
  counts = go (found p b v) refl
    where
      go : (r : Walk) → found p b v ≡ r → Counts
      go (Leaf l) q = refuses AlreadyMapped (page_taken l q) (inl refl)
      go (Open o) q = ⊎_elim
          (λ g. refuses AlreadyMapped (page_over o q g) (inl refl))
          (λ g. ⊎_elim
          (λ k. refuses NoFrames (page_short o q g k) (inr refl))
          (λ k. takes (min o.level c - t) (page_done_lem o q g k) k)
          (below? (length p / 512 - used) (min o.level c - t)))
          (below? o.level t)

  -- no more frames than there are
  pub page_few : (u : ℕ) → count_page p b used c v t ≡ Ok u → used ≤ length p / 512 → u ≤ length p / 512
  page_few u e h = go counts
    where
      go : Counts → u ≤ length p / 512
      go (refuses r q o) = not_both (sym q ∙ e)
      go (takes n q k) =
          let z : Ok (used + n) ≡ Ok u = sym q ∙ e in
          let y : used + n ≡ u = cc in
          omega arith

  -- 7 or 8
  pub page_refuses : (r : Refusal) → count_page p b used c v t ≡ Err r → (r ≡ AlreadyMapped) ⊎ (r ≡ NoFrames)
  page_refuses r e = go counts
    where
      go : Counts → (r ≡ AlreadyMapped) ⊎ (r ≡ NoFrames)
      go (refuses y q o) =
          let z : Err y ≡ Err r = sym q ∙ e in
          let w : y ≡ r = cc in
          subst (λ (x : Refusal). (x ≡ AlreadyMapped) ⊎ (x ≡ NoFrames)) w o
      go (takes n q k) = not_both (sym e ∙ q)

-- the count of a range, by what it makes of the first page, of level t
module _ (p : List ℕ) (b used c v pa n top : ℕ) where
  pub counted_end : (k : ℕ) → n ≡ 0 → counted k p b used c v pa n top ≡ Ok used
  unfolding counted
  counted_end zero e = refl
  counted_end (suc k) e = rw (eq-eqb n 0 e)

  module _ (k t : ℕ) (some : n ≡ 0 → ⊥) (et : t ≡ page_level top v pa n) where
    pub counted_fail : (r : Refusal) → count_page p b used c v t ≡ Err r → counted (suc k) p b used c v pa n top ≡ Err r
    unfolding counted
    counted_fail r e =
        let h : count_page p b used c v (page_level top v pa n) ≡ Err r = ap (count_page p b used c v) (sym et) ∙ e in
        rw (ne_eqb n 0 some, h)

    pub counted_next : (u : ℕ) → count_page p b used c v t ≡ Ok u
        → counted (suc k) p b used c v pa n top ≡ counted k p b u (begins (v + span t)) (v + span t) (pa + span t) (n - span t) top
    unfolding counted
    counted_next u e =
        let h : count_page p b used c v (page_level top v pa n) ≡ Ok u = ap (count_page p b used c v) (sym et) ∙ e in
        rw (ne_eqb n 0 some, h, et)

-- a page that fails, and one that is mapped
then_fail : (m : Mapping) (rest : ℕ → List ℕ → Mapping) (r : Refusal) → m.result ≡ Err r → and_then m rest ≡ m
then_fail m rest r e = rw e

then_next : (m : Mapping) (rest : ℕ → List ℕ → Mapping) (u : ℕ) → m.result ≡ Ok u → and_then m rest ≡ rest u m.pool
then_next m rest u e = rw e

-- what mapping a range comes to
module _ (p : List ℕ) (b used v pa n top f : ℕ) where
  pub pages_end : (k : ℕ) → n ≡ 0 → pages k p b used v pa n top f ≡ record { result = Ok used; pool = p }
  unfolding pages
  pages_end zero e = refl
  pages_end (suc k) e = rw (eq-eqb n 0 e)

  module _ (k t : ℕ) (some : n ≡ 0 → ⊥) (et : t ≡ page_level top v pa n) where
    one : pages (suc k) p b used v pa n top f ≡ and_then (mapped p b used v pa (size_at t) f) (λ u q. pages k q b u (v + span t) (pa + span t) (n - span t) top f)
    unfolding pages
    one = rw (ne_eqb n 0 some, et)

    pub pages_fail : (r : Refusal) → (mapped p b used v pa (size_at t) f).result ≡ Err r → pages (suc k) p b used v pa n top f ≡ mapped p b used v pa (size_at t) f
    pages_fail r e = one ∙ then_fail (mapped p b used v pa (size_at t) f) (λ u q. pages k q b u (v + span t) (pa + span t) (n - span t) top f) r e

    pub pages_next : (u : ℕ) → (mapped p b used v pa (size_at t) f).result ≡ Ok u
        → pages (suc k) p b used v pa n top f ≡ pages k (mapped p b used v pa (size_at t) f).pool b u (v + span t) (pa + span t) (n - span t) top f
    pages_next u e = one ∙ then_next (mapped p b used v pa (size_at t) f) (λ u q. pages k q b u (v + span t) (pa + span t) (n - span t) top f) u e
