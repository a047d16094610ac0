-- A page's new tables, as the addresses outside the page see them: a word that was there is where it was, and an unused entry is met no higher than where
-- the address parts from the page. It goes by levels alone: which frames the tables are in does not matter.
use Prim.Native.Nat.{ℕ, zero, suc, ◌+◌, ◌*◌, ◌/◌, ◌^◌, ◌≤◌, ◌<◌, min}
use mathlib.Core.Path.{◌≡◌, refl, sym, ap, ◌∙◌}
use mathlib.Core.Logic.{⊎_elim}
use mathlib.Core.List.{List}
use native.Mathlib.Omega.{arith}
use lib.Dec.{eqb}
use lib.ListN.{length}
use borrow.Author.Tests.{ne_eqb}
use Rattle.paging.specs.Choice.{pick}
use Rattle.paging.specs.Level.{span, index, Canonical}
use Rattle.paging.specs.Table.{View, view, shows}
use Rattle.paging.proofs.Cases.{same?, below?}
use Rattle.paging.proofs.Changes.{End, end, inside}
use Rattle.x86_64.specs.Entry.{x86}
use Rattle.pool.specs.Pool.{put_word, mem_of, Taken}
use Rattle.form.specs.Form.{WellFormed}
use Rattle.walk.specs.declared.OpenEntry.{OpenEntry}
use Rattle.walk.proofs.Found.{Unused}
use Rattle.table_map.specs.Map as map
use Rattle.table_map.specs.Map.{under, filled}
use Rattle.table_map.proofs.Fills.{grown_length}
use Rattle.table_laws.proofs.Writes.{outside_after}
use Rattle.table_laws.proofs.Grows.{formed_grown, unused_grown, grown_far, grown_near}
use Rattle.table_map_cont.proofs.Pages.{above, Part}

abbrev pub lowered : ℕ → View → View
lowered d (view l w) = pick (eqb w 0) (view (min l d) 0) (view l w)

pub lowered_used : (d l w : ℕ) → (w ≡ 0 → ⊥) → lowered d (view l w) ≡ view l w
lowered_used d l w ne = rw (ne_eqb w 0 ne)

-- what is no higher than d already
keeps_low : (d l w : ℕ) → (w ≡ 0 → l ≤ d) → view l w ≡ lowered d (view l w)
keeps_low d l w h = ⊎_elim
    (λ (e : w ≡ 0). let q : l ≡ min l d = omega (arith, h e) in rw e (ap (λ (m : ℕ). view m 0) q))
    (λ ne. sym (lowered_used d l w ne))
    (same? w 0)

pub lowered_twice : (d d' : ℕ) (o : View) → d ≤ d' → lowered d (lowered d' o) ≡ lowered d o
lowered_twice d d' (view l w) h = ⊎_elim
    (λ (e : w ≡ 0). rw e (ap (λ (m : ℕ). view m 0) (omega arith)))
    (λ ne. rw (ne_eqb w 0 ne, ne_eqb w 0 ne))
    (same? w 0)

-- a walk ends at no higher level than the root's
pub lowered_top : (p : List ℕ) (b u : ℕ) → WellFormed p b u → (x : ℕ) → shows x86 (mem_of p b) b x ≡ lowered 3 (shows x86 (mem_of p b) b x)
unfolding x86
lowered_top p b u T x =
    let E = end x86 (mem_of p b) (Taken b u) b T x in
    let q : view E.l (mem_of p b E.n (index E.l x)) ≡ lowered 3 (view E.l (mem_of p b E.n (index E.l x))) = keeps_low 3 E.l (mem_of p b E.n (index E.l x)) (λ z. E.low) in
    E.shown ∙ q ∙ ap (lowered 3) (sym E.shown)

-- the unused entry o ends v's walk, and x parts from v at level d
module _ (p : List ℕ) (b u : ℕ) (T : WellFormed p b u) (v : ℕ) (o : OpenEntry) (U : Unused p b u T v o) (x d : ℕ) (P : Part v x d) where
  abbrev E : End x86 (mem_of p b) (Taken b u) b T v
  E = U.placed.E

  -- no higher than d, where v meets none higher
  stays : o.level ≤ d → shows x86 (mem_of p b) b x ≡ lowered d (shows x86 (mem_of p b) b x)
  stays h =
      let X = end x86 (mem_of p b) (Taken b u) b T x in
      let w : ℕ = mem_of p b X.n (index X.l x) in
      X.shown ∙ keeps_low d X.l w (λ z. ⊎_elim (λ g. absurd (shared X g)) (λ g. g) (below? d X.l)) ∙ ap (lowered d) (sym X.shown)
    where
      shared : (X : End x86 (mem_of p b) (Taken b u) b T x) → d < X.l → ⊥
      shared X g =
          let near : v / span X.l ≡ x / span X.l = sym (above (suc d) X.l x v g P.joined) in
          let s : shows x86 (mem_of p b) b v ≡ view X.l (mem_of p b X.n (index X.l x)) = inside x86 (mem_of p b) (mem_of p b) (Taken b u) b T x X (λ n i t k ne. refl) v near X.last in
          let same : view E.l (mem_of p b E.n (index E.l v)) ≡ view X.l (mem_of p b X.n (index X.l x)) = sym E.shown ∙ s in
          let l : E.l ≡ X.l = cc in
          omega (arith, l, U.placed.level)

module _ (b v t w : ℕ) (cv : Canonical 4 v) (x : ℕ) (cx : Canonical 4 x) (d : ℕ) (P : Part v x d) (low : t ≤ d) where
  none : (p : List ℕ) (u : ℕ) (T : WellFormed p b u) (o : OpenEntry) → Unused p b u T v o → o.level ≡ t → u * 512 ≤ length p
      → shows x86 (mem_of (put_word p o.frame o.place w) b) b x ≡ lowered d (shows x86 (mem_of p b) b x)
  none p u T o U e room =
      outside_after p b u T v o.level o.frame o.place w U.placed room cv x cx (λ q. P.apart (above o.level d x v (omega arith) q))
      ∙ stays p b u T v o U x d P (omega arith)

  -- one table more, and the rest
  more : (p p'' : List ℕ) (u m : ℕ) (T : WellFormed p b u) (o : OpenEntry) (U : Unused p b u T v o) → o.level ≡ suc m → u * 512 + 512 ≤ length p → (b + u) * 4096 < 2 ^ 52
      → shows x86 (mem_of p'' b) b x ≡ lowered d (shows x86 (mem_of (map.grown p b u o) b) b x) → shows x86 (mem_of p'' b) b x ≡ lowered d (shows x86 (mem_of p b) b x)
  more p p'' u m T o U lower room bound r = r ∙ ⊎_elim near (λ ne. ap (lowered d) (grown_far p b u T v o U m lower room bound cv x cx ne)) (same? (x / span E.l) (v / span E.l))
    where
      E : End x86 (mem_of p b) (Taken b u) b T v
      E = U.placed.E

      near : x / span E.l ≡ v / span E.l → lowered d (shows x86 (mem_of (map.grown p b u o) b) b x) ≡ lowered d (shows x86 (mem_of p b) b x)
      near e =
          let s = grown_near p b u T v o U m lower room bound x e in
          let below : d ≤ m = ⊎_elim (λ (h : m < d). absurd (P.apart (above E.l d x v (omega (arith, U.placed.level)) e))) (λ h. h) (below? m d) in
          ap (lowered d) s.1 ∙ ap (λ (l : ℕ). view l 0) (omega arith) ∙ sym (ap (lowered d) s.0)

  pub lowers : (n : ℕ) (p : List ℕ) (u : ℕ) (T : WellFormed p b u) (o : OpenEntry) → Unused p b u T v o → o.level ≡ t + n → (u + n) * 512 ≤ length p → (b + (u + n)) * 4096 ≤ 2 ^ 52
      → shows x86 (mem_of (filled n p b u v o w) b) b x ≡ lowered d (shows x86 (mem_of p b) b x)
  unfolding filled
  lowers zero p u T o U e room bound = none p u T o U (omega arith) (omega arith)
  lowers (suc n) p u T o U e room bound =
      more p (filled n (map.grown p b u o) b (u + 1) v (under u v o) w) u (t + n) T o U lower here below
      (lowers n (map.grown p b u o) (u + 1) (formed_grown p b u T v o U (t + n) lower here below) (under u v o) (unused_grown p b u T v o U (t + n) lower here below) (omega (arith, lower))
      (omega (arith, grown_length p b u o here)) (omega arith))
    where
      lower : o.level ≡ suc (t + n)
      lower = omega arith

      here : u * 512 + 512 ≤ length p
      here = omega arith

      below : (b + u) * 4096 < 2 ^ 52
      below = omega arith
