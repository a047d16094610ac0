-- The splits at an address of a pool are those of the format (paging/specs/Steps).
use Prim.Native.Nat.{ℕ, zero, suc, ◌+◌, ◌/◌, ◌%◌, ◌≤◌, ◌<◌}
use mathlib.Core.Path.{◌≡◌, refl, sym, ap, ◌∙◌, subst}
use mathlib.Core.Bool.{Bool, true, false}
use mathlib.Core.Logic.{◌⊎◌}
use mathlib.Core.List.{List}
use native.Mathlib.Omega.{arith}
use lib.ListN.{length}
use borrow.Author.Tests.{eqb-true}
use Rattle.paging.specs.Level.{span, Canonical}
use Rattle.paging.specs.Need.{splits}
use Rattle.paging.specs.Steps as steps
use Rattle.paging.specs.Steps.{SplitAt}
use Rattle.common.specs.Page.{level_of, size_of, aligned}
use Rattle.common.proofs.Pages.{size_span}
use Rattle.x86_64.specs.Entry.{x86}
use Rattle.pool.specs.Pool.{mem_of, Taken}
use Rattle.form.specs.Form.{Good}
use Rattle.walk.specs.Walk.{found}
use Rattle.walk.specs.declared.Walk.{Walk}
use Rattle.walk.specs.declared.Walk.TheVariants.{Leaf, Open}
use Rattle.walk.specs.declared.LeafEntry.{LeafEntry}
use Rattle.table_split.specs.Split.{Tables, split_leaf, leaf_over, split_at}
use Rattle.table_split.proofs.Once as once
use Rattle.table_split.proofs.Once.{leaf_over_lem, level_is, wants}
use Rattle.table_split.proofs.Unfolds.{at_hole, at_begin, at_more}

-- what a pool and the frames in use become by the splits at v
pub record Downs (p : List ℕ) (base used v : ℕ) (t : Tables) : Type 0 where
  pub steps : SplitAt x86 (Taken (base / 4096)) (λ k. base / 4096 + k) (base / 4096) v (mem_of p (base / 4096)) used (mem_of t.pool (base / 4096)) t.used
  pub good : Good t.pool base t.used
  pub long : length t.pool ≡ length p

module _ (base v : ℕ) (page : v % 4096 ≡ 0) (at : Canonical 4 v ⊎ (v % span 3 ≡ 0)) where
  abbrev b : ℕ
  b = base / 4096

  -- nothing is to be split
  module _ (p : List ℕ) (used : ℕ) (G : Good p base used) where
    here : v % span (leaf_over p b v) ≡ 0 → Downs p base used v (record { pool = p; used = used })
    here z = record {
      steps = steps.rests (mem_of p b) used (subst (λ (l : ℕ). v % span l ≡ 0) (leaf_over_lem p b used G.formed v) z);
      good = G;
      long = refl;
    }

    more : (e : LeafEntry) (q : found p b v ≡ Leaf e) (off : aligned e.size v ≡ false) (room : used < length p / 512) (t : Tables)
        → Downs (split_leaf p b used e) base (used + 1) v t → Downs p base used v t
    more e q off room t D = record {
      steps = steps.splits (mem_of p b) used (mem_of (split_leaf p b used e) b) (mem_of t.pool b) t.used _ (b + e.frame) 0
          (once.falls p base used G v page e q off)
          (once.once p base used G v page e q off room)
          D.steps;
      good = D.good;
      long = D.long ∙ once.same_length p base used G v page e q off room;
    }

    -- by what the walk found
    by_walk : (n : ℕ) (w : Walk) → found p b v ≡ w → used + splits v (leaf_over p b v) ≤ length p / 512 → leaf_over p b v ≤ n
        → ((k : ℕ) → n ≡ suc k → (p' : List ℕ) (u : ℕ) → Good p' base u → u + splits v (leaf_over p' b v) ≤ length p' / 512 → leaf_over p' b v ≤ k → Downs p' base u v (split_at k p' b u v))
        → Downs p base used v (split_at n p b used v)
    by_walk n (Open o) q room le ih =
        let z : leaf_over p b v ≡ 0 = rw q in
        subst (Downs p base used v) (at_hole p b used v n o q) (here (rw z page))
    by_walk n (Leaf e) q room le ih = by_test (aligned e.size v) refl
      where
        level : leaf_over p b v ≡ level_of e.size
        level = rw q

        by_test : (t : Bool) → aligned e.size v ≡ t → Downs p base used v (split_at n p b used v)
        by_test true a =
            let z : v % span (leaf_over p b v) ≡ 0 = ap (λ (l : ℕ). v % span l) level ∙ ap (λ (m : ℕ). v % m) (sym (size_span e.size)) ∙ eqb-true (v % size_of e.size) 0 a in
            subst (Downs p base used v) (at_begin p b used v e q n a) (here z)
        by_test false off = further n refl
          where
            free : used < length p / 512
            free = omega (arith, wants p base used G v page e q off)

            further : (m : ℕ) → n ≡ m → Downs p base used v (split_at n p b used v)
            further zero r = absurd (omega (arith, level_is p base used G v page e q off, le))
            further (suc k) r =
                let less = once.one_less p base used G v page e q off free at in
                let len = once.same_length p base used G v page e q off free in
                let now = once.left_over p base used G v page e q off free at in
                let was = level_is p base used G v page e q off in
                let D = ih k r (split_leaf p b used e) (used + 1) (once.good p base used G v page e q off free at) (rw len (omega (arith, less, room))) (omega (arith, now, was, le)) in
                let eq : split_at k (split_leaf p b used e) b (used + 1) v ≡ split_at n p b used v =
                ap (λ (m : ℕ). split_at m (split_leaf p b used e) b (used + 1) v) (omega (arith, r)) ∙ at_more p b used v e q n (omega (arith, r)) off in
                subst (Downs p base used v) eq (more e q off free (split_at k (split_leaf p b used e) b (used + 1) v) D)

  pub downs : (n : ℕ) (p : List ℕ) (used : ℕ) → Good p base used → used + splits v (leaf_over p b v) ≤ length p / 512 → leaf_over p b v ≤ n
      → Downs p base used v (split_at n p b used v)
  downs zero p used G room le = by_walk p used G 0 (found p b v) refl room le (λ k r. absurd (omega arith))
  downs (suc n) p used G room le = by_walk p used G (suc n) (found p b v) refl room le (λ k r p' u G' room' le'.
      let e : n ≡ k = omega arith in
      subst (λ (m : ℕ). Downs p' base u v (split_at m p' b u v)) e (downs n p' u G' room' (rw e le')))
