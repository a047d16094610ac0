-- Both ends of a range split: there is room, and what is taken is what was counted.
use Prim.Native.Nat.{ℕ, ◌+◌, ◌-◌, ◌/◌, ◌%◌, ◌≤◌, ◌<◌}
use mathlib.Core.Path.{◌≡◌, sym, ap, ◌∙◌}
use mathlib.Core.Logic.{◌⊎◌, inl, ⊎_elim}
use mathlib.Core.List.{List}
use native.Mathlib.Omega.{arith}
use lib.Dec.{lit<}
use lib.ListN.{length}
use Rattle.paging.specs.Level.{span, Canonical, Within}
use Rattle.paging.specs.Need.{splits, left}
use Rattle.paging.proofs.Counts.{splits_aligned, left_most, aligned_under}
use Rattle.paging.proofs.Sums.{over_most, begins, ends}
use Rattle.paging.proofs.Downs.{Down, down}
use Rattle.x86_64.specs.Entry.{x86}
use Rattle.x86_64.proofs.Format.{lawful}
use Rattle.pool.specs.Pool.{mem_of, Taken}
use Rattle.form.specs.Form.{Good}
use Rattle.table_split.specs.Split.{leaf_over, Tables, split_at}
use Rattle.table_split.proofs.Once.{leaf_over_lem}
use Rattle.table_split.proofs.Downs.{Downs, downs}
use Rattle.table_split.specs.Split.{needed, split_ends}

module _ (p : List ℕ) (base used : ℕ) (G : Good p base used) where
  abbrev b : ℕ
  b = base / 4096

  pub level_most : (v : ℕ) → leaf_over p b v ≤ 2
  unfolding x86
  level_most v = omega (arith, leaf_over_lem p b used G.formed v, over_most x86 lawful (omega arith) (mem_of p b) b v)

module _ (p : List ℕ) (base used : ℕ) (G : Good p base used) (a e : ℕ) (pa : a % 4096 ≡ 0) (pe : e % 4096 ≡ 0) (h : a < e) (r : Within 4 a e)
    (room : needed p (base / 4096) a e ≤ length p / 512 - used) where
  pub start_at : Canonical 4 a ⊎ (a % span 3 ≡ 0)
  unfolding x86
  start_at = inl (begins x86 lawful (omega arith) (mem_of p b') b' a e h r)
    where
      b' : ℕ
      b' = base / 4096

  pub end_at : Canonical 4 e ⊎ (e % span 3 ≡ 0)
  unfolding x86
  end_at = ends x86 lawful (omega arith) (mem_of p (base / 4096)) (base / 4096) a e h r

  pub start_room : used + splits a (leaf_over p (base / 4096) a) ≤ length p / 512
  start_room = omega (arith, room, G.sized.there)

  abbrev pub t₁ : Tables
  t₁ = split_at 2 p (base / 4096) used a

  pub D₁ : Downs p base used a t₁
  D₁ = downs base a pa start_at 2 p used G start_room (level_most p base used G a)

  A : Down x86 (Taken (base / 4096)) (base / 4096) a (mem_of p (base / 4096)) used (mem_of t₁.pool (base / 4096)) t₁.used
  unfolding x86
  A = down x86 (Taken (base / 4096)) (base / 4096) (λ k. base / 4096 + k) lawful (omega arith) (lit< tt) a pa start_at (mem_of p (base / 4096)) used (mem_of t₁.pool (base / 4096)) t₁.used G.formed D₁.steps

  -- the leaf over the end, after the splits at the start
  at_end : splits e (leaf_over t₁.pool (base / 4096) e) ≡ splits e (left a e (leaf_over p (base / 4096) e))
  unfolding x86
  at_end = ⊎_elim
      (λ c.
      ap (splits e) (leaf_over_lem t₁.pool (base / 4096) t₁.used D₁.good.formed e ∙ A.levels e c ∙ ap (left a e) (sym (leaf_over_lem p (base / 4096) used G.formed e))))
      (λ z. none (leaf_over t₁.pool (base / 4096) e) (level_most t₁.pool base t₁.used D₁.good e) z
      ∙ sym (none (left a e (leaf_over p (base / 4096) e)) (omega (arith, left_most a e (leaf_over p (base / 4096) e), level_most p base used G e)) z))
      end_at
    where
      none : (l : ℕ) → l ≤ 2 → e % span 3 ≡ 0 → splits e l ≡ 0
      none l le z =
          let q : l + (3 - l) ≡ 3 = omega arith in
          splits_aligned l e (aligned_under l (3 - l) e (rw q z))

  taken₁ : t₁.used ≡ used + splits a (leaf_over p (base / 4096) a)
  taken₁ = A.taken ∙ ap (λ (l : ℕ). used + splits a l) (sym (leaf_over_lem p (base / 4096) used G.formed a))

  pub end_room : t₁.used + splits e (leaf_over t₁.pool (base / 4096) e) ≤ length t₁.pool / 512
  end_room = rw D₁.long (omega (arith, taken₁, at_end, room, G.sized.there))

  pub D₂ : Downs t₁.pool base t₁.used e (split_ends p (base / 4096) used a e)
  D₂ = downs base e pe end_at 2 t₁.pool t₁.used D₁.good end_room (level_most t₁.pool base t₁.used D₁.good e)
