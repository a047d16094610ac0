-- What `split_at` is, by what the walk found.
use Prim.Native.Nat.{ℕ, zero, suc, ◌+◌, ◌-◌, ◌<◌}
use mathlib.Core.Path.{◌≡◌, refl}
use mathlib.Core.Bool.{true, false}
use mathlib.Core.List.{List}
use native.Mathlib.Omega.{arith}
use native.Mathlib.Numerals.{sub-one}
use Rattle.common.specs.Page.{aligned}
use Rattle.walk.specs.Walk.{found}
use Rattle.walk.specs.declared.Walk.TheVariants.{Leaf, Open}
use Rattle.walk.specs.declared.LeafEntry.{LeafEntry}
use Rattle.walk.specs.declared.OpenEntry.{OpenEntry}
use Rattle.table_split.specs.Split.{split_leaf, split_at}

module _ (p : List ℕ) (b used v : ℕ) where
  pub at_end : (n : ℕ) → n ≡ 0 → record { pool = p; used = used } ≡ split_at n p b used v
  unfolding split_at
  at_end n e = rw e

  pub at_hole : (n : ℕ) (o : OpenEntry) → found p b v ≡ Open o → record { pool = p; used = used } ≡ split_at n p b used v
  unfolding split_at
  at_hole zero o q = refl
  at_hole (suc n) o q = rw q

  module _ (e : LeafEntry) (q : found p b v ≡ Leaf e) where
    pub at_begin : (n : ℕ) → aligned e.size v ≡ true → record { pool = p; used = used } ≡ split_at n p b used v
    unfolding split_at
    at_begin zero a = refl
    at_begin (suc n) a = rw (q, a)

    pub at_more : (n : ℕ) → 0 < n → aligned e.size v ≡ false → split_at (n - 1) (split_leaf p b used e) b (used + 1) v ≡ split_at n p b used v
    unfolding split_at
    at_more zero h a = absurd (omega arith)
    at_more (suc n) h a = rw (q, a, sub-one)
