-- Cuts of one list after those of another.
use Prim.Native.Nat.{ℕ, ◌+◌}
use mathlib.Core.Path.{◌≡◌, refl}
use mathlib.Core.List.{List, [], ◌∷◌, ◌++◌}
use native.Mathlib.Omega.{arith}
use lib.Dec.{eqb}
use Rattle.paging.specs.Choice.{pick}
use Rattle.table_split.specs.Split.{Tables}
use Rattle.table_cuts.specs.Cuts.{Cut, cut_one, cut_all, non_empty}

pub cut_none : (b : ℕ) (t : Tables) → cut_all b [] t ≡ t
unfolding cut_all
cut_none b t = refl

pub cut_single : (b : ℕ) (c : Cut) (t : Tables) → cut_all b (c ∷ []) t ≡ cut_one b c t
unfolding cut_all
cut_single b c t = refl

pub cut_append : (b : ℕ) (xs ys : List Cut) (t : Tables) → cut_all b (xs ++ ys) t ≡ cut_all b ys (cut_all b xs t)
unfolding cut_all
cut_append b [] ys t = refl
cut_append b (c ∷ xs) ys t = cut_append b xs ys (cut_one b c t)

pub count_none : non_empty [] ≡ 0
unfolding non_empty
count_none = refl

pub count_single : (c : Cut) → non_empty (c ∷ []) ≡ pick (eqb c.len 0) 0 1
unfolding non_empty
count_single c = omega arith

pub count_append : (xs ys : List Cut) → non_empty (xs ++ ys) ≡ non_empty xs + non_empty ys
unfolding non_empty
count_append [] ys = omega arith
count_append (c ∷ xs) ys = let z = count_append xs ys in omega arith
