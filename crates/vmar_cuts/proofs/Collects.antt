-- One turn of a walk over places and its end, for loops that cut and loops that count.
use Prim.Native.Nat.{ℕ, zero, suc, ◌+◌, ◌-◌, ◌*◌, ◌/◌, ◌≤◌, ◌<◌}
use mathlib.Core.Path.{◌≡◌, sym, ◌∙◌, ap}
use mathlib.Core.List.{List, [], ◌++◌}
use mathlib.Core.Logic.{⊎_elim}
use native.Mathlib.Omega.{arith}
use lib.Dec.{leb, ltb}
use borrow.Author.Tests.{lt-ltb, le-ltb, le-leb, lt-leb}
use Rattle.paging.proofs.Cases.{below?}
use Rattle.table_split.specs.Split.{Tables}
use Rattle.table_cuts.specs.Cuts.{Cut, cut_all, non_empty}
use Rattle.table_cuts.proofs.Append.{cut_append, cut_none, count_append, count_none}
use Rattle.vmar_cuts.specs.Cuts.{collect}

module _ (f : ℕ → List Cut) (k n : ℕ) where
  pub collect_more : k < n → collect f k (n - k) ≡ f k ++ collect f (k + 1) (n - (k + 1))
  unfolding collect
  collect_more h = let e : n - k ≡ suc (n - (k + 1)) = omega arith in rw e

  pub collect_end : n ≤ k → collect f k (n - k) ≡ []
  unfolding collect
  collect_end h = let e : n - k ≡ zero = omega arith in rw e

  -- the cuts that are left
  pub cuts_more : (b : ℕ) (t u : Tables) → k < n → u ≡ cut_all b (f k) t → cut_all b (collect f (k + 1) (n - (k + 1))) u ≡ cut_all b (collect f k (n - k)) t
  cuts_more b t u h e =
      ap (cut_all b (collect f (k + 1) (n - (k + 1)))) e
      ∙ sym (ap (λ (xs : List Cut). cut_all b xs t) (collect_more h) ∙ cut_append b (f k) (collect f (k + 1) (n - (k + 1))) t)

  pub cuts_end : (b : ℕ) (t : Tables) → n ≤ k → t ≡ cut_all b (collect f k (n - k)) t
  cuts_end b t h = sym (ap (λ (xs : List Cut). cut_all b xs t) (collect_end h) ∙ cut_none b t)

  -- the room that is left
  pub room_more : (x y : ℕ) → k < n → y ≡ x - non_empty (f k) → y - non_empty (collect f (k + 1) (n - (k + 1))) ≡ x - non_empty (collect f k (n - k))
  room_more x y h e =
      let z = ap non_empty (collect_more h) ∙ count_append (f k) (collect f (k + 1) (n - (k + 1))) in
      omega arith

  pub room_end : (x : ℕ) → n ≤ k → x ≡ x - non_empty (collect f k (n - k))
  room_end x h = let z = ap non_empty (collect_end h) ∙ count_none in omega arith

-- at the start all is left
pub collect_start : (f : ℕ → List Cut) (n : ℕ) → collect f 0 (n - 0) ≡ collect f 0 n
collect_start f n = let e : n - 0 ≡ n = omega arith in ap (collect f 0) e

-- the cuts of one list after those of another, and whether four frames for each suffice
pub both_cut : (n : ℕ) (xs ys : List Cut) (t u v : Tables) → u ≡ cut_all n xs t → v ≡ cut_all n ys u → v ≡ cut_all n (xs ++ ys) t
both_cut n xs ys t u v p q = q ∙ ap (cut_all n ys) p ∙ sym (cut_append n xs ys t)

pub both_room : (xs ys : List Cut) (free x y : ℕ) → x ≡ free / 4 + 1 - non_empty xs → y ≡ x - non_empty ys → ltb 0 y ≡ leb (4 * non_empty (xs ++ ys)) free
both_room xs ys free x y p q =
    let z = count_append xs ys in
    ⊎_elim
    (λ (l : 0 < y). lt-ltb 0 y l ∙ sym (le-leb (4 * non_empty (xs ++ ys)) free (omega arith)))
    (λ (l : y ≤ 0). le-ltb 0 y l ∙ sym (lt-leb (4 * non_empty (xs ++ ys)) free (omega arith)))
    (below? 0 y)
