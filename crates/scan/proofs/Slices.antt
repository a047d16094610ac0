-- What `&xs[a..b]` holds.
use Rattle.std.proofs.Common.{◌≡◌, ℕ, ◌+◌, ◌-◌, ◌<◌, ◌≤◌, List, length, get_or, drop, ◌∙◌, arith, length-take, length-drop, get_or-take, get_or-drop}
use Rattle.std.specs.List.{slice_range}

module _ (xs : List ℕ) (a b : ℕ) (in_list : b ≤ length xs) where
  pub slice_length : length (slice_range xs a b) ≡ b - a
  slice_length = omega (arith, length-take (b - a) (drop a xs), length-drop a xs)

  pub slice_at : (k : ℕ) → a + k < b → get_or (slice_range xs a b) k 0 ≡ get_or xs (a + k) 0
  slice_at k l = get_or-take (b - a) (drop a xs) k 0 (omega arith) ∙ get_or-drop a xs k 0
