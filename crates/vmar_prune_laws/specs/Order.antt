-- A list of slots without those that go. Document 01, 'Regions': "Lists keep the Rust's order".
use Rattle.std.specs.Prelude.{ℕ, ◌<◌, ◌≡◌, Bool, true, List, get_or}

-- the first `now` places of `new` hold the slots of the first `count` places of `list` that are kept, in their order
pub record InOrder (keeps : ℕ → Bool) (list : List ℕ) (count : ℕ) (new : List ℕ) (now : ℕ) : Type 0 where
  -- where a place goes
  pub to : ℕ → ℕ
  -- what is kept is there
  pub stays : (j : ℕ) → j < count → keeps (get_or list j 0) ≡ true → (to j < now) × (get_or new (to j) 0 ≡ get_or list j 0)
  -- in its order
  pub order : (j k : ℕ) → j < k → k < count → keeps (get_or list j 0) ≡ true → to j < to k
  -- and nothing else
  pub only : (k : ℕ) → k < now → (j : ℕ) × (j < count) × (keeps (get_or list j 0) ≡ true) × (to j ≡ k)
