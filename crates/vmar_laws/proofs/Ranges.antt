-- Ranges that do not overlap.
use Prim.Native.Nat.{ℕ, ◌+◌, ◌≤◌}
use mathlib.Core.Path.{◌≡◌}
use mathlib.Core.Bool.{false}
use mathlib.Core.Logic.{inl, inr, ⊎_elim}
use Rattle.space.specs.Range.{overlap}
use Rattle.space.proofs.Ranges.{apart, apart_of}

-- whichever is named first
pub flip : (a n b m : ℕ) → overlap a n b m ≡ false → overlap b m a n ≡ false
flip a n b m e = apart_of b m a n (⊎_elim (λ (l : b + m ≤ a). inr l) (λ (l : a + n ≤ b). inl l) (apart a n b m e))
