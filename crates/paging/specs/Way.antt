-- The way of an address: the frame that its walk stands in after k steps. For proofs about walks.
use Rattle.std.specs.Prelude.{ℕ, zero, suc, ◌-◌}
use Rattle.paging.specs.Level.{index}
use Rattle.paging.specs.Format.{Kind, by_kind, Format}

pub data Opt : Type 0 where
  some : ℕ → Opt
  none : Opt

abbrev pub then_table : Opt → (ℕ → Kind) → Opt
then_table none f = none
then_table (some n) f = by_kind (f n) none none some

unfoldable pub way : Format → (ℕ → ℕ → ℕ) → ℕ → ℕ → ℕ → Opt
way F W root v zero = some root
way F W root v (suc k) = then_table (way F W root v k) (λ n. F.kind (F.top - k) (W n (index (F.top - k) v)))
