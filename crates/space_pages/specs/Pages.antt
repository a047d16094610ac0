-- What is asked of the page flags, for the proof of the check. What it decides as a whole is Passes, of crate space.
use Rattle.std.specs.Prelude.{ℕ, ◌/◌, ◌<◌, ◌≡◌, true, List, length, get_or}
use Rattle.common.specs.Flags.{known_page}
use Rattle.space.specs.Space.{mapping_at}
use Rattle.space.specs.Passes.{Pages, others}
use Rattle.space.specs.declared.Space.{Space}

-- page flags
abbrev pub AllAlike : List ℕ → ℕ → Type 0
AllAlike pages b = (j : ℕ) → j < length pages → (known_page (get_or pages j 0) ≡ true) × (others (get_or pages j 0) ≡ b)

abbrev pub AllZero : List ℕ → Type 0
AllZero bytes = (j : ℕ) → j < length bytes → get_or bytes j 0 ≡ 0

abbrev pub AllPages : Space → List ℕ → Type 0
AllPages s flags = (i : ℕ) → i < 64 → Pages flags i ((mapping_at s i).size / 4096)
