-- Leaves that a few operations tell, for speed: most words of a full pool are such. What they do not tell is tested whole, so nothing is
-- said of the words that fail them.
use Rattle.std.specs.Prelude.{ℕ, ◌/◌, ◌%◌, ◌^◌, ◌<◌, ◌≡◌, true, ◌⊎◌, List, get_or}
use Rattle.std.specs.Int.Bits.{bit_and}
use Rattle.paging.specs.Format.{Entry}
use Rattle.x86_64.specs.Entry.{is_leaf, x86}

-- the masked bits are as the tag has them, and bit 0 is set, or neither WRITE nor EXECUTE is given
pub record Told (mask tag w : ℕ) : Type 0 where
  pub fits : w < 2 ^ 64
  pub bits : bit_and w mask ≡ tag
  pub agree : (w % 2 ≡ 1) ⊎ ((w / 2 % 2 ≡ 0) × (w / 2 ^ 63 ≡ 1))

-- mask and tag that leaves of level l alone have
pub record Sure (l mask tag : ℕ) : Type 0 where
  pub leaves : (w : ℕ) → Told mask tag w → Entry x86 l w × (is_leaf w ≡ true)

-- unused, or such a leaf; and the first n words of a table are
abbrev pub Plain : ℕ → ℕ → ℕ → Type 0
Plain mask tag w = (w ≡ 0) ⊎ Told mask tag w

abbrev pub AllPlain : ℕ → ℕ → List ℕ → ℕ → Type 0
AllPlain mask tag t n = (k : ℕ) → k < n → Plain mask tag (get_or t k 0)
