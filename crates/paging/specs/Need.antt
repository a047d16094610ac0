-- What a cut requires, found from two walks: those of the range's ends. That this is the sum over all leaves is proved (paging/proofs/Sums).
--
-- In this order: where an address falls, the splits that it needs, what they leave of another's leaf, both ends together, the leaf over an address.
use Rattle.std.specs.Prelude.{ℕ, zero, suc, ◌+◌, ◌/◌, ◌%◌, Bool, false, eqb, ltb}
use Rattle.paging.specs.Choice.{pick}
use Rattle.paging.specs.Level.{span}
use Rattle.paging.specs.Format.{by_kind, Format}
use Rattle.paging.specs.Table.{View, view, shows}

-- x falls inside block q of level l, and not onto its begin
abbrev pub falls : ℕ → ℕ → ℕ → Bool
falls l q x = pick (eqb (x / span l) q) (ltb 0 (x % span l)) false

-- the splits until x is where a leaf begins, from a leaf of level l over x
unfoldable pub splits : ℕ → ℕ → ℕ
splits x zero = 0
splits x (suc l) = pick (ltb 0 (x % span (suc l))) (1 + splits x l) 0

-- the level of the leaf over v after the splits at x, where that of v has level l
unfoldable pub left : ℕ → ℕ → ℕ → ℕ
left x v zero = 0
left x v (suc l) = pick (falls (suc l) (v / span (suc l)) x) (left x v l) (suc l)

-- first at a, over which is a leaf of level la, then at e
abbrev pub need : ℕ → ℕ → ℕ → ℕ → ℕ
need a la e le = splits a la + splits e (left a e le)

-- the level of the leaf over an address; 0 also where there is none, since a leaf of the lowest level is never split
abbrev pub leaf_level : Format → View → ℕ
leaf_level F (view l w) = by_kind (F.kind l w) 0 l (λ m. 0)

abbrev pub over : Format → (ℕ → ℕ → ℕ) → ℕ → ℕ → ℕ
over F W root v = leaf_level F (shows F W root v)
