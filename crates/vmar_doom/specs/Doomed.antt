-- The regions that go when [b, e) is cut out of region r. The Rust's `unmap_inner` destroys each child of r that lies within the range, and `destroy_internal` all below it.
-- Document 01, 'Regions': "Ranges are half-open for overlap"; within is closed, as the Rust's.
use Rattle.std.specs.Prelude.{ℕ, zero, suc, ◌-◌, ◌<◌, ◌≡◌, Bool, true, false, ◌||◌, List, eqb, get_or, set, replicate}
use Rattle.paging.specs.Choice.{pick, Decided}
use Rattle.space.specs.Range.{inside}
use Rattle.space.specs.Space.{region_at, is_region, region_place}
use Rattle.space.specs.declared.Region.{Region}
use Rattle.space.specs.declared.Space.{Space}

-- g is a child of region r and lies within [b, e)
unfoldable pub is_child_in : Region → ℕ → ℕ → ℕ → Bool
is_child_in g r b e = pick (eqb g.parent r) (inside g.addr g.size b (e - b)) false

-- slot i holds a region that goes: a child of r within the range, or one whose parent goes
pub data Doomed (s : Space) (r b e : ℕ) : ℕ → Type 0 where
  child : (i : ℕ) → i < 32 → is_region s i ≡ true → is_child_in (region_at s i) r b e ≡ true → Doomed s r b e i
  below : (i : ℕ) → i < 32 → is_region s i ≡ true → Doomed s r b e (region_at s i).parent → Doomed s r b e i

-- the marks of the first k places of the list, each by its own range and its parent's mark: a parent stands before its children
unfoldable pub marked_to : Space → ℕ → ℕ → ℕ → ℕ → List Bool
marked_to s r b e zero = replicate 32 false
marked_to s r b e (suc k) =
    let i = region_place s k in
    set (marked_to s r b e k) i (is_child_in (region_at s i) r b e || get_or (marked_to s r b e k) (region_at s i).parent false)

abbrev pub marked : Space → ℕ → ℕ → ℕ → List Bool
marked s r b e = marked_to s r b e s.regcount

-- a list of marks tells of each slot whether its region goes; `marked` does, on a space that passes its check (proofs/Dooms, `marked_tells`)
abbrev pub Marks : Space → ℕ → ℕ → ℕ → List Bool → Type 0
Marks s r b e marks = (i : ℕ) → i < 32 → Decided (Doomed s r b e i) (get_or marks i false)
