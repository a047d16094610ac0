-- What one space may become of another: an issued id stays this region's, or is without one for ever. Document 01, 'Sizes and buffers': "Region ids count up from 0
-- (the root) and never come back within a space", "An id once issued whose region is gone is 5".
use Rattle.std.specs.Prelude.{ℕ, ◌≤◌, ◌<◌, ◌≡◌, ◌⊎◌}
use Rattle.space.specs.Space.{region_at}
use Rattle.space.specs.declared.Space.{Space}
use Rattle.vmar_offset.specs.Offset.{slot_of}

-- t comes of s by calls: regions are added and vanish, none changes
pub record Later (s t : Space) : Type 0 where
  -- "ids count up"
  pub ids : s.nextid ≤ t.nextid
  -- an issued id whose region is gone stays without one
  pub gone : (id : ℕ) → id < s.nextid → slot_of s id ≡ 32 → slot_of t id ≡ 32
  -- the region of an id is gone, or stands in its slot as it was
  pub same : (id : ℕ) → id < s.nextid → slot_of s id < 32
      → (slot_of t id ≡ 32) ⊎ ((slot_of t id ≡ slot_of s id) × (region_at t (slot_of s id) ≡ region_at s (slot_of s id)))

-- "never come back": through any number of calls
pub record ForEver : Type 0 where
  pub none : (s : Space) → Later s s
  pub more : (s t u : Space) → Later s t → Later t u → Later s u
