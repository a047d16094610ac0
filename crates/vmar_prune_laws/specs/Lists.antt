-- The list of mappings after a cut. Document 01, 'Regions': "Lists keep the Rust's order"; a middle cut's suffix takes "a slot free before the call" and the end of the
-- list.
use Rattle.std.specs.Prelude.{ℕ, ◌+◌, ◌<◌, ◌≡◌}
use Rattle.space.specs.Space.{is_mapping, mapping_place}
use Rattle.space.specs.declared.Space.{Space}
use Rattle.vmar_offset.specs.Offset.{free_mapping}
use Rattle.vmar_prune.specs.Prune.{split_slot}
use Rattle.vmar_prune_laws.specs.Order.{InOrder}

pub record MapList (s t : Space) (r b e : ℕ) : Type 0 where
  -- so many of the old slots stay, in their order
  pub left : ℕ
  pub kept : InOrder (is_mapping t) s.maplist s.mapcount t.maplist left
  -- no more where none is split
  pub alone : (split_slot s r b e < 64 → ⊥) → t.mapcount ≡ left
  -- else the second part comes after them
  pub second : split_slot s r b e < 64 → (t.mapcount ≡ left + 1) × (mapping_place t left ≡ free_mapping s)
