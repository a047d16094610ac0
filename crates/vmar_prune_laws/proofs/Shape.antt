-- What a space and its flags are after a cut, slot by slot: all that the laws need of their definition.
use Prim.Native.Nat.{ℕ, ◌-◌, ◌/◌, ◌≤◌, ◌<◌}
use mathlib.Core.Path.{◌≡◌}
use mathlib.Core.Bool.{Bool, true, false}
use mathlib.Core.List.{List}
use lib.ListN.{length}
use Rattle.space.specs.Space.{region_at, mapping_at, is_mapping, region_place}
use Rattle.space.specs.Passes.{Listed}
use Rattle.space.specs.Arrays.{Arrays}
use Rattle.space.specs.declared.Space.{Space}
use Rattle.vmar_offset.specs.Offset.{free_mapping}
use Rattle.vmar_prune.specs.Piece.{after}
use Rattle.vmar_prune.specs.Prune.{kept_region, kept_mapping, kept_slots, split_at, second_part}
use Rattle.vmar_prune_laws.specs.Order.{InOrder}
use Rattle.vmar_prune_laws.specs.Part.{Moved}
use Rattle.vmar_prune_laws.proofs.Copies.{Begins}

-- slot x has the second part of the mapping in slot i
pub record Second (s : Space) (f : List ℕ) (r b e : ℕ) (t : Space) (g : List ℕ) (i x : ℕ) : Type 0 where
  pub slot : i < 64
  pub split : split_at s r b e i ≡ true
  pub here : x ≡ free_mapping s
  pub low : x < 64
  pub free : is_mapping s x ≡ false
  pub is : mapping_at t x ≡ second_part s e i
  pub moved : Moved f i (((mapping_at s i).size - after (mapping_at s i) e) / 4096) g x (after (mapping_at s i) e / 4096)

-- slot x has what is kept of its mapping
pub record First (s : Space) (f : List ℕ) (marks : List Bool) (r b e : ℕ) (t : Space) (g : List ℕ) (x : ℕ) : Type 0 where
  pub is : mapping_at t x ≡ kept_mapping marks r b e (mapping_at s x)
  pub moved : (d : ℕ) → Begins (mapping_at s x) (mapping_at t x) d → Moved f x d g x ((mapping_at t x).size / 4096)

pub data Slot (s : Space) (f : List ℕ) (marks : List Bool) (r b e : ℕ) (t : Space) (g : List ℕ) (x : ℕ) : Type 0 where
  old : First s f marks r b e t g x → Slot s f marks r b e t g x
  new : (i : ℕ) → Second s f r b e t g i x → Slot s f marks r b e t g x

pub record Shape (s : Space) (f : List ℕ) (marks : List Bool) (r b e : ℕ) (t : Space) (g : List ℕ) : Type 0 where
  pub arrays : Arrays t
  pub lent : length g ≡ 32768
  pub nextid : t.nextid ≡ s.nextid
  -- regions and their list
  pub region : (i : ℕ) → i < 32 → region_at t i ≡ kept_region marks i (region_at s i)
  pub reglist : InOrder (kept_slots marks) s.reglist s.regcount t.reglist t.regcount
  pub fewer : t.regcount ≤ s.regcount
  pub rest : (k : ℕ) → t.regcount ≤ k → k < 32 → region_place t k ≡ 0
  -- mappings and their list
  pub slots : (x : ℕ) → x < 64 → Slot s f marks r b e t g x
  pub second : (i : ℕ) → i < 64 → split_at s r b e i ≡ true → Second s f r b e t g i (free_mapping s)
  pub listed : Listed 64 t.maplist t.mapcount (is_mapping t)
