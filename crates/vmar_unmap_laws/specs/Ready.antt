-- What the calls that cut have in common. Document 01: "A space passes its check when .."; "An unmap, overwrite, clear or destroy requires four free frames for each
-- non-empty mapping it will cut or drop, those in destroyed children included"; "Region ids .. never come back within a space", "An id once issued whose region is gone is
-- 5"; "Lists keep the Rust's order". The four frames a mapping always suffice, so that no accepted call runs short half-way.
use Rattle.std.specs.Prelude.{Err}
use Rattle.std.specs.Prelude.{ℕ, ◌+◌, ◌*◌, ◌/◌, ◌≤◌, ◌<◌, ◌≡◌, false, List, length}
use Rattle.refusal.specs.declared.Refusal.TheVariants.{NotMapped}
use Rattle.form.specs.Form.{Good}
use Rattle.table.specs.Table.{queried}
use Rattle.table_unmap_cont.specs.Demand.{answered}
use Rattle.table_cuts.specs.Cuts.{Cut, non_empty}
use Rattle.table_cuts.specs.Laws.{Carried}
use Rattle.space.specs.Space.{region_at, is_region, blank_region}
use Rattle.space.specs.Passes.{Passes}
use Rattle.space.specs.Arrays.{Arrays}
use Rattle.space.specs.declared.Space.{Space}
use Rattle.vmar_offset.specs.Offset.{slot_of}
use Rattle.vmar_laws.specs.Later.{Later}
use Rattle.vmar_cuts.specs.Laws.{Lies}
use Rattle.vmar_prune_laws.specs.Order.{InOrder}
use Rattle.vmar_prune_laws.specs.Cut.{SameAt}
use Rattle.vmar_unmap.specs.Unmap.{State, tables_of, free_frames, has_dead}

-- a space and a pool that pass their checks
pub record Ready (base : ℕ) (st : State) : Type 0 where
  pub arrays : Arrays st.space
  pub passes : Passes st.space st.flags
  pub good : Good st.pool base st.used

-- st has become t, and these were the cuts of the table
pub record Frames (base : ℕ) (st t : State) (cuts : List Cut) : Type 0 where
  -- "four free frames for each non-empty mapping"
  pub enough : 4 * non_empty cuts ≤ free_frames st
  -- they suffice: no cut was refused
  pub carried : Carried (base / 4096) cuts (tables_of st)
  -- no more than these were taken
  pub least : st.used ≤ t.used
  pub most : t.used ≤ st.used + 4 * non_empty cuts
  -- and none past the pool, which is as long as it was
  pub there : t.used ≤ length t.pool / 512
  pub long : length t.pool ≡ length st.pool

-- the address x of the mapping in slot i of st is as it was
pub record KeptAt (base : ℕ) (st t : State) (i x : ℕ) : Type 0 where
  -- a mapping holds it: in the same region, with the same VMO address, permissions and page flags
  pub slot : ℕ
  pub same : SameAt st.space st.flags i t.space t.flags slot x
  -- it has the same frame and rights
  pub frame : answered (queried t.pool (base / 4096) x) ≡ answered (queried st.pool (base / 4096) x)

-- the address x has neither frame nor mapping
pub record GoneAt (base : ℕ) (t : State) (x : ℕ) : Type 0 where
  pub frame : queried t.pool (base / 4096) x ≡ Err NotMapped
  pub mapping : (j : ℕ) → Lies t.space j x → ⊥

-- s has become t, and Goes tells which regions went
pub record RegionsLeft (s t : Space) (Goes : ℕ → Type 0) : Type 0 where
  -- all others are as they were
  pub kept : (i : ℕ) → i < 32 → (Goes i → ⊥) → region_at t i ≡ region_at s i
  -- "free slots blank"
  pub blank : (i : ℕ) → Goes i → region_at t i ≡ blank_region
  -- their ids are without a region for ever: every later call on one is 5
  pub dead : (i : ℕ) → Goes i → (u : Space) → Later t u → slot_of u (region_at s i).id ≡ 32
  -- "Lists keep the Rust's order"
  pub list : InOrder (is_region t) s.reglist s.regcount t.reglist t.regcount

-- the region of this id is as it was, in its slot
abbrev pub Same : Space → Space → ℕ → Type 0
Same s t id = (slot_of t id ≡ slot_of s id) × (region_at t (slot_of s id) ≡ region_at s (slot_of s id))

-- every listed child is alive: 14, "a destroy walk meets a dead child", comes only on paper
pub record NeverDead : Type 0 where
  pub holds : (s : Space) (f : List ℕ) → Passes s f → has_dead s ≡ false
