-- What `clear` and `destroy` on a space and a pool that pass their checks mean. Document 01: "A refusal gives value 0 and changes nothing anywhere"; "Region ids .. never come
-- back within a space", "An id once issued whose region is gone is 5"; "Slots of destroyed regions and dropped mappings are used again"; "four free frames for each non-empty
-- mapping it will cut or drop, those in destroyed children included; otherwise 8".
use Rattle.std.specs.Prelude.{Result, Ok, Err}
use Rattle.std.specs.Prelude.{ℕ, ◌-◌, ◌*◌, ◌≤◌, ◌<◌, ◌≡◌, Bool, true, false, ◌⊎◌}
use Rattle.refusal.specs.declared.Refusal.{Refusal}
use Rattle.refusal.specs.declared.Refusal.TheVariants.{BadState, NoFrames, BadHandle, ChildDead}
use Rattle.table_cuts.specs.Cuts.{non_empty}
use Rattle.space.specs.Space.{region_at, mapping_at, no_region}
use Rattle.space.specs.declared.Space.{Space}
use Rattle.vmar_offset.specs.Offset.{slot_of, test_map}
use Rattle.vmar_laws.specs.Later.{Later}
use Rattle.vmar_laws.specs.Search.{FreeIn}
use Rattle.vmar_cuts.specs.Cuts.{END, destroy_cuts}
use Rattle.vmar_cuts.specs.Laws.{Lies, DestroyLeaves}
use Rattle.vmar_prune_laws.specs.Cut as prune
use Rattle.vmar_prune_laws.specs.Calls.{Under, Cleared, Destroyed}
use Rattle.vmar_unmap.specs.Unmap.{State, tables_of, free_frames, going_with, cleared_call}
use Rattle.vmar_unmap_laws.specs.Ready.{Ready, Frames, KeptAt, GoneAt, RegionsLeft, Same}

-- the regions whose mappings are dropped: r and all below it
abbrev pub Emptied : Space → ℕ → ℕ → Type 0
Emptied s r i = (i ≡ r) ⊎ Under s r i

-- the regions that go: all below r, and r itself in a destroy
abbrev pub Goes : Space → ℕ → Bool → ℕ → Type 0
Goes s r itself i = Under s r i ⊎ ((itself ≡ true) × (i ≡ r))

-- what the call answers: 11, 5, 8 or success, in this order. It is never 14.
pub data ClearAnswers (st : State) (id : ℕ) : Result (Unit {0}) Refusal → Type 0 where
  unissued : st.space.nextid ≤ id → ClearAnswers st id (Err BadHandle)
  dead : id < st.space.nextid → slot_of st.space id ≡ 32 → ClearAnswers st id (Err BadState)
  -- 8 exactly when fewer are free than four for each non-empty mapping
  frames : id < st.space.nextid → slot_of st.space id < 32 → free_frames st < 4 * non_empty (destroy_cuts st.space (slot_of st.space id))
      → ClearAnswers st id (Err NoFrames)
  done : id < st.space.nextid → slot_of st.space id < 32 → 4 * non_empty (destroy_cuts st.space (slot_of st.space id)) ≤ free_frames st → ClearAnswers st id (Ok tt)

-- st has become t: the region in slot r was emptied, or destroyed
pub record ClearDone (base : ℕ) (st t : State) (r : ℕ) (itself : Bool) : Type 0 where
  -- both pass still
  pub ready : Ready base t
  -- the call ran short nowhere
  pub frames : Frames base st t (destroy_cuts st.space r)
  -- every page of a mapping that was not touched keeps its flags, its VMO address, its frame and its rights
  pub kept : (i x : ℕ) → Lies st.space i x → (Emptied st.space r (mapping_at st.space i).region → ⊥) → KeptAt base st t i x
  -- no page that was dropped has a frame any more, nor a mapping
  pub dropped : (i x : ℕ) → Lies st.space i x → Emptied st.space r (mapping_at st.space i).region → GoneAt base t x
  -- what goes is gone, the others are as they were
  pub regions : RegionsLeft st.space t.space (Goes st.space r itself)
  -- clear leaves the region, and nothing in it
  pub clear : itself ≡ false → Cleared st.space t.space r
  -- destroy does not, and its addresses are free in its parent again
  pub destroy : itself ≡ true → Destroyed st.space t.space r
  pub free : itself ≡ true → ((region_at st.space r).parent ≡ no_region → ⊥)
      → FreeIn t.space (region_at st.space r).parent (region_at st.space r).addr (region_at st.space r).size
  -- an allocate may ask for them
  pub fits : itself ≡ true → ((region_at st.space r).parent ≡ no_region → ⊥)
      → test_map t.space (region_at st.space r).parent ((region_at st.space r).addr - (region_at st.space (region_at st.space r).parent).addr) (region_at st.space r).size ≡ true
  -- what else a cut does to a space and its page flags: nothing is new, lists keep their order
  pub space : prune.Cut st.space st.flags (going_with st.space r itself) r 0 END t.space t.flags
  -- what else the cuts do to the table: no other address changes
  pub table : DestroyLeaves st.space r st.pool base st.used (tables_of t)

-- What is proved of every call on a space and a pool that pass their checks: `ClearsAll`, below.
pub record Clears (base : ℕ) (st : State) (id : ℕ) (itself : Bool) : Type 0 where
  -- "A refusal .. changes nothing anywhere"
  pub refused : (why : Refusal) → (cleared_call base st id itself).result ≡ Err why → (cleared_call base st id itself).state ≡ st
  pub accepted : (cleared_call base st id itself).result ≡ Ok tt → ClearDone base st (cleared_call base st id itself).state (slot_of st.space id) itself
  -- ids "never come back", refused or not
  pub later : Later st.space (cleared_call base st id itself).state.space
  -- a region that was destroyed is 5 for ever; one that was cleared has its id and is as it was
  pub gone : itself ≡ true → (cleared_call base st id itself).result ≡ Ok tt → (u : Space) → Later (cleared_call base st id itself).state.space u → slot_of u id ≡ 32
  pub stays : itself ≡ false → Same st.space (cleared_call base st id itself).state.space id
  -- what the call answers, and no second answer fits
  pub answers : ClearAnswers st id (cleared_call base st id itself).result
  pub only : (x : Result (Unit {0}) Refusal) → ClearAnswers st id x → x ≡ (cleared_call base st id itself).result
  -- never 14: every listed child is alive
  pub alive : (cleared_call base st id itself).result ≡ Err ChildDead → ⊥

pub record ClearsAll : Type 0 where
  pub holds : (base : ℕ) (st : State) → Ready base st → (id : ℕ) (itself : Bool) → Clears base st id itself
