-- What `unmap` on a space and a pool that pass their checks means. Document 01: "A refusal gives value 0 and changes nothing anywhere"; of order, "11, .. then the Rust's own
-- order, then 10, then 8"; "An unmap, overwrite, clear or destroy requires four free frames for each non-empty mapping it will cut or drop, those in destroyed children
-- included; otherwise 8. A split needs a slot free before the call"; "any accepted unmap drops all empty mappings of its region".
use Rattle.std.specs.Prelude.{Result, Ok, Err}
use Rattle.std.specs.Prelude.{ℕ, ◌+◌, ◌*◌, ◌%◌, ◌^◌, ◌≤◌, ◌<◌, ◌≡◌, true, ◌⊎◌}
use Rattle.refusal.specs.declared.Refusal.{Refusal}
use Rattle.refusal.specs.declared.Refusal.TheVariants.{InvalidArgs, BadState, NoFrames, NoSlot, BadHandle, ChildDead}
use Rattle.table_cuts.specs.Cuts.{non_empty}
use Rattle.space.specs.Space.{region_at, mapping_at, is_region, is_mapping}
use Rattle.space.specs.declared.Space.{Space}
use Rattle.vmar_offset.specs.Offset.{slot_of}
use Rattle.vmar_laws.specs.Later.{Later}
use Rattle.vmar_doom.specs.Doomed.{Doomed, marked}
use Rattle.vmar_cuts.specs.Cuts.{unmap_cuts}
use Rattle.vmar_cuts.specs.Laws.{Lies, UnmapLeaves}
use Rattle.vmar_prune_laws.specs.Cut as prune
use Rattle.vmar_unmap.specs.Unmap.{State, tables_of, free_frames, unmapped}
use Rattle.vmar_unmap_laws.specs.Ready.{Ready, Frames, KeptAt, GoneAt, RegionsLeft, Same}

-- whole pages, and not none
abbrev pub WholePages : ℕ → ℕ → Type 0
WholePages addr len = (addr % 4096 ≡ 0) × (len % 4096 ≡ 0) × (0 < len)

-- the call asks for a range of whole pages, in a region that lives
pub record Asked (s : Space) (id addr len : ℕ) : Type 0 where
  pub issued : id < s.nextid
  pub pages : WholePages addr len
  pub live : slot_of s id < 32
  pub end : addr + len < 2 ^ 64

-- slot i holds a child of r that [b, e) meets and does not hold
pub record Partly (s : Space) (r b e i : ℕ) : Type 0 where
  pub slot : i < 32
  pub live : is_region s i ≡ true
  pub parent : (region_at s i).parent ≡ r
  pub from : (region_at s i).addr < e
  pub to : b < (region_at s i).addr + (region_at s i).size
  pub beyond : (b ≤ (region_at s i).addr) × ((region_at s i).addr + (region_at s i).size ≤ e) → ⊥

-- a mapping of r, in slot i, has bytes before b and from e on: cutting [b, e) out splits it
pub record Split (s : Space) (r b e i : ℕ) : Type 0 where
  pub slot : i < 64
  pub live : is_mapping s i ≡ true
  pub region : (mapping_at s i).region ≡ r
  pub before : (mapping_at s i).addr < b
  pub after : e < (mapping_at s i).addr + (mapping_at s i).size

-- and no slot is free for the second part
pub record Short (s : Space) (r b e i : ℕ) : Type 0 where
  pub split : Split s r b e i
  pub full : (j : ℕ) → j < 64 → is_mapping s j ≡ true

-- no child is partly covered, and slots suffice
pub record Takes (s : Space) (r b e : ℕ) : Type 0 where
  pub whole : (i : ℕ) → Partly s r b e i → ⊥
  pub slots : (i : ℕ) → Short s r b e i → ⊥

-- what the call answers: 11, 1, 5, 1, 1, 10, 8 or success, in this order. It is never 14.
pub data UnmapAnswers (st : State) (id addr len : ℕ) : Result (Unit {0}) Refusal → Type 0 where
  unissued : st.space.nextid ≤ id → UnmapAnswers st id addr len (Err BadHandle)
  odd : id < st.space.nextid → (WholePages addr len → ⊥) → UnmapAnswers st id addr len (Err InvalidArgs)
  dead : id < st.space.nextid → WholePages addr len → slot_of st.space id ≡ 32 → UnmapAnswers st id addr len (Err BadState)
  over : id < st.space.nextid → WholePages addr len → slot_of st.space id < 32 → 2 ^ 64 ≤ addr + len → UnmapAnswers st id addr len (Err InvalidArgs)
  partly : Asked st.space id addr len → (i : ℕ) → Partly st.space (slot_of st.space id) addr (addr + len) i → UnmapAnswers st id addr len (Err InvalidArgs)
  short : Asked st.space id addr len → ((i : ℕ) → Partly st.space (slot_of st.space id) addr (addr + len) i → ⊥)
      → (i : ℕ) → Short st.space (slot_of st.space id) addr (addr + len) i → UnmapAnswers st id addr len (Err NoSlot)
  -- 8 exactly when fewer are free than four for each non-empty mapping
  frames : Asked st.space id addr len → Takes st.space (slot_of st.space id) addr (addr + len)
      → free_frames st < 4 * non_empty (unmap_cuts st.space (slot_of st.space id) addr (addr + len)) → UnmapAnswers st id addr len (Err NoFrames)
  done : Asked st.space id addr len → Takes st.space (slot_of st.space id) addr (addr + len)
      → 4 * non_empty (unmap_cuts st.space (slot_of st.space id) addr (addr + len)) ≤ free_frames st → UnmapAnswers st id addr len (Ok tt)

-- st has become t: [b, e) was cut out of the region in slot r, and the children within it are gone with all below them
pub record UnmapDone (base : ℕ) (st t : State) (r b e : ℕ) : Type 0 where
  -- both pass still
  pub ready : Ready base t
  -- the call ran short nowhere
  pub frames : Frames base st t (unmap_cuts st.space r b e)
  -- every page of a mapping that was not touched keeps its flags, its VMO address, its frame and its rights
  pub kept : (i x : ℕ) → Lies st.space i x → (Doomed st.space r b e (mapping_at st.space i).region → ⊥)
      → ((mapping_at st.space i).region ≡ r → (x < b) ⊎ (e ≤ x)) → KeptAt base st t i x
  -- no page that was cut or dropped has a frame any more, nor a mapping
  pub cut : (i x : ℕ) → Lies st.space i x → (mapping_at st.space i).region ≡ r → b ≤ x → x < e → GoneAt base t x
  pub dropped : (i x : ℕ) → Lies st.space i x → Doomed st.space r b e (mapping_at st.space i).region → GoneAt base t x
  -- the children within the range are gone with all below them, the others are as they were
  pub regions : RegionsLeft st.space t.space (Doomed st.space r b e)
  -- what else a cut does to a space and its page flags: empty mappings are dropped, nothing is new, lists keep their order
  pub space : prune.Cut st.space st.flags (marked st.space r b e) r b e t.space t.flags
  -- what else the cuts do to the table: no other address changes
  pub table : UnmapLeaves st.space r b e st.pool base st.used (tables_of t)

-- What is proved of every call on a space and a pool that pass their checks: `UnmapsAll`, below.
pub record Unmaps (base : ℕ) (st : State) (id addr len : ℕ) : Type 0 where
  -- "A refusal .. changes nothing anywhere"
  pub refused : (why : Refusal) → (unmapped base st id addr len).result ≡ Err why → (unmapped base st id addr len).state ≡ st
  pub accepted : (unmapped base st id addr len).result ≡ Ok tt
      → UnmapDone base st (unmapped base st id addr len).state (slot_of st.space id) addr (addr + len)
  -- ids "never come back", refused or not
  pub later : Later st.space (unmapped base st id addr len).state.space
  -- the region itself has its id and is as it was
  pub stays : Same st.space (unmapped base st id addr len).state.space id
  -- what the call answers, and no second answer fits
  pub answers : UnmapAnswers st id addr len (unmapped base st id addr len).result
  pub only : (x : Result (Unit {0}) Refusal) → UnmapAnswers st id addr len x → x ≡ (unmapped base st id addr len).result
  -- never 14: every listed child is alive
  pub alive : (unmapped base st id addr len).result ≡ Err ChildDead → ⊥

pub record UnmapsAll : Type 0 where
  pub holds : (base : ℕ) (st : State) → Ready base st → (id addr len : ℕ) → Unmaps base st id addr len
