-- What an overwrite on a space that passes its check and a good pool answers. Document 01, of order: "11, unknown flag bits (1), .. then the Rust's own order, then 10,
-- then 8"; "An unmap, overwrite, clear or destroy requires four free frames for each non-empty mapping it will cut or drop, those in destroyed children included; otherwise
-- 8. A split needs a slot free before the call and a new mapping one more, after it"; "slots freed by a call do not count for that call"; 10 where "a pool of slots .. is
-- short, or a mapping exceeds 2 MiB".
--
-- In this order: the slot of the new mapping, where the range may lie, the answers in the range, all answers.
use Rattle.std.specs.Prelude.{Result, Ok, Err, Option, Some, None}
use Rattle.std.specs.Prelude.{ℕ, ◌+◌, ◌*◌, ◌%◌, ◌≤◌, ◌<◌, ◌≡◌, Bool, true, false, ◌⊎◌}
use Rattle.refusal.specs.declared.Refusal.{Refusal}
use Rattle.refusal.specs.declared.Refusal.TheVariants.{InvalidArgs, NoFrames, NoSlot}
use Rattle.space.specs.Space.{region_at, is_mapping}
use Rattle.space.specs.declared.Space.{Space}
use Rattle.table_cuts.specs.Cuts.{non_empty}
use Rattle.vmar_offset.specs.Offset.{slot_of}
use Rattle.vmar_laws.specs.Search.{FreeIn}
use Rattle.vmar_laws.specs.Answers.{Called, ArgumentsRefused}
use Rattle.vmar_cuts.specs.Cuts.{unmap_cuts}
use Rattle.vmar_unmap.specs.Unmap.{State, free_frames}
use Rattle.vmar_unmap_laws.specs.Unmaps.{Partly, Split}

-- slot i is for the new mapping: the lowest that is free before the call, or the next lowest where a split takes that one
pub record NewSlot (s : Space) (r b e i : ℕ) : Type 0 where
  pub slot : i < 64
  pub free : is_mapping s i ≡ false
  pub lowest : ((j : ℕ) → Split s r b e j → ⊥) → (k : ℕ) → k < i → is_mapping s k ≡ true
  pub next : (j : ℕ) → Split s r b e j → (l : ℕ) × (l < i) × (is_mapping s l ≡ false) × ((k : ℕ) → k < i → (k ≡ l → ⊥) → is_mapping s k ≡ true)

-- the range at this offset lies in the region in slot r; offset and address are of whole pages
pub record Aimed (s : Space) (r off len : ℕ) : Type 0 where
  pub offset : off % 4096 ≡ 0
  pub inner : off + len ≤ (region_at s r).size
  pub address : ((region_at s r).addr + off) % 4096 ≡ 0

-- what may not be cut is not met: no child is partly covered, and an empty range meets nothing
pub record Cuttable (s : Space) (r b len : ℕ) : Type 0 where
  pub whole : (i : ℕ) → Partly s r b (b + len) i → ⊥
  pub empty : len ≡ 0 → FreeIn s r b len

-- the new mapping is at most 2 MiB long, and has a slot
pub record Fits (s : Space) (r b len : ℕ) : Type 0 where
  pub few : len ≤ 0x200000
  pub slot : (i : ℕ) × NewSlot s r b (b + len) i

-- what the call answers at this range of the region in slot r: 1, 1, 10, 8 or success, in this order
pub data RangeAnswers (st : State) (r b len : ℕ) : Result ℕ Refusal → Type 0 where
  -- an empty range in a child or a mapping
  empty : len ≡ 0 → (FreeIn st.space r b len → ⊥) → RangeAnswers st r b len (Err InvalidArgs)
  partly : 0 < len → (i : ℕ) → Partly st.space r b (b + len) i → RangeAnswers st r b len (Err InvalidArgs)
  -- "a pool of slots .. is short, or a mapping exceeds 2 MiB"
  slots : Cuttable st.space r b len → (Fits st.space r b len → ⊥) → RangeAnswers st r b len (Err NoSlot)
  -- where something is met, 8 exactly when fewer are free than four for each non-empty mapping
  frames : Cuttable st.space r b len → Fits st.space r b len → (FreeIn st.space r b len → ⊥)
      → free_frames st < 4 * non_empty (unmap_cuts st.space r b (b + len)) → RangeAnswers st r b len (Err NoFrames)
  done : Cuttable st.space r b len → Fits st.space r b len → FreeIn st.space r b len ⊎ (4 * non_empty (unmap_cuts st.space r b (b + len)) ≤ free_frames st)
      → RangeAnswers st r b len (Ok b)

-- what the call answers: a refusal of the arguments, 1 or 1, in this order, or what the range gives
pub data OverwriteAnswers (st : State) (id : ℕ) (o : Option ℕ) (vmo-len at len permissions flags : ℕ) (faults : Bool) : Result ℕ Refusal → Type 0 where
  arguments : (why : Refusal) → ArgumentsRefused st.space id vmo-len at len permissions flags faults why
      → OverwriteAnswers st id o vmo-len at len permissions flags faults (Err why)
  -- an overwrite needs an offset
  unasked : Called st.space id vmo-len at len permissions flags faults → o ≡ None
      → OverwriteAnswers st id o vmo-len at len permissions flags faults (Err InvalidArgs)
  outside : Called st.space id vmo-len at len permissions flags faults → (off : ℕ) → o ≡ Some off → (Aimed st.space (slot_of st.space id) off len → ⊥)
      → OverwriteAnswers st id o vmo-len at len permissions flags faults (Err InvalidArgs)
  range : Called st.space id vmo-len at len permissions flags faults → (off : ℕ) → o ≡ Some off → Aimed st.space (slot_of st.space id) off len
      → (x : Result ℕ Refusal) → RangeAnswers st (slot_of st.space id) ((region_at st.space (slot_of st.space id)).addr + off) len x
      → OverwriteAnswers st id o vmo-len at len permissions flags faults x
