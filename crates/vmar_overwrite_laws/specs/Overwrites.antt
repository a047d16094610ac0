-- What an overwrite on a space that passes its check and a good pool does. Document 01: "A refusal gives value 0 and changes nothing anywhere"; "every child and mapping
-- is in one list and inside its region, no two of a region overlap"; "slots freed by a call do not count for that call"; "Region ids .. never come back within a space";
-- "A mapping whose address is not page-aligned is 1"; "A split needs a slot free before the call and a new mapping one more, after it". README, demand 3: "Every address
-- outside keeps its frame and rights; no address inside has a frame any more", where inside is what a mapping held.
--
-- In this order: the new mapping, what stays, an accepted call, one that meets something, the theorem.
use Rattle.std.specs.Prelude.{Result, Ok, Err, Option, Some}
use Rattle.std.specs.Prelude.{ℕ, ◌+◌, ◌-◌, ◌/◌, ◌%◌, ◌≤◌, ◌<◌, ◌≡◌, Bool, true, false, List, ◌⊎◌}
use Rattle.common.specs.Flags.{grants, rights}
use Rattle.form.specs.Form.{Good}
use Rattle.refusal.specs.declared.Refusal.{Refusal}
use Rattle.space.specs.Range.{overlap, contains}
use Rattle.space.specs.Space.{region_at, mapping_at, is_region, is_mapping, mapping_place}
use Rattle.space.specs.Passes.{Passes, page_at}
use Rattle.space.specs.Arrays.{Arrays}
use Rattle.space.specs.declared.Mapping.{Mapping}
use Rattle.space.specs.declared.Space.{Space}
use Rattle.vmar_offset.specs.Offset.{slot_of, test_map}
use Rattle.vmar_doom.specs.Doomed.{Doomed, marked}
use Rattle.vmar_cuts.specs.Cuts.{unmap_cuts}
use Rattle.vmar_cuts.specs.Laws.{UnmapLeaves}
use Rattle.vmar_map.specs.Map.{mapping, mapped}
use Rattle.vmar_laws.specs.Later.{Later}
use Rattle.vmar_laws.specs.Search.{FreeIn}
use Rattle.vmar_prune.specs.Prune.{cut_space, cut_flags}
use Rattle.vmar_prune_laws.specs.Cut.{SameAt, Cut}
use Rattle.vmar_unmap.specs.Unmap.{State, cut_state, tables_of}
use Rattle.vmar_overwrite.specs.Overwrite.{OverwriteDone, new_slot, with_new, uncut, overwritten}
use Rattle.vmar_overwrite_laws.specs.Answers.{NewSlot, OverwriteAnswers}

-- t and its page flags g have in slot i a mapping of the region in slot r: at this address, of this length, of VMO v from `at` on, with permissions p and page flags fl
pub record NewMapping (t : Space) (g : List ℕ) (r i addr v at len p fl : ℕ) : Type 0 where
  pub slot : i < 64
  pub live : is_mapping t i ≡ true
  pub region : (mapping_at t i).region ≡ r
  pub address : (mapping_at t i).addr ≡ addr
  pub size : (mapping_at t i).size ≡ len
  pub vmo : (mapping_at t i).vmo ≡ v
  pub offset : (mapping_at t i).offset ≡ at
  pub permissions : (mapping_at t i).permissions ≡ p
  -- each page has the flags
  pub pages : (j : ℕ) → j < len / 4096 → page_at g i j ≡ fl
  -- it overlaps no child and no other mapping of its region
  pub children : (j : ℕ) → j < 32 → is_region t j ≡ true → (region_at t j).parent ≡ r → overlap (region_at t j).addr (region_at t j).size addr len ≡ false
  pub mappings : (j : ℕ) → j < 64 → is_mapping t j ≡ true → (mapping_at t j).region ≡ r → (j ≡ i → ⊥) → overlap (mapping_at t j).addr (mapping_at t j).size addr len ≡ false
  -- it is last in the list
  pub last : (k : ℕ) × (t.mapcount ≡ k + 1) × (mapping_place t k ≡ i)

-- an address of a mapping of s, of a region that stays, is held as it was unless [b, e) of region r has it
abbrev pub Kept : Space → List ℕ → ℕ → ℕ → ℕ → Space → List ℕ → Type 0
Kept s f r b e t g =
    (i x : ℕ) → i < 64 → is_mapping s i ≡ true → contains (mapping_at s i).addr (mapping_at s i).size x ≡ true → (Doomed s r b e (mapping_at s i).region → ⊥)
    → ((mapping_at s i).region ≡ r → (x < b) ⊎ (e ≤ x)) → (j : ℕ) × SameAt s f i t g j x

-- st has become out: addr is where a new mapping of the region in slot r stands
pub record Accepted (base : ℕ) (st out : State) (r addr : ℕ) (o : Option ℕ) (vmo vmo-len at len permissions flags : ℕ) (faults : Bool) : Type 0 where
  -- space, flags and pool are such as every call works on
  pub passes : Passes out.space out.flags
  pub arrays : Arrays out.space
  pub good : Good out.pool base out.used
  -- the mapping, in the lowest slot that was free before the call, or the next where a split takes that one
  pub slot : ℕ
  pub free : NewSlot st.space r addr (addr + len) slot
  pub mapping : NewMapping out.space out.flags r slot addr vmo at len permissions flags
  -- at the offset asked for, a whole number of pages; so is its address
  pub asked : (off : ℕ) × (o ≡ Some off) × (addr ≡ (region_at st.space r).addr + off) × (off % 4096 ≡ 0)
  pub aligned : addr % 4096 ≡ 0
  -- the permissions grant the rights, and the range lies in the VMO unless faults are allowed
  pub granted : grants permissions (rights flags) ≡ true
  pub within : faults ≡ false → at + len ≤ vmo-len
  -- all other pages keep their flags and their place in their VMO
  pub kept : Kept st.space st.flags r addr (addr + len) out.space out.flags

-- space and flags without [b, e) of region r
abbrev pub cut_of : Space → ℕ → ℕ → ℕ → Space
cut_of s r b e = cut_space s (marked s r b e) r b e

abbrev pub flags_of : Space → List ℕ → ℕ → ℕ → ℕ → List ℕ
flags_of s f r b e = cut_flags s f (marked s r b e) r b e

-- st has become out by a call that met something in [b, e): that was cut out, and then the mapping m added
pub record Replaced (base : ℕ) (st out : State) (r b e : ℕ) (m : Mapping) (flags : ℕ) : Type 0 where
  pub some : b < e
  -- what the cut does to the space, and to the table
  pub cut : Cut st.space st.flags (marked st.space r b e) r b e (cut_of st.space r b e) (flags_of st.space st.flags r b e)
  pub table : UnmapLeaves st.space r b e st.pool base st.used (tables_of out)
  -- nothing of the region is left in the range
  pub cleared : FreeIn (cut_of st.space r b e) r b (e - b)
  -- and all of it
  pub is : out ≡ with_new (cut_state base st (marked st.space r b e) (unmap_cuts st.space r b e) r b e) (new_slot st.space r b e) m flags

-- What is proved of every call: `OverwritesAll`, below.
pub record Overwrites (base : ℕ) (st : State) (id : ℕ) (o : Option ℕ) (vmo vmo-len at len permissions flags : ℕ) (faults : Bool) (out : OverwriteDone) : Type 0 where
  -- "A refusal .. changes nothing anywhere"
  pub refused : (why : Refusal) → out.result ≡ Err why → out.state ≡ st
  pub accepted : (addr : ℕ) → out.result ≡ Ok addr → Accepted base st out.state (slot_of st.space id) addr o vmo vmo-len at len permissions flags faults
  -- where nothing is met it is the half that never overwrites, and the table stays
  pub alike : (off : ℕ) → o ≡ Some off → test_map st.space (slot_of st.space id) off len ≡ true
      → out ≡ uncut st (mapped st.space st.flags id o vmo vmo-len at len permissions flags faults)
  -- where something is met it is cut out
  pub replaced : (addr off : ℕ) → out.result ≡ Ok addr → o ≡ Some off → test_map st.space (slot_of st.space id) off len ≡ false
      → Replaced base st out.state (slot_of st.space id) addr (addr + len) (mapping st.space (slot_of st.space id) off vmo at len permissions) flags
  -- ids "never come back", refused or not
  pub later : Later st.space out.state.space
  -- what the call answers, and no second answer fits
  pub answers : OverwriteAnswers st id o vmo-len at len permissions flags faults out.result
  pub only : (x : Result ℕ Refusal) → OverwriteAnswers st id o vmo-len at len permissions flags faults x → x ≡ out.result

pub record OverwritesAll : Type 0 where
  pub holds : (base : ℕ) (st : State) → Arrays st.space → Passes st.space st.flags → Good st.pool base st.used
      → (id : ℕ) (o : Option ℕ) (vmo vmo-len at len permissions flags : ℕ) (faults : Bool)
      → Overwrites base st id o vmo vmo-len at len permissions flags faults (overwritten base st id o vmo vmo-len at len permissions flags faults)
