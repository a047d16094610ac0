-- What is proved of the promises: no second outcome fits (proofs/Laws), a fresh space passes its check (proofs/Fresh), what a space keeps through calls and what an
-- accepted call does (proofs/Keeps), what a call answers (proofs/Tells), and that a refusal changes nothing (proofs/Refuses).
use Rattle.std.specs.Prelude.{Result, Ok, Err, Option}
use Rattle.common.specs.declared.defs.MMUFlags.{MMUFlags}
use Rattle.std.specs.Prelude.{ℕ, ◌+◌, ◌/◌, ◌≤◌, ◌<◌, ◌≡◌, Bool, true, false, List, length, get_or}
use Rattle.space.specs.Passes.{Passes, RootRange}
use Rattle.space.specs.declared.Space.{Space}
use Rattle.vmar_offset.specs.Offset.{slot_of}
use Rattle.vmar_allocate.specs.Allocate.{Allocation}
use Rattle.vmar_map.specs.Map.{MapDone}
use Rattle.space.specs.Arrays.{Arrays}
use Rattle.vmar_overwrite.specs.Overwrite.{OverwriteDone}
use Rattle.refusal.specs.declared.Refusal.{Refusal}
use Rattle.refusal.specs.declared.Refusal.TheVariants.{BadState, BadHandle}
use Rattle.table.specs.Table.{queried}
use Rattle.vmar_lookup.specs.Laws.{FlagsAnswers, of_page}
use Rattle.vmar_lookup.specs.Lookup.{answered}
use Rattle.vmar_user_range.specs.Laws.{UserRangeAnswers}
use Rattle.vmar_protect_laws.specs.Answers.{ProtectAnswers}
use Rattle.vmar_protect_laws.specs.Laws.{Protects, call}
use Rattle.vmar_overwrite_laws.specs.Answers.{OverwriteAnswers}
use Rattle.vmar_unmap.specs.Unmap.{State, CutDone}
use Rattle.vmar_unmap_laws.specs.Unmaps.{UnmapAnswers, UnmapDone}
use Rattle.vmar_unmap_laws.specs.Clears.{ClearAnswers, ClearDone}
use Rattle.vmar_overwrite_laws.specs.Overwrites as over
use Rattle.form.specs.Form.{Good}
use Rattle.vmar_laws.specs.Later.{Later}
use Rattle.vmar_laws.specs.Answers.{AllocateAnswers, MapAnswers}
use Rattle.vmar_laws.specs.Allocates as allocates
use Rattle.vmar_laws.specs.Maps as maps
use Rattle.vmar_root.specs.Root.{new_space}
use Rattle.vmar.specs.Calls.{AllocateFits, MapFits, FlagsFit, UserRangeFits, VaddrFits, before, MapExtFits, CutFits, UnmapFits, ClearFits, ProtectFits, protected_state, FlagsDone, UserRangeDone, ProtectedDone, beside_table, kept}

-- "a proof shows that no second answer fits"
pub record Once : Type 0 where
  pub allocate : (s : Space) (f : List ℕ) (id : ℕ) (o : Option ℕ) (len flags align : ℕ) (a b : Allocation)
      → AllocateFits s f id o len flags align a → AllocateFits s f id o len flags align b → a ≡ b
  pub map : (s : Space) (f p : List ℕ) (base used id : ℕ) (o : Option ℕ) (vmo vmo-len at len permissions flags : ℕ) (faults : Bool) (a b : MapDone)
      → MapFits s f p base used id o vmo vmo-len at len permissions flags faults a
      → MapFits s f p base used id o vmo vmo-len at len permissions flags faults b
      → a ≡ b
  pub mapping_flags : (s : Space) (f : List ℕ) (id x : ℕ) (a b : FlagsDone) → FlagsFit s f id x a → FlagsFit s f id x b → a ≡ b
  pub user_range : (s : Space) (f : List ℕ) (id addr len access : ℕ) (a b : UserRangeDone) → UserRangeFits s f id addr len access a → UserRangeFits s f id addr len access b → a ≡ b
  pub vaddr_flags : (s : Space) (f p : List ℕ) (base used id x : ℕ) (a b : FlagsDone) → VaddrFits s f p base used id x a → VaddrFits s f p base used id x b → a ≡ b
  pub map_ext : (s : Space) (f p : List ℕ) (base used id : ℕ) (o : Option ℕ) (vmo vmo-len at len permissions flags : ℕ) (overwrite faults : Bool) (a b : OverwriteDone)
      → MapExtFits s f p base used id o vmo vmo-len at len permissions flags overwrite faults a
      → MapExtFits s f p base used id o vmo vmo-len at len permissions flags overwrite faults b
      → a ≡ b
  -- unmap, destroy and clear, whatever they do
  pub cut : (s : Space) (f p : List ℕ) (base used : ℕ) (does a b : CutDone) → CutFits s f p base used does a → CutFits s f p base used does b → a ≡ b
  pub protect : (s : Space) (f p : List ℕ) (base used id addr len access : ℕ) (a b : ProtectedDone)
      → ProtectFits s f p base used id addr len access a → ProtectFits s f p base used id addr len access b → a ≡ b

-- "the caller zeroes flags"
pub record Zeroed (f : List ℕ) : Type 0 where
  pub lent : length f ≡ 32768
  pub zero : (j : ℕ) → get_or f j 0 ≡ 0

-- "User root 0x200000 up to 2^47 − 4096; kernel root 0xffffff0200000000, size 0x8000000000": a fresh space passes its check
pub record Fresh : Type 0 where
  pub passes : (addr size : ℕ) → RootRange addr size → (f : List ℕ) → Zeroed f → Passes (new_space addr size) f
  pub arrays : (addr size : ℕ) → Arrays (new_space addr size)
  -- the spaces of `new_root` and of `new_kernel`
  pub user : (f : List ℕ) → Zeroed f → Passes (new_space 0x200000 0x7fffffdff000) f
  pub kernel : (f : List ℕ) → Zeroed f → Passes (new_space 0xffffff0200000000 0x8000000000) f

-- through a call s and its flags f have become t and g
pub record Step (s t : Space) (f g : List ℕ) : Type 0 where
  pub arrays : Arrays t
  -- a space that passes its check goes on passing it
  pub passes : Passes s f → Passes t g
  -- "Region ids .. never come back within a space"; "An id once issued whose region is gone is 5"
  pub later : Later s t

-- through a call that takes the table too, st has become t
pub record Through (base : ℕ) (st t : State) : Type 0 where
  pub step : Step st.space t.space st.flags t.flags
  -- a good pool goes on being one
  pub good : Good st.pool base st.used → Good t.pool base t.used

-- so it is through every call, refused or not, and through a call after another
pub record Keeps : Type 0 where
  pub allocate : (s : Space) (f : List ℕ) (id : ℕ) (o : Option ℕ) (len flags align : ℕ) (out : Allocation) → Arrays s
      → AllocateFits s f id o len flags align out → Step s out.space f f
  pub map : (s : Space) (f p : List ℕ) (base used id : ℕ) (o : Option ℕ) (vmo vmo-len at len permissions flags : ℕ) (faults : Bool) (out : MapDone) → Arrays s
      → MapFits s f p base used id o vmo vmo-len at len permissions flags faults out → Step s out.space f out.flags
  pub mapping_flags : (s : Space) (f : List ℕ) (id x : ℕ) (out : FlagsDone) → Arrays s → FlagsFit s f id x out → Step s out.space f f
  pub user_range : (s : Space) (f : List ℕ) (id addr len access : ℕ) (out : UserRangeDone) → Arrays s → UserRangeFits s f id addr len access out → Step s out.space f f
  pub vaddr_flags : (s : Space) (f p : List ℕ) (base used id x : ℕ) (out : FlagsDone) → Arrays s → VaddrFits s f p base used id x out → Step s out.space f f
  pub map_ext : (s : Space) (f p : List ℕ) (base used id : ℕ) (o : Option ℕ) (vmo vmo-len at len permissions flags : ℕ) (overwrite faults : Bool) (out : OverwriteDone) → Arrays s
      → MapExtFits s f p base used id o vmo vmo-len at len permissions flags overwrite faults out → Through base (before s f p base used) out.state
  pub unmap : (s : Space) (f p : List ℕ) (base used id addr len : ℕ) (out : CutDone) → Arrays s → UnmapFits s f p base used id addr len out
      → Through base (before s f p base used) out.state
  -- destroy and clear
  pub clear : (s : Space) (f p : List ℕ) (base used id : ℕ) (itself : Bool) (out : CutDone) → Arrays s → ClearFits s f p base used id itself out
      → Through base (before s f p base used) out.state
  pub protect : (s : Space) (f p : List ℕ) (base used id addr len access : ℕ) (out : ProtectedDone) → Arrays s → ProtectFits s f p base used id addr len access out
      → Through base (before s f p base used) (protected_state used out)
  pub more : (s t u : Space) (f g h : List ℕ) → Step s t f g → Step t u g h → Step s u f h

-- what an accepted call does: vmar_laws/specs/Allocates and Maps, vmar_overwrite_laws/specs/Overwrites, vmar_unmap_laws/specs/Unmaps and Clears
pub record Means : Type 0 where
  pub allocate : (s : Space) (f : List ℕ) (id : ℕ) (o : Option ℕ) (len flags align : ℕ) (out : Allocation) → Arrays s
      → AllocateFits s f id o len flags align out → (n : ℕ) → out.result ≡ Ok n → allocates.Accepted s out.space f (slot_of s id) n o len flags align
  -- map_ext that overwrites
  pub overwrite : (s : Space) (f p : List ℕ) (base used id : ℕ) (o : Option ℕ) (vmo vmo-len at len permissions flags : ℕ) (faults : Bool) (out : OverwriteDone) → Arrays s
      → MapExtFits s f p base used id o vmo vmo-len at len permissions flags true faults out → (addr : ℕ) → out.result ≡ Ok addr
      → over.Accepted base (before s f p base used) out.state (slot_of s id) addr o vmo vmo-len at len permissions flags faults
  pub map : (s : Space) (f p : List ℕ) (base used id : ℕ) (o : Option ℕ) (vmo vmo-len at len permissions flags : ℕ) (faults : Bool) (out : MapDone) → Arrays s
      → MapFits s f p base used id o vmo vmo-len at len permissions flags faults out → (addr : ℕ) → out.result ≡ Ok addr
      → maps.Accepted s out.space f out.flags (slot_of s id) addr o vmo vmo-len at len permissions flags faults
  -- map_ext that does not: as `map`, and the table stays
  pub map_ext : (s : Space) (f p : List ℕ) (base used id : ℕ) (o : Option ℕ) (vmo vmo-len at len permissions flags : ℕ) (faults : Bool) (out : OverwriteDone)
      → MapExtFits s f p base used id o vmo vmo-len at len permissions flags false faults out
      → (d : MapDone) × MapFits s f p base used id o vmo vmo-len at len permissions flags faults d × (out ≡ beside_table (before s f p base used) d)
  -- protect, by what it does on a space that passes and a good pool: vmar_protect_laws/specs/Laws
  pub protect : (s : Space) (f p : List ℕ) (base used id addr len access : ℕ) (out : ProtectedDone) → ProtectFits s f p base used id addr len access out
      → out.done.result ≡ Ok tt → (out ≡ kept s (call s f p base id addr len access)) × Protects s f p base used id addr len access
  -- destroy and clear
  pub clear : (s : Space) (f p : List ℕ) (base used id : ℕ) (itself : Bool) (out : CutDone) → Arrays s → ClearFits s f p base used id itself out → out.result ≡ Ok tt
      → ClearDone base (before s f p base used) out.state (slot_of s id) itself
  pub unmap : (s : Space) (f p : List ℕ) (base used id addr len : ℕ) (out : CutDone) → Arrays s → UnmapFits s f p base used id addr len out → out.result ≡ Ok tt
      → UnmapDone base (before s f p base used) out.state (slot_of s id) addr (addr + len)

-- what a lookup by an id answers: 11, then "On a dead region lookups give 5", then what a lookup in the region does
pub data LookupAnswers (s : Space) (id x : ℕ) (value : ℕ → (Result MMUFlags Refusal)) (y : Result MMUFlags Refusal) : Type 0 where
  unissued : s.nextid ≤ id → y ≡ Err BadHandle → LookupAnswers s id x value y
  dead : id < s.nextid → slot_of s id ≡ 32 → y ≡ Err BadState → LookupAnswers s id x value y
  alive : id < s.nextid → slot_of s id < 32 → FlagsAnswers s x (slot_of s id) value y → LookupAnswers s id x value y

-- what a call answers on a space that passes its check and a good pool: each refusal exactly when it is given, and success
pub record Tells : Type 0 where
  pub allocate : (s : Space) (f : List ℕ) (id : ℕ) (o : Option ℕ) (len flags align : ℕ) (out : Allocation) → Arrays s → Passes s f → AllocateFits s f id o len flags align out
      → AllocateAnswers s id o len flags align out.result
  pub map : (s : Space) (f p : List ℕ) (base used id : ℕ) (o : Option ℕ) (vmo vmo-len at len permissions flags : ℕ) (faults : Bool) (out : MapDone) → Arrays s
      → Passes s f → Good p base used → MapFits s f p base used id o vmo vmo-len at len permissions flags faults out
      → MapAnswers s id o vmo-len at len permissions flags faults out.result
  pub mapping_flags : (s : Space) (f : List ℕ) (id x : ℕ) (out : FlagsDone) → Passes s f → FlagsFit s f id x out → LookupAnswers s id x (of_page s f x) out.result
  pub vaddr_flags : (s : Space) (f p : List ℕ) (base used id x : ℕ) (out : FlagsDone) → Passes s f → Good p base used → VaddrFits s f p base used id x out
      → LookupAnswers s id x (λ m. answered (queried p (base / 4096) x)) out.result
  pub user_range : (s : Space) (f : List ℕ) (id addr len access : ℕ) (out : UserRangeDone) → Passes s f → UserRangeFits s f id addr len access out
      → UserRangeAnswers s f id addr len access out.result
  pub overwrite : (s : Space) (f p : List ℕ) (base used id : ℕ) (o : Option ℕ) (vmo vmo-len at len permissions flags : ℕ) (faults : Bool) (out : OverwriteDone) → Arrays s
      → Passes s f → Good p base used → MapExtFits s f p base used id o vmo vmo-len at len permissions flags true faults out
      → OverwriteAnswers (before s f p base used) id o vmo-len at len permissions flags faults out.result
  pub unmap : (s : Space) (f p : List ℕ) (base used id addr len : ℕ) (out : CutDone) → Arrays s → Passes s f → Good p base used → UnmapFits s f p base used id addr len out
      → UnmapAnswers (before s f p base used) id addr len out.result
  -- destroy and clear
  pub clear : (s : Space) (f p : List ℕ) (base used id : ℕ) (itself : Bool) (out : CutDone) → Arrays s → Passes s f → Good p base used
      → ClearFits s f p base used id itself out → ClearAnswers (before s f p base used) id out.result
  pub protect : (s : Space) (f p : List ℕ) (base used id addr len access : ℕ) (out : ProtectedDone) → Passes s f → Good p base used
      → ProtectFits s f p base used id addr len access out → ProtectAnswers s id addr len access out.done.result

-- "A refusal gives value 0 and changes nothing anywhere", whatever the space, the flags and the pool are; a lookup changes nothing in any case
pub record Refuses : Type 0 where
  pub allocate : (s : Space) (f : List ℕ) (id : ℕ) (o : Option ℕ) (len flags align : ℕ) (out : Allocation) (why : Refusal) → Arrays s
      → AllocateFits s f id o len flags align out → out.result ≡ Err why → out.space ≡ s
  pub map_ext : (s : Space) (f p : List ℕ) (base used id : ℕ) (o : Option ℕ) (vmo vmo-len at len permissions flags : ℕ) (overwrite faults : Bool) (out : OverwriteDone) (why : Refusal)
      → Arrays s → MapExtFits s f p base used id o vmo vmo-len at len permissions flags overwrite faults out → out.result ≡ Err why → out.state ≡ before s f p base used
  pub map : (s : Space) (f p : List ℕ) (base used id : ℕ) (o : Option ℕ) (vmo vmo-len at len permissions flags : ℕ) (faults : Bool) (out : MapDone) (why : Refusal) → Arrays s
      → MapFits s f p base used id o vmo vmo-len at len permissions flags faults out → out.result ≡ Err why → (out.space ≡ s) × (out.flags ≡ f)
  pub unmap : (s : Space) (f p : List ℕ) (base used id addr len : ℕ) (out : CutDone) (why : Refusal) → Arrays s → UnmapFits s f p base used id addr len out
      → out.result ≡ Err why → out.state ≡ before s f p base used
  -- destroy and clear
  pub clear : (s : Space) (f p : List ℕ) (base used id : ℕ) (itself : Bool) (out : CutDone) (why : Refusal) → Arrays s → ClearFits s f p base used id itself out
      → out.result ≡ Err why → out.state ≡ before s f p base used
  pub protect : (s : Space) (f p : List ℕ) (base used id addr len access : ℕ) (out : ProtectedDone) (why : Refusal) → ProtectFits s f p base used id addr len access out
      → out.done.result ≡ Err why → protected_state used out ≡ before s f p base used
