-- What `allocate` and the half of `map_ext` that never overwrites answer. Document 01, of order: "11, unknown flag bits (1), .. then the Rust's own order, then 10";
-- 'Regions' on the offset; "A mapping whose address is not page-aligned is 1, tested once its offset is found"; 3 where "the unhinted search finds nothing"; 10 where "a
-- pool of slots or ids is short, or a mapping exceeds 2 MiB"; "2^32 − 1 is never issued".
--
-- In this order: the offset, `allocate`, the arguments of `map_ext`, `map`.
use Rattle.std.specs.Prelude.{ℕ, ◌+◌, ◌-◌, ◌%◌, ◌^◌, ◌≤◌, ◌<◌, ◌≡◌, Bool, true, false, Option, Some, None, Result, Ok, Err}
use Rattle.common.specs.Flags.{known_region, known_page, grants, rights}
use Rattle.vm.specs.Align.{multiple}
use Rattle.refusal.specs.declared.Refusal.{Refusal}
use Rattle.refusal.specs.declared.Refusal.TheVariants.{InvalidArgs, AccessDenied, NoMemory, BadState, NoSlot, BadHandle}
use Rattle.space.specs.Space.{region_at, is_region, is_mapping}
use Rattle.space.specs.declared.Space.{Space}
use Rattle.vmar_offset.specs.Offset.{slot_of}
use Rattle.vmar_laws.specs.Search.{FreeIn, FirstFit, NoFit}

-- len bytes may go to this offset of the region in slot r
pub record Goes (s : Space) (r len align off : ℕ) : Type 0 where
  pub aligned : multiple off align ≡ true
  pub free : FreeIn s r ((region_at s r).addr + off) len

-- which offset in the region in slot r the call takes, or which refusal it gives: 1 for the length, then 1 for an offset asked for, or 1 or 3 for one to be found
pub data OffsetAnswers (s : Space) (r : ℕ) (o : Option ℕ) (len align : ℕ) : Result ℕ Refusal → Type 0 where
  odd : multiple len align ≡ false → OffsetAnswers s r o len align (Err InvalidArgs)
  -- the offset asked for
  full : multiple len align ≡ true → (off : ℕ) → o ≡ Some off → (Goes s r len align off → ⊥) → OffsetAnswers s r o len align (Err InvalidArgs)
  asked : multiple len align ≡ true → (off : ℕ) → o ≡ Some off → Goes s r len align off → OffsetAnswers s r o len align (Ok off)
  -- or the first candidate that fits
  large : multiple len align ≡ true → o ≡ None → (region_at s r).size < len → OffsetAnswers s r o len align (Err InvalidArgs)
  nowhere : multiple len align ≡ true → o ≡ None → len ≤ (region_at s r).size → NoFit s r len align → OffsetAnswers s r o len align (Err NoMemory)
  first : multiple len align ≡ true → o ≡ None → len ≤ (region_at s r).size → (off : ℕ) → FirstFit s r len align off → OffsetAnswers s r o len align (Ok off)

-- what becomes of a child that has an offset: "a pool of slots or ids is short" (10), or success with the next id
pub data ChildAnswers (s : Space) : Result ℕ Refusal → Type 0 where
  slots : ((i : ℕ) → i < 32 → is_region s i ≡ true) → ChildAnswers s (Err NoSlot)
  ids : 2 ^ 32 - 1 ≤ s.nextid → ChildAnswers s (Err NoSlot)
  done : (i : ℕ) → i < 32 → is_region s i ≡ false → s.nextid < 2 ^ 32 - 1 → ChildAnswers s (Ok s.nextid)

-- the call's id was issued, its flags are known, and its region lives
pub record Asked (s : Space) (id flags : ℕ) : Type 0 where
  pub issued : id < s.nextid
  pub known : known_region flags ≡ true
  pub live : slot_of s id < 32

-- what `allocate` answers: 11, 1, 5, a refusal of the offset, 10 or success, in this order
pub data AllocateAnswers (s : Space) (id : ℕ) (o : Option ℕ) (len flags align : ℕ) : Result ℕ Refusal → Type 0 where
  unissued : s.nextid ≤ id → AllocateAnswers s id o len flags align (Err BadHandle)
  unknown : id < s.nextid → known_region flags ≡ false → AllocateAnswers s id o len flags align (Err InvalidArgs)
  dead : id < s.nextid → known_region flags ≡ true → slot_of s id ≡ 32 → AllocateAnswers s id o len flags align (Err BadState)
  refused : Asked s id flags → (why : Refusal) → OffsetAnswers s (slot_of s id) o len align (Err why)
      → AllocateAnswers s id o len flags align (Err why)
  child : Asked s id flags → (off : ℕ) → OffsetAnswers s (slot_of s id) o len align (Ok off) → (x : Result ℕ Refusal) → ChildAnswers s x
      → AllocateAnswers s id o len flags align x

-- no bit of the permissions and the flags is unknown
abbrev pub Known : ℕ → ℕ → Type 0
Known permissions flags = (known_page permissions ≡ true) × (known_page flags ≡ true)

-- the range in the VMO is of whole pages and does not overflow
pub record VmoPages (at len : ℕ) : Type 0 where
  pub offset : at % 4096 ≡ 0
  pub size : len % 4096 ≡ 0
  pub end : at + len < 2 ^ 64

-- what the Rust's first tests let pass: such pages, rights that the permissions grant, and a range in the VMO unless faults are allowed
pub record Fine (vmo-len at len permissions flags : ℕ) (faults : Bool) : Type 0 where
  pub pages : VmoPages at len
  pub granted : grants permissions (rights flags) ≡ true
  pub within : faults ≡ false → at + len ≤ vmo-len

-- the call's id was issued, its arguments pass the tests, and its region lives
pub record Called (s : Space) (id vmo-len at len permissions flags : ℕ) (faults : Bool) : Type 0 where
  pub issued : id < s.nextid
  pub known : Known permissions flags
  pub fine : Fine vmo-len at len permissions flags faults
  pub live : slot_of s id < 32

-- how `map_ext` refuses its arguments, overwriting or not: 11, 1, 1, 2, 1 or 5, in this order
pub data ArgumentsRefused (s : Space) (id vmo-len at len permissions flags : ℕ) (faults : Bool) : Refusal → Type 0 where
  unissued : s.nextid ≤ id → ArgumentsRefused s id vmo-len at len permissions flags faults BadHandle
  unknown : id < s.nextid → (Known permissions flags → ⊥) → ArgumentsRefused s id vmo-len at len permissions flags faults InvalidArgs
  odd : id < s.nextid → Known permissions flags → (VmoPages at len → ⊥) → ArgumentsRefused s id vmo-len at len permissions flags faults InvalidArgs
  denied : id < s.nextid → Known permissions flags → VmoPages at len → grants permissions (rights flags) ≡ false
      → ArgumentsRefused s id vmo-len at len permissions flags faults AccessDenied
  past : id < s.nextid → Known permissions flags → VmoPages at len → grants permissions (rights flags) ≡ true → faults ≡ false → vmo-len < at + len
      → ArgumentsRefused s id vmo-len at len permissions flags faults InvalidArgs
  dead : id < s.nextid → Known permissions flags → Fine vmo-len at len permissions flags faults → slot_of s id ≡ 32
      → ArgumentsRefused s id vmo-len at len permissions flags faults BadState

-- what becomes of a mapping that has an address: 1 where it "is not page-aligned", then 10, or success with the address
pub data MappingAnswers (s : Space) (addr len : ℕ) : Result ℕ Refusal → Type 0 where
  unaligned : (addr % 4096 ≡ 0 → ⊥) → MappingAnswers s addr len (Err InvalidArgs)
  -- "a mapping exceeds 2 MiB"
  long : addr % 4096 ≡ 0 → 0x200000 < len → MappingAnswers s addr len (Err NoSlot)
  slots : addr % 4096 ≡ 0 → ((i : ℕ) → i < 64 → is_mapping s i ≡ true) → MappingAnswers s addr len (Err NoSlot)
  done : addr % 4096 ≡ 0 → len ≤ 0x200000 → (i : ℕ) → i < 64 → is_mapping s i ≡ false → MappingAnswers s addr len (Ok addr)

-- what `map` answers: a refusal of the arguments, one of the offset, or what becomes of the mapping, in this order
pub data MapAnswers (s : Space) (id : ℕ) (o : Option ℕ) (vmo-len at len permissions flags : ℕ) (faults : Bool) : Result ℕ Refusal → Type 0 where
  arguments : (why : Refusal) → ArgumentsRefused s id vmo-len at len permissions flags faults why → MapAnswers s id o vmo-len at len permissions flags faults (Err why)
  refused : Called s id vmo-len at len permissions flags faults → (why : Refusal) → OffsetAnswers s (slot_of s id) o len 4096 (Err why)
      → MapAnswers s id o vmo-len at len permissions flags faults (Err why)
  mapping : Called s id vmo-len at len permissions flags faults → (off : ℕ) → OffsetAnswers s (slot_of s id) o len 4096 (Ok off)
      → (x : Result ℕ Refusal) → MappingAnswers s ((region_at s (slot_of s id)).addr + off) len x → MapAnswers s id o vmo-len at len permissions flags faults x
