-- The calls on a space, whole. Document 01, 'Refusal numbers': "Order: 12, 13, 11, ..", "Only what is taken is tested"; "A refusal gives value 0 and changes nothing
-- anywhere". The cores' definitions (vmar_allocate, vmar_map, vmar_overwrite, vmar_unmap, vmar_protect, vmar_lookup, vmar_user_range) go from 11 on; last, the promises, where 12 and 13 go by Passes and Good.
use Rattle.refusal.specs.declared.Refusal.{Refusal}
use Rattle.common.specs.declared.defs.MMUFlags.{MMUFlags}
use Rattle.std.specs.Prelude.{ℕ, ◌/◌, ◌≡◌, ◌⊎◌, Bool, List, ltb, eqb, Option, Result, Ok, Err}
use Rattle.paging.specs.Choice.{pick, Answered}
use Rattle.refusal.specs.Reply.{Told, refused}
use Rattle.refusal.specs.declared.Refusal.TheVariants.{BadState, BadHandle, BadSpace, BadTable}
use Rattle.form.specs.Form.{Good}
use Rattle.space.specs.Passes.{Passes}
use Rattle.space.specs.declared.Space.{Space}
use Rattle.vmar_offset.specs.Offset.{slot_of}
use Rattle.vmar_allocate.specs.Allocate.{Allocation, allocated}
use Rattle.vmar_map.specs.Map.{MapDone, mapped}
use Rattle.vmar_lookup.specs.Lookup.{mapping_flags, vaddr_flags}
use Rattle.vmar_overwrite.specs.Overwrite.{OverwriteDone, overwritten}
use Rattle.vmar_protect.specs.Protect.{lent, ProtectDone, protected}
use Rattle.vmar_unmap.specs.Unmap.{State, CutDone, unmapped, cleared_call}
use Rattle.vmar_user_range.specs.UserRange.{user_range}
use Rattle.vmar.specs.Replies.{allocate_reply, map_reply, flags_reply, user_range_reply, cut_reply, protect_reply}

-- the answer of a lookup, and the space
pub record FlagsDone : Type 0 where
  pub result : Result MMUFlags Refusal
  pub space : Space

-- a lookup changes nothing, refused or not
abbrev pub looked : Space → Result MMUFlags Refusal → FlagsDone
looked s r = record { result = r; space = s }

-- the answer of a check of a range, and the space
pub record UserRangeDone : Type 0 where
  pub result : Result (Unit {0}) Refusal
  pub space : Space

-- it changes nothing either
abbrev pub seen : Space → Result (Unit {0}) Refusal → UserRangeDone
seen s r = record { result = r; space = s }

-- the space beside what protect does to flags and pool: its records never change
pub record ProtectedDone : Type 0 where
  pub space : Space
  pub done : ProtectDone

abbrev pub kept : Space → ProtectDone → ProtectedDone
kept s d = record { space = s; done = d }

abbrev pub protected_state : ℕ → ProtectedDone → State
protected_state used x = record { space = x.space; flags = x.done.flags; pool = x.done.pool; used = used }

-- a map that never overwrites leaves the table alone
abbrev pub beside_table : State → MapDone → OverwriteDone
beside_table st d = record { result = d.result; state = record { space = d.space; flags = d.flags; pool = st.pool; used = st.used } }

-- `map_ext` chooses between its two halves
abbrev pub map_ext : ℕ → State → ℕ → Option ℕ → ℕ → ℕ → ℕ → ℕ → ℕ → ℕ → Bool → Bool → OverwriteDone
map_ext base st id o vmo vmo-len at len permissions flags overwrite faults =
    pick overwrite
    (overwritten base st id o vmo vmo-len at len permissions flags faults)
    (beside_table st (mapped st.space st.flags id o vmo vmo-len at len permissions flags faults))

-- 11, then "On a dead region lookups give 5", then the lookup
unfoldable pub flags_call : Space → List ℕ → ℕ → ℕ → Result MMUFlags Refusal
flags_call s f id x = pick (ltb id s.nextid) (pick (eqb (slot_of s id) 32) (Err BadState) (mapping_flags s f x (slot_of s id))) (Err BadHandle)

unfoldable pub vaddr_call : Space → List ℕ → ℕ → ℕ → ℕ → Result MMUFlags Refusal
vaddr_call s p base id x =
    pick (ltb id s.nextid) (pick (eqb (slot_of s id) 32) (Err BadState) (vaddr_flags s p (base / 4096) x (slot_of s id))) (Err BadHandle)

-- What each call tells: its reply, and all that it may change, as it is afterwards.
abbrev pub allocate_told : Allocation → Told Space
allocate_told d = record { reply = allocate_reply d.result; after = d.space }

abbrev pub flags_told : FlagsDone → Told Space
flags_told d = record { reply = flags_reply d.result; after = d.space }

abbrev pub user_range_told : UserRangeDone → Told Space
user_range_told d = record { reply = user_range_reply d.result; after = d.space }

-- map_ext
abbrev pub ext_told : OverwriteDone → Told State
ext_told d = record { reply = map_reply d.result; after = d.state }

-- a map that never overwrites, in state st
abbrev pub map_told : State → MapDone → Told State
map_told st d = ext_told (beside_table st d)

-- unmap, destroy and clear
abbrev pub cut_told : CutDone → Told State
cut_told d = record { reply = cut_reply d.result; after = d.state }

-- protect, with so many frames in use
abbrev pub protect_told : ℕ → ProtectedDone → Told State
protect_told used d = record { reply = protect_reply d.done.result; after = protected_state used d }

-- an outcome of a call that takes the pool too: 12 where the space does not pass, then 13 where the pool is not good, else the call's
pub data Ordered {A : Type 0} (P Q : Type 0) (no12 no13 yes' out : A) : Type 0 where
  bad_space : (P → ⊥) → out ≡ no12 → Ordered P Q no12 no13 yes' out
  bad_table : P → (Q → ⊥) → out ≡ no13 → Ordered P Q no12 no13 yes' out
  done : P → Q → out ≡ yes' → Ordered P Q no12 no13 yes' out

-- what the code's first test of such a call says
abbrev pub Checked : Type 0 → Type 0 → Result (Unit {0}) Refusal → Type 0
Checked P Q (Ok _) = P × Q
Checked P Q (Err why) = ((P → ⊥) × (why ≡ BadSpace)) ⊎ (P × (Q → ⊥) × (why ≡ BadTable))

-- The promises: which outcomes fit, by what they tell. Laws shows that only one does.
module _ (s : Space) (f : List ℕ) where
  abbrev pub AllocateFits : ℕ → Option ℕ → ℕ → ℕ → ℕ → Allocation → Type 0
  AllocateFits id o len flags align out = Answered (Passes s f) (refused 12 s) (allocate_told (allocated s id o len flags align)) (allocate_told out)

  abbrev pub FlagsFit : ℕ → ℕ → FlagsDone → Type 0
  FlagsFit id x out = Answered (Passes s f) (refused 12 s) (flags_told (looked s (flags_call s f id x))) (flags_told out)

  abbrev pub UserRangeFits : ℕ → ℕ → ℕ → ℕ → UserRangeDone → Type 0
  UserRangeFits id addr len access out = Answered (Passes s f) (refused 12 s) (user_range_told (seen s (user_range s f id addr len access))) (user_range_told out)

  module _ (p : List ℕ) (base used : ℕ) where
    abbrev pub VaddrFits : ℕ → ℕ → FlagsDone → Type 0
    VaddrFits id x out = Ordered (Passes s f) (Good p base used) (refused 12 s) (refused 13 s) (flags_told (looked s (vaddr_call s p base id x))) (flags_told out)

    -- all that a call may change, as it is before
    abbrev pub before : State
    before = record { space = s; flags = f; pool = p; used = used }

    abbrev pub MapFits : ℕ → Option ℕ → ℕ → ℕ → ℕ → ℕ → ℕ → ℕ → Bool → MapDone → Type 0
    MapFits id o vmo vmo-len at len permissions flags faults out =
        Ordered (Passes s f) (Good p base used) (refused 12 before) (refused 13 before)
        (map_told before (mapped s f id o vmo vmo-len at len permissions flags faults))
        (map_told before out)

    abbrev pub MapExtFits : ℕ → Option ℕ → ℕ → ℕ → ℕ → ℕ → ℕ → ℕ → Bool → Bool → OverwriteDone → Type 0
    MapExtFits id o vmo vmo-len at len permissions flags overwrite faults out =
        Ordered (Passes s f) (Good p base used) (refused 12 before) (refused 13 before)
        (ext_told (map_ext base before id o vmo vmo-len at len permissions flags overwrite faults))
        (ext_told out)

    -- a call that cuts
    abbrev pub CutFits : CutDone → CutDone → Type 0
    CutFits does out = Ordered (Passes s f) (Good p base used) (refused 12 before) (refused 13 before) (cut_told does) (cut_told out)

    abbrev pub UnmapFits : ℕ → ℕ → ℕ → CutDone → Type 0
    UnmapFits id addr len out = CutFits (unmapped base before id addr len) out

    -- clear, and destroy where the region goes too
    abbrev pub ClearFits : ℕ → Bool → CutDone → Type 0
    ClearFits id itself out = CutFits (cleared_call base before id itself) out

    abbrev pub ProtectFits : ℕ → ℕ → ℕ → ℕ → ProtectedDone → Type 0
    ProtectFits id addr len access out =
        Ordered (Passes s f) (Good p base used) (refused 12 before) (refused 13 before)
        (protect_told used (kept s (protected s (lent f p) (base / 4096) id addr len access)))
        (protect_told used out)
