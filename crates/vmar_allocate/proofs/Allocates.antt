-- `allocate` by what its tests show.
use Rattle.std.proofs.Common.{◌≡◌, ℕ, ◌-◌, ◌^◌, true, false, ltb, eqb, Option, Ok}
use Rattle.common.specs.Flags.{known_region}
use Rattle.refusal.specs.declared.Refusal.TheVariants.{InvalidArgs, BadState, NoSlot, BadHandle}
use Rattle.space.specs.Space.{with_region}
use Rattle.space.specs.declared.Space.{Space}
use Rattle.vmar_offset.specs.Offset.{slot_of, free_region, determine_offset}
use Rattle.vmar_allocate.specs.Allocate.{done, refused, child, placed, settled, allocated}

module _ (s : Space) (r off len flags : ℕ) where
  pub no_slot : eqb (free_region s) 32 ≡ true → refused s NoSlot ≡ placed s r off len flags
  unfolding placed
  no_slot e = rw e

  pub no_id : eqb (free_region s) 32 ≡ false → ltb s.nextid (2 ^ 32 - 1) ≡ false → refused s NoSlot ≡ placed s r off len flags
  unfolding placed
  no_id e l = rw (e, l)

  pub made : (i : ℕ) → free_region s ≡ i → eqb (free_region s) 32 ≡ false → ltb s.nextid (2 ^ 32 - 1) ≡ true
      → done (Ok s.nextid) (with_region s i (child s r off len flags)) ≡ placed s r off len flags
  unfolding placed
  made i f e l = rw (e, l, f)

module _ (s : Space) (id : ℕ) (o : Option ℕ) (len flags align : ℕ) where
  pub never_issued : ltb id s.nextid ≡ false → refused s BadHandle ≡ allocated s id o len flags align
  unfolding allocated
  never_issued h = rw h

  module _ (h : ltb id s.nextid ≡ true) where
    pub unknown : known_region flags ≡ false → refused s InvalidArgs ≡ allocated s id o len flags align
    unfolding allocated
    unknown k = rw (h, k)

    module _ (k : known_region flags ≡ true) where
      pub dead : eqb (slot_of s id) 32 ≡ true → refused s BadState ≡ allocated s id o len flags align
      unfolding allocated
      dead d = rw (h, k, d)

      pub alive : (r : ℕ) → slot_of s id ≡ r → eqb (slot_of s id) 32 ≡ false → settled s r len flags (determine_offset s r o len align) ≡ allocated s id o len flags align
      unfolding allocated
      alive r e d = rw (h, k, d, e)
