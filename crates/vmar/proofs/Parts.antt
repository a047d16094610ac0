-- The calls by what their tests show.
use Rattle.std.specs.Prelude.{Err}
use Prim.Native.Nat.{ℕ, ◌/◌}
use mathlib.Core.Path.{◌≡◌}
use mathlib.Core.Bool.{true, false}
use mathlib.Core.List.{List}
use lib.Dec.{ltb, eqb}
use Rattle.refusal.specs.declared.Refusal.TheVariants.{BadState, BadHandle}
use Rattle.space.specs.declared.Space.{Space}
use Rattle.vmar_offset.specs.Offset.{slot_of}
use Rattle.vmar_lookup.specs.Lookup.{mapping_flags, vaddr_flags}
use Rattle.vmar.specs.Calls.{flags_call, vaddr_call}

module _ (s : Space) (f : List ℕ) (id x : ℕ) where
  pub flags_unissued : ltb id s.nextid ≡ false → Err BadHandle ≡ flags_call s f id x
  unfolding flags_call
  flags_unissued h = rw h

  pub flags_dead : ltb id s.nextid ≡ true → eqb (slot_of s id) 32 ≡ true → Err BadState ≡ flags_call s f id x
  unfolding flags_call
  flags_dead h d = rw (h, d)

  pub flags_alive : (r : ℕ) → slot_of s id ≡ r → ltb id s.nextid ≡ true → eqb (slot_of s id) 32 ≡ false → mapping_flags s f x r ≡ flags_call s f id x
  unfolding flags_call
  flags_alive r e h d = rw (h, d, e)

module _ (s : Space) (p : List ℕ) (base id x : ℕ) where
  pub vaddr_unissued : ltb id s.nextid ≡ false → Err BadHandle ≡ vaddr_call s p base id x
  unfolding vaddr_call
  vaddr_unissued h = rw h

  pub vaddr_dead : ltb id s.nextid ≡ true → eqb (slot_of s id) 32 ≡ true → Err BadState ≡ vaddr_call s p base id x
  unfolding vaddr_call
  vaddr_dead h d = rw (h, d)

  pub vaddr_alive : (r : ℕ) → slot_of s id ≡ r → ltb id s.nextid ≡ true → eqb (slot_of s id) 32 ≡ false → vaddr_flags s p (base / 4096) x r ≡ vaddr_call s p base id x
  unfolding vaddr_call
  vaddr_alive r e h d = rw (h, d, e)
