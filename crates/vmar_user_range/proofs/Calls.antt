-- The call by what its tests show.
use Rattle.std.specs.Prelude.{Ok, Err}
use Prim.Native.Nat.{ℕ, ◌+◌, ◌-◌}
use mathlib.Core.Path.{◌≡◌}
use mathlib.Core.Bool.{true, false}
use mathlib.Core.List.{List}
use lib.Dec.{leb, ltb, eqb}
use Rattle.common.specs.Flags.{known_page}
use Rattle.refusal.specs.declared.Refusal.TheVariants.{InvalidArgs, NotFound, BadState, BadHandle}
use Rattle.space.specs.declared.Space.{Space}
use Rattle.vmar_offset.specs.Offset.{slot_of}
use Rattle.vmar_user_range.specs.UserRange.{checked, user_range}

module _ (s : Space) (f : List ℕ) (id addr len access : ℕ) where
  pub never_issued : ltb id s.nextid ≡ false → Err BadHandle ≡ user_range s f id addr len access
  unfolding user_range
  never_issued i = rw i

  module _ (i : ltb id s.nextid ≡ true) where
    pub empty : eqb len 0 ≡ true → Ok tt ≡ user_range s f id addr len access
    unfolding user_range
    empty n = rw (i, n)

    module _ (n : eqb len 0 ≡ false) where
      pub unknown : known_page access ≡ false → Err InvalidArgs ≡ user_range s f id addr len access
      unfolding user_range
      unknown k = rw (i, n, k)

      module _ (k : known_page access ≡ true) where
        pub over : leb (addr + (len - 1)) 0xffff_ffff_ffff_ffff ≡ false → Err NotFound ≡ user_range s f id addr len access
        unfolding user_range
        over h = rw (i, n, k, h)

        module _ (h : leb (addr + (len - 1)) 0xffff_ffff_ffff_ffff ≡ true) where
          pub dead : eqb (slot_of s id) 32 ≡ true → Err BadState ≡ user_range s f id addr len access
          unfolding user_range
          dead z = rw (i, n, k, h, z)

          pub live : (r : ℕ) → slot_of s id ≡ r → eqb (slot_of s id) 32 ≡ false → checked s f r addr (addr + (len - 1)) access ≡ user_range s f id addr len access
          unfolding user_range
          live r e z = rw (i, n, k, h, z, e)
