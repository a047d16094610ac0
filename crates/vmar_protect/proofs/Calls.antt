-- The call by what its tests show.
use Rattle.std.specs.Prelude.{Ok}
use Prim.Native.Nat.{ℕ, ◌+◌}
use mathlib.Core.Path.{◌≡◌, sym}
use mathlib.Core.Bool.{true, false}
use lib.Dec.{leb, ltb, eqb}
use borrow.Author.Tests.{eq-eqb, ne_eqb}
use Rattle.common.specs.Flags.{known_page}
use Rattle.vm.specs.Align.{multiple}
use Rattle.refusal.specs.declared.Refusal.TheVariants.{InvalidArgs, AccessDenied, NotFound, BadState, BadHandle}
use Rattle.space.specs.declared.Space.{Space}
use Rattle.vmar_offset.specs.Offset.{slot_of}
use Rattle.vmar_protect.specs.Protect.{child_touched, total, denied, Lent, mappings_done, done, refused, in_region, protected}

-- in a live region
module _ (s : Space) (t : Lent) (b r begin len access : ℕ) where
  pub child_there : child_touched s r begin (begin + len) ≡ true → refused t InvalidArgs ≡ in_region s t b r begin len access
  unfolding in_region
  child_there c = rw c

  module _ (c : child_touched s r begin (begin + len) ≡ false) where
    pub uncovered : eqb (total s r begin (begin + len) s.mapcount) len ≡ false → refused t NotFound ≡ in_region s t b r begin len access
    unfolding in_region
    uncovered n = rw (c, n)

    module _ (n : eqb (total s r begin (begin + len) s.mapcount) len ≡ true) where
      pub forbidden : denied s r begin (begin + len) access ≡ true → refused t AccessDenied ≡ in_region s t b r begin len access
      unfolding in_region
      forbidden d = rw (c, n, d)

      pub allowed : denied s r begin (begin + len) access ≡ false → done (Ok tt) (mappings_done t b s r begin (begin + len) access s.mapcount) ≡ in_region s t b r begin len access
      unfolding in_region
      allowed d = rw (c, n, d)

module _ (s : Space) (t : Lent) (b id begin len access : ℕ) where
  pub never_issued : ltb id s.nextid ≡ false → refused t BadHandle ≡ protected s t b id begin len access
  unfolding protected
  never_issued i = rw i

  module _ (i : ltb id s.nextid ≡ true) where
    pub unknown : known_page access ≡ false → refused t InvalidArgs ≡ protected s t b id begin len access
    unfolding protected
    unknown k = rw (i, k)

    module _ (k : known_page access ≡ true) where
      pub odd_address : multiple begin 4096 ≡ false → refused t InvalidArgs ≡ protected s t b id begin len access
      unfolding protected
      odd_address m = rw (i, k, m)

      module _ (m : multiple begin 4096 ≡ true) where
        pub odd_length : multiple len 4096 ≡ false → refused t InvalidArgs ≡ protected s t b id begin len access
        unfolding protected
        odd_length n = rw (i, k, m, n)

        module _ (n : multiple len 4096 ≡ true) (r : ℕ) (e : r ≡ slot_of s id) where
          pub dead : r ≡ 32 → refused t BadState ≡ protected s t b id begin len access
          unfolding protected
          dead z = rw (i, k, m, n, sym e, eq-eqb r 32 z)

          module _ (z : r ≡ 32 → ⊥) where
            pub over : leb (begin + len) 0xffff_ffff_ffff_ffff ≡ false → refused t InvalidArgs ≡ protected s t b id begin len access
            unfolding protected
            over h = rw (i, k, m, n, sym e, ne_eqb r 32 z, h)

            pub live : leb (begin + len) 0xffff_ffff_ffff_ffff ≡ true → in_region s t b r begin len access ≡ protected s t b id begin len access
            unfolding protected
            live h = rw (i, k, m, n, sym e, ne_eqb r 32 z, h)
