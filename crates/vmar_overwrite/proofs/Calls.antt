-- The call by what its tests show.
use Rattle.std.specs.Prelude.{Result, Ok, Err, Option}
use Prim.Native.Nat.{ℕ, ◌+◌, ◌*◌, ◌/◌, ◌≤◌, ◌<◌}
use mathlib.Core.Path.{◌≡◌, sym}
use mathlib.Core.Bool.{Bool, true, false}
use mathlib.Core.List.{List}
use lib.Dec.{leb, ltb}
use borrow.Author.Tests.{lt-ltb, le-ltb, eq-eqb, ne_eqb}
use Rattle.common.specs.Flags.{known_page}
use Rattle.vm.specs.Align.{multiple}
use Rattle.refusal.specs.declared.Refusal.{Refusal}
use Rattle.refusal.specs.declared.Refusal.TheVariants.{InvalidArgs, BadState, BadHandle}
use Rattle.space.specs.Space.{region_at, with_mapping}
use Rattle.space.specs.declared.Mapping.{Mapping}
use Rattle.space.specs.declared.Space.{Space}
use Rattle.vmar_offset.specs.Offset.{slot_of, test_map}
use Rattle.vmar_map.specs.Map.{filled, tested, mapping, placed}
use Rattle.vmar_unmap.specs.Unmap.{State, CutDone}
use Rattle.vmar_overwrite.specs.Overwrite.{OverwriteDone, refused, is_short, after_cut, cut_for, slot_for, replaced, uncut, overlaid, at_offset, by_offset, in_region, after_tests, overwritten}

pub too_long : (len slot : ℕ) → 0x200000 < len → true ≡ is_short len slot
unfolding is_short
too_long len slot l = rw (lt-ltb 0x200000 len l)

pub by_slot : (len slot : ℕ) → len ≤ 0x200000 → leb 64 slot ≡ is_short len slot
unfolding is_short
by_slot len slot l = rw (le-ltb 0x200000 len l)

-- after the cut
module _ (st : State) (slot : ℕ) (m : Mapping) (fl : ℕ) (d : Result (Unit {0}) Refusal) where
  pub put_made : (s : Space) (f : List ℕ) → s ≡ with_mapping st.space slot m → f ≡ filled st.flags (slot * 512) (m.size / 4096) fl → d ≡ Ok tt
      → ◌≡◌ {A = OverwriteDone} (record { result = Ok m.addr; state = record { space = s; flags = f; pool = st.pool; used = st.used } }) (after_cut st slot m fl d)
  put_made s f e g q = rw (e, g, q)

  pub put_refused : (why : Refusal) → d ≡ Err why → refused st why ≡ after_cut st slot m fl d
  put_refused why q = rw q

module _ (base : ℕ) (st : State) (m : Mapping) (fl : ℕ) where
  pub empty : m.size ≡ 0 → refused st InvalidArgs ≡ replaced base st m fl
  unfolding replaced
  empty z = rw (eq-eqb m.size 0 z)

  pub some_bytes : (m.size ≡ 0 → ⊥) → (slot : ℕ) → slot ≡ slot_for st.space m → (c : CutDone) → c ≡ cut_for base st m slot
      → after_cut c.state slot m fl c.result ≡ replaced base st m fl
  unfolding replaced
  some_bytes z slot q c e = rw (ne_eqb m.size 0 z, sym q, sym e)

module _ (base : ℕ) (st : State) (r off vmo at len p fl : ℕ) where
  pub nothing_met : test_map st.space r off len ≡ true
      → uncut st (placed st.space st.flags r off vmo at len p fl) ≡ overlaid base st r off vmo at len p fl
  unfolding overlaid
  nothing_met t = rw t

  pub something_met : test_map st.space r off len ≡ false
      → replaced base st (mapping st.space r off vmo at len p) fl ≡ overlaid base st r off vmo at len p fl
  unfolding overlaid
  something_met t = rw t

  pub odd_offset : multiple off 4096 ≡ false → refused st InvalidArgs ≡ at_offset base st r off vmo at len p fl
  unfolding at_offset
  odd_offset a = rw a

  module _ (a : multiple off 4096 ≡ true) where
    pub past_region : leb (off + len) (region_at st.space r).size ≡ false → refused st InvalidArgs ≡ at_offset base st r off vmo at len p fl
    unfolding at_offset
    past_region b = rw (a, b)

    module _ (b : leb (off + len) (region_at st.space r).size ≡ true) where
      pub odd_address : multiple ((region_at st.space r).addr + off) 4096 ≡ false → refused st InvalidArgs ≡ at_offset base st r off vmo at len p fl
      unfolding at_offset
      odd_address c = rw (a, b, c)

      pub at_address : multiple ((region_at st.space r).addr + off) 4096 ≡ true → overlaid base st r off vmo at len p fl ≡ at_offset base st r off vmo at len p fl
      unfolding at_offset
      at_address c = rw (a, b, c)

module _ (base : ℕ) (st : State) (id : ℕ) (o : Option ℕ) (vmo at len p fl : ℕ) where
  module _ (r : ℕ) (q : r ≡ slot_of st.space id) where
    pub dead : r ≡ 32 → refused st BadState ≡ in_region base st id o vmo at len p fl
    unfolding in_region
    dead z = rw (sym q, eq-eqb r 32 z)

    pub alive : (r ≡ 32 → ⊥) → by_offset base st r vmo at len p fl o ≡ in_region base st id o vmo at len p fl
    unfolding in_region
    alive z = rw (sym q, ne_eqb r 32 z)

  module _ (v : ℕ) (faults : Bool) where
    pub never_issued : ltb id st.space.nextid ≡ false → refused st BadHandle ≡ overwritten base st id o vmo v at len p fl faults
    unfolding overwritten
    never_issued h = rw h

    module _ (h : ltb id st.space.nextid ≡ true) where
      pub unknown_permissions : known_page p ≡ false → refused st InvalidArgs ≡ overwritten base st id o vmo v at len p fl faults
      unfolding overwritten
      unknown_permissions k = rw (h, k)

      module _ (k : known_page p ≡ true) where
        pub unknown_flags : known_page fl ≡ false → refused st InvalidArgs ≡ overwritten base st id o vmo v at len p fl faults
        unfolding overwritten
        unknown_flags l = rw (h, k, l)

        pub known_all : known_page fl ≡ true
            → after_tests base st id o vmo at len p fl (tested v at len p fl faults) ≡ overwritten base st id o vmo v at len p fl faults
        unfolding overwritten
        known_all l = rw (h, k, l)
