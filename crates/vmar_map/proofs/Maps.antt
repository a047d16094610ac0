-- `map_ext` by what its tests show.
use Rattle.std.proofs.Common.{◌≡◌, ℕ, ◌+◌, ◌*◌, ◌/◌, ◌%◌, Bool, true, false, List, leb, ltb, eqb, Option, Result, Ok, Err, length, replicate, zero, suc, ◌≤◌, refl, sym, eqb-true, arith}
use Rattle.std.proofs.Math.Seq.{paste}
use Rattle.std.proofs.lemmas.List.Edits.{paste_none, fill_from_more}
use Rattle.common.specs.Flags.{known_page, grants, rights}
use Rattle.vm.specs.Align.{multiple}
use Rattle.refusal.specs.declared.Refusal.{Refusal}
use Rattle.refusal.specs.declared.Refusal.TheVariants.{InvalidArgs, AccessDenied, BadState, NoSlot, BadHandle}
use Rattle.space.specs.Space.{region_at, with_mapping}
use Rattle.space.specs.declared.Space.{Space}
use Rattle.vmar_offset.specs.Offset.{slot_of, free_mapping, determine_offset}
use Rattle.vmar_map.specs.Map.{done, refused, filled, tested, mapping, placed, settled, in_region, after_tests, mapped}

-- the bytes from `at` on, written over
pub filled_paste : (f : List ℕ) (at n b : ℕ) → at + n ≤ length f → filled f at n b ≡ paste f at (replicate n b) n
unfolding filled
filled_paste f at zero b l = paste_none f at (replicate 0 b)
filled_paste f at (suc n) b l =
    let e = filled_paste f at n b (omega arith) in
    let m : n + 1 ≡ suc n = omega arith in
    rw e (rw m at (fill_from_more f at n b (omega arith)))

module _ (v at len p f : ℕ) (faults : Bool) where
  pub odd_offset : multiple at 4096 ≡ false → Err InvalidArgs ≡ tested v at len p f faults
  unfolding tested
  odd_offset a = rw a

  module _ (a : multiple at 4096 ≡ true) where
    pub odd_length : multiple len 4096 ≡ false → Err InvalidArgs ≡ tested v at len p f faults
    unfolding tested
    odd_length b = rw (a, b)

    module _ (b : multiple len 4096 ≡ true) where
      pub over : leb (at + len) 0xffff_ffff_ffff_ffff ≡ false → Err InvalidArgs ≡ tested v at len p f faults
      unfolding tested
      over c = rw (a, b, c)

      module _ (c : leb (at + len) 0xffff_ffff_ffff_ffff ≡ true) where
        pub denied : grants p (rights f) ≡ false → Err AccessDenied ≡ tested v at len p f faults
        unfolding tested
        denied d = rw (a, b, c, d)

        module _ (d : grants p (rights f) ≡ true) where
          pub faulting : faults ≡ true → Ok tt ≡ tested v at len p f faults
          unfolding tested
          faulting e = rw (a, b, c, d, e)

          pub past_vmo : faults ≡ false → leb (at + len) v ≡ false → Err InvalidArgs ≡ tested v at len p f faults
          unfolding tested
          past_vmo e g = rw (a, b, c, d, e, g)

          pub in_vmo : faults ≡ false → leb (at + len) v ≡ true → Ok tt ≡ tested v at len p f faults
          unfolding tested
          in_vmo e g = rw (a, b, c, d, e, g)

  -- what the tests let pass has a length of whole pages
  pub fine_length : tested v at len p f faults ≡ Ok tt → len % 4096 ≡ 0
  unfolding tested
  fine_length e = by (multiple at 4096) refl (multiple len 4096) refl
    where
      no_fine : ◌≡◌ {A = Result (Unit {0}) Refusal} (Ok tt) (Err InvalidArgs) → ◌≡◌ {A = ℕ} 0 1
      no_fine h = cc

      by : (s : Bool) → multiple at 4096 ≡ s → (t : Bool) → multiple len 4096 ≡ t → len % 4096 ≡ 0
      by true q true r = eqb-true (len % 4096) 0 r
      by true q false r = let z : ◌≡◌ {A = ℕ} 0 1 = no_fine (sym (simp (q, r) at e)) in absurd (omega arith)
      by false q t r = let z : ◌≡◌ {A = ℕ} 0 1 = no_fine (sym (simp q at e)) in absurd (omega arith)

module _ (s : Space) (f : List ℕ) (r off vmo at len p fl : ℕ) where
  pub unaligned : multiple ((region_at s r).addr + off) 4096 ≡ false → refused s f InvalidArgs ≡ placed s f r off vmo at len p fl
  unfolding placed
  unaligned a = rw a

  module _ (a : multiple ((region_at s r).addr + off) 4096 ≡ true) where
    pub too_many : ltb 0x200000 len ≡ true → refused s f NoSlot ≡ placed s f r off vmo at len p fl
    unfolding placed
    too_many b = rw (a, b)

    module _ (b : ltb 0x200000 len ≡ false) where
      pub no_slot : eqb (free_mapping s) 64 ≡ true → refused s f NoSlot ≡ placed s f r off vmo at len p fl
      unfolding placed
      no_slot c = rw (a, b, c)

      pub made : (i : ℕ) (out : Space) (g : List ℕ) → free_mapping s ≡ i → eqb (free_mapping s) 64 ≡ false → out ≡ with_mapping s i (mapping s r off vmo at len p)
          → g ≡ filled f (i * 512) (len / 4096) fl
          → done (Ok ((region_at s r).addr + off)) out g ≡ placed s f r off vmo at len p fl
      unfolding placed
      made i out g e c o h = rw (a, b, c, e, o, h)

module _ (s : Space) (f : List ℕ) (id : ℕ) (o : Option ℕ) (vmo at len p fl : ℕ) where
  pub dead : eqb (slot_of s id) 32 ≡ true → refused s f BadState ≡ in_region s f id o vmo at len p fl
  unfolding in_region
  dead d = rw d

  pub alive : (r : ℕ) → slot_of s id ≡ r → eqb (slot_of s id) 32 ≡ false → settled s f r vmo at len p fl (determine_offset s r o len 4096) ≡ in_region s f id o vmo at len p fl
  unfolding in_region
  alive r e d = rw (d, e)

  module _ (v : ℕ) (faults : Bool) where
    pub never_issued : ltb id s.nextid ≡ false → refused s f BadHandle ≡ mapped s f id o vmo v at len p fl faults
    unfolding mapped
    never_issued h = rw h

    module _ (h : ltb id s.nextid ≡ true) where
      pub unknown_permissions : known_page p ≡ false → refused s f InvalidArgs ≡ mapped s f id o vmo v at len p fl faults
      unfolding mapped
      unknown_permissions k = rw (h, k)

      module _ (k : known_page p ≡ true) where
        pub unknown_flags : known_page fl ≡ false → refused s f InvalidArgs ≡ mapped s f id o vmo v at len p fl faults
        unfolding mapped
        unknown_flags l = rw (h, k, l)

        pub known_all : known_page fl ≡ true
            → after_tests s f id o vmo at len p fl (tested v at len p fl faults) ≡ mapped s f id o vmo v at len p fl faults
        unfolding mapped
        known_all l = rw (h, k, l)
