-- What `map_ext` does: how a call ends, and the mapping that an accepted one makes.
use Rattle.std.specs.Prelude.{Option, None, Result, Ok, Err}
use Prim.Native.Nat.{ℕ, ◌+◌, ◌*◌, ◌/◌, ◌%◌, ◌≤◌, ◌<◌}
use mathlib.Core.Path.{◌≡◌, refl, sym, ◌∙◌, ap, subst}
use mathlib.Core.Bool.{Bool, true, false}
use mathlib.Core.List.{List}
use mathlib.Core.Logic.{◌⊎◌, inl, inr, ⊎_elim}
use native.Mathlib.Omega.{arith}
use lib.Dec.{leb, ltb, eqb}
use borrow.Author.Tests.{leb-true, ltb-false, eqb-true, eqb-false, not-false}
use Rattle.paging.proofs.Cases.{clash}
use Rattle.common.specs.Flags.{known_page, grants, rights}
use Rattle.scan.proofs.Scans.{tell, before_first}
use Rattle.vm.specs.Align.{multiple}
use Rattle.refusal.specs.declared.Refusal.{Refusal}
use Rattle.refusal.specs.declared.Refusal.TheVariants.{InvalidArgs, AccessDenied, NoMemory, BadState, NoSlot, BadHandle}
use Rattle.space.specs.Space.{region_at, mapping_at, is_region, is_mapping, with_mapping, blank_mapping}
use Rattle.space.specs.Passes.{Passes}
use Rattle.space.specs.declared.Mapping.{Mapping}
use Rattle.space.specs.declared.Space.{Space}
use Rattle.space.proofs.Ranges.{inner, sum_fits}
use Rattle.space.proofs.Facts.{mapping_room, region_end}
use Rattle.vmar_offset.specs.Offset.{slot_of, is_free_mapping, free_mapping, determine_offset}
use Rattle.vmar_offset.proofs.Found.{slot_live, free_mapping_lem, determined_free}
use Rattle.vmar_map.specs.Map.{MapDone, refused, filled, tested, mapping, settled, in_region, after_tests, mapped}
use Rattle.vmar_map.proofs.Maps.{odd_offset, odd_length, over, denied, faulting, past_vmo, in_vmo, unaligned, too_many, no_slot, made, dead, alive, never_issued, unknown_permissions, unknown_flags, known_all}
use Rattle.space.specs.Arrays.{Arrays}
use Rattle.vmar_laws.specs.Later.{Later}
use Rattle.vmar_laws.specs.Search.{FreeIn, NoFit}
use Rattle.vmar_laws.specs.Answers.{Fine}
use Rattle.vmar_laws.specs.Maps.{NewMapping, PagesGiven, Accepted, MapsAll}
use Rattle.vmar_laws.proofs.Lists.{last_place, early_place}
use Rattle.vmar_laws.proofs.Slots.{Fills, here, there}
use Rattle.vmar_laws.proofs.Later.{later_none, later_mapping}
use Rattle.vmar_laws.proofs.Search.{free_in, hinted, unhinted, no_memory}
use Rattle.vmar_laws.proofs.Answers.{map_answers, map_only}
use Rattle.vmar_laws.proofs.Pages.{filled_length, pages_given}
use Rattle.vmar_laws.proofs.Mapping.{Born, zeros, mapping_passes, mapping_arrays}

-- how the first tests end: fine, or refused, not with 3
pub data Tests (v at len p fl : ℕ) (faults : Bool) : Result (Unit {0}) Refusal → Type 0 where
  fine : Fine v at len p fl faults → Tests v at len p fl faults (Ok tt)
  fails : (why : Refusal) → (why ≡ NoMemory → ◌≡◌ {A = ℕ} 0 1) → Tests v at len p fl faults (Err why)

module _ (v at len p f : ℕ) (faults : Bool) where
  -- a test that fails
  failing : (why : Refusal) → (why ≡ NoMemory → ◌≡◌ {A = ℕ} 0 1) → (d : Result (Unit {0}) Refusal) → Err why ≡ d → Tests v at len p f faults d
  failing why n d e = subst (Tests v at len p f faults) e (fails why n)

  pub tests : Tests v at len p f faults (tested v at len p f faults)
  tests =
      ⊎_elim
      (λ (a : multiple at 4096 ≡ true). ⊎_elim
      (λ (b : multiple len 4096 ≡ true). ⊎_elim
      (λ (c : leb (at + len) 0xffff_ffff_ffff_ffff ≡ true). ⊎_elim
      (λ (d : grants p (rights f) ≡ true). last a b c d (tell faults) (tell (leb (at + len) v)))
      (λ (d : grants p (rights f) ≡ false). failing AccessDenied (λ q. cc) _ (denied v at len p f faults a b c d))
      (tell (grants p (rights f))))
      (λ (c : leb (at + len) 0xffff_ffff_ffff_ffff ≡ false). failing InvalidArgs (λ q. cc) _ (over v at len p f faults a b c))
      (tell (leb (at + len) 0xffff_ffff_ffff_ffff)))
      (λ (b : multiple len 4096 ≡ false). failing InvalidArgs (λ q. cc) _ (odd_length v at len p f faults a b))
      (tell (multiple len 4096)))
      (λ (a : multiple at 4096 ≡ false). failing InvalidArgs (λ q. cc) _ (odd_offset v at len p f faults a))
      (tell (multiple at 4096))
    where
      passed : multiple at 4096 ≡ true → multiple len 4096 ≡ true → leb (at + len) 0xffff_ffff_ffff_ffff ≡ true → grants p (rights f) ≡ true
          → (faults ≡ false → at + len ≤ v) → Tests v at len p f faults (Ok tt)
      passed a b c d e = fine (record { pages = record { offset = eqb-true _ _ a; size = eqb-true _ _ b; end = sum_fits at len c }; granted = d; within = e })

      last : multiple at 4096 ≡ true → multiple len 4096 ≡ true → leb (at + len) 0xffff_ffff_ffff_ffff ≡ true → grants p (rights f) ≡ true
          → (faults ≡ true) ⊎ (faults ≡ false) → (leb (at + len) v ≡ true) ⊎ (leb (at + len) v ≡ false) → Tests v at len p f faults (tested v at len p f faults)
      last a b c d (inl e) g = subst (Tests v at len p f faults) (faulting v at len p f faults a b c d e) (passed a b c d (λ q. clash faults e q))
      last a b c d (inr e) (inl g) = subst (Tests v at len p f faults) (in_vmo v at len p f faults a b c d e g) (passed a b c d (λ q. leb-true _ _ g))
      last a b c d (inr e) (inr g) = failing InvalidArgs (λ q. cc) _ (past_vmo v at len p f faults a b c d e g)

-- what an accepted call has shown
record Shown (s : Space) (id : ℕ) (o : Option ℕ) (v at len p fl : ℕ) (faults : Bool) (off : ℕ) : Type 0 where
  permissions : known_page p ≡ true
  flags : known_page fl ≡ true
  fine : Fine v at len p fl faults
  live : slot_of s id ≡ 32 → ⊥
  found : determine_offset s (slot_of s id) o len 4096 ≡ Ok off
  aligned : ((region_at s (slot_of s id)).addr + off) % 4096 ≡ 0
  few : len ≤ 0x200000
  free : free_mapping s ≡ 64 → ⊥

module _ (s : Space) (f : List ℕ) (id : ℕ) (o : Option ℕ) (vmo v at len p fl : ℕ) (faults : Bool) where
  -- how a call ends: refused, with 3 only by the search, or with the mapping
  data Ends : MapDone → Type 0 where
    refusal : (why : Refusal) → (why ≡ NoMemory → determine_offset s (slot_of s id) o len 4096 ≡ Err NoMemory) → Ends (refused s f why)
    accepts : (off : ℕ) → Shown s id o v at len p fl faults off
        → Ends (record {
          result = Ok ((region_at s (slot_of s id)).addr + off);
          space = with_mapping s (free_mapping s) (mapping s (slot_of s id) off vmo at len p);
          flags = filled f (free_mapping s * 512) (len / 4096) fl;
        })

  -- a refusal that is not 3
  other : (why : Refusal) → (why ≡ NoMemory → ◌≡◌ {A = ℕ} 0 1) → (out : MapDone) → refused s f why ≡ out → Ends out
  other why n out e = subst Ends e (refusal why (λ q. let z = n q in absurd (omega arith)))

  settles : known_page p ≡ true → known_page fl ≡ true → Fine v at len p fl faults → (slot_of s id ≡ 32 → ⊥) → (d : Result ℕ Refusal) → determine_offset s (slot_of s id) o len 4096 ≡ d
      → Ends (settled s f (slot_of s id) vmo at len p fl d)
  settles k l w n (Ok off) e =
      let r = slot_of s id in
      ⊎_elim
      (λ (a : multiple ((region_at s r).addr + off) 4096 ≡ true). ⊎_elim
      (λ (b : ltb 0x200000 len ≡ true). other NoSlot (λ q. cc) _ (too_many s f r off vmo at len p fl a b))
      (λ (b : ltb 0x200000 len ≡ false). ⊎_elim
      (λ (c : eqb (free_mapping s) 64 ≡ true). other NoSlot (λ q. cc) _ (no_slot s f r off vmo at len p fl a b c))
      (λ (c : eqb (free_mapping s) 64 ≡ false).
      subst Ends (made s f r off vmo at len p fl a b (free_mapping s) _ _ refl c refl refl)
      (accepts off (record {
        permissions = k;
        flags = l;
        fine = w;
        live = n;
        found = e;
        aligned = eqb-true _ _ a;
        few = ltb-false _ _ b;
        free = eqb-false _ _ c;
      })))
      (tell (eqb (free_mapping s) 64)))
      (tell (ltb 0x200000 len)))
      (λ (a : multiple ((region_at s r).addr + off) 4096 ≡ false). other InvalidArgs (λ q. cc) _ (unaligned s f r off vmo at len p fl a))
      (tell (multiple ((region_at s r).addr + off) 4096))
  settles k l w n (Err why) e = refusal why (λ q. e ∙ ap (λ (x : Refusal). Err x) q)

  in_region_lem : known_page p ≡ true → known_page fl ≡ true → Fine v at len p fl faults → Ends (in_region s f id o vmo at len p fl)
  in_region_lem k l w =
      ⊎_elim
      (λ (d : eqb (slot_of s id) 32 ≡ true). other BadState (λ q. cc) _ (dead s f id o vmo at len p fl d))
      (λ (d : eqb (slot_of s id) 32 ≡ false). subst Ends (alive s f id o vmo at len p fl (slot_of s id) refl d) (settles k l w (eqb-false _ _ d) _ refl))
      (tell (eqb (slot_of s id) 32))

  after_tests_lem : {d : Result (Unit {0}) Refusal} → known_page p ≡ true → known_page fl ≡ true → Tests v at len p fl faults d → Ends (after_tests s f id o vmo at len p fl d)
  after_tests_lem k l (fine w) = in_region_lem k l w
  after_tests_lem k l (fails why n) = other why n _ refl

  ends : Ends (mapped s f id o vmo v at len p fl faults)
  ends =
      ⊎_elim
      (λ (h : ltb id s.nextid ≡ true). ⊎_elim
      (λ (k : known_page p ≡ true). ⊎_elim
      (λ (l : known_page fl ≡ true). subst Ends (known_all s f id o vmo at len p fl v faults h k l) (after_tests_lem k l (tests v at len p fl faults)))
      (λ (l : known_page fl ≡ false). other InvalidArgs (λ q. cc) _ (unknown_flags s f id o vmo at len p fl v faults h k l))
      (tell (known_page fl)))
      (λ (k : known_page p ≡ false). other InvalidArgs (λ q. cc) _ (unknown_permissions s f id o vmo at len p fl v faults h k))
      (tell (known_page p)))
      (λ (h : ltb id s.nextid ≡ false). other BadHandle (λ q. cc) _ (never_issued s f id o vmo at len p fl v faults h))
      (tell (ltb id s.nextid))

  mapped_refused : {A : Type 0} {n : ℕ} {why : Refusal} → ◌≡◌ {A = Result ℕ Refusal} (Ok n) (Err why) → A
  mapped_refused e = let z : ◌≡◌ {A = ℕ} 0 1 = cc in absurd (omega arith)

  same_address : {a b : ℕ} → ◌≡◌ {A = Result ℕ Refusal} (Ok a) (Ok b) → a ≡ b
  same_address e = cc

  same_why : {a b : Refusal} → ◌≡◌ {A = Result ℕ Refusal} (Err a) (Err b) → a ≡ b
  same_why e = cc

  nothing_changes : {out : MapDone} → Ends out → (why : Refusal) → out.result ≡ Err why → (out.space ≡ s) × (out.flags ≡ f)
  nothing_changes (refusal w n) why e = (refl, refl)
  nothing_changes (accepts off k) why e = mapped_refused e

  nowhere_free : {out : MapDone} → Ends out → out.result ≡ Err NoMemory → (o ≡ None) × NoFit s (slot_of s id) len 4096
  nowhere_free (refusal w n) e = no_memory s (slot_of s id) len 4096 o (n (same_why e))
  nowhere_free (accepts off k) e = mapped_refused e

  later_all : {out : MapDone} → Ends out → Later s out.space
  later_all (refusal w n) = later_none s
  later_all (accepts off k) = later_mapping s (free_mapping s) _

  -- the mapping that is made
  module _ (arrays : Arrays s) (passes : Passes s f) (off : ℕ) (shown : Shown s id o v at len p fl faults off) where
    abbrev r : ℕ
    r = slot_of s id

    abbrev i : ℕ
    i = free_mapping s

    abbrev m : Mapping
    m = mapping s r off vmo at len p

    abbrev t : Space
    t = with_mapping s i m

    abbrev g : List ℕ
    g = filled f (i * 512) (len / 4096) fl

    home : (r < 32) × (is_region s r ≡ true) × ((region_at s r).id ≡ id)
    home = slot_live s id shown.live

    spare : (i < 64) × (is_mapping s i ≡ false)
    spare = free_mapping_lem s shown.free

    fills : Fills (λ (n : Mapping). n.live) blank_mapping s.mappings 64 i m
    fills = record { long = arrays.mappings; slot = spare.0; free = spare.1; born = refl }

    few : len / 4096 ≤ 512
    few = let z = shown.few in omega arith

    born : Born s m
    born =
        let w = free_in s r off len (determined_free s r len 4096 o off shown.found) home.0 home.1 in
        let z = inner _ _ _ _ w.inner in
        let e = region_end passes r home.0 home.1 in
        record {
          live = refl;
          fits = w;
          paged = record {
            addr = shown.aligned;
            size = shown.fine.pages.size;
            offset = shown.fine.pages.offset;
            end = omega (arith, z.1);
            vmo_end = shown.fine.pages.end;
            few = few;
          };
          known = shown.permissions;
        }

    given : PagesGiven f g i (len / 4096) fl
    given = pages_given f i (len / 4096) fl passes.lent spare.0 few (zeros passes i spare.0 spare.1)

    is : mapping_at t i ≡ m
    is = here fills i refl

    new_mapping : NewMapping s t r i vmo at len p
    new_mapping = record {
      slot = spare.0;
      free = spare.1;
      lowest = λ j l. not-false (is_mapping s j) (before_first (is_free_mapping s) 64 j l);
      live = ap (λ (n : Mapping). n.live) is;
      region = ap (λ (n : Mapping). n.region) is;
      size = ap (λ (n : Mapping). n.size) is;
      vmo = ap (λ (n : Mapping). n.vmo) is;
      offset = ap (λ (n : Mapping). n.offset) is;
      permissions = ap (λ (n : Mapping). n.permissions) is;
      fits = subst (λ (n : Mapping). FreeIn s r n.addr n.size) (sym is) born.fits;
      count = refl;
      last = last_place s.maplist s.mapcount i (let e = arrays.maplist in let z = mapping_room passes i spare.0 spare.1 in omega arith) s.mapcount refl;
    }

    accepted_mapping : (addr : ℕ) → (region_at s r).addr + off ≡ addr → Accepted s t f g r addr o vmo v at len p fl faults
    accepted_mapping addr e = record {
      granted = shown.fine.granted;
      within = shown.fine.within;
      passes = mapping_passes s f passes arrays i spare.0 spare.1 m born g fl (filled_length f (i * 512) (len / 4096) fl ∙ passes.lent) shown.flags given;
      arrays = mapping_arrays s i m arrays;
      mapping = new_mapping;
      kept = record {
        mappings = there fills;
        maplist = λ k l. early_place s.maplist s.mapcount i k (λ q. omega arith);
        regions = refl;
        reglist = refl;
        regcount = refl;
        nextid = refl;
      };
      pages = given;
      address = ap (λ (n : Mapping). n.addr) is ∙ e;
      aligned = subst (λ (x : ℕ). x % 4096 ≡ 0) e shown.aligned;
      hinted = λ a q. let h = hinted s r len 4096 o off shown.found a q in (sym e ∙ ap (λ (x : ℕ). (region_at s r).addr + x) h.0, eqb-true _ _ h.1);
      unhinted = λ q. (off, sym e, unhinted s r len 4096 o off shown.found q);
    }

  accepts_mapping : Arrays s → Passes s f → {out : MapDone} → Ends out → (addr : ℕ) → out.result ≡ Ok addr
      → Accepted s out.space f out.flags (slot_of s id) addr o vmo v at len p fl faults
  accepts_mapping arrays passes (refusal w n) addr e = mapped_refused (sym e)
  accepts_mapping arrays passes (accepts off shown) addr e = accepted_mapping arrays passes off shown addr (same_address e)

pub maps : MapsAll
maps = record {
  holds = λ s f arrays passes id o vmo vmo-len at len permissions flags faults. let out = ends s f id o vmo vmo-len at len permissions flags faults in record {
    refused = nothing_changes s f id o vmo vmo-len at len permissions flags faults out;
    nowhere = nowhere_free s f id o vmo vmo-len at len permissions flags faults out;
    accepted = accepts_mapping s f id o vmo vmo-len at len permissions flags faults arrays passes out;
    later = later_all s f id o vmo vmo-len at len permissions flags faults out;
    answers = map_answers s f id o vmo vmo-len at len permissions flags faults;
    only = map_only s f id o vmo vmo-len at len permissions flags faults;
  };
}
