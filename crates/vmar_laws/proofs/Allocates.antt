-- What `allocate` does: how a call ends, and the child that an accepted one makes.
use Rattle.std.specs.Prelude.{Option, None, Result, Ok, Err}
use Prim.Native.Nat.{ℕ, ◌+◌, ◌-◌, ◌^◌, ◌<◌}
use mathlib.Core.Path.{◌≡◌, refl, sym, ◌∙◌, ap, subst}
use mathlib.Core.Bool.{true, false}
use mathlib.Core.List.{List}
use mathlib.Core.Logic.{⊎_elim}
use native.Mathlib.Omega.{arith}
use lib.Dec.{ltb, eqb}
use borrow.Author.Tests.{ltb-true, eqb-false, not-false}
use Rattle.common.specs.Flags.{known_region}
use Rattle.scan.proofs.Scans.{tell, before_first}
use Rattle.refusal.specs.declared.Refusal.{Refusal}
use Rattle.refusal.specs.declared.Refusal.TheVariants.{InvalidArgs, NoMemory, BadState, NoSlot, BadHandle}
use Rattle.space.specs.Space.{region_at, is_region, with_region, blank_region}
use Rattle.space.specs.Passes.{Passes}
use Rattle.space.specs.declared.Region.{Region}
use Rattle.space.specs.declared.Space.{Space}
use Rattle.space.proofs.Facts.{region_room}
use Rattle.vmar_offset.specs.Offset.{slot_of, is_free_region, free_region, determine_offset}
use Rattle.vmar_offset.proofs.Found.{slot_live, free_region_lem, determined_free}
use Rattle.vmar_allocate.specs.Allocate.{refused, child, settled, allocated}
use Rattle.vmar_allocate.specs.Allocate.{Allocation}
use Rattle.vmar_allocate.proofs.Allocates.{no_slot, no_id, made, never_issued, unknown, dead, alive}
use Rattle.space.specs.Arrays.{Arrays}
use Rattle.vmar_laws.specs.Later.{Later}
use Rattle.vmar_laws.specs.Search.{FreeIn, NoFit}
use Rattle.vmar_laws.specs.Allocates.{NewChild, Accepted, AllocatesAll}
use Rattle.vmar_laws.proofs.Lists.{last_place, early_place}
use Rattle.vmar_laws.proofs.Slots.{Fills, here, there}
use Rattle.vmar_laws.proofs.Later.{later_none, later_region, found_region}
use Rattle.vmar_laws.proofs.Search.{free_in, hinted, unhinted, no_memory}
use Rattle.vmar_laws.proofs.Answers.{allocate_answers, allocate_only}
use Rattle.vmar_laws.proofs.Child.{Born, child_passes, child_arrays}

-- what an accepted call has shown
record Shown (s : Space) (id : ℕ) (o : Option ℕ) (len flags align off : ℕ) : Type 0 where
  known : known_region flags ≡ true
  live : slot_of s id ≡ 32 → ⊥
  at : determine_offset s (slot_of s id) o len align ≡ Ok off
  free : free_region s ≡ 32 → ⊥
  next : s.nextid < 2 ^ 32 - 1

-- how a call ends: refused, with 3 only by the search, or with the child
data Ends (s : Space) (id : ℕ) (o : Option ℕ) (len flags align : ℕ) : Allocation → Type 0 where
  refusal : (why : Refusal) → (why ≡ NoMemory → determine_offset s (slot_of s id) o len align ≡ Err NoMemory) → Ends s id o len flags align (refused s why)
  accepts : (off : ℕ) → Shown s id o len flags align off
      → Ends s id o len flags align (record { result = Ok s.nextid; space = with_region s (free_region s) (child s (slot_of s id) off len flags) })

module _ (s : Space) (id : ℕ) (o : Option ℕ) (len flags align : ℕ) where
  -- a refusal that is not 3
  other : (why : Refusal) → (why ≡ NoMemory → ◌≡◌ {A = ℕ} 0 1) → (out : Allocation) → refused s why ≡ out → Ends s id o len flags align out
  other why n out e = subst (Ends s id o len flags align) e (refusal why (λ q. let z = n q in absurd (omega arith)))

  ends : Ends s id o len flags align (allocated s id o len flags align)
  ends =
      ⊎_elim
      (λ (h : ltb id s.nextid ≡ true). ⊎_elim
      (λ (k : known_region flags ≡ true). ⊎_elim
      (λ (d : eqb (slot_of s id) 32 ≡ true). other BadState (λ q. cc) _ (dead s id o len flags align h k d))
      (λ (d : eqb (slot_of s id) 32 ≡ false). subst (Ends s id o len flags align) (alive s id o len flags align h k (slot_of s id) refl d) (settles k (eqb-false _ _ d) _ refl))
      (tell (eqb (slot_of s id) 32)))
      (λ (k : known_region flags ≡ false). other InvalidArgs (λ q. cc) _ (unknown s id o len flags align h k))
      (tell (known_region flags)))
      (λ (h : ltb id s.nextid ≡ false). other BadHandle (λ q. cc) _ (never_issued s id o len flags align h))
      (tell (ltb id s.nextid))
    where
      settles : known_region flags ≡ true → (slot_of s id ≡ 32 → ⊥) → (d : Result ℕ Refusal) → determine_offset s (slot_of s id) o len align ≡ d
          → Ends s id o len flags align (settled s (slot_of s id) len flags d)
      settles k l (Ok off) e =
          ⊎_elim
          (λ (f : eqb (free_region s) 32 ≡ true). other NoSlot (λ q. cc) _ (no_slot s (slot_of s id) off len flags f))
          (λ (f : eqb (free_region s) 32 ≡ false). ⊎_elim
          (λ (n : ltb s.nextid (2 ^ 32 - 1) ≡ true).
          subst (Ends s id o len flags align) (made s (slot_of s id) off len flags (free_region s) refl f n)
          (accepts off (record { known = k; live = l; at = e; free = eqb-false _ _ f; next = ltb-true _ _ n })))
          (λ (n : ltb s.nextid (2 ^ 32 - 1) ≡ false). other NoSlot (λ q. cc) _ (no_id s (slot_of s id) off len flags f n))
          (tell (ltb s.nextid (2 ^ 32 - 1))))
          (tell (eqb (free_region s) 32))
      settles k l (Err why) e = refusal why (λ q. e ∙ ap (λ (w : Refusal). Err w) q)

  region_refused : {A : Type 0} {n : ℕ} {why : Refusal} → ◌≡◌ {A = Result ℕ Refusal} (Ok n) (Err why) → A
  region_refused e = let z : ◌≡◌ {A = ℕ} 0 1 = cc in absurd (omega arith)

  same_region : {a b : ℕ} → ◌≡◌ {A = Result ℕ Refusal} (Ok a) (Ok b) → a ≡ b
  same_region e = cc

  same_why : {a b : Refusal} → ◌≡◌ {A = Result ℕ Refusal} (Err a) (Err b) → a ≡ b
  same_why e = cc

  nothing_changes : {out : Allocation} → Ends s id o len flags align out → (why : Refusal) → out.result ≡ Err why → out.space ≡ s
  nothing_changes (refusal w n) why e = refl
  nothing_changes (accepts off k) why e = region_refused e

  nowhere_free : {out : Allocation} → Ends s id o len flags align out → out.result ≡ Err NoMemory → (o ≡ None) × NoFit s (slot_of s id) len align
  nowhere_free (refusal w n) e = no_memory s (slot_of s id) len align o (n (same_why e))
  nowhere_free (accepts off k) e = region_refused e

  -- the child that is made
  module _ (pages : List ℕ) (arrays : Arrays s) (p : Passes s pages) (off : ℕ) (shown : Shown s id o len flags align off) where
    abbrev r : ℕ
    r = slot_of s id

    abbrev i : ℕ
    i = free_region s

    abbrev g : Region
    g = child s r off len flags

    abbrev t : Space
    t = with_region s i g

    home : (r < 32) × (is_region s r ≡ true) × ((region_at s r).id ≡ id)
    home = slot_live s id shown.live

    spare : (i < 32) × (is_region s i ≡ false)
    spare = free_region_lem s shown.free

    fills : Fills (λ (h : Region). h.live) blank_region s.regions 32 i g
    fills = record { long = arrays.regions; slot = spare.0; free = spare.1; born = refl }

    born : Born s g
    born = record {
      live = refl;
      id = refl;
      next = shown.next;
      known = shown.known;
      fits = free_in s r off len (determined_free s r len align o off shown.at) home.0 home.1;
    }

    is : region_at t i ≡ g
    is = here fills i refl

    new_child : NewChild s t r i len flags
    new_child = record {
      slot = spare.0;
      free = spare.1;
      lowest = λ j l. not-false (is_region s j) (before_first (is_free_region s) 32 j l);
      live = ap (λ (h : Region). h.live) is;
      id = ap (λ (h : Region). h.id) is;
      size = ap (λ (h : Region). h.size) is;
      flags = ap (λ (h : Region). h.flags) is;
      parent = ap (λ (h : Region). h.parent) is;
      fits = subst (λ (h : Region). FreeIn s r h.addr h.size) (sym is) born.fits;
      count = refl;
      last = last_place s.reglist s.regcount i (let e = arrays.reglist in let z = region_room p i spare.0 spare.1 in omega arith) s.regcount refl;
      found = found_region s i g fills refl p.ids.issued;
      next = refl;
    }

    accepted_child : (n : ℕ) → s.nextid ≡ n → Accepted s t pages r n o len flags align
    accepted_child n e = record {
      passes = child_passes s pages p arrays i spare.0 spare.1 g born;
      arrays = child_arrays s i g arrays;
      id = sym e;
      child = new_child;
      kept = record {
        regions = there fills;
        reglist = λ k l. early_place s.reglist s.regcount i k (λ q. omega arith);
        mappings = refl;
        maplist = refl;
        mapcount = refl;
      };
      hinted = λ at q. let h = hinted s r len align o off shown.at at q in
          (ap (λ (h : Region). h.addr) is ∙ ap (λ (x : ℕ). (region_at s r).addr + x) h.0, h.1);
      unhinted = λ q. (off, ap (λ (h : Region). h.addr) is, unhinted s r len align o off shown.at q);
    }

  module _ (pages : List ℕ) (arrays : Arrays s) (p : Passes s pages) where
    accepts_child : {out : Allocation} → Ends s id o len flags align out → (n : ℕ) → out.result ≡ Ok n
        → Accepted s out.space pages (slot_of s id) n o len flags align
    accepts_child (refusal w f) n e = region_refused (sym e)
    accepts_child (accepts off shown) n e = accepted_child pages arrays p off shown n (same_region e)

    later_all : {out : Allocation} → Ends s id o len flags align out → Later s out.space
    later_all (refusal w f) = later_none s
    later_all (accepts off shown) =
        later_region s (free_region s) (child s (slot_of s id) off len flags) (fills pages arrays p off shown) refl

pub allocates : AllocatesAll
allocates = record {
  holds = λ s pages arrays p id o len flags align. record {
    refused = nothing_changes s id o len flags align (ends s id o len flags align);
    nowhere = nowhere_free s id o len flags align (ends s id o len flags align);
    accepted = accepts_child s id o len flags align pages arrays p (ends s id o len flags align);
    later = later_all s id o len flags align pages arrays p (ends s id o len flags align);
    answers = allocate_answers s id o len flags align;
    only = allocate_only s id o len flags align;
  };
}
