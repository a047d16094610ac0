-- A stretch of pages in one mapping: what each of them allows stands in the mapping's flags.
use Rattle.std.specs.Prelude.{Some, None, Result, Ok, Err}
use Prim.Native.Nat.{ℕ, ◌+◌, ◌-◌, ◌*◌, ◌/◌, ◌%◌, ◌≤◌, ◌<◌}
use mathlib.Core.Path.{◌≡◌, refl, sym, ◌∙◌, ap, subst}
use mathlib.Core.Bool.{true, false}
use mathlib.Core.List.{List}
use mathlib.Core.Logic.{⊎_elim}
use native.Mathlib.Omega.{arith}
use lib.Bits.{bit_and, bit_xor, and_high}
use lib.Dec.{eqb}
use lib.ListN.{get_or}
use borrow.Author.Tests.{lt-ltb, le-ltb, eq-eqb, eqb-true}
use Rattle.paging.proofs.Cases.{below?, no_truth, clash}
use Rattle.common.specs.Flags.{has, USER, HUGE_PAGE, grants}
use Rattle.refusal.specs.declared.Refusal.{Refusal}
use Rattle.refusal.specs.declared.Refusal.TheVariants.{AccessDenied, NotFound}
use Rattle.scan.proofs.Gather.{xor_same, xor_of}
use Rattle.scan.proofs.Scans.{tell, first_passes, before_first}
use Rattle.scan.proofs.Found.{below_some, found_none}
use Rattle.scan.specs.Scan.{below}
use Rattle.space.specs.Range.{contains}
use Rattle.space.specs.Space.{region_at, mapping_at, is_region}
use Rattle.space.specs.Passes.{Passes, others, page_at}
use Rattle.space.specs.declared.Mapping.{Mapping}
use Rattle.space.specs.declared.Space.{Space}
use Rattle.space.proofs.Ranges as ranges
use Rattle.vmar_lookup.specs.Lookup.{look, page_flags}
use Rattle.vmar_lookup.specs.Laws.{Holds, Lookups}
use Rattle.vmar_lookup.proofs.Laws.{lookups}
use Rattle.vmar_user_range.specs.UserRange.{allows, judged, start_of, verdict, checked_to, is_held, held_at, holder_of, AllGrant, PageOf, pages_in, Tested, no_user, denied, granted}
use Rattle.vmar_user_range.proofs.Runs.{on_to, stops_at, stops_here}

-- a stretch of pages says of all from `page` to the last: so many are allowed and the others remain, or it is refused
abbrev pub Stretched : (ℕ → Result (Unit {0}) Refusal) → ℕ → ℕ → Result ℕ Refusal → Type 0
Stretched v page last (Ok n) = (0 < n) × (page + n ≤ last + 1) × (checked_to v page last ≡ checked_to v (page + n) last)
Stretched v page last (Err why) = checked_to v page last ≡ Err why

-- where a page is looked up
pub at_addr : (addr page : ℕ) → page * 4096 < addr → start_of addr page ≡ addr
unfolding start_of
at_addr addr page l = rw (lt-ltb (page * 4096) addr l)

pub at_page : (addr page : ℕ) → addr ≤ page * 4096 → start_of addr page ≡ page * 4096
unfolding start_of
at_page addr page l = rw (le-ltb (page * 4096) addr l)

-- it lies in that page, and in the range
pub start_in : (addr page : ℕ) → addr / 4096 ≤ page → (page * 4096 ≤ start_of addr page) × (start_of addr page < page * 4096 + 4096) × (addr ≤ start_of addr page)
start_in addr page l =
    ⊎_elim
    (λ (h : page * 4096 < addr). let e = at_addr addr page h in (omega arith, omega arith, omega arith))
    (λ (h : addr ≤ page * 4096). let e = at_page addr page h in (omega arith, omega arith, omega arith))
    (below? (page * 4096) addr)

-- and before all others that do
pub start_least : (addr page x : ℕ) → addr ≤ x → page * 4096 ≤ x → start_of addr page ≤ x
start_least addr page x l k =
    ⊎_elim
    (λ (h : page * 4096 < addr). let e = at_addr addr page h in omega arith)
    (λ (h : addr ≤ page * 4096). let e = at_page addr page h in omega arith)
    (below? (page * 4096) addr)

-- USER is the same where the others beside READ, WRITE and EXECUTE are
user_is : (p : ℕ) → bit_and p 32 ≡ has USER p * USER
user_is p = and_high p 1 5 ∙ omega arith

user_alike : (p q : ℕ) → others p ≡ others q → grants p USER ≡ grants q USER
user_alike p q e = ap (λ (x : ℕ). eqb x 32) (user_is p ∙ same ∙ sym (user_is q))
  where
    lowest : (a b c d : ℕ) → a < 2 → c < 2 → a * 32 + b * 64 ≡ c * 32 + d * 64 → a ≡ c
    lowest a b c d k l h =
        let low : (a * 32 + b * 64) % 64 ≡ a * 32 = omega arith in
        let high : (c * 32 + d * 64) % 64 ≡ c * 32 = omega arith in
        omega (arith, sym low ∙ ap (λ (x : ℕ). x % 64) h ∙ high)

    same : has USER p * USER ≡ has USER q * USER
    same = ap (λ (x : ℕ). x * 32) (lowest (has USER p) (has HUGE_PAGE p) (has USER q) (has HUGE_PAGE q) (omega arith) (omega arith) e)

-- what one byte lacks of the access
pub lacks_none : (b access : ℕ) → bit_xor (bit_and b access) access ≡ 0 → grants b access ≡ true
lacks_none b access e = eq-eqb (bit_and b access) access (xor_same (bit_and b access) access e)

pub grants_all : (b access : ℕ) → grants b access ≡ true → bit_xor (bit_and b access) access ≡ 0
grants_all b access e = xor_of (bit_and b access) access (eqb-true (bit_and b access) access e)

-- a slot that is found lives and holds the address; where none is, no mapping holds it
held_is : (m : Mapping) (x : ℕ) → is_held m x ≡ true → (m.live ≡ true) × (contains m.addr m.size x ≡ true)
unfolding is_held
held_is m x e = ⊎_elim (λ (a : m.live ≡ true). (a, rw a at e)) (λ (a : m.live ≡ false). no_truth (rw a at e)) (tell m.live)

held_of : (m : Mapping) (x : ℕ) → m.live ≡ true → contains m.addr m.size x ≡ true → is_held m x ≡ true
unfolding is_held
held_of m x a c = rw (a, c)

pub none_holds : (s : Space) (x m : ℕ) → holder_of s x ≡ 64 → Holds s x m → ⊥
none_holds s x m e h =
    let l = h.slot in
    clash (held_at s x m) (held_of (mapping_at s m) x h.live h.holds) (before_first (held_at s x) 64 m (omega (arith, e, l)))

-- by what the code has found: x is where the page is looked up
pub no_holder : (s : Space) (x y : ℕ) → x ≡ y → below 64 (holder_of s x) ≡ None → holder_of s y ≡ 64
no_holder s x y e n = subst (λ (z : ℕ). holder_of s z ≡ 64) e (found_none (held_at s x) 64 (below 64 (holder_of s x)) refl n)

pub holder : (s : Space) (x y m : ℕ) → x ≡ y → below 64 (holder_of s x) ≡ Some m → Holds s y m
holder s x y m e q =
    let f = below_some 64 (holder_of s x) m q in
    let h = held_is (mapping_at s m) x (subst (λ (i : ℕ). held_at s x i ≡ true) f.0 (first_passes (held_at s x) 64 (omega (arith, f.0, f.1)))) in
    subst (λ (z : ℕ). Holds s z m) e (record { slot = f.1; live = h.0; holds = h.1 })

-- the pages that are counted lie in the mapping
pub counted : (m : Mapping) (page last : ℕ) → PageOf m page → page ≤ last
    → (0 < pages_in m page last) × (page + pages_in m page last ≤ last + 1) × (page + pages_in m page last ≤ (m.addr + m.size) / 4096)
unfolding pages_in
counted m page last o to =
    let i = o.to in
    ⊎_elim
    (λ (k : last < (m.addr + m.size) / 4096). rw (lt-ltb last _ k) (omega arith, omega arith, omega arith))
    (λ (k : (m.addr + m.size) / 4096 ≤ last). rw (le-ltb last _ k) (omega arith, omega arith, omega arith))
    (below? last _)

-- what the code has found of n pages, which are k
module _ (f : List ℕ) (at n k access : ℕ) (e : n ≡ k) (user : grants (get_or f at 0) USER ≡ true) where
  pub some_lack : (AllGrant f at n access → ⊥) → Tested f at k access (Err AccessDenied)
  some_lack some = denied user (subst (λ (j : ℕ). AllGrant f at j access → ⊥) e some) refl

  pub all_grant : AllGrant f at n access → Tested f at k access (Ok n)
  all_grant all = granted user (subst (λ (j : ℕ). AllGrant f at j access) e all) (ap (λ (x : ℕ). Ok x) e)

module _ (s : Space) (f : List ℕ) (p : Passes s f) (r : ℕ) (l : r < 32) (a : is_region s r ≡ true) (addr access : ℕ) where
  laws : Lookups s f
  laws = lookups.holds s f p

  -- a lookup that ends at no mapping gives 4
  missed : (page : ℕ) → ((m : ℕ) → look s (start_of addr page) 32 r ≡ Ok m → ⊥) → verdict s f r addr access page ≡ Err NotFound
  unfolding verdict
  missed page none = by (look s (start_of addr page) 32 r) refl
    where
      by : (x : Result ℕ Refusal) → look s (start_of addr page) 32 r ≡ x → judged access (page_flags s f (start_of addr page) x) ≡ Err NotFound
      by (Ok m) e = absurd (none m e)
      by (Err why) e = refl

  pub outside_region : (page : ℕ) → contains (region_at s r).addr (region_at s r).size (start_of addr page) ≡ false → verdict s f r addr access page ≡ Err NotFound
  outside_region page c = missed page (λ m e.
      let h = ranges.holds _ _ _ (laws.found_holds (start_of addr page) r m l a e).holds in
      let i = laws.found_inside (start_of addr page) r m l a e in
      clash _ (ranges.holds_of _ _ _ (omega (arith, h.0, i.0)) (omega (arith, h.1, i.1))) c)

  pub unheld : (page : ℕ) → holder_of s (start_of addr page) ≡ 64 → verdict s f r addr access page ≡ Err NotFound
  unheld page c = missed page (λ m e. none_holds s (start_of addr page) m c (laws.found_holds (start_of addr page) r m l a e))

  -- the lookup at an address of the region that a mapping holds gives the flags of its page there
  looked_up : (page m : ℕ) → contains (region_at s r).addr (region_at s r).size (start_of addr page) ≡ true → Holds s (start_of addr page) m
      → verdict s f r addr access page ≡ allows access (page_at f m ((start_of addr page - (mapping_at s m).addr) / 4096))
  unfolding verdict
  looked_up page m c h = ap (λ (x : Result ℕ Refusal). judged access (page_flags s f (start_of addr page) x)) (laws.finds (start_of addr page) r m l a c h)

  module _ (page last m : ℕ) (from : addr / 4096 ≤ page) (to : page ≤ last) (in_region_lem : contains (region_at s r).addr (region_at s r).size (start_of addr page) ≡ true)
      (h : Holds s (start_of addr page) m) where
    base : ℕ
    base = (mapping_at s m).addr / 4096

    -- the page is one of the mapping's
    pub page_of : PageOf (mapping_at s m) page
    page_of =
        let z = p.paged m h.slot h.live in
        let z0 = z.addr in
        let z1 = z.size in
        let few = z.few in
        let c = ranges.holds _ _ _ h.holds in
        let c0 = c.0 in
        let c1 = c.1 in
        let t = start_in addr page from in
        let t0 = t.0 in
        let t1 = t.1 in
        record { end = z.end; from = omega arith; to = omega arith; few = omega arith }

    -- what one of them allows
    of_page_lem : (q : ℕ) → page ≤ q → q < page + pages_in (mapping_at s m) page last → verdict s f r addr access q ≡ allows access (page_at f m (q - (mapping_at s m).addr / 4096))
    of_page_lem q low high =
        let n = counted (mapping_at s m) page last page_of to in
        let n2 = n.2 in
        let i0 = page_of.from in
        let z = p.paged m h.slot h.live in
        let z0 = z.addr in
        let z1 = z.size in
        let t = start_in addr q (omega arith) in
        let t0 = t.0 in
        let t1 = t.1 in
        let holds-it : contains (mapping_at s m).addr (mapping_at s m).size (start_of addr q) ≡ true = ranges.holds_of _ _ _ (omega arith) (omega arith) in
        let w = laws.found_inside (start_of addr page) r m l a (laws.finds (start_of addr page) r m l a in_region_lem h) in
        let w0 = w.0 in
        let w1 = w.1 in
        let e : (start_of addr q - (mapping_at s m).addr) / 4096 ≡ q - (mapping_at s m).addr / 4096 = omega arith in
        looked_up q m (ranges.holds_of _ _ _ (omega arith) (omega arith)) (record { slot = h.slot; live = h.live; holds = holds-it })
        ∙ ap (λ (j : ℕ). allows access (page_at f m j)) e

    -- the first page tells whether USER is there
    user_there : (q : ℕ) → page ≤ q → q < page + pages_in (mapping_at s m) page last
        → grants (page_at f m (q - (mapping_at s m).addr / 4096)) USER ≡ grants (page_at f m (page - (mapping_at s m).addr / 4096)) USER
    user_there q low high =
        let n = counted (mapping_at s m) page last page_of to in
        let n2 = n.2 in
        let i0 = page_of.from in
        let i1 = page_of.to in
        let z = p.paged m h.slot h.live in
        let z0 = z.addr in
        let z1 = z.size in
        let alike = (p.pages m h.slot).alike in
        user_alike _ _ (alike (q - (mapping_at s m).addr / 4096) (omega arith) ∙ sym (alike (page - (mapping_at s m).addr / 4096) (omega arith)))

    place : ℕ
    place = m * 512 + (page - (mapping_at s m).addr / 4096)

    byte_at : (j : ℕ) → get_or f (m * 512 + (page - (mapping_at s m).addr / 4096) + j) 0 ≡ page_at f m (page + j - (mapping_at s m).addr / 4096)
    byte_at j = let i0 = page_of.from in ap (λ (k : ℕ). get_or f k 0) (omega arith)

    byte_of : get_or f (m * 512 + (page - (mapping_at s m).addr / 4096)) 0 ≡ page_at f m (page - (mapping_at s m).addr / 4096)
    byte_of = refl

    -- what the bytes tell of the stretch
    pub told : (x : Result ℕ Refusal) → Tested f (m * 512 + (page - (mapping_at s m).addr / 4096)) (pages_in (mapping_at s m) page last) access x
        → Stretched (verdict s f r addr access) page last x
    told x (no_user u e) =
        let n = counted (mapping_at s m) page last page_of to in
        subst (Stretched (verdict s f r addr access) page last) (sym e)
        (stops_here (verdict s f r addr access) NotFound page last to (of_page_lem page (omega arith) (omega (arith, n.0)) ∙ rw u))
    told x (denied u some e) =
        let n = counted (mapping_at s m) page last page_of to in
        subst (Stretched (verdict s f r addr access) page last) (sym e)
        (stops_at (verdict s f r addr access) AccessDenied (λ (q : ℕ). grants (page_at f m (q - (mapping_at s m).addr / 4096)) access) page (pages_in (mapping_at s m) page last) last n.1
        (λ q low high. of_page_lem q low high ∙ rw (user_there q low high ∙ u))
        (λ all. some (λ j k. ap (λ (b : ℕ). grants b access) (byte_at j) ∙ all (page + j) (omega arith) (omega arith))))
    told x (granted u all e) =
        let n = counted (mapping_at s m) page last page_of to in
        subst (Stretched (verdict s f r addr access) page last) (sym e) (
          n.0,
          n.1,
          on_to (verdict s f r addr access) page (pages_in (mapping_at s m) page last) last n.1 (λ q low high.
              let same : page + (q - page) ≡ q = omega arith in
              let g : grants (page_at f m (q - (mapping_at s m).addr / 4096)) access ≡ true =
              ap (λ (k : ℕ). grants (page_at f m (k - (mapping_at s m).addr / 4096)) access) (sym same) ∙ sym (ap (λ (b : ℕ). grants b access) (byte_at (q - page))) ∙ all (q - page) (omega arith) in
              of_page_lem q low high ∙ rw (user_there q low high ∙ u, g)),
        )
