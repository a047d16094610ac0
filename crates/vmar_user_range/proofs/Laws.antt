-- What `check_user_range` means.
use Rattle.std.specs.Prelude.{Result, Ok, Err}
use Prim.Native.Nat.{ℕ, zero, suc, ◌+◌, ◌-◌, ◌/◌, ◌^◌, ◌≤◌, ◌<◌}
use mathlib.Core.Path.{◌≡◌, refl, sym, ◌∙◌, ap, subst}
use mathlib.Core.Bool.{true, false}
use mathlib.Core.List.{List}
use mathlib.Core.Logic.{◌⊎◌, inl, inr, ⊎_elim}
use native.Mathlib.Omega.{arith}
use lib.Dec.{leb, eqb}
use borrow.Author.Tests.{lt-ltb, le-ltb, le-leb, lt-leb, eq-eqb, ne_eqb}
use Rattle.paging.proofs.Cases.{same?, below?}
use Rattle.common.specs.Flags.{USER, known_page, grants}
use Rattle.scan.proofs.Scans.{tell}
use Rattle.common.specs.declared.defs.MMUFlags.{MMUFlags}
use Rattle.refusal.specs.declared.Refusal.{Refusal}
use Rattle.refusal.specs.declared.Refusal.TheVariants.{InvalidArgs, AccessDenied, NotFound, BadState, BadHandle}
use Rattle.space.specs.Space.{is_region}
use Rattle.space.specs.Passes.{Passes, page_at}
use Rattle.space.specs.declared.Space.{Space}
use Rattle.space.proofs.Ranges as ranges
use Rattle.vmar_offset.specs.Offset.{slot_of}
use Rattle.vmar_offset.proofs.Found.{slot_live}
use Rattle.vmar_lookup.specs.Laws as lookup
use Rattle.vmar_lookup.specs.Laws.{FlagsAnswers, of_page, Lookups}
use Rattle.vmar_lookup.proofs.Laws.{lookups}
use Rattle.vmar_user_range.specs.UserRange.{judged, start_of, verdict, checked, user_range}
use Rattle.vmar_user_range.specs.Laws.{flags_of, Usable, UsableRange, NotUsable, outside, bare, no_user, denied, FirstRefused, Asked, UserRangeAnswers, unissued, empty, unknown, over, dead, refused, done, UserRangesAll}
use Rattle.vmar_user_range.proofs.Calls as calls
use Rattle.vmar_user_range.proofs.Runs.{refused_not, on_to, stops_here, each_allowed, all_allowed}
use Rattle.vmar_user_range.proofs.Stretches.{start_in, start_least}

module _ (s : Space) (f : List ℕ) (p : Passes s f) (r : ℕ) (l : r < 32) (a : is_region s r ≡ true) where
  laws : Lookups s f
  laws = lookups.holds s f p

  -- an address is usable, or there is a reason why not
  usable? : (access x : ℕ) → Usable s f r access x ⊎ ((why : Refusal) × NotUsable s f r access x why)
  usable? access x = by _ (laws.mapping x r l a).answers
    where
      by : (y : Result MMUFlags Refusal) → FlagsAnswers s x r (of_page s f x) y → Usable s f r access x ⊎ ((why : Refusal) × NotUsable s f r access x why)
      by y (lookup.outside c) = inr (NotFound, outside c)
      by y (lookup.bare c none) = inr (NotFound, bare c none)
      by y (lookup.held c m h) =
          ⊎_elim
          (λ (u : grants (flags_of s f m x) USER ≡ true). ⊎_elim
          (λ (g : grants (flags_of s f m x) access ≡ true). inl (record { region = c; mapping = m; held = h; user = u; granted = g }))
          (λ (g : grants (flags_of s f m x) access ≡ false). inr (AccessDenied, denied c m h u g))
          (tell (grants (flags_of s f m x) access)))
          (λ (u : grants (flags_of s f m x) USER ≡ false). inr (NotFound, no_user c m h u))
          (tell (grants (flags_of s f m x) USER))

  -- a page is judged by what a lookup at its first address in the range answers
  by_lookup : (addr access page : ℕ) (y : Result MMUFlags Refusal) → FlagsAnswers s (start_of addr page) r (of_page s f (start_of addr page)) y → verdict s f r addr access page ≡ judged access y
  unfolding verdict
  by_lookup addr access page y w = ap (judged access) (sym ((laws.mapping (start_of addr page) r l a).only y w))

  usable_page : (addr access page : ℕ) → Usable s f r access (start_of addr page) → verdict s f r addr access page ≡ Ok tt
  usable_page addr access page u = by_lookup addr access page _ (lookup.held u.region u.mapping u.held) ∙ rw (u.user, u.granted)

  refused_page : (addr access page : ℕ) (why : Refusal) → NotUsable s f r access (start_of addr page) why → verdict s f r addr access page ≡ Err why
  refused_page addr access page why (outside c) = by_lookup addr access page _ (lookup.outside c)
  refused_page addr access page why (bare c none) = by_lookup addr access page _ (lookup.bare c none)
  refused_page addr access page why (no_user c m h u) = by_lookup addr access page _ (lookup.held c m h) ∙ rw u
  refused_page addr access page why (denied c m h u g) = by_lookup addr access page _ (lookup.held c m h) ∙ rw (u, g)

  -- a page that is usable there is so at each of its addresses from there on
  whole_page : (addr access page x : ℕ) → addr / 4096 ≤ page → Usable s f r access (start_of addr page) → x / 4096 ≡ page → start_of addr page ≤ x → Usable s f r access x
  whole_page addr access page x k u at low =
      let m = u.mapping in
      let held = u.held in
      let c = ranges.holds _ _ _ held.holds in
      let c0 = c.0 in
      let c1 = c.1 in
      let w = laws.found_inside (start_of addr page) r m l a (laws.finds (start_of addr page) r m l a u.region held) in
      let w0 = w.0 in
      let w1 = w.1 in
      let z = p.paged m held.slot held.live in
      let z0 = z.addr in
      let z1 = z.size in
      let t = start_in addr page k in
      let t0 = t.0 in
      let t1 = t.1 in
      let same : flags_of s f m (start_of addr page) ≡ flags_of s f m x = ap (page_at f m) (omega arith) in
      record {
        region = ranges.holds_of _ _ _ (omega arith) (omega arith);
        mapping = m;
        held = record { slot = held.slot; live = held.live; holds = ranges.holds_of _ _ _ (omega arith) (omega arith) };
        user = subst (λ (g : ℕ). grants g USER ≡ true) same u.user;
        granted = subst (λ (g : ℕ). grants g access ≡ true) same u.granted;
      }

  -- a range: each address is usable where each page is
  each_address : (addr end access : ℕ) → addr ≤ end → ((q : ℕ) → addr / 4096 ≤ q → q ≤ end / 4096 → Usable s f r access (start_of addr q))
      → (x : ℕ) → addr ≤ x → x ≤ end → Usable s f r access x
  each_address addr end access k each x low high =
      whole_page addr access (x / 4096) x (omega arith) (each (x / 4096) (omega arith) (omega arith)) refl (start_least addr (x / 4096) x low (omega arith))

  usable : (addr end access : ℕ) → addr ≤ end → checked s f r addr end access ≡ Ok tt → (x : ℕ) → addr ≤ x → x ≤ end → Usable s f r access x
  usable addr end access k e = each_address addr end access k (λ q low high.
      ⊎_elim
      (λ (u : Usable s f r access (start_of addr q)). u)
      (λ w. absurd (refused_not (sym (refused_page addr access q w.0 w.1) ∙ each_allowed (verdict s f r addr access) (addr / 4096) (end / 4096) e q low high)))
      (usable? access (start_of addr q)))

  allowed : (addr end access : ℕ) → addr ≤ end → ((x : ℕ) → addr ≤ x → x ≤ end → Usable s f r access x) → checked s f r addr end access ≡ Ok tt
  allowed addr end access k each =
      all_allowed (verdict s f r addr access) (addr / 4096) (end / 4096) (omega arith) (λ q low high.
      let t = start_in addr q low in
      usable_page addr access q (each (start_of addr q) t.2 (start_least addr q end k (omega arith))))

  -- the first page that is not usable decides
  stops : (addr end access : ℕ) (why : Refusal) → FirstRefused s f r addr end access why → checked s f r addr end access ≡ Err why
  stops addr end access why w =
      let q = w.page in
      let from = w.from in
      let to = w.to in
      let here : addr / 4096 + (w.page - addr / 4096) ≡ w.page = omega arith in
      on_to (verdict s f r addr access) (addr / 4096) (q - addr / 4096) (end / 4096) (omega arith) (λ i low high. usable_page addr access i (w.before i low (omega arith)))
      ∙ rw here (stops_here (verdict s f r addr access) why q (end / 4096) to (refused_page addr access q why w.reason))

  -- the first n pages are usable, or there is a first that is not
  first? : (addr access end n : ℕ) → addr / 4096 + n ≤ end / 4096 + 1
      → ((q : ℕ) → addr / 4096 ≤ q → q < addr / 4096 + n → Usable s f r access (start_of addr q)) ⊎ ((why : Refusal) × FirstRefused s f r addr end access why)
  first? addr access end zero h = inl (λ q low high. absurd (omega arith))
  first? addr access end (suc n) h =
      ⊎_elim
      (λ (all : (q : ℕ) → addr / 4096 ≤ q → q < addr / 4096 + n → Usable s f r access (start_of addr q)). ⊎_elim
      (λ (u : Usable s f r access (start_of addr (addr / 4096 + n))). inl (λ q low high. ⊎_elim
      (λ (k : q < addr / 4096 + n). all q low k)
      (λ (k : addr / 4096 + n ≤ q). let e : addr / 4096 + n ≡ q = omega arith in subst (λ (i : ℕ). Usable s f r access (start_of addr i)) e u)
      (below? q (addr / 4096 + n))))
      (λ w. inr (w.0, record { page = addr / 4096 + n; from = omega arith; to = omega arith; before = all; reason = w.1 }))
      (usable? access (start_of addr (addr / 4096 + n))))
      (λ w. inr w)
      (first? addr access end n (omega arith))

-- the call, by its tests
module _ (s : Space) (f : List ℕ) (p : Passes s f) (id addr len access : ℕ) where
  abbrev All : Result (Unit {0}) Refusal → Type 0
  All x = UserRangeAnswers s f id addr len access x

  abbrev Call : Result (Unit {0}) Refusal
  Call = user_range s f id addr len access

  last : addr ≤ addr + (len - 1)
  last = omega arith

  module _ (i : id < s.nextid) where
    is_empty : len ≡ 0 → Ok tt ≡ Call
    is_empty z = calls.empty s f id addr len access (lt-ltb _ _ i) (eq-eqb _ _ z)

    module _ (n : 0 < len) where
      some : eqb len 0 ≡ false
      some = ne_eqb len 0 (λ z. omega arith)

      is_unknown : known_page access ≡ false → Err InvalidArgs ≡ Call
      is_unknown = calls.unknown s f id addr len access (lt-ltb _ _ i) some

      module _ (k : known_page access ≡ true) where
        is_over : 2 ^ 64 ≤ addr + (len - 1) → Err NotFound ≡ Call
        is_over h = calls.over s f id addr len access (lt-ltb _ _ i) some k (lt-leb (addr + (len - 1)) 0xffff_ffff_ffff_ffff (omega arith))

        module _ (h : addr + (len - 1) < 2 ^ 64) where
          below : leb (addr + (len - 1)) 0xffff_ffff_ffff_ffff ≡ true
          below = le-leb (addr + (len - 1)) 0xffff_ffff_ffff_ffff (omega arith)

          is_dead : slot_of s id ≡ 32 → Err BadState ≡ Call
          is_dead = λ z. calls.dead s f id addr len access (lt-ltb _ _ i) some k below (eq-eqb _ _ z)

          is_live : slot_of s id < 32 → checked s f (slot_of s id) addr (addr + (len - 1)) access ≡ Call
          is_live l = calls.live s f id addr len access (lt-ltb _ _ i) some k below (slot_of s id) refl (ne_eqb _ _ (λ z. omega arith))

  lives : slot_of s id < 32 → is_region s (slot_of s id) ≡ true
  lives l = (slot_live s id (λ z. omega arith)).1

  only : (x : Result (Unit {0}) Refusal) → All x → x ≡ Call
  only x (unissued h) = calls.never_issued s f id addr len access (le-ltb _ _ h)
  only x (empty i z) = is_empty i z
  only x (unknown i n k) = is_unknown i n k
  only x (over i n k h) = is_over i n k h
  only x (dead i n k h z) = is_dead i n k h z
  only x (refused A why w) =
      sym (stops s f p (slot_of s id) A.live (lives A.live) addr (addr + (len - 1)) access why w) ∙ is_live A.issued A.some A.known A.end A.live
  only x (done i n w) =
      sym (allowed s f p (slot_of s id) w.live (lives w.live) addr (addr + (len - 1)) access last w.each) ∙ is_live i n w.known w.end w.live

  -- some answer fits
  abbrev Some : Type 0
  Some = (x : Result (Unit {0}) Refusal) × All x

  some_region : Asked s id addr len access → Some
  some_region A =
      ⊎_elim
      (λ (all : (q : ℕ) → addr / 4096 ≤ q → q < addr / 4096 + ((addr + (len - 1)) / 4096 + 1 - addr / 4096) → Usable s f (slot_of s id) access (start_of addr q)). (
        Ok tt,
        done A.issued A.some (record {
          known = A.known;
          end = A.end;
          live = A.live;
          each = each_address s f p (slot_of s id) A.live (lives A.live) addr (addr + (len - 1)) access last (λ q low high. all q low (omega arith));
        }),
      ))
      (λ w. (Err w.0, refused A w.0 w.1))
      (first? s f p (slot_of s id) A.live (lives A.live) addr access (addr + (len - 1)) ((addr + (len - 1)) / 4096 + 1 - addr / 4096) (omega arith))

  some_known : id < s.nextid → 0 < len → known_page access ≡ true → Some
  some_known i n k =
      ⊎_elim
      (λ (h : addr + (len - 1) < 2 ^ 64). ⊎_elim
      (λ (z : slot_of s id ≡ 32). (Err BadState, dead i n k h z))
      (λ (z : slot_of s id ≡ 32 → ⊥). some_region (record { issued = i; some = n; known = k; end = h; live = (slot_live s id z).0 }))
      (same? (slot_of s id) 32))
      (λ (h : 2 ^ 64 ≤ addr + (len - 1)). (Err NotFound, over i n k h))
      (below? (addr + (len - 1)) (2 ^ 64))

  some_answer : Some
  some_answer =
      ⊎_elim
      (λ (i : id < s.nextid). ⊎_elim
      (λ (n : 0 < len). ⊎_elim (λ (k : known_page access ≡ true). some_known i n k) (λ (k : known_page access ≡ false). (Err InvalidArgs, unknown i n k)) (tell (known_page access)))
      (λ (n : len ≤ 0). (Ok tt, empty i (omega arith)))
      (below? 0 len))
      (λ (i : s.nextid ≤ id). (Err BadHandle, unissued i))
      (below? id s.nextid)

  answers : All Call
  answers = subst All (only some_answer.0 some_answer.1) some_answer.1

  -- success, by the answers
  call_allowed : id < s.nextid → (len ≡ 0) ⊎ UsableRange s f id addr len access → Call ≡ Ok tt
  call_allowed i (inl z) = sym (only (Ok tt) (empty i z))
  call_allowed i (inr w) =
      ⊎_elim (λ (n : 0 < len). sym (only (Ok tt) (done i n w))) (λ (n : len ≤ 0). sym (only (Ok tt) (empty i (omega arith)))) (below? 0 len)

  call_usable : Call ≡ Ok tt → (id < s.nextid) × ((len ≡ 0) ⊎ UsableRange s f id addr len access)
  call_usable e = by Call answers e
    where
      by : (x : Result (Unit {0}) Refusal) → All x → x ≡ Ok tt → (id < s.nextid) × ((len ≡ 0) ⊎ UsableRange s f id addr len access)
      by x (unissued h) e = absurd (refused_not e)
      by x (empty i z) e = (i, inl z)
      by x (unknown i n k) e = absurd (refused_not e)
      by x (over i n k h) e = absurd (refused_not e)
      by x (dead i n k h z) e = absurd (refused_not e)
      by x (refused A why w) e = absurd (refused_not e)
      by x (done i n w) e = (i, inr w)

pub user_ranges : UserRangesAll
user_ranges = record {
  holds = λ s f p. record {
    usable = λ r addr end access l a. usable s f p r l a addr end access;
    allowed = λ r addr end access l a. allowed s f p r l a addr end access;
    call_usable = call_usable s f p;
    call_allowed = call_allowed s f p;
    answers = answers s f p;
    only = only s f p;
  };
}
