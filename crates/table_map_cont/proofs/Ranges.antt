-- What an accepted range comes to, page after page, and how a refused one ends.
use Rattle.std.specs.Prelude.{Err, Ok, Result}
use Prim.Native.Nat.{ℕ, zero, suc, ◌+◌, ◌-◌, ◌*◌, ◌/◌, ◌%◌, ◌^◌, ◌≤◌, ◌<◌}
use mathlib.Core.Path.{◌≡◌, refl, sym, ap, ◌∙◌, subst}
use mathlib.Core.Logic.{◌⊎◌, inl, inr, ⊎_elim}
use mathlib.Core.List.{List}
use native.Mathlib.Omega.{arith}
use lib.ListN.{length}
use Rattle.paging.specs.Level.{span}
use Rattle.paging.specs.Format.{LeafReads}
use Rattle.paging.specs.Table.{view, to, translated, translates}
use Rattle.paging.proofs.Cases.{same?, below?}
use Rattle.paging.proofs.Levels.{span_pos, page_of}
use Rattle.common.specs.Page.{level_of, size_of}
use Rattle.x86_64.specs.Entry.{granted, x86}
use Rattle.form.specs.Form.{Good}
use Rattle.refusal.specs.declared.Refusal.{Refusal}
use Rattle.refusal.specs.declared.Refusal.TheVariants.{AlreadyMapped, NoFrames}
use Rattle.walk.specs.Walk.{size_at}
use Rattle.table_map.specs.Map.{leaf_for, mapped, Mapping}
use Rattle.table_laws.specs.Effects.{translates_in, Adds}
use Rattle.walk.proofs.Sizes.{size_level, size_bytes}
use Rattle.table_laws.proofs.Effects.{effects}
use Rattle.table_laws.proofs.Leaves.{map_reads}
use Rattle.table_map_cont.specs.MapCont.{Range, top_level, page_level, pages, or_nothing, map_cont}
use Rattle.table_map_cont.specs.Count.{begins, count_page, counted}
use Rattle.table_map_cont.specs.Laws.{MapsRange, Ranges, RangesHold}
use Rattle.table_map_cont.proofs.Heights.{Fits, page_fits}
use Rattle.table_map_cont.proofs.Pages.{span_page, in_block, off_block, canonical, range_on}
use Rattle.table_map_cont.proofs.Steps.{not_both, page_refuses, counted_end, counted_fail, counted_next, pages_end, pages_fail, pages_next}
use Rattle.table_map_cont.proofs.Counted.{by_count}
use Rattle.table_map_cont.proofs.Taken.{Solid, solid, few_pages}
use Rattle.table_map_cont.proofs.Runs.{top_low}

-- where a page's leaf translates an address of the page to
leaf_to : (x l w a f m : ℕ) → LeafReads x86 l w a f m → translated x86 x (view l w) ≡ to (a + x % span l) f
leaf_to x l w a f m R = rw (R.kind, R.addr, R.flags)

-- the byte of a page of level t, from the page's first or from the range's
same_byte : (top v pa n t x : ℕ) → Fits top v pa n t → v ≤ x → x < v + span t → pa - pa % span t + x % span t ≡ pa - pa % 4096 + (x - v)
same_byte top v pa n zero x F h g = omega (arith, F.virt)
same_byte top v pa n (suc t) x F h g =
    let e : pa ≡ pa / 4096 * 4096 = page_of (suc t) pa (F.phys (omega arith)) in
    omega (arith, F.phys (omega arith), (in_block (span (suc t)) (span_pos (suc t)) v F.virt x h g).1)

module _ (base top f : ℕ) (two : top ≤ 2) where
  nothing_left : (p : List ℕ) (used v n pa : ℕ) → Good p base used → n ≡ 0 → MapsRange p p base used used v n pa f
  nothing_left p used v n pa G e = record {
    good = G;
    grows = omega arith;
    inside = λ x h g. absurd (omega arith);
    outside = λ x c h. refl;
    words = λ i k h g ne. refl;
  }

  -- a page, and the rest of the range
  first_page : (p p'' : List ℕ) (used u used' v pa n t : ℕ) → Good p base used → Range v n pa → Fits top v pa n t → (mapped p (base / 4096) used v pa (size_at t) f).result ≡ Ok u
      → MapsRange (mapped p (base / 4096) used v pa (size_at t) f).pool p'' base u used' (v + span t) (n - span t) (pa + span t) f → MapsRange p p'' base used used' v n pa f
  unfolding translates
  first_page p p'' used u used' v pa n t G R F e M = record {
    good = M.good;
    grows = omega (arith, S.grows, M.grows);
    inside = λ x h g. ⊎_elim (λ (k : x < v + span t). here x h k) (λ (k : v + span t ≤ x). M.inside x k (omega (arith, F.room)) ∙ ap (λ (y : ℕ). to y (granted f)) (later x k)) (below? x (v + span t));
    outside = λ x c o.
        M.outside x c (⊎_elim (λ (k : x < v). inl (omega arith)) (λ (k : v + n ≤ x). inr (omega (arith, F.room))) o)
        ∙ A.outside (canonical v (v + n) v R.within (omega arith) (omega (arith, F.room, span_pos t))) x c
        (λ q. off_block (span t) (span_pos t) v F.virt x (⊎_elim (λ (k : x < v). inl k) (λ (k : v + n ≤ x). inr (omega (arith, F.room))) o) (rw level at q));
    words = λ i k h g ne.
        let w = S.words i k h g ne in
        M.words i k (omega (arith, S.grows)) g (λ z. ne (sym w ∙ z)) ∙ w;
  }
    where
      level : level_of (size_at t) ≡ t
      level = size_level t (omega (arith, F.low))

      bytes : size_of (size_at t) ≡ span t
      bytes = size_bytes t (omega (arith, F.low))

      room : pa + size_of (size_at t) ≤ 2 ^ 52
      room = omega (arith, bytes, F.room, R.physical)

      S : Solid p base used v G (size_at t) pa f u
      S = solid p base used v G (size_at t) pa f u e

      A : Adds p (mapped p (base / 4096) used v pa (size_at t) f).pool base u v (level_of (size_at t)) (leaf_for (size_at t) pa f)
      A = (effects p base used v G).maps (size_at t) pa f u room e

      -- an address of the page
      here : (x : ℕ) → v ≤ x → x < v + span t → translates_in p'' base x ≡ to (pa - pa % 4096 + (x - v)) (granted f)
      here x h k =
          let near : x / span (level_of (size_at t)) ≡ v / span (level_of (size_at t)) = rw level (in_block (span t) (span_pos t) v F.virt x h k).0 in
          M.outside x (canonical v (v + n) x R.within h (omega (arith, F.room))) (inl k)
          ∙ ap (translated x86 x) (A.inside x near)
          ∙ leaf_to x (level_of (size_at t)) (leaf_for (size_at t) pa f) (pa - pa % size_of (size_at t)) (granted f) 0 (map_reads (size_at t) pa f room)
          ∙ ap (λ (y : ℕ). to (pa - pa % y + x % span (level_of (size_at t))) (granted f)) bytes
          ∙ ap (λ (l : ℕ). to (pa - pa % span t + x % span l) (granted f)) level
          ∙ ap (λ (y : ℕ). to y (granted f)) (same_byte top v pa n t x F h k)

      -- one of the pages after it
      later : (x : ℕ) → v + span t ≤ x → pa + span t - (pa + span t) % 4096 + (x - (v + span t)) ≡ pa - pa % 4096 + (x - v)
      later x k = let s = span_page t in omega arith

  abbrev Maps : ℕ → Type 0
  Maps k = (p : List ℕ) (used v pa n used' : ℕ) → Good p base used → Range v n pa → n ≤ k * 4096 → (pages k p (base / 4096) used v pa n top f).result ≡ Ok used'
      → MapsRange p (pages k p (base / 4096) used v pa n top f).pool base used used' v n pa f

  stops : (k : ℕ) (p : List ℕ) (used v pa n used' : ℕ) → Good p base used → n ≡ 0 → (pages k p (base / 4096) used v pa n top f).result ≡ Ok used'
      → MapsRange p (pages k p (base / 4096) used v pa n top f).pool base used used' v n pa f
  stops k p used v pa n used' G z e =
      let q = pages_end p (base / 4096) used v pa n top f k z in
      let y : Ok used ≡ Ok used' = sym (ap (λ (m : Mapping). m.result) q) ∙ e in
      let w : used ≡ used' = cc in
      rw (q, ← w) (nothing_left p used v n pa G z)

  goes_on : (k : ℕ) → Maps k → (p : List ℕ) (used v pa n used' t : ℕ) → t ≡ page_level top v pa n → Good p base used → Range v n pa → 0 < n → n ≤ suc k * 4096
      → (pages (suc k) p (base / 4096) used v pa n top f).result ≡ Ok used' → MapsRange p (pages (suc k) p (base / 4096) used v pa n top f).pool base used used' v n pa f
  goes_on k ih p used v pa n used' t et G R h g e = go (mapped p (base / 4096) used v pa (size_at t) f).result refl
    where
      some : n ≡ 0 → ⊥
      some z = omega arith

      F : Fits top v pa n t
      F = rw et (page_fits top v pa n R.start (omega (arith, R.size)))

      go : (r : Result ℕ Refusal) → (mapped p (base / 4096) used v pa (size_at t) f).result ≡ r → MapsRange p (pages (suc k) p (base / 4096) used v pa n top f).pool base used used' v n pa f
      go (Err r) q = not_both (sym q ∙ sym (ap (λ (m : Mapping). m.result) (pages_fail p (base / 4096) used v pa n top f k t some et r q)) ∙ e)
      go (Ok u) q =
          let s = span_page t in
          let w = pages_next p (base / 4096) used v pa n top f k t some et u q in
          let room : pa + size_of (size_at t) ≤ 2 ^ 52 = omega (arith, size_bytes t (omega (arith, F.low)), F.room, R.physical) in
          rw w (first_page p _ used u used' v pa n t G R F q
          (ih (mapped p (base / 4096) used v pa (size_at t) f).pool u (v + span t) (pa + span t) (n - span t) used' ((effects p base used v G).maps (size_at t) pa f u room q).good
          (range_on top v pa n t R F) (omega (arith, F.room)) (sym (ap (λ (m : Mapping). m.result) w) ∙ e)))

  range_maps : (k : ℕ) → Maps k
  range_maps zero p used v pa n used' G R g e = stops zero p used v pa n used' G (omega arith) e
  range_maps (suc k) p used v pa n used' G R g e = ⊎_elim
      (λ (h : 0 < n). goes_on k (range_maps k) p used v pa n used' (page_level top v pa n) refl G R h g e)
      (λ h. stops (suc k) p used v pa n used' G (omega arith) e)
      (below? 0 n)

-- a range is refused as one of its pages is
module _ (p : List ℕ) (b top : ℕ) where
  abbrev Refuses : ℕ → Type 0
  Refuses k = (used c v pa n : ℕ) (r : Refusal) → counted k p b used c v pa n top ≡ Err r → (r ≡ AlreadyMapped) ⊎ (r ≡ NoFrames)

  refuses_on : (k : ℕ) → Refuses k → (used c v pa n t : ℕ) (r : Refusal) → t ≡ page_level top v pa n → (n ≡ 0 → ⊥) → counted (suc k) p b used c v pa n top ≡ Err r → (r ≡ AlreadyMapped) ⊎ (r ≡ NoFrames)
  refuses_on k ih used c v pa n t r et some e = go (count_page p b used c v t) refl
    where
      go : (x : Result ℕ Refusal) → count_page p b used c v t ≡ x → (r ≡ AlreadyMapped) ⊎ (r ≡ NoFrames)
      go (Err y) q =
          let z : Err y ≡ Err r = sym (counted_fail p b used c v pa n top k t some et y q) ∙ e in
          let w : y ≡ r = cc in
          page_refuses p b used c v t r (q ∙ ap Err w)
      go (Ok u) q = ih u (begins (v + span t)) (v + span t) (pa + span t) (n - span t) r (sym (counted_next p b used c v pa n top k t some et u q) ∙ e)

  range_refuses : (k : ℕ) → Refuses k
  unfolding counted
  range_refuses zero used c v pa n r e = not_both (sym e)
  range_refuses (suc k) used c v pa n r e = ⊎_elim
      (λ z. not_both (sym e ∙ counted_end p b used c v pa n top (suc k) z))
      (λ some. refuses_on k (range_refuses k) used c v pa n (page_level top v pa n) r refl some e)
      (same? n 0)

-- the call against its pages
module _ (p : List ℕ) (m : Mapping) where
  same_result : (or_nothing p m).result ≡ m.result
  same_result = go m.result refl
    where
      go : (r : Result ℕ Refusal) → m.result ≡ r → (or_nothing p m).result ≡ m.result
      go (Ok u) e = rw e
      go (Err r) e = rw e

  mapped_pool : (u : ℕ) → m.result ≡ Ok u → (or_nothing p m).pool ≡ m.pool
  mapped_pool u e = rw e

  refused_pool : (r : Refusal) → m.result ≡ Err r → (or_nothing p m).pool ≡ p
  refused_pool r e = rw e

-- a refused call changes no word, whatever the pool is
pub cont_keeps : (p : List ℕ) (b used v n pa f : ℕ) (r : Refusal) → (map_cont p b used v n pa f).result ≡ Err r → (map_cont p b used v n pa f).pool ≡ p
cont_keeps p b used v n pa f r e =
    let m : Mapping = pages (n / 4096) p b used v pa n (top_level f) f in
    refused_pool p m r (sym (same_result p m) ∙ e)

pub ranges : (p : List ℕ) (base used v n pa f : ℕ) → Good p base used → Range v n pa → Ranges p base used v n pa f
ranges p base used v n pa f G R = record {
  maps = λ used' e.
      subst (λ (q : List ℕ). MapsRange p q base used used' v n pa f) (sym (mapped_pool p m used' (sym (same_result p m) ∙ e)))
      (range_maps base (top_level f) f (top_low f) (n / 4096) p used v pa n used' G R (omega (arith, R.size)) (sym (same_result p m) ∙ e));
  keeps = cont_keeps p (base / 4096) used v n pa f;
  refusals = λ r e. range_refuses p (base / 4096) (top_level f) (n / 4096) used 3 v pa n r (sym counting ∙ e);
  by_count = counting;
  few = few;
  empty = λ z. whole z;
}
  where
    m : Mapping
    m = pages (n / 4096) p (base / 4096) used v pa n (top_level f) f

    counting : (map_cont p (base / 4096) used v n pa f).result ≡ counted (n / 4096) p (base / 4096) used 3 v pa n (top_level f)
    counting = same_result p m ∙ by_count (n / 4096) p base used v n pa (top_level f) f G R (top_low f)

    few : counted (n / 4096) p (base / 4096) used 3 v pa n (top_level f) ≡ counted (length p + 1) p (base / 4096) used 3 v pa n (top_level f)
    few =
        sym (by_count (n / 4096) p base used v n pa (top_level f) f G R (top_low f))
        ∙ ap (λ (x : Mapping). x.result) (few_pages base (top_level f) f (top_low f) p used v pa n G R)
        ∙ by_count (length p + 1) p base used v n pa (top_level f) f G R (top_low f)

    whole : n ≡ 0 → or_nothing p m ≡ record { result = Ok used; pool = p }
    whole z =
        let q : m ≡ record { result = Ok used; pool = p } = pages_end p (base / 4096) used v pa n (top_level f) f (n / 4096) z in
        ap (or_nothing p) q

pub ranges_hold : RangesHold
ranges_hold = record { holds = ranges }
