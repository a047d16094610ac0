-- The two loops: what holds at each turn of the count and of the writing.
use Rattle.std.specs.Prelude.{Err, Ok, Result}
use Prim.Native.Nat.{ℕ, zero, suc, ◌+◌, ◌-◌, ◌*◌, ◌/◌, ◌%◌, ◌≤◌, ◌<◌}
use mathlib.Core.Path.{◌≡◌, refl, sym, ap, ◌∙◌}
use mathlib.Core.Bool.{Bool, true, false}
use mathlib.Core.List.{List}
use native.Mathlib.Omega.{arith}
use lib.Dec.{eqb}
use lib.ListN.{length}
use Rattle.paging.specs.Choice.{pick}
use Rattle.paging.specs.Level.{span}
use Rattle.common.specs.Flags.{HUGE_PAGE, has}
use Rattle.common.specs.Page.{size_of}
use Rattle.form.specs.Form.{Good}
use Rattle.refusal.specs.declared.Refusal.{Refusal}
use Rattle.walk.specs.Walk.{size_at}
use Rattle.table_map.specs.Map.{mapped, Mapping}
use Rattle.walk.proofs.Sizes.{size_bytes}
use Rattle.table_laws.proofs.Effects.{effects}
use Rattle.table_map_cont.specs.MapCont.{Range, largest, top_level, page_level, pages, or_nothing}
use Rattle.table_map_cont.specs.Count.{begins, count_page, counted}
use Rattle.table_map_cont.proofs.Heights.{Fits, page_fits, begins_least}
use Rattle.table_map_cont.proofs.Pages.{span_page, range_on}
use Rattle.table_map_cont.proofs.Steps.{page_few, counted_end, counted_fail, counted_next, pages_end, pages_fail, pages_next}

-- while bytes remain, so do pages
more : (k n : ℕ) → 0 < n → n ≤ k * 4096 → (j : ℕ) × (k ≡ suc j)
more zero n h g = absurd (omega arith)
more (suc k) n h g = (k, refl)

pub fits_now : (top v pa n t : ℕ) → Range v n pa → 0 < n → t ≡ page_level top v pa n → Fits top v pa n t
fits_now top v pa n t R h e = rw e (page_fits top v pa n R.start (omega (arith, R.size)))

-- all is what the whole count answers
pub record Counting (p : List ℕ) (b top : ℕ) (all : Result ℕ Refusal) (taken made v pa n : ℕ) : Type 0 where
  pub fuel : ℕ
  pub enough : n ≤ fuel * 4096
  pub same : counted fuel p b taken made v pa n top ≡ all
  pub range : Range v n pa
  pub few : taken ≤ length p / 512
  pub high : (l : ℕ) → l ≤ 2 → v % span l ≡ 0 → l ≤ made

module _ (p : List ℕ) (b top : ℕ) (all : Result ℕ Refusal) (taken made v pa n : ℕ) (C : Counting p b top all taken made v pa n) where
  pub count_end : n ≡ 0 → Ok taken ≡ all
  count_end e = sym (counted_end p b taken made v pa n top C.fuel e) ∙ C.same

  module _ (h : 0 < n) (t : ℕ) (et : t ≡ page_level top v pa n) where
    j : (j : ℕ) × (C.fuel ≡ suc j)
    j = more C.fuel n h C.enough

    whole : counted (suc j.0) p b taken made v pa n top ≡ all
    whole = ap (λ (k : ℕ). counted k p b taken made v pa n top) (sym j.1) ∙ C.same

    some : n ≡ 0 → ⊥
    some e = omega arith

    F : Fits top v pa n t
    F = fits_now top v pa n t C.range h et

    pub count_fail : (r : Refusal) → count_page p b taken made v t ≡ Err r → Err r ≡ all
    count_fail r e = sym (counted_fail p b taken made v pa n top j.0 t some et r e) ∙ whole

    pub count_next : (u made' : ℕ) → count_page p b taken made v t ≡ Ok u → made' ≡ begins (v + span t)
        → Counting p b top all u made' (v + span t) (pa + span t) (n - span t)
    count_next u made' e em =
        let s = span_page t in
        record {
          fuel = j.0;
          enough = omega (arith, C.enough, j.1, F.room);
          same = ap (λ (c : ℕ). counted j.0 p b u c (v + span t) (pa + span t) (n - span t) top) em ∙ sym (counted_next p b taken made v pa n top j.0 t some et u e) ∙ whole;
          range = range_on top v pa n t C.range F;
          few = page_few p b taken made v t u e C.few;
          high = λ l low al. rw em (begins_least (v + span t) l (omega arith) al);
        }

pub count_start : (p : List ℕ) (b top used v pa n : ℕ) → Range v n pa → used ≤ length p / 512 → Counting p b top (counted (n / 4096) p b used 3 v pa n top) used 3 v pa n
count_start p b top used v pa n R h = record { fuel = n / 4096; enough = omega (arith, R.size); same = refl; range = R; few = h; high = λ l low al. omega arith }

-- all is what mapping all pages comes to
pub record Writing (base top f : ℕ) (all : Mapping) (p : List ℕ) (taken v pa n : ℕ) : Type 0 where
  pub fuel : ℕ
  pub enough : n ≤ fuel * 4096
  pub same : pages fuel p (base / 4096) taken v pa n top f ≡ all
  pub range : Range v n pa
  pub good : Good p base taken

module _ (base top f : ℕ) (all : Mapping) (p : List ℕ) (taken v pa n : ℕ) (C : Writing base top f all p taken v pa n) where
  pub write_end : n ≡ 0 → record { result = Ok taken; pool = p } ≡ all
  write_end e = sym (pages_end p (base / 4096) taken v pa n top f C.fuel e) ∙ C.same

  module _ (two : top ≤ 2) (h : 0 < n) (t : ℕ) (et : t ≡ page_level top v pa n) (m : Mapping) (em : m ≡ mapped p (base / 4096) taken v pa (size_at t) f) where
    i : (j : ℕ) × (C.fuel ≡ suc j)
    i = more C.fuel n h C.enough

    rest : pages (suc i.0) p (base / 4096) taken v pa n top f ≡ all
    rest = ap (λ (k : ℕ). pages k p (base / 4096) taken v pa n top f) (sym i.1) ∙ C.same

    bytes_left : n ≡ 0 → ⊥
    bytes_left e = omega arith

    K : Fits top v pa n t
    K = fits_now top v pa n t C.range h et

    result : {r : Result ℕ Refusal} → m.result ≡ r → (mapped p (base / 4096) taken v pa (size_at t) f).result ≡ r
    result e = sym (ap (λ (x : Mapping). x.result) em) ∙ e

    pub write_fail : (r : Refusal) → m.result ≡ Err r → m ≡ all
    write_fail r e = em ∙ sym (pages_fail p (base / 4096) taken v pa n top f i.0 t bytes_left et r (result e)) ∙ rest

    pub write_next : (u : ℕ) → m.result ≡ Ok u → Writing base top f all m.pool u (v + span t) (pa + span t) (n - span t)
    write_next u e =
        let s = span_page t in
        let b : size_of (size_at t) ≡ span t = size_bytes t (omega (arith, K.low)) in
        record {
          fuel = i.0;
          enough = omega (arith, C.enough, i.1, K.room);
          same = ap (λ (x : Mapping). pages i.0 x.pool (base / 4096) u (v + span t) (pa + span t) (n - span t) top f) em ∙ sym (pages_next p (base / 4096) taken v pa n top f i.0 t bytes_left et u (result e)) ∙ rest;
          range = range_on top v pa n t C.range K;
          good = rw em ((effects p base taken v C.good).maps (size_at t) pa f u (omega (arith, b, K.room, C.range.physical)) (result e)).good;
        }

pub write_start : (p : List ℕ) (base top f used v pa n : ℕ) → Range v n pa → Good p base used → Writing base top f (pages (n / 4096) p (base / 4096) used v pa n top f) p used v pa n
write_start p base top f used v pa n R G = record { fuel = n / 4096; enough = omega (arith, R.size); same = refl; range = R; good = G }

-- the flags allow no level above that of the largest leaf
pub top_low : (f : ℕ) → top_level f ≤ 2
top_low f = go (eqb (has HUGE_PAGE f) 1)
  where
    go : (t : Bool) → pick t largest 0 ≤ 2
    go true = omega arith
    go false = omega arith

-- the call, by what its pages answer
pub cont_refused : (p : List ℕ) (m : Mapping) (r : Refusal) → m.result ≡ Err r → record { result = Err r; pool = p } ≡ or_nothing p m
cont_refused p m r e = rw e

pub cont_mapped : (p : List ℕ) (m : Mapping) (u : ℕ) → m.result ≡ Ok u → m ≡ or_nothing p m
cont_mapped p m u e = rw e
