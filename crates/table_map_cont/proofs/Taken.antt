-- Each page that is mapped takes an entry that was unused: no more can be mapped than the pool has words, so that no more are tried than one above that,
-- however long the range is.
use Rattle.std.specs.Prelude.{Err, Ok, Result}
use Prim.Native.Nat.{ℕ, zero, suc, ◌+◌, ◌-◌, ◌*◌, ◌/◌, ◌%◌, ◌≤◌, ◌<◌}
use mathlib.Core.Path.{◌≡◌, refl, sym, ap, ◌∙◌, subst}
use mathlib.Core.Bool.{Bool, true, false}
use mathlib.Core.Logic.{⊎_elim}
use mathlib.Core.List.{List}
use native.Mathlib.Omega.{arith}
use native.Mathlib.Nat.{div-add-mod'}
use lib.Dec.{eqb}
use lib.ListN.{length, get_or}
use borrow.Author.Tests.{eq-eqb, ne_eqb}
use Rattle.paging.specs.Choice.{pick}
use Rattle.paging.specs.Level.{span}
use Rattle.paging.specs.Cut.{sum}
use Rattle.paging.proofs.Cases.{same?, below?}
use Rattle.common.specs.Page.{level_of}
use Rattle.common.specs.declared.vm.PageSize.{PageSize}
use Rattle.x86_64.specs.Entry.{table_word}
use Rattle.pool.specs.Pool.{word}
use Rattle.form.specs.Form.{Good}
use Rattle.walk.specs.Walk.{size_at, found}
use Rattle.walk.specs.declared.Walk.{Walk}
use Rattle.walk.specs.declared.Walk.TheVariants.{Leaf, Open}
use Rattle.walk.proofs.Sizes.{size_bytes}
use Rattle.walk.proofs.Found.{unused, open_in}
use Rattle.table_map.specs.Map.{leaf_for, mapped, Mapping}
use Rattle.table_map.proofs.Fills.{table_there, short, done}
use Rattle.table_laws.specs.Frames.{next_word}
use Rattle.table_laws.proofs.Effects.{effects}
use Rattle.table_laws.proofs.Frames.{frames_taken}
use Rattle.table_map_cont.specs.MapCont.{Range, page_level, pages}
use Rattle.table_map_cont.proofs.Heights.{Fits, page_fits}
use Rattle.table_map_cont.proofs.Pages.{span_page, range_on}
use Rattle.table_map_cont.proofs.Steps.{not_both, pages_end, pages_fail, pages_next}
use Rattle.table_map_cont.proofs.Counted.{filled_long}
use Rattle.refusal.specs.declared.Refusal.{Refusal}

-- a page that was mapped: where its tables went
module _ (p : List ℕ) (base used v : ℕ) (G : Good p base used) (s : PageSize) (pa f : ℕ) where
  abbrev b : ℕ
  b = base / 4096

  -- no word in use is changed, since the entry that was written was unused
  pub record Solid (u : ℕ) : Type 0 where
    pub grows : used ≤ u
    pub words : (i k : ℕ) → i < used → k < 512 → (word p i k ≡ 0 → ⊥) → word (mapped p b used v pa s f).pool i k ≡ word p i k
    -- that entry is used now
    pub i : ℕ
    pub k : ℕ
    pub frame : i < used
    pub place : k < 512
    pub was : word p i k ≡ 0
    pub is : word (mapped p b used v pa s f).pool i k ≡ 0 → ⊥
    pub long : length (mapped p b used v pa s f).pool ≡ length p

  pub solid : (u : ℕ) → (mapped p b used v pa s f).result ≡ Ok u → Solid u
  solid u e = go (found p b v) refl
    where
      go : (r : Walk) → found p b v ≡ r → Solid u
      go (Leaf l) q = not_both (rw q at e)
      go (Open o) q = ⊎_elim
          (λ c. not_both (sym (ap (λ (m : Mapping). m.result) (table_there p b used v s pa f o q c)) ∙ e))
          (λ c. ⊎_elim
          (λ d. not_both (sym (ap (λ (m : Mapping). m.result) (short p b used v s pa f o q c d)) ∙ e))
          (λ d. ok c d)
          (below? (length p / 512 - used) (o.level - level_of s)))
          (below? o.level (level_of s))
        where
          -- neither a leaf nor a table entry is the unused word
          used_word : (n : ℕ) → next_word b used n (leaf_for s pa f) ≡ 0 → ⊥
          used_word zero z = omega (arith, z)
          used_word (suc n) z =
              let y : table_word (b + used) 0 ≡ 0 = rw (ne_eqb (suc n) 0 (λ q. omega arith)) at z in
              omega (arith, y)

          ok : level_of s ≤ o.level → o.level - level_of s ≤ length p / 512 - used → Solid u
          ok c d =
              let D = done p b used v s pa f o q c d in
              let n : ℕ = o.level - level_of s in
              let U = unused p b used G.formed v o q in
              let T = frames_taken.holds n p b used v (leaf_for s pa f) o U.placed.taken (open_in p base used v G o q).1 (omega arith) (omega (arith, G.sized.there)) in
              let z : Ok (used + n) ≡ Ok u = sym (ap (λ (m : Mapping). m.result) D) ∙ e in
              let y : used + n ≡ u = cc in
              record {
                grows = omega arith;
                words = λ i k hi hk ne.
                    ap (λ (m : Mapping). word m.pool i k) D
                    ∙ T.before i k hi hk (λ w. ne (ap (λ (x : ℕ). word p x k) w.0 ∙ ap (word p o.frame) w.1 ∙ U.blank));
                i = o.frame;
                k = o.place;
                frame = U.placed.taken;
                place = (open_in p base used v G o q).1;
                was = U.blank;
                is = λ z. used_word n (sym (ap (λ (m : Mapping). word m.pool o.frame o.place) D ∙ T.entry) ∙ z);
                long = ap (λ (m : Mapping). length m.pool) D ∙ filled_long n p b used v o (leaf_for s pa f) (omega (arith, G.sized.there));
              }

-- sums
sum_le : (n : ℕ) (f g : ℕ → ℕ) → ((i : ℕ) → i < n → f i ≤ g i) → sum n f ≤ sum n g
unfolding sum
sum_le zero f g h = omega arith
sum_le (suc n) f g h = omega (arith, sum_le n f g (λ i l. h i (omega arith)), h n (omega arith))

sum_lt : (n : ℕ) (f g : ℕ → ℕ) (j : ℕ) → j < n → ((i : ℕ) → i < n → f i ≤ g i) → f j < g j → sum n f < sum n g
unfolding sum
sum_lt zero f g j l h s = absurd (omega arith)
sum_lt (suc n) f g j l h s = ⊎_elim last (before (sum_lt n f g j)) (same? j n)
  where
    last : j ≡ n → sum n f + f n < sum n g + g n
    last e = omega (arith, sum_le n f g (λ i k. h i (omega arith)), subst (λ (x : ℕ). f x < g x) e s)

    before : (j < n → ((i : ℕ) → i < n → f i ≤ g i) → f j < g j → sum n f < sum n g) → (j ≡ n → ⊥) → sum n f + f n < sum n g + g n
    before ih ne =
        let k : j < n = ⊎_elim (λ x. x) (λ x. absurd (ne (omega arith))) (below? j n) in
        omega (arith, ih k (λ i m. h i (omega arith)) s, h n (omega arith))

sum_longer : (n d : ℕ) (f : ℕ → ℕ) → sum n f ≤ sum (n + d) f
unfolding sum
sum_longer n zero f =
    let z : n + 0 ≡ n = omega arith in
    rw z (omega arith)
sum_longer n (suc d) f =
    let z : n + suc d ≡ suc (n + d) = omega arith in
    rw z (omega (arith, sum_longer n d f))

sum_most : (n : ℕ) (f : ℕ → ℕ) → ((i : ℕ) → f i ≤ 1) → sum n f ≤ n
unfolding sum
sum_most zero f h = omega arith
sum_most (suc n) f h = omega (arith, sum_most n f h, h n)

-- 1 for a word in use
abbrev in_use_lem : ℕ → ℕ
in_use_lem w = pick (eqb w 0) 0 1

in_use_most : (w : ℕ) → in_use_lem w ≤ 1
in_use_most w = go (eqb w 0)
  where
    go : (t : Bool) → pick t 0 1 ≤ 1
    go true = omega arith
    go false = omega arith

-- the words in use of the first frames
used_words : List ℕ → ℕ → ℕ
used_words p used = sum (used * 512) (λ j. in_use_lem (get_or p j 0))

module _ (p : List ℕ) (base used v : ℕ) (G : Good p base used) (s : PageSize) (pa f u : ℕ) (S : Solid p base used v G s pa f u) where
  abbrev p' : List ℕ
  p' = (mapped p (base / 4096) used v pa s f).pool

  -- no word falls out of use
  kept : (j : ℕ) → j < used * 512 → in_use_lem (get_or p j 0) ≤ in_use_lem (get_or p' j 0)
  kept j h = ⊎_elim
      (λ (z : get_or p j 0 ≡ 0). rw (eq-eqb (get_or p j 0) 0 z) (omega arith))
      (λ ne.
      let q : j / 512 * 512 + j % 512 ≡ j = omega (arith, div-add-mod' j 512) in
      let w : get_or p' j 0 ≡ get_or p j 0 = subst (λ (x : ℕ). get_or p' x 0 ≡ get_or p x 0) q (S.words (j / 512) (j % 512) (omega arith) (omega arith) (λ z. ne (ap (λ (x : ℕ). get_or p x 0) (sym q) ∙ z))) in
      rw w (omega arith))
      (same? (get_or p j 0) 0)

  more : used_words p used < used_words p' u
  unfolding used_words
  more =
      let j : ℕ = S.i * 512 + S.k in
      let old : in_use_lem (get_or p j 0) ≡ 0 = rw (eq-eqb (get_or p j 0) 0 S.was) in
      let new : in_use_lem (get_or p' j 0) ≡ 1 = rw (ne_eqb (get_or p' j 0) 0 S.is) in
      let lt = sum_lt (used * 512) (λ i. in_use_lem (get_or p i 0)) (λ i. in_use_lem (get_or p' i 0)) j (omega (arith, S.frame, S.place)) kept (omega (arith, old, new)) in
      let le = sum_longer (used * 512) (u * 512 - used * 512) (λ i. in_use_lem (get_or p' i 0)) in
      let q : used * 512 + (u * 512 - used * 512) ≡ u * 512 = omega (arith, S.grows) in
      omega (arith, lt, subst (λ (n : ℕ). sum (used * 512) (λ i. in_use_lem (get_or p' i 0)) ≤ sum n (λ i. in_use_lem (get_or p' i 0))) q le)

used_most : (p : List ℕ) (base used : ℕ) → Good p base used → used_words p used ≤ length p
unfolding used_words
used_most p base used G = omega (arith, sum_most (used * 512) (λ j. in_use_lem (get_or p j 0)) (λ j. in_use_most (get_or p j 0)), G.sized.there)

module _ (base top f : ℕ) (two : top ≤ 2) where
  -- one page of either count of pages
  step : (k m : ℕ) (p : List ℕ) (used v pa n : ℕ) → Good p base used → Range v n pa → 0 < n
      → ((u : ℕ) → (mapped p (base / 4096) used v pa (size_at (page_level top v pa n)) f).result ≡ Ok u
      → pages k (mapped p (base / 4096) used v pa (size_at (page_level top v pa n)) f).pool (base / 4096) u (v + span (page_level top v pa n)) (pa + span (page_level top v pa n)) (n - span (page_level top v pa n)) top f
      ≡ pages m (mapped p (base / 4096) used v pa (size_at (page_level top v pa n)) f).pool (base / 4096) u (v + span (page_level top v pa n)) (pa + span (page_level top v pa n)) (n - span (page_level top v pa n)) top f)
      → pages (suc k) p (base / 4096) used v pa n top f ≡ pages (suc m) p (base / 4096) used v pa n top f
  step k m p used v pa n G R h ih = go (mapped p (base / 4096) used v pa (size_at (page_level top v pa n)) f).result refl
    where
      some : n ≡ 0 → ⊥
      some z = omega arith

      go : (r : Result ℕ Refusal) → (mapped p (base / 4096) used v pa (size_at (page_level top v pa n)) f).result ≡ r → pages (suc k) p (base / 4096) used v pa n top f ≡ pages (suc m) p (base / 4096) used v pa n top f
      go (Err r) q =
          pages_fail p (base / 4096) used v pa n top f k (page_level top v pa n) some refl r q ∙ sym (pages_fail p (base / 4096) used v pa n top f m (page_level top v pa n) some refl r q)
      go (Ok u) q =
          pages_next p (base / 4096) used v pa n top f k (page_level top v pa n) some refl u q
          ∙ ih u q
          ∙ sym (pages_next p (base / 4096) used v pa n top f m (page_level top v pa n) some refl u q)

  -- the pool after a page, and the rest of the range
  module _ (p : List ℕ) (used v pa n : ℕ) (G : Good p base used) (R : Range v n pa) (h : 0 < n) (u : ℕ)
      (q : (mapped p (base / 4096) used v pa (size_at (page_level top v pa n)) f).result ≡ Ok u) where
    F : Fits top v pa n (page_level top v pa n)
    F = page_fits top v pa n R.start (omega (arith, R.size))

    rest : Range (v + span (page_level top v pa n)) (n - span (page_level top v pa n)) (pa + span (page_level top v pa n))
    rest = range_on top v pa n (page_level top v pa n) R F

    good : Good (mapped p (base / 4096) used v pa (size_at (page_level top v pa n)) f).pool base u
    good = ((effects p base used v G).maps (size_at (page_level top v pa n)) pa f u (omega (arith, size_bytes (page_level top v pa n) (omega (arith, F.low)), F.room, R.physical)) q).good

    S : Solid p base used v G (size_at (page_level top v pa n)) pa f u
    S = solid p base used v G (size_at (page_level top v pa n)) pa f u q

  -- counts that are above what the pool has left
  enough : (k m : ℕ) (p : List ℕ) (used v pa n : ℕ) → Good p base used → Range v n pa → length p < used_words p used + k → length p < used_words p used + m
      → pages k p (base / 4096) used v pa n top f ≡ pages m p (base / 4096) used v pa n top f
  enough zero m p used v pa n G R a c = absurd (omega (arith, used_most p base used G))
  enough (suc k) zero p used v pa n G R a c = absurd (omega (arith, used_most p base used G))
  enough (suc k) (suc m) p used v pa n G R a c = ⊎_elim
      (λ h. step k m p used v pa n G R h (λ u q.
      let less = more p base used v G (size_at (page_level top v pa n)) pa f u (S p used v pa n G R h u q) in
      let len = (S p used v pa n G R h u q).long in
      enough k m (mapped p (base / 4096) used v pa (size_at (page_level top v pa n)) f).pool u (v + span (page_level top v pa n)) (pa + span (page_level top v pa n)) (n - span (page_level top v pa n))
      (good p used v pa n G R h u q) (rest p used v pa n G R h u q) (omega (arith, less, len)) (omega (arith, less, len))))
      (λ h. pages_end p (base / 4096) used v pa n top f (suc k) (omega arith) ∙ sym (pages_end p (base / 4096) used v pa n top f (suc m) (omega arith)))
      (below? 0 n)

  -- counts that the range does not use up
  over : (k m : ℕ) (p : List ℕ) (used v pa n : ℕ) → Good p base used → Range v n pa → n ≤ k * 4096 → n ≤ m * 4096
      → pages k p (base / 4096) used v pa n top f ≡ pages m p (base / 4096) used v pa n top f
  over zero m p used v pa n G R a c = pages_end p (base / 4096) used v pa n top f 0 (omega arith) ∙ sym (pages_end p (base / 4096) used v pa n top f m (omega arith))
  over (suc k) zero p used v pa n G R a c = pages_end p (base / 4096) used v pa n top f (suc k) (omega arith) ∙ sym (pages_end p (base / 4096) used v pa n top f 0 (omega arith))
  over (suc k) (suc m) p used v pa n G R a c = ⊎_elim
      (λ h. step k m p used v pa n G R h (λ u q.
      let s = span_page (page_level top v pa n) in
      over k m (mapped p (base / 4096) used v pa (size_at (page_level top v pa n)) f).pool u (v + span (page_level top v pa n)) (pa + span (page_level top v pa n)) (n - span (page_level top v pa n))
      (good p used v pa n G R h u q) (rest p used v pa n G R h u q) (omega arith) (omega arith)))
      (λ h. pages_end p (base / 4096) used v pa n top f (suc k) (omega arith) ∙ sym (pages_end p (base / 4096) used v pa n top f (suc m) (omega arith)))
      (below? 0 n)

  pub few_pages : (p : List ℕ) (used v pa n : ℕ) → Good p base used → Range v n pa
      → pages (n / 4096) p (base / 4096) used v pa n top f ≡ pages (length p + 1) p (base / 4096) used v pa n top f
  few_pages p used v pa n G R = ⊎_elim
      (λ (h : length p < n / 4096). enough (n / 4096) (length p + 1) p used v pa n G R (omega arith) (omega arith))
      (λ h. over (n / 4096) (length p + 1) p used v pa n G R (omega (arith, R.size)) (omega (arith, R.size)))
      (below? (length p) (n / 4096))
