-- What a leaf requires, from where the two ends fall in it.
use Prim.Native.Nat.{ℕ, zero, suc, ◌+◌, ◌*◌, ◌/◌, ◌%◌, ◌<◌, ◌≤◌}
use mathlib.Core.Path.{◌≡◌, refl, sym, ap, ◌∙◌}
use mathlib.Core.Bool.{Bool, true, false, ◌&&◌, not}
use mathlib.Core.Logic.{◌⊎◌, inl, inr, ⊎_elim}
use native.Mathlib.Omega.{arith}
use native.Mathlib.Nat.{div-add-mod', div-eq_of_lt-le, mod-lt, add-mul}
use lib.Dec.{eqb, ltb, leb}
use borrow.Author.Tests.{eqb-true, ltb-true, ltb-false, lt-ltb, le-ltb, le-leb, lt-leb, eq-eqb, ne_eqb}
use Rattle.paging.specs.Choice.{pick}
use Rattle.paging.specs.Level.{span, index}
use Rattle.paging.specs.Cut.{meets, covers, partly, sum, required}
use Rattle.paging.specs.Need.{falls, splits, left}
use Rattle.paging.proofs.Cases.{same?, below?}
use Rattle.paging.proofs.Levels.{span_pos, offset_suc, above, index_lt}

pub sum_ext : (n : ℕ) (f g : ℕ → ℕ) → ((i : ℕ) → i < n → f i ≡ g i) → sum n f ≡ sum n g
unfolding sum
sum_ext zero f g h = refl
sum_ext (suc n) f g h = rw (sum_ext n f g (λ i l. h i (omega arith)), h n (omega arith))

pub sum_add : (n : ℕ) (f g : ℕ → ℕ) → sum n (λ i. f i + g i) ≡ sum n f + sum n g
unfolding sum
sum_add zero f g = refl
sum_add (suc n) f g = omega (arith, sum_add n f g)

pub sum_none : (n : ℕ) (f : ℕ → ℕ) → ((i : ℕ) → i < n → f i ≡ 0) → sum n f ≡ 0
unfolding sum
sum_none zero f h = refl
sum_none (suc n) f h = omega (arith, sum_none n f (λ i l. h i (omega arith)), h n (omega arith))

pub sum_one : (n : ℕ) (f : ℕ → ℕ) (j : ℕ) → j < n → ((i : ℕ) → i < n → (i ≡ j → ⊥) → f i ≡ 0) → sum n f ≡ f j
unfolding sum
sum_one zero f j h none = absurd (omega arith)
sum_one (suc n) f j h none = ⊎_elim last (before (sum_one n f j)) (same? j n)
  where
    last : j ≡ n → sum n f + f n ≡ f j
    last e = omega (arith, sum_none n f (λ i l. none i (omega arith) (λ q. omega arith)), ap f e)

    before : (j < n → ((i : ℕ) → i < n → (i ≡ j → ⊥) → f i ≡ 0) → sum n f ≡ f j) → (j ≡ n → ⊥) → sum n f + f n ≡ f j
    before ih ne =
        let l : j < n = ⊎_elim (λ k. k) (λ k. absurd (ne (omega arith))) (below? j n) in
        omega (arith, ih l (λ i k q. none i (omega arith) q), none n (omega arith) (λ q. ne (sym q)))

-- a test that says the same of both
pub same_test : (a b c d : ℕ) → (a ≡ b → c ≡ d) → (c ≡ d → a ≡ b) → eqb a b ≡ eqb c d
same_test a b c d f g = ⊎_elim
    (λ (e : a ≡ b). eq-eqb a b e ∙ sym (eq-eqb c d (f e)))
    (λ ne. ne_eqb a b ne ∙ sym (ne_eqb c d (λ e. ne (g e))))
    (same? a b)

-- of blocks that are told apart by their place in a table, one holds x
pub focus : (at : ℕ → ℕ) → ((k : ℕ) → k < 512 → at k % 512 ≡ k) → (l x c : ℕ)
    → sum 512 (λ k. pick (eqb (x / span l) (at k)) c 0) ≡ pick (eqb (x / span l) (at (index l x))) c 0
focus at fine l x c = sum_one 512 (λ k. pick (eqb (x / span l) (at k)) c 0) (index l x) (index_lt l x) none
  where
    none : (i : ℕ) → i < 512 → (i ≡ index l x → ⊥) → pick (eqb (x / span l) (at i)) c 0 ≡ 0
    none i h ne = rw (ne_eqb (x / span l) (at i) (λ e. ne (sym (ap (λ (n : ℕ). n % 512) e ∙ fine i h))))

pub place_of : (q k : ℕ) → k < 512 → (q * 512 + k) % 512 ≡ k
place_of q k h = omega arith

-- the block of level l over x is one of those of block q above it exactly if x is in block q
pub block_above : (l x q : ℕ) → eqb (x / span l) (q * 512 + index l x) ≡ eqb (x / span (suc l)) q
block_above l x q = same_test (x / span l) (q * 512 + index l x) (x / span (suc l)) q (λ e. omega (arith, above l x)) (λ e. omega (arith, above l x))

-- where x falls, in bytes
module _ (l q x : ℕ) where
  s : ℕ
  s = span l

  pub falls_true : q * span l < x → x < q * span l + span l → falls l q x ≡ true
  falls_true g h =
      let d : x / span l ≡ q = div-eq_of_lt-le (span l) (omega arith) (omega (arith, add-mul q 1 (span l))) in
      let m : 0 < x % span l = omega (arith, div-add-mod' x (span l), ap (λ (n : ℕ). n * span l) d) in
      rw (eq-eqb (x / span l) q d, lt-ltb 0 (x % span l) m)

  pub falls_in : falls l q x ≡ true → (x / span l ≡ q) × (0 < x % span l)
  falls_in e = go (eqb (x / span l) q) refl e
    where
      go : (t : Bool) → eqb (x / span l) q ≡ t → pick t (ltb 0 (x % span l)) false ≡ true → (x / span l ≡ q) × (0 < x % span l)
      go true p r = (eqb-true (x / span l) q p, ltb-true 0 (x % span l) r)
      go false p r = absurd (let z : ◌≡◌ {A = ℕ} 0 1 = cc in omega arith)

  pub falls_bytes : falls l q x ≡ true → (q * span l < x) × (x < q * span l + span l)
  falls_bytes e =
      let f = falls_in e in
      (omega (arith, div-add-mod' x (span l), ap (λ (n : ℕ). n * span l) f.0, f.1), omega (arith, div-add-mod' x (span l), ap (λ (n : ℕ). n * span l) f.0, mod-lt x (span_pos l)))

  pub falls_not : (falls l q x ≡ true → ⊥) → falls l q x ≡ false
  falls_not n = go (falls l q x) refl
    where
      go : (t : Bool) → falls l q x ≡ t → falls l q x ≡ false
      go true p = absurd (n p)
      go false p = p

  pub falls_false : falls l q x ≡ false → (x ≤ q * span l) ⊎ (q * span l + span l ≤ x)
  falls_false e = ⊎_elim (λ g. ⊎_elim (λ h. absurd (let z : ◌≡◌ {A = ℕ} 0 1 = (let y : true ≡ false = sym (falls_true g h) ∙ e in cc) in omega arith)) (λ h. inr h) (below? x (q * span l + span l))) (λ g. inl g) (below? (q * span l) x)

-- an end that is in a block without falling into it is its begin
pub aligned_in : (l q x : ℕ) → falls l q x ≡ false → x / span l ≡ q → x % span l ≡ 0
aligned_in l q x f d =
    let t : ltb 0 (x % span l) ≡ false = rw (eq-eqb (x / span l) q d) at f in
    omega (arith, ltb-false 0 (x % span l) t)

-- a range cuts a block partly exactly if one of its ends falls into the block
pub partly_true : (l q a e : ℕ) → a < e → (falls l q a ≡ true) ⊎ (falls l q e ≡ true) → partly l q a e ≡ true
partly_true l q a e h f = ⊎_elim at_a at_e f
  where
    at_a : falls l q a ≡ true → partly l q a e ≡ true
    at_a t =
        let b = falls_bytes l q a t in
        rw (lt-ltb a e h, lt-ltb a (q * span l + span l) b.1, lt-ltb (q * span l) e (omega (arith, b.0)), lt-leb a (q * span l) b.0)

    at_e : falls l q e ≡ true → partly l q a e ≡ true
    at_e t =
        let b = falls_bytes l q e t in
        let w : covers l q a e ≡ false = rest (leb a (q * span l)) (lt-leb (q * span l + span l) e b.1) in
        rw (lt-ltb a e h, lt-ltb a (q * span l + span l) (omega (arith, b.1)), lt-ltb (q * span l) e b.0, w)
      where
        rest : (t : Bool) {u : Bool} → u ≡ false → t && u ≡ false
        rest true r = r
        rest false r = refl

pub partly_false : (l q a e : ℕ) → falls l q a ≡ false → falls l q e ≡ false → partly l q a e ≡ false
partly_false l q a e f g = go (meets l q a e) refl
  where
    all : (t u : Bool) → t && u ≡ true → (t ≡ true) × (u ≡ true)
    all true u r = (refl, r)
    all false u r = absurd (let z : ◌≡◌ {A = ℕ} 0 1 = cc in omega arith)

    go : (t : Bool) → meets l q a e ≡ t → t && not (covers l q a e) ≡ false
    go false m = refl
    go true m =
        let x = all (ltb a e) (ltb a (q * span l + span l) && ltb (q * span l) e) m in
        let y = all (ltb a (q * span l + span l)) (ltb (q * span l) e) x.1 in
        let c : a < q * span l + span l = ltb-true a (q * span l + span l) y.0 in
        let d : q * span l < e = ltb-true (q * span l) e y.1 in
        let i : a ≤ q * span l = ⊎_elim (λ k. k) (λ k. absurd (omega arith)) (falls_false l q a f) in
        let j : q * span l + span l ≤ e = ⊎_elim (λ k. absurd (omega arith)) (λ k. k) (falls_false l q e g) in
        rw (le-leb a (q * span l) i, le-leb (q * span l + span l) e j)

-- what is aligned above is aligned below
pub aligned_below : (l x : ℕ) → x % span (suc l) ≡ 0 → x % span l ≡ 0
aligned_below l x e = omega (arith, offset_suc l x)

pub aligned_under : (l d x : ℕ) → x % span (l + d) ≡ 0 → x % span l ≡ 0
aligned_under l zero x e =
    let z : l + 0 ≡ l = omega arith in
    rw z at e
aligned_under l (suc d) x e =
    let z : l + suc d ≡ suc (l + d) = omega arith in
    aligned_under l d x (aligned_below (l + d) x (rw z at e))

-- where x is aligned no split is needed
pub splits_aligned : (l x : ℕ) → x % span l ≡ 0 → splits x l ≡ 0
unfolding splits
splits_aligned zero x e = refl
splits_aligned (suc l) x e = rw (le-ltb 0 (x % span (suc l)) (omega arith))

pub splits_more : (l x : ℕ) → 0 < x % span (suc l) → splits x (suc l) ≡ 1 + splits x l
unfolding splits
splits_more l x h = rw (lt-ltb 0 (x % span (suc l)) h)

pub splits_most : (x l : ℕ) → splits x l ≤ l
unfolding splits
splits_most x zero = omega arith
splits_most x (suc l) = go (ltb 0 (x % span (suc l))) (splits_most x l)
  where
    go : (t : Bool) → splits x l ≤ l → pick t (1 + splits x l) 0 ≤ suc l
    go true h = omega arith
    go false h = omega arith

pub left_most : (a v l : ℕ) → left a v l ≤ l
unfolding left
left_most a v zero = omega arith
left_most a v (suc l) = go (falls (suc l) (v / span (suc l)) a) (left_most a v l)
  where
    go : (t : Bool) → left a v l ≤ l → pick t (left a v l) (suc l) ≤ suc l
    go true h = omega arith
    go false h = omega arith

pub left_same : (a v l : ℕ) → falls l (v / span l) a ≡ false → left a v l ≡ l
unfolding left
left_same a v zero f = refl
left_same a v (suc l) f = rw f

-- a leaf is no larger than it must be
pub left_cut : (a v l : ℕ) → left a v l < l → falls (suc (left a v l)) (v / span (suc (left a v l))) a ≡ true
unfolding left
left_cut a v zero h = absurd (omega arith)
left_cut a v (suc l) h = go (falls (suc l) (v / span (suc l)) a) refl h (left_cut a v l)
  where
    go : (t : Bool) → falls (suc l) (v / span (suc l)) a ≡ t → pick t (left a v l) (suc l) < suc l
        → (left a v l < l → falls (suc (left a v l)) (v / span (suc (left a v l))) a ≡ true)
        → falls (suc (pick t (left a v l) (suc l))) (v / span (suc (pick t (left a v l) (suc l)))) a ≡ true
    go false f h ih = absurd (omega arith)
    go true f h ih = ⊎_elim ih
        (λ g.
        let q : left a v l ≡ l = omega (arith, left_most a v l) in
        rw q f)
        (below? (left a v l) l)

pub left_less : (a v l : ℕ) → falls (suc l) (v / span (suc l)) a ≡ true → left a v (suc l) ≡ left a v l
unfolding left
left_less a v l f = rw f

-- the part of x in block q: what the splits at x take where x is in it
abbrev pub share : ℕ → ℕ → ℕ → ℕ → ℕ
share l q x c = pick (eqb (x / span l) q) c 0

pub share_in : (l q x c : ℕ) → x / span l ≡ q → share l q x c ≡ c
share_in l q x c e = rw (eq-eqb (x / span l) q e)

pub share_out : (l q x c : ℕ) → (x / span l ≡ q → ⊥) → share l q x c ≡ 0
share_out l q x c n = rw (ne_eqb (x / span l) q n)

module _ (a e : ℕ) (h : a < e) where
  -- of the blocks below q
  step : (l q : ℕ) → ((i : ℕ) → required l i a e ≡ share l i a (splits a l) + share l i e (splits e (left a e l)))
      → sum 512 (λ i. required l (q * 512 + i) a e) ≡ share (suc l) q a (splits a l) + share (suc l) q e (splits e (left a e l))
  step l q ih =
      sum_ext 512 (λ i. required l (q * 512 + i) a e) (λ i. share l (q * 512 + i) a (splits a l) + share l (q * 512 + i) e (splits e (left a e l))) (λ i k. ih (q * 512 + i))
      ∙ sum_add 512 (λ i. share l (q * 512 + i) a (splits a l)) (λ i. share l (q * 512 + i) e (splits e (left a e l)))
      ∙ rw (focus (λ i. q * 512 + i) (place_of q) l a (splits a l), focus (λ i. q * 512 + i) (place_of q) l e (splits e (left a e l)), block_above l a q, block_above l e q)

  -- nothing at the lowest level
  none : (s t : Bool) → pick s (splits a 0) 0 + pick t (splits e (left a e 0)) 0 ≡ 0
  unfolding splits left
  none true true = refl
  none true false = refl
  none false true = refl
  none false false = refl

  -- an end that is in block q without falling into it takes nothing, there or below
  share_a : (l q : ℕ) → falls (suc l) q a ≡ false → (share (suc l) q a (splits a (suc l)) ≡ 0) × (share (suc l) q a (splits a l) ≡ 0)
  share_a l q f = ⊎_elim
      (λ (d : a / span (suc l) ≡ q).
      let z = aligned_in (suc l) q a f d in
      (share_in (suc l) q a (splits a (suc l)) d ∙ splits_aligned (suc l) a z, share_in (suc l) q a (splits a l) d ∙ splits_aligned l a (aligned_below l a z)))
      (λ n. (share_out (suc l) q a (splits a (suc l)) n, share_out (suc l) q a (splits a l) n))
      (same? (a / span (suc l)) q)

  -- where a falls into block q, what is left over e there is found below
  share_e : (l q : ℕ) → falls (suc l) q a ≡ true → share (suc l) q e (splits e (left a e (suc l))) ≡ share (suc l) q e (splits e (left a e l))
  share_e l q f = ⊎_elim
      (λ (d : e / span (suc l) ≡ q). ap (λ (m : ℕ). share (suc l) q e (splits e m)) (left_less a e l (ap (λ (n : ℕ). falls (suc l) n a) d ∙ f)))
      (λ n. share_out (suc l) q e (splits e (left a e (suc l))) n ∙ sym (share_out (suc l) q e (splits e (left a e l)) n))
      (same? (e / span (suc l)) q)

  -- where a does not fall into e's block, it does not fall into the smaller one either
  not_below : (l q : ℕ) → e / span (suc l) ≡ q → falls (suc l) q a ≡ false → falls l (e / span l) a ≡ false
  not_below l q d f = falls_not l (e / span l) a (λ t.
      let i = falls_in l (e / span l) a t in
      let up : a / span (suc l) ≡ q = omega (arith, above l a, above l e, i.0, index_lt l a, index_lt l e) in
      omega (arith, i.1, aligned_below l a (aligned_in (suc l) q a f up)))

  more : (l q : ℕ) → ((i : ℕ) → required l i a e ≡ share l i a (splits a l) + share l i e (splits e (left a e l)))
      → required (suc l) q a e ≡ share (suc l) q a (splits a (suc l)) + share (suc l) q e (splits e (left a e (suc l)))
  unfolding required
  more l q ih = by_a (falls (suc l) q a) refl
    where
      below : sum 512 (λ i. required l (q * 512 + i) a e) ≡ share (suc l) q a (splits a l) + share (suc l) q e (splits e (left a e l))
      below = step l q ih

      Goal : Type 0
      Goal = pick (partly (suc l) q a e) (1 + sum 512 (λ i. required l (q * 512 + i) a e)) 0
          ≡ share (suc l) q a (splits a (suc l)) + share (suc l) q e (splits e (left a e (suc l)))

      by_e : falls (suc l) q a ≡ false → (t : Bool) → falls (suc l) q e ≡ t → Goal
      by_e f true g =
          let i = falls_in (suc l) q e g in
          let p : partly (suc l) q a e ≡ true = partly_true (suc l) q a e h (inr g) in
          let here : left a e (suc l) ≡ suc l = left_same a e (suc l) (ap (λ (n : ℕ). falls (suc l) n a) i.0 ∙ f) in
          let low : left a e l ≡ l = left_same a e l (not_below l q i.0 f) in
          let y = share_a l q f in
          rw p (omega (
            arith,
            below,
            y.0,
            y.1,
            share_in (suc l) q e (splits e (left a e l)) i.0,
            share_in (suc l) q e (splits e (left a e (suc l))) i.0,
            ap (splits e) here,
            ap (splits e) low,
            splits_more l e i.1,
          ))
      by_e f false g =
          let p : partly (suc l) q a e ≡ false = partly_false (suc l) q a e f g in
          rw p (omega (arith, (share_a l q f).0, at_e))
        where
          at_e : share (suc l) q e (splits e (left a e (suc l))) ≡ 0
          at_e = ⊎_elim
              (λ (d : e / span (suc l) ≡ q).
              share_in (suc l) q e (splits e (left a e (suc l))) d
              ∙ ap (splits e) (left_same a e (suc l) (ap (λ (n : ℕ). falls (suc l) n a) d ∙ f))
              ∙ splits_aligned (suc l) e (aligned_in (suc l) q e g d))
              (share_out (suc l) q e (splits e (left a e (suc l))))
              (same? (e / span (suc l)) q)

      by_a : (t : Bool) → falls (suc l) q a ≡ t → Goal
      by_a false f = by_e f (falls (suc l) q e) refl
      by_a true f =
          let i = falls_in (suc l) q a f in
          let p : partly (suc l) q a e ≡ true = partly_true (suc l) q a e h (inl f) in
          rw p (omega (
            arith,
            below,
            share_in (suc l) q a (splits a l) i.0,
            share_in (suc l) q a (splits a (suc l)) i.0,
            splits_more l a i.1,
            share_e l q f,
          ))

  pub required_is : (l q : ℕ) → required l q a e ≡ share l q a (splits a l) + share l q e (splits e (left a e l))
  unfolding required
  required_is zero q = sym (none (eqb (a / span 0) q) (eqb (e / span 0) q))
  required_is (suc l) q = more l q (required_is l)
