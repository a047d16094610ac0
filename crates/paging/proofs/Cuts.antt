-- A range cut out of a table: demand 3 of the README, over any format.
use Prim.Native.Nat.{ℕ, zero, suc, ◌+◌, ◌-◌, ◌*◌, ◌/◌, ◌%◌, ◌<◌, ◌≤◌}
use mathlib.Core.Path.{◌≡◌, refl, sym, ap, ◌∙◌, subst}
use mathlib.Core.Bool.{true, false}
use mathlib.Core.Logic.{◌⊎◌, inl, inr, ⊎_elim}
use native.Mathlib.Omega.{arith}
use borrow.Author.Tests.{le-ltb}
use Rattle.paging.specs.Level.{span, Canonical, Within}
use Rattle.paging.specs.Format.{Kind, nothing, leaf, table, by_kind, Format, Lawful, blank}
use Rattle.paging.specs.Table.{View, view, shows, nowhere, translated, translates, Formed}
use Rattle.paging.specs.Cut.{partly, required, under, root_block, frames, Cutting, CutsHold}
use Rattle.paging.specs.Need.{falls, splits, left, leaf_level, over}
use Rattle.paging.specs.Steps.{rewritten, Ranged}
use Rattle.paging.proofs.Cases.{below?, no_truth}
use Rattle.paging.proofs.Walks.{nothing_bar}
use Rattle.paging.proofs.Counts.{sum_none, falls_in, falls_not, partly_true, splits_aligned, left_most, left_cut, aligned_under}
use Rattle.paging.proofs.Sums.{over_most, begins, ends, frames_is, frames_most}
use Rattle.paging.proofs.Downs.{Down, down, falls_none}
use Rattle.paging.proofs.Between.{Tame, Done, between}

-- an empty range requires nothing
module _ (a : ℕ) where
  partly_none : (l q : ℕ) → partly l q a a ≡ false
  partly_none l q = rw (le-ltb a a (omega arith))

  required_none : (l q : ℕ) → required l q a a ≡ 0
  unfolding required
  required_none zero q = refl
  required_none (suc l) q = rw (partly_none (suc l) q)

  under_none : (F : Format) (W : ℕ → ℕ → ℕ) (l n : ℕ) (at : ℕ → ℕ) → under F W a a l n at ≡ 0
  unfolding under
  under_none F W zero n at = refl
  under_none F W (suc l) n at = sum_none 512 (λ k. by_kind (F.kind (suc l) (W n k)) 0 (required (suc l) (at k) a a) (λ m. under F W a a l m (λ j. at k * 512 + j)))
      (λ k h. go (F.kind (suc l) (W n k)) k (λ m. under_none F W l m (λ j. at k * 512 + j)))
    where
      go : (t : Kind) (k : ℕ) → ((m : ℕ) → under F W a a l m (λ j. at k * 512 + j) ≡ 0)
          → by_kind t 0 (required (suc l) (at k) a a) (λ m. under F W a a l m (λ j. at k * 512 + j)) ≡ 0
      go nothing k ih = refl
      go leaf k ih = required_none (suc l) (at k)
      go (table m) k ih = ih m

  frames_none : (F : Format) (W : ℕ → ℕ → ℕ) (root : ℕ) → frames F W root a a ≡ 0
  unfolding frames
  frames_none F W root = under_none F W F.top root (root_block F.top)

module _ (F : Format) (root : ℕ) (G : Lawful F) (low : F.top ≤ 4) (marks : 0 < F.table_marks) where
  emptied : Tame F (λ l w. 0)
  emptied = record {
    blank = λ l. refl;
    fits = λ l w x bar. blank refl;
    flat = λ l w x bar. nothing_bar (G.blank l);
  }

  cut_none : (In : ℕ → Type 0) (W : ℕ → ℕ → ℕ) (k a : ℕ) → Formed F W In root → Cutting F W W In root a a k k
  cut_none In W k a T = record {
    taken = omega (arith, frames_none a F W root);
    outside = λ v c o. refl;
    inside = λ v g h. absurd (omega arith);
    formed = T;
    untouched = λ v l w c o s p. s;
    largest = λ v c o h. absurd (omega arith);
  }

  most : (W : ℕ → ℕ → ℕ) (a e : ℕ) → Within (suc F.top) a e → frames F W root a e ≤ 2 * F.leaf_top
  most W a e r = ⊎_elim
      (λ h. frames_most F G low W root a e h r)
      (λ h.
      let q : a ≡ e = omega (arith, r.0) in
      let z : frames F W root a e ≡ 0 = ap (frames F W root a) (sym q) ∙ frames_none a F W root in
      omega (arith, z))
      (below? a e)

  module _ (In : ℕ → ℕ → Type 0) (next : ℕ → ℕ) (W : ℕ → ℕ → ℕ) (k : ℕ) (W' : ℕ → ℕ → ℕ) (k' a e : ℕ) (T : Formed F W (In k) root)
      (r : Within (suc F.top) a e) (pa : a % 4096 ≡ 0) (pe : e % 4096 ≡ 0) (h : a < e) (R : Ranged F In next root (λ l w. 0) a e W k W' k') where
    ca : Canonical (suc F.top) a
    ca = begins F G low W root a e h r

    A : Down F In root a W k R.W₁ R.k₁
    A = down F In root next G low marks a pa (inl ca) W k R.W₁ R.k₁ T R.at_a

    B : Down F In root e R.W₁ R.k₁ R.W₂ k'
    B = down F In root next G low marks e pe (ends F G low W root a e h r) R.W₁ R.k₁ R.W₂ k' A.formed R.at_e

    -- after both, a still begins a leaf
    a_begins : a % span (over F R.W₂ root a) ≡ 0
    a_begins =
        let le : over F R.W₂ root a ≤ over F R.W₁ root a = omega (arith, B.levels a ca, left_most e a (over F R.W₁ root a)) in
        let q : over F R.W₂ root a + (over F R.W₁ root a - over F R.W₂ root a) ≡ over F R.W₁ root a = omega arith in
        aligned_under (over F R.W₂ root a) (over F R.W₁ root a - over F R.W₂ root a) a (rw q A.begins)

    D : Done F In root (λ l w. 0) e k' a R.W₂ W'
    D = between F In root next G low (λ l w. 0) emptied e k' pe a R.W₂ W' B.formed r.1
        (λ u c. falls_none F R.W₂ (In k') root B.formed a pa a_begins u)
        (λ u c. falls_none F R.W₂ (In k') root B.formed e pe B.begins u)
        R.between

    -- the leaf over e after the splits at a
    at_e : splits e (over F R.W₁ root e) ≡ splits e (left a e (over F W root e))
    at_e = ⊎_elim
        (λ c. ap (splits e) (A.levels e c))
        (λ z. none (over F R.W₁ root e) (omega (arith, over_most F G low R.W₁ root e, G.low)) z
        ∙ sym (none (left a e (over F W root e)) (omega (arith, left_most a e (over F W root e), over_most F G low W root e, G.low)) z))
        (ends F G low W root a e h r)
      where
        none : (l : ℕ) → l ≤ F.top → e % span F.top ≡ 0 → splits e l ≡ 0
        none l le z =
            let q : l + (F.top - l) ≡ F.top = omega arith in
            splits_aligned l e (aligned_under l (F.top - l) e (rw q z))

    inside : (v : ℕ) → a ≤ v → v < e → translates F W' root v ≡ nowhere
    unfolding translates
    inside v g l = ap (translated F v) (D.inside v g l) ∙ go (shows F R.W₂ root v)
      where
        go : (s : View) → translated F v (rewritten (λ m w. 0) s) ≡ nowhere
        go (view m w) = rw (G.blank m)

    outside : (v : ℕ) → Canonical (suc F.top) v → (v < a) ⊎ (e ≤ v) → translates F W' root v ≡ translates F W root v
    unfolding translates
    outside v c o = ap (translated F v) (D.outside v c o) ∙ B.same v c ∙ A.same v c

    -- an end falls into a leaf that is not partly cut no more than into a hole
    spared : (v l w x : ℕ) → x % 4096 ≡ 0 → shows F W root v ≡ view l w → (falls l (v / span l) x ≡ true → ⊥)
        → falls (over F W root v) (v / span (over F W root v)) x ≡ false
    spared v l w x page s n = go (F.kind l w) refl
      where
        level : over F W root v ≡ leaf_level F (view l w)
        level = ap (leaf_level F) s

        at : (m : ℕ) → leaf_level F (view l w) ≡ m → falls m (v / span m) x ≡ false → falls (over F W root v) (v / span (over F W root v)) x ≡ false
        at m q f = subst (λ (i : ℕ). falls i (v / span i) x ≡ false) (sym (level ∙ q)) f

        low_none : falls 0 (v / span 0) x ≡ false
        low_none = falls_not 0 (v / span 0) x (λ f. omega (arith, page, (falls_in 0 (v / span 0) x f).1))

        go : (t : Kind) → F.kind l w ≡ t → falls (over F W root v) (v / span (over F W root v)) x ≡ false
        go nothing q = at 0 (ap (λ (y : Kind). by_kind y 0 l (λ i. 0)) q) low_none
        go leaf q = at l (ap (λ (y : Kind). by_kind y 0 l (λ i. 0)) q) (falls_not l (v / span l) x n)
        go (table m) q = at 0 (ap (λ (y : Kind). by_kind y 0 l (λ i. 0)) q) low_none

    untouched : (v l w : ℕ) → Canonical (suc F.top) v → (v < a) ⊎ (e ≤ v) → shows F W root v ≡ view l w
        → (F.kind l w ≡ nothing) ⊎ (partly l (v / span l) a e ≡ false) → shows F W' root v ≡ view l w
    untouched v l w c o s p =
        let fa = clear a pa (λ f. partly_true l (v / span l) a e h (inl f)) in
        let fe = clear e pe (λ f. partly_true l (v / span l) a e h (inr f)) in
        let v₁ = A.views v c fa in
        let v₂ = B.views v c (subst (λ (z : View). falls (leaf_level F z) (v / span (leaf_level F z)) e ≡ false) (sym v₁) fe) in
        D.outside v c o ∙ v₂ ∙ v₁ ∙ s
      where
        clear : (x : ℕ) → x % 4096 ≡ 0 → (falls l (v / span l) x ≡ true → partly l (v / span l) a e ≡ true) → falls (over F W root v) (v / span (over F W root v)) x ≡ false
        clear x page f = ⊎_elim
            (λ n.
            let z : over F W root v ≡ 0 = ap (leaf_level F) s ∙ ap (λ (y : Kind). by_kind y 0 l (λ i. 0)) n in
            subst (λ (i : ℕ). falls i (v / span i) x ≡ false) (sym z) (falls_not 0 (v / span 0) x (λ t. omega (arith, page, (falls_in 0 (v / span 0) x t).1))))
            (λ q. spared v l w x page s (λ t. no_truth (sym q ∙ f t)))
            p

    -- the level of the leaf over an address outside
    level_is : (v : ℕ) → Canonical (suc F.top) v → (v < a) ⊎ (e ≤ v) → over F W' root v ≡ left e v (left a v (over F W root v))
    level_is v c o = ap (leaf_level F) (D.outside v c o) ∙ B.levels v c ∙ ap (left e v) (A.levels v c)

    largest : (v : ℕ) → Canonical (suc F.top) v → (v < a) ⊎ (e ≤ v) → over F W' root v < over F W root v
        → partly (suc (over F W' root v)) (v / span (suc (over F W' root v))) a e ≡ true
    largest v c o lt = rw (level_is v c o) (⊎_elim by_e by_a (below? (left e v (left a v (over F W root v))) (left a v (over F W root v))))
      where
        m : ℕ
        m = left e v (left a v (over F W root v))

        by_e : left e v (left a v (over F W root v)) < left a v (over F W root v) → partly (suc m) (v / span (suc m)) a e ≡ true
        by_e l = partly_true (suc m) (v / span (suc m)) a e h (inr (left_cut e v (left a v (over F W root v)) l))

        by_a : left a v (over F W root v) ≤ left e v (left a v (over F W root v)) → partly (suc m) (v / span (suc m)) a e ≡ true
        by_a l =
            let q : left a v (over F W root v) ≡ m = omega (arith, left_most e v (left a v (over F W root v))) in
            let less : left a v (over F W root v) < over F W root v = omega (arith, level_is v c o) in
            partly_true (suc m) (v / span (suc m)) a e h (inl (subst (λ (n : ℕ). falls (suc n) (v / span (suc n)) a ≡ true) q (left_cut a v (over F W root v) less)))

    cut_out : Cutting F W W' (In k') root a e k k'
    cut_out = record {
      taken = omega (arith, A.taken, B.taken, at_e, frames_is F G low W root a e h r);
      outside = outside;
      inside = inside;
      formed = D.formed;
      untouched = untouched;
      largest = largest;
    }

pub cuts : CutsHold
cuts = record {
  holds = λ F root G low marks. record {
    cut_out = cut_out F root G low marks;
    cut_none = cut_none F root G low marks;
    most = most F root G low marks;
    found = λ W a e h r. frames_is F G low W root a e h r;
  };
}
