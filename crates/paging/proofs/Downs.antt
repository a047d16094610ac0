-- The splits at one address: what they take, and what they leave.
use Prim.Native.Nat.{ℕ, zero, suc, ◌+◌, ◌-◌, ◌/◌, ◌%◌, ◌<◌, ◌≤◌}
use mathlib.Core.Path.{◌≡◌, refl, sym, ap, ◌∙◌, subst}
use mathlib.Core.Bool.{true, false}
use mathlib.Core.Logic.{◌⊎◌, ⊎_elim}
use native.Mathlib.Omega.{arith}
use borrow.Author.Tests.{eq-eqb, lt-ltb}
use Rattle.paging.specs.Level.{span, index, Canonical}
use Rattle.paging.specs.Format.{Kind, nothing, leaf, table, by_kind, Format, Lawful}
use Rattle.paging.specs.Table.{View, view, shows, translates, Formed}
use Rattle.paging.specs.Need.{falls, splits, left, leaf_level, over}
use Rattle.paging.specs.Split.{Splitting}
use Rattle.paging.specs.Steps as steps
use Rattle.paging.specs.Steps.{SplitAt}
use Rattle.paging.proofs.Cases.{same?, no_truth}
use Rattle.paging.proofs.Changes.{End, end, inside}
use Rattle.paging.proofs.Walks.{hit_level}
use Rattle.paging.proofs.Splits as split
use Rattle.paging.proofs.Counts.{falls_in, falls_not, splits_aligned, splits_more, left_same, left_less, aligned_under}

-- addresses of one entry see the same
module _ (F : Format) (W : ℕ → ℕ → ℕ) (In : ℕ → Type 0) (root : ℕ) (T : Formed F W In root) where
  pub shows_near : (v x : ℕ) → (E : End F W In root T v) → x / span E.l ≡ v / span E.l → shows F W root x ≡ shows F W root v
  shows_near v x E e = inside F W W In root T v E (λ m k t g ne. refl) x e E.last ∙ sym E.shown

  -- a leaf of a level above the lowest is the end of the walk
  pub over_end : (v m : ℕ) (E : End F W In root T v) → over F W root v ≡ suc m → (E.l ≡ suc m) × (F.kind E.l (W E.n (index E.l v)) ≡ leaf)
  over_end v m E e = go (F.kind E.l (W E.n (index E.l v))) refl (sym (ap (leaf_level F) E.shown) ∙ e)
    where
      go : (t : Kind) → F.kind E.l (W E.n (index E.l v)) ≡ t → leaf_level F (view E.l (W E.n (index E.l v))) ≡ suc m
          → (E.l ≡ suc m) × (F.kind E.l (W E.n (index E.l v)) ≡ leaf)
      go nothing q r = absurd (omega (arith, sym (ap (λ (k : Kind). by_kind k 0 E.l (λ i. 0)) q) ∙ r))
      go leaf q r = (sym (ap (λ (k : Kind). by_kind k 0 E.l (λ i. 0)) q) ∙ r, q)
      go (table i) q r = absurd (omega (arith, sym (ap (λ (k : Kind). by_kind k 0 E.l (λ j. 0)) q) ∙ r))

  -- an address in the leaf over v has the same leaf
  pub over_near : (v x m : ℕ) → over F W root v ≡ suc m → x / span (suc m) ≡ v / span (suc m) → over F W root x ≡ suc m
  over_near v x m e near =
      let E = end F W In root T v in
      let o = over_end v m E e in
      ap (leaf_level F) (shows_near v x E (rw o.0 near)) ∙ e

  -- where x is where a leaf begins, it falls into none
  pub falls_none : (x : ℕ) → x % 4096 ≡ 0 → x % span (over F W root x) ≡ 0 → (v : ℕ) → falls (over F W root v) (v / span (over F W root v)) x ≡ false
  falls_none x page z v = go (over F W root v) refl
    where
      go : (m : ℕ) → over F W root v ≡ m → falls m (v / span m) x ≡ false
      go zero e = falls_not 0 (v / span 0) x (λ f. omega (arith, page, (falls_in 0 (v / span 0) x f).1))
      go (suc m) e = falls_not (suc m) (v / span (suc m)) x (λ f.
          let i = falls_in (suc m) (v / span (suc m)) x f in
          let o : over F W root x ≡ suc m = over_near v x m e i.0 in
          omega (arith, i.1, subst (λ (n : ℕ). x % span n ≡ 0) o z))

-- What the splits at x come to.
module _ (F : Format) (In : ℕ → ℕ → Type 0) (root : ℕ) where
  pub record Down (x : ℕ) (W : ℕ → ℕ → ℕ) (k : ℕ) (W' : ℕ → ℕ → ℕ) (k' : ℕ) : Type 0 where
    pub formed : Formed F W' (In k') root
    pub taken : k' ≡ k + splits x (over F W root x)
    pub same : (v : ℕ) → Canonical (suc F.top) v → translates F W' root v ≡ translates F W root v
    pub levels : (v : ℕ) → Canonical (suc F.top) v → over F W' root v ≡ left x v (over F W root v)
    pub views : (v : ℕ) → Canonical (suc F.top) v → falls (over F W root v) (v / span (over F W root v)) x ≡ false → shows F W' root v ≡ shows F W root v
    pub begins : x % span (over F W' root x) ≡ 0

  module _ (next : ℕ → ℕ) (G : Lawful F) (low : F.top ≤ 4) (marks : 0 < F.table_marks) (x : ℕ) (page : x % 4096 ≡ 0)
      (at : Canonical (suc F.top) x ⊎ (x % span F.top ≡ 0)) where
    here : (W : ℕ → ℕ → ℕ) (k : ℕ) → Formed F W (In k) root → x % span (over F W root x) ≡ 0 → Down x W k W k
    here W k T z = record {
      formed = T;
      taken = omega (arith, splits_aligned (over F W root x) x z);
      same = λ v c. refl;
      levels = λ v c. sym (left_same x v (over F W root v) (falls_none F W (In k) root T x page z v));
      views = λ v c f. refl;
      begins = z;
    }

    -- one split, and then the others
    module _ (W : ℕ → ℕ → ℕ) (k : ℕ) (T : Formed F W (In k) root) (l : ℕ) (h : 0 < x % span (suc l)) (W₁ : ℕ → ℕ → ℕ) (cx : Canonical (suc F.top) x)
        (S : Splitting F W W₁ (In (k + 1)) root x l) (W' : ℕ → ℕ → ℕ) (k' : ℕ) (D : Down x W₁ (k + 1) W' k') where
      level : over F W root x ≡ suc l
      level = S.whole x refl

      levels : (v : ℕ) → Canonical (suc F.top) v → over F W' root v ≡ left x v (over F W root v)
      levels v c = ⊎_elim
          (λ (e : v / span (suc l) ≡ x / span (suc l)).
          let f : falls (suc l) (v / span (suc l)) x ≡ true = rw (eq-eqb (x / span (suc l)) (v / span (suc l)) (sym e), lt-ltb 0 (x % span (suc l)) h) in
          D.levels v c ∙ ap (left x v) (S.near v e) ∙ sym (ap (left x v) (S.whole v e) ∙ left_less x v l f))
          (λ ne. D.levels v c ∙ ap (λ (s : View). left x v (leaf_level F s)) (S.far v c ne))
          (same? (v / span (suc l)) (x / span (suc l)))

      views : (v : ℕ) → Canonical (suc F.top) v → falls (over F W root v) (v / span (over F W root v)) x ≡ false → shows F W' root v ≡ shows F W root v
      views v c f = ⊎_elim
          (λ (e : v / span (suc l) ≡ x / span (suc l)).
          let t : falls (suc l) (v / span (suc l)) x ≡ true = rw (eq-eqb (x / span (suc l)) (v / span (suc l)) (sym e), lt-ltb 0 (x % span (suc l)) h) in
          no_truth (sym (subst (λ (m : ℕ). falls m (v / span m) x ≡ false) (S.whole v e) f) ∙ t))
          (λ ne.
          let s = S.far v c ne in
          D.views v c (subst (λ (z : View). falls (leaf_level F z) (v / span (leaf_level F z)) x ≡ false) (sym s) f) ∙ s)
          (same? (v / span (suc l)) (x / span (suc l)))

      more : Down x W k W' k'
      more = record {
        formed = D.formed;
        taken = omega (arith, D.taken, ap (splits x) (S.near x refl), ap (splits x) level, splits_more l x h);
        same = λ v c. D.same v c ∙ S.same v c;
        levels = levels;
        views = views;
        begins = D.begins;
      }

    pub down : (W : ℕ → ℕ → ℕ) (k : ℕ) (W' : ℕ → ℕ → ℕ) (k' : ℕ) → Formed F W (In k) root → SplitAt F In next root x W k W' k' → Down x W k W' k'
    down W k W' k' T (steps.rests W₀ k₀ z) = here W k T z
    down W k W' k' T (steps.splits W₀ k₀ W₁ W₂ k₂ l n a h S rest) = ⊎_elim
        (λ cx.
        let P = (split.splits).holds F W W₁ (In k) (In (k + 1)) root x l n (next k) a G low marks T cx S in
        more W k T l h W₁ cx P W' k' (down W₁ (k + 1) W' k' P.formed rest))
        (λ z.
        let E = end F W (In k) root T x in
        let le : suc l ≤ F.top = omega (arith, hit_level (sym E.is ∙ S.at), E.low) in
        let q : suc l + (F.top - suc l) ≡ F.top = omega arith in
        absurd (omega (arith, aligned_under (suc l) (F.top - suc l) x (rw q z))))
        at
