-- Every entry of a range rewritten: who sees it.
use Prim.Native.Nat.{ℕ, zero, suc, ◌+◌, ◌-◌, ◌*◌, ◌/◌, ◌%◌, ◌^◌, ◌<◌, ◌≤◌}
use mathlib.Core.Path.{◌≡◌, refl, sym, ap, ◌∙◌, subst}
use mathlib.Core.Bool.{true, false}
use mathlib.Core.Logic.{◌⊎◌, inl, inr, ⊎_elim}
use native.Mathlib.Omega.{arith}
use native.Mathlib.Nat.{div-add-mod', div-eq_of_lt-le, mod-lt, mul_assoc, mul-mod_left, mul-le-mul_right, lt_of_mul-lt-mul_right, add-mul}
use lib.Pow.{pow-add}
use Rattle.paging.specs.Level.{span, index, half, Canonical}
use Rattle.paging.specs.Format.{Kind, nothing, leaf, table, by_kind, Format, Lawful, Entry}
use Rattle.paging.specs.Table.{View, view, shows, Formed}
use Rattle.paging.specs.Need.{falls, leaf_level, over}
use Rattle.paging.specs.Steps as steps
use Rattle.paging.specs.Steps.{rewritten, Rewritten}
use Rattle.paging.proofs.Cases.{same?, below?}
use Rattle.paging.proofs.Levels.{span_pos}
use Rattle.paging.proofs.Formats.{Is, is}
use Rattle.paging.proofs.Walks.{NoTable, hit_level, hit_frame}
use Rattle.paging.proofs.Changes.{End, end, outside, inside, formed_put}
use Rattle.paging.proofs.Counts.{falls_in, falls_not, falls_bytes, falls_false, aligned_in, aligned_under}
use Rattle.paging.proofs.Downs.{over_near}

-- what may be written in the place of an entry that is no table: an entry of its level that is none; an unused entry stays unused
pub record Tame (F : Format) (g : ℕ → ℕ → ℕ) : Type 0 where
  pub blank : (l : ℕ) → g l 0 ≡ 0
  pub fits : (l w : ℕ) → Entry F l w → ((m : ℕ) → F.kind l w ≡ table m → ⊥) → Entry F l (g l w)
  pub flat : (l w : ℕ) → Entry F l w → ((m : ℕ) → F.kind l w ≡ table m → ⊥) → (m : ℕ) → F.kind l (g l w) ≡ table m → ⊥

-- the begin of the next entry of level l
abbrev pub past : ℕ → ℕ → ℕ
past l v = v / span l * span l + span l

module _ (l v : ℕ) where
  pub in_past : (u : ℕ) → u / span l ≡ v / span l → (v / span l * span l ≤ u) × (u < past l v)
  in_past u e =
      let q : u / span l * span l ≡ v / span l * span l = ap (λ (n : ℕ). n * span l) e in
      (omega (arith, div-add-mod' u (span l)), omega (arith, div-add-mod' u (span l), mod-lt u (span_pos l)))

  pub from_past : (u : ℕ) → v ≤ u → (u / span l ≡ v / span l → ⊥) → past l v ≤ u
  from_past u h ne = ⊎_elim
      (λ k. absurd (ne (div-eq_of_lt-le (span l) (omega (arith, (in_past v refl).0)) (omega (arith, add-mul (v / span l) 1 (span l))))))
      (λ k. k)
      (below? u (past l v))

  pub past_aligned : past l v % span l ≡ 0
  past_aligned = ap (λ (n : ℕ). n % span l) (omega (arith, add-mul (v / span l) 1 (span l))) ∙ mul-mod_left (v / span l + 1) (span l)

  -- a larger block that the begin of the next entry falls into holds v too
  pub same_larger : (d q : ℕ) → falls (l + d) q (past l v) ≡ true → v / span (l + d) ≡ q
  same_larger d q f =
      let b = falls_bytes (l + d) q (past l v) f in
      let s : span (l + d) ≡ 2 ^ (9 * d) * span l = ap (λ (x : ℕ). 2 ^ x) (omega arith) ∙ pow-add 2 (9 * d) (12 + 9 * l) in
      let t : q * span (l + d) ≡ q * 2 ^ (9 * d) * span l = ap (λ (n : ℕ). q * n) s ∙ sym (mul_assoc q (2 ^ (9 * d)) (span l)) in
      let lt : q * 2 ^ (9 * d) * span l < (v / span l + 1) * span l = omega (arith, b.0, t, add-mul (v / span l) 1 (span l)) in
      let le : q * 2 ^ (9 * d) * span l ≤ v / span l * span l = mul-le-mul_right (span l) (omega (arith, lt_of_mul-lt-mul_right (span l) lt)) in
      div-eq_of_lt-le (span (l + d)) (omega (arith, le, t, (in_past v refl).0)) (omega (arith, b.1, (in_past v refl).1, add-mul q 1 (span (l + d))))

module _ (F : Format) (In : ℕ → ℕ → Type 0) (root : ℕ) where
  -- x falls into no leaf
  abbrev pub Clear : (ℕ → ℕ → ℕ) → ℕ → Type 0
  Clear W x = (u : ℕ) → Canonical (suc F.top) u → falls (over F W root u) (u / span (over F W root u)) x ≡ false

  -- [v, e) rewritten
  pub record Done (g : ℕ → ℕ → ℕ) (e k v : ℕ) (W W' : ℕ → ℕ → ℕ) : Type 0 where
    pub formed : Formed F W' (In k) root
    pub inside : (u : ℕ) → v ≤ u → u < e → shows F W' root u ≡ rewritten g (shows F W root u)
    pub outside : (u : ℕ) → Canonical (suc F.top) u → (u < v) ⊎ (e ≤ u) → shows F W' root u ≡ shows F W root u

  module _ (next : ℕ → ℕ) (G : Lawful F) (low : F.top ≤ 4) (g : ℕ → ℕ → ℕ) (tame : Tame F g) (e k : ℕ) (page : e % 4096 ≡ 0) where
    -- the addresses from v to e are of one half
    abbrev Half : ℕ → Type 0
    Half v = (e ≤ half (suc F.top)) ⊎ ((2 ^ 64 - half (suc F.top) ≤ v) × (e < 2 ^ 64))

    half_in : (v u : ℕ) → Half v → v ≤ u → u < e → Canonical (suc F.top) u
    half_in v u r h l = ⊎_elim (λ a. inl (omega arith)) (λ b. inr (omega (arith, b.0), omega (arith, b.1))) r

    -- one entry
    module _ (v : ℕ) (W W₁ : ℕ → ℕ → ℕ) (T : Formed F W (In k) root) (r : Half v) (h : v < e) (E : End F W (In k) root T v)
        (at : W₁ E.n (index E.l v) ≡ g E.l (W E.n (index E.l v)))
        (other : (m i : ℕ) → In k m → i < 512 → ((m ≡ E.n) × (i ≡ index E.l v) → ⊥) → W₁ m i ≡ W m i)
        (cv : Clear W v) (ce : Clear W e) where
      abbrev w : ℕ
      w = W E.n (index E.l v)

      canonical : Canonical (suc F.top) v
      canonical = half_in v v r (omega arith) h

      flat : NoTable (F.kind E.l (W₁ E.n (index E.l v)))
      flat = rw at (tame.flat E.l w E.fits E.last)

      formed₁ : Formed F W₁ (In k) root
      formed₁ = formed_put F W W₁ (In k) root T v E other (rw at (tame.fits E.l w E.fits E.last)) flat

      was : (u : ℕ) → u / span E.l ≡ v / span E.l → shows F W root u ≡ view E.l w
      was u near = inside F W W (In k) root T v E (λ m i t b ne. refl) u near E.last

      near_is : (u : ℕ) → u / span E.l ≡ v / span E.l → shows F W₁ root u ≡ view E.l (g E.l w)
      near_is u near = inside F W W₁ (In k) root T v E other u near flat ∙ ap (view E.l) at

      far_is : (u : ℕ) → Canonical (suc F.top) u → (u / span E.l ≡ v / span E.l → ⊥) → shows F W₁ root u ≡ shows F W root u
      far_is u c ne = outside F W W₁ (In k) root T v E other low canonical u c ne

      -- what stood there
      data Was : Type 0 where
        hole : w ≡ 0 → Was
        page' : over F W root v ≡ E.l → Was

      which : Was
      which = go (F.kind E.l w) refl (is F G E.l w E.fits)
        where
          go : (t : Kind) → F.kind E.l w ≡ t → Is F G E.l w t → Was
          go nothing q i = hole i
          go leaf q i = page' (ap (leaf_level F) E.shown ∙ ap (λ (x : Kind). by_kind x 0 E.l (λ m. 0)) q)
          go (table m) q i = absurd (E.last m q)

      -- a leaf lies whole between v and e
      module _ (o : over F W root v ≡ E.l) where
        begins : v % span E.l ≡ 0
        begins = aligned_in E.l (v / span E.l) v (subst (λ (m : ℕ). falls m (v / span m) v ≡ false) o (cv v canonical)) refl

        starts : v / span E.l * span E.l ≡ v
        starts = omega (arith, div-add-mod' v (span E.l), begins)

        fits : past E.l v ≤ e
        fits = ⊎_elim
            (λ a. absurd (omega (arith, starts)))
            (λ a. a)
            (falls_false E.l (v / span E.l) e (subst (λ (m : ℕ). falls m (v / span m) e ≡ false) o (ce v canonical)))

      -- the level of the leaf there now: that of the leaf before, or there is none
      now_level : (u : ℕ) → u / span E.l ≡ v / span E.l → (over F W₁ root u ≡ 0) ⊎ ((over F W₁ root u ≡ E.l) × (over F W root v ≡ E.l))
      now_level u near = by which
        where
          by : Was → (over F W₁ root u ≡ 0) ⊎ ((over F W₁ root u ≡ E.l) × (over F W root v ≡ E.l))
          by (hole z) =
              let b : F.kind E.l (g E.l w) ≡ nothing = ap (F.kind E.l) (ap (g E.l) z ∙ tame.blank E.l) ∙ G.blank E.l in
              inl (ap (leaf_level F) (near_is u near) ∙ ap (λ (x : Kind). by_kind x 0 E.l (λ m. 0)) b)
          by (page' o) = go (F.kind E.l (g E.l w)) refl
            where
              go : (t : Kind) → F.kind E.l (g E.l w) ≡ t → (over F W₁ root u ≡ 0) ⊎ ((over F W₁ root u ≡ E.l) × (over F W root v ≡ E.l))
              go nothing q = inl (ap (leaf_level F) (near_is u near) ∙ ap (λ (x : Kind). by_kind x 0 E.l (λ m. 0)) q)
              go leaf q = inr (ap (leaf_level F) (near_is u near) ∙ ap (λ (x : Kind). by_kind x 0 E.l (λ m. 0)) q, o)
              go (table m) q = inl (ap (leaf_level F) (near_is u near) ∙ ap (λ (x : Kind). by_kind x 0 E.l (λ j. 0)) q)

      -- e still falls into no leaf
      clear_e : Clear W₁ e
      clear_e u c = ⊎_elim near far (same? (u / span E.l) (v / span E.l))
        where
          far : (u / span E.l ≡ v / span E.l → ⊥) → falls (over F W₁ root u) (u / span (over F W₁ root u)) e ≡ false
          far ne = subst (λ (s : View). falls (leaf_level F s) (u / span (leaf_level F s)) e ≡ false) (sym (far_is u c ne)) (ce u c)

          near : u / span E.l ≡ v / span E.l → falls (over F W₁ root u) (u / span (over F W₁ root u)) e ≡ false
          near q = ⊎_elim
              (λ z. subst (λ (m : ℕ). falls m (u / span m) e ≡ false) (sym z) (falls_not 0 (u / span 0) e (λ f. omega (arith, page, (falls_in 0 (u / span 0) e f).1))))
              (λ o. subst (λ (m : ℕ). falls m (u / span m) e ≡ false) (sym o.0) (subst (λ (n : ℕ). falls E.l n e ≡ false) (sym q) (subst (λ (m : ℕ). falls m (v / span m) e ≡ false) o.1 (ce v canonical))))
              (now_level u q)

      -- nor does the begin of the next entry
      clear_next : Clear W₁ (past E.l v)
      clear_next u c = go (over F W₁ root u) refl
        where
          aligned : (m : ℕ) → m ≤ E.l → past E.l v % span m ≡ 0
          aligned m le =
              let q : m + (E.l - m) ≡ E.l = omega arith in
              aligned_under m (E.l - m) (past E.l v) (rw q (past_aligned E.l v))

          go : (m : ℕ) → over F W₁ root u ≡ m → falls m (u / span m) (past E.l v) ≡ false
          go zero o = falls_not 0 (u / span 0) (past E.l v) (λ f. omega (arith, aligned 0 (omega arith), (falls_in 0 (u / span 0) (past E.l v) f).1))
          go (suc m) o = falls_not (suc m) (u / span (suc m)) (past E.l v) (λ f. bad f (below? E.l (suc m)))
            where
              bad : falls (suc m) (u / span (suc m)) (past E.l v) ≡ true → (E.l < suc m) ⊎ (suc m ≤ E.l) → ⊥
              bad f (inr le) = omega (arith, aligned (suc m) le, (falls_in (suc m) (u / span (suc m)) (past E.l v) f).1)
              bad f (inl lt) = ⊎_elim (λ q. within (now_level u q)) far (same? (u / span E.l) (v / span E.l))
                where
                  within : (over F W₁ root u ≡ 0) ⊎ ((over F W₁ root u ≡ E.l) × (over F W root v ≡ E.l)) → ⊥
                  within (inl z) = omega (arith, z, o)
                  within (inr z) = omega (arith, z.0, o)

                  far : (u / span E.l ≡ v / span E.l → ⊥) → ⊥
                  far ne =
                      let up : E.l + (suc m - E.l) ≡ suc m = omega arith in
                      let larger : v / span (suc m) ≡ u / span (suc m) = subst (λ (n : ℕ). v / span n ≡ u / span n) up (same_larger E.l v (suc m - E.l) (u / span (E.l + (suc m - E.l))) (rw up f)) in
                      let ou : over F W root u ≡ suc m = sym (ap (leaf_level F) (far_is u c ne)) ∙ o in
                      let ov : over F W root v ≡ suc m = over_near F W (In k) root T u v m ou larger in
                      by which ov
                    where
                      by : Was → over F W root v ≡ suc m → ⊥
                      by (page' q) p = omega (arith, q, p)
                      by (hole z) p =
                          let b : F.kind E.l w ≡ nothing = ap (F.kind E.l) z ∙ G.blank E.l in
                          omega (arith, p, ap (leaf_level F) E.shown ∙ ap (λ (x : Kind). by_kind x 0 E.l (λ i. 0)) b)

      module _ (W' : ℕ → ℕ → ℕ) (D : Done g e k (past E.l v) W₁ W') where
        -- of the entry's addresses those outside the range see what they saw: it was unused
        spared : (u : ℕ) → u / span E.l ≡ v / span E.l → (u < v) ⊎ (e ≤ u) → shows F W₁ root u ≡ shows F W root u
        spared u near out = by which
          where
            by : Was → shows F W₁ root u ≡ shows F W root u
            by (hole z) = near_is u near ∙ ap (view E.l) (ap (g E.l) z ∙ tame.blank E.l ∙ sym z) ∙ sym (was u near)
            by (page' o) =
                let b = in_past E.l v u near in
                absurd (⊎_elim (λ a. omega (arith, b.0, starts o)) (λ a. omega (arith, b.1, fits o)) out)

        more : Done g e k v W W'
        more = record {
          formed = D.formed;
          inside = λ u a b. ⊎_elim
              (λ (q : u / span E.l ≡ v / span E.l).
              D.outside u (half_in v u r a b) (inl (in_past E.l v u q).1) ∙ near_is u q ∙ sym (ap (rewritten g) (was u q)))
              (λ ne. D.inside u (from_past E.l v u a ne) b ∙ ap (rewritten g) (far_is u (half_in v u r a b) ne))
              (same? (u / span E.l) (v / span E.l));
          outside = λ u c out. ⊎_elim
              (λ (q : u / span E.l ≡ v / span E.l). D.outside u c (inl (in_past E.l v u q).1) ∙ spared u q out)
              (λ ne. D.outside u c (⊎_elim (λ a. inl (omega (arith, (in_past E.l v v refl).1))) (λ b. inr b) out) ∙ far_is u c ne)
              (same? (u / span E.l) (v / span E.l));
        }

    pub between : (v : ℕ) (W W' : ℕ → ℕ → ℕ) → Formed F W (In k) root → Half v → Clear W v → Clear W e → Rewritten F In next root g e k v W W' → Done g e k v W W'
    between v W W' T r cv ce (steps.ends v₀ W₀ h) = record {
      formed = T;
      inside = λ u a b. absurd (omega arith);
      outside = λ u c out. refl;
    }
    between v W W' T r cv ce (steps.rewrites v₀ W₀ W₁ W₂ l n h to at other rest) =
        let E = end F W (In k) root T v in
        let pl : l ≡ E.l = hit_level (sym to ∙ E.is) in
        let pn : n ≡ E.n = hit_frame (sym to ∙ E.is) in
        let at' : W₁ E.n (index E.l v) ≡ g E.l (W E.n (index E.l v)) =
        subst (λ (m : ℕ). W₁ m (index E.l v) ≡ g E.l (W m (index E.l v))) pn (subst (λ (m : ℕ). W₁ n (index m v) ≡ g m (W n (index m v))) pl at) in
        let other' : (m i : ℕ) → In k m → i < 512 → ((m ≡ E.n) × (i ≡ index E.l v) → ⊥) → W₁ m i ≡ W m i =
        λ m i t b ne. other m i t b (λ z. ne (z.0 ∙ pn, z.1 ∙ ap (λ (j : ℕ). index j v) pl)) in
        let D = between (past l v) W₁ W₂
        (formed₁ v W W₁ T r h E at' other' cv ce)
        (⊎_elim (λ a. inl a) (λ b. inr (omega (arith, b.0, (in_past l v v refl).1), b.1)) r)
        (subst (λ (m : ℕ). Clear W₁ (past m v)) (sym pl) (clear_next v W W₁ T r h E at' other' cv ce))
        (clear_e v W W₁ T r h E at' other' cv ce)
        rest in
        more v W W₁ T r h E at' other' cv ce W' (subst (λ (m : ℕ). Done g e k (past m v) W₁ W') pl D)
