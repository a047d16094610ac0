-- Walks and the entries that they end at: an entry that is no table may change without any walk ending elsewhere, and two addresses whose walks end at
-- one entry are both in its span.
use Prim.Native.Nat.{ℕ, zero, suc, ◌-◌, ◌/◌, ◌<◌, ◌≤◌}
use mathlib.Core.Path.{◌≡◌, sym, ap, ◌∙◌, subst}
use mathlib.Core.Logic.{⊎_elim}
use native.Mathlib.Omega.{arith}
use native.Mathlib.Nat.{eq-or-lt_of_le}
use Rattle.paging.specs.Level.{span, index, Canonical}
use Rattle.paging.specs.Format.{table, Format}
use Rattle.paging.specs.Table.{hit, walk, Formed}
use Rattle.paging.specs.Way.{some, way}
use Rattle.paging.proofs.Cases.{same?}
use Rattle.paging.proofs.Levels.{index_lt}
use Rattle.paging.proofs.Walks.{NoTable, hit_level, hit_frame, step, way_same, ends_at, way_in, same_way}
use Rattle.paging.proofs.Changes.{End, end, apart, at_place?}

module _ (F : Format) (W : ℕ → ℕ → ℕ) (In : ℕ → Type 0) (root : ℕ) (T : Formed F W In root) where
  -- before its last entry a way meets tables
  on_way : (v k n : ℕ) → way F W root v k ≡ some n → (j m : ℕ) → j < k → way F W root v j ≡ some m → (t : ℕ) × (F.kind (F.top - j) (W m (index (F.top - j) v)) ≡ table t)
  on_way v zero n e j m h q = absurd (omega arith)
  on_way v (suc k) n e j m h q =
      let s = step F W root v k n e in
      let le : j ≤ k = omega arith in
      ⊎_elim
      (λ (r : j ≡ k).
      let z : some m ≡ some s.from = sym q ∙ ap (way F W root v) r ∙ s.was in
      let y : m ≡ s.from = cc in
      (n, rw (r, y) s.entry))
      (λ l. on_way v k s.from s.was j m l q)
      (eq-or-lt_of_le le)

  -- W' is W but for the end of x's walk, which is no table in either
  module _ (W' : ℕ → ℕ → ℕ) (x : ℕ) (E : End F W In root T x)
      (other : (n k : ℕ) → In n → k < 512 → ((n ≡ E.n) × (k ≡ index E.l x) → ⊥) → W' n k ≡ W n k)
      (flat : NoTable (F.kind E.l (W' E.n (index E.l x)))) where
    pub walk_kept : (v : ℕ) → walk F W' F.top root v ≡ walk F W F.top root v
    walk_kept v = ends_at F W' root v e.l e.n e.low way' last ∙ sym e.is
      where
        e : End F W In root T v
        e = end F W In root T v

        -- the place that changed is none on the way
        not_there : (j n : ℕ) → j < F.top - e.l → way F W root v j ≡ some n → (n ≡ E.n) × (index (F.top - j) v ≡ index E.l x) → ⊥
        not_there j n h q z =
            let t = on_way v (F.top - e.l) e.n e.at j n h q in
            let i = way_in F W In root T v j n (omega arith) q in
            let lv : F.top - j ≡ E.l = sym i.1 ∙ ap T.lev z.0 ∙ E.lev in
            let k1 : F.kind E.l (W n (index E.l x)) ≡ table t.0 = subst (λ (m : ℕ). F.kind E.l (W n m) ≡ table t.0) z.1 (subst (λ (m : ℕ). F.kind m (W n (index (F.top - j) v)) ≡ table t.0) lv t.1) in
            E.last t.0 (subst (λ (m : ℕ). F.kind E.l (W m (index E.l x)) ≡ table t.0) z.0 k1)

        way' : way F W' root v (F.top - e.l) ≡ some e.n
        way' = way_same F W W' root v (F.top - e.l) (λ j n h q.
            other n (index (F.top - j) v) (way_in F W In root T v j n (omega arith) q).0 (index_lt (F.top - j) v) (not_there j n h q)) ∙ e.at

        last : NoTable (F.kind e.l (W' e.n (index e.l v)))
        last = ⊎_elim
            (λ z.
            let lv : e.l ≡ E.l = sym e.lev ∙ ap T.lev z.0 ∙ E.lev in
            λ m t. flat m (subst (λ (i : ℕ). F.kind E.l (W' E.n i) ≡ table m) z.1 (subst (λ (i : ℕ). F.kind E.l (W' i (index e.l v)) ≡ table m) z.0 (subst (λ (i : ℕ). F.kind i (W' e.n (index e.l v)) ≡ table m) lv t))))
            (λ ne m t. e.last m (ap (F.kind e.l) (sym (other e.n (index e.l v) e.taken (index_lt e.l v) ne)) ∙ t))
            (at_place? F W W' In root T x E other e.n (index e.l v))

  -- one entry, one span
  pub same_entry : F.top ≤ 4 → (v x l n : ℕ) → Canonical (suc F.top) v → Canonical (suc F.top) x
      → walk F W F.top root v ≡ hit l n (index l v) → walk F W F.top root x ≡ hit l n (index l x) → index l v ≡ index l x → v / span l ≡ x / span l
  same_entry low v x l n cv cx a b i = ⊎_elim (λ e. e) (λ ne. absurd (bad ne)) (same? (v / span l) (x / span l))
    where
      e : End F W In root T v
      e = end F W In root T v

      f : End F W In root T x
      f = end F W In root T x

      el : e.l ≡ l
      el = hit_level (sym e.is ∙ a)

      fl : f.l ≡ l
      fl = hit_level (sym f.is ∙ b)

      at_v : way F W root v (F.top - l) ≡ some n
      at_v = subst (λ (m : ℕ). way F W root v (F.top - m) ≡ some n) el (e.at ∙ ap some (hit_frame (sym e.is ∙ a)))

      at_x : way F W root x (F.top - l) ≡ some n
      at_x = subst (λ (m : ℕ). way F W root x (F.top - m) ≡ some n) fl (f.at ∙ ap some (hit_frame (sym f.is ∙ b)))

      bad : (v / span l ≡ x / span l → ⊥) → ⊥
      bad ne =
          let lt : l ≤ F.top = omega (arith, el, e.low) in
          let d = apart F l v x low lt cv cx ne in
          let hj : d.0 ≤ F.top - l = d.1 in
          ⊎_elim
          (λ (q : d.0 ≡ F.top - l).
          let back : F.top - d.0 ≡ l = omega arith in
          d.2 (rw back i))
          (λ h. d.2 (same_way F W In root T v x (F.top - l) n (omega arith) at_v at_x d.0 h))
          (eq-or-lt_of_le hj)
