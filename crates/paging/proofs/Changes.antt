-- What one changed entry does to a well-formed table: who sees it, and what keeps the table well formed.
use Prim.Native.Nat.{ℕ, zero, suc, ◌+◌, ◌-◌, ◌*◌, ◌/◌, ◌%◌, ◌^◌, ◌<◌, ◌≤◌}
use mathlib.Core.Path.{◌≡◌, refl, sym, ap, ◌∙◌, subst}
use mathlib.Core.Logic.{◌⊎◌, inl, inr, ⊎_elim}
use native.Mathlib.Omega.{arith}
use native.Mathlib.Nat.{div-div-eq-div-mul}
use lib.Pow.{pow-add}
use lib.Dec.{eqb}
use borrow.Author.Tests.{eq-eqb, ne_eqb}
use Rattle.paging.specs.Choice.{pick}
use Rattle.paging.specs.Level.{span, index, Canonical}
use Rattle.paging.specs.Format.{table, Format, Entry}
use Rattle.paging.specs.Table.{hit, walk, view, seen, shows, Formed}
use Rattle.paging.specs.Way.{some, way}
use Rattle.paging.proofs.Cases.{same?, below?}
use Rattle.paging.proofs.Levels.{indexes, index_lt}
use Rattle.paging.proofs.Walks.{NoTable, table_inj, way_like, ends, ends_at, on, way_in, others, elsewhere, way_kept}

-- of the levels from t to t + k either all indexes of two addresses agree, or one differs
differ? : (t k v v' : ℕ) → ((l : ℕ) → t ≤ l → l ≤ t + k → index l v ≡ index l v') ⊎ ((l : ℕ) × (t ≤ l) × (l ≤ t + k) × (index l v ≡ index l v' → ⊥))
differ? t zero v v' = ⊎_elim
    (λ (e : index t v ≡ index t v'). inl (λ l a b. let q : l ≡ t = omega arith in rw q e))
    (λ ne. inr (t, omega arith, omega arith, ne))
    (same? (index t v) (index t v'))
differ? t (suc k) v v' = ⊎_elim all (λ d. inr (d.0, d.1, omega (arith, d.2), d.3)) (differ? t k v v')
  where
    all : ((l : ℕ) → t ≤ l → l ≤ t + k → index l v ≡ index l v')
        → ((l : ℕ) → t ≤ l → l ≤ t + suc k → index l v ≡ index l v') ⊎ ((l : ℕ) × (t ≤ l) × (l ≤ t + suc k) × (index l v ≡ index l v' → ⊥))
    all below = ⊎_elim
        (λ (e : index (t + suc k) v ≡ index (t + suc k) v'). inl (λ l a b. ⊎_elim
        (λ (q : l ≡ t + suc k). rw q e)
        (λ ne. below l a (omega (arith, lower l b ne)))
        (same? l (t + suc k))))
        (λ ne. inr (t + suc k, omega arith, omega arith, ne))
        (same? (index (t + suc k) v) (index (t + suc k) v'))
      where
        lower : (l : ℕ) → l ≤ t + suc k → (l ≡ t + suc k → ⊥) → l ≤ t + k
        lower l b ne = ⊎_elim (λ h. omega arith) (λ h. absurd (ne (omega arith))) (below? l (t + suc k))

-- addresses of F's levels in different entries of level l differ in an index there or above
pub apart : (F : Format) (l v v' : ℕ) → F.top ≤ 4 → l ≤ F.top → Canonical (suc F.top) v → Canonical (suc F.top) v' → (v / span l ≡ v' / span l → ⊥)
    → (j : ℕ) × (j ≤ F.top - l) × (index (F.top - j) v ≡ index (F.top - j) v' → ⊥)
apart F l v v' ht hl c c' ne = ⊎_elim (λ all. absurd (ne (indexes.tell l (F.top - l) v v' (omega arith) (rw s c) (rw s c') all))) found (differ? l (F.top - l) v v')
  where
    s : l + suc (F.top - l) ≡ suc F.top
    s = omega arith

    found : (m : ℕ) × (l ≤ m) × (m ≤ l + (F.top - l)) × (index m v ≡ index m v' → ⊥)
        → (j : ℕ) × (j ≤ F.top - l) × (index (F.top - j) v ≡ index (F.top - j) v' → ⊥)
    found d =
        let a : l ≤ d.0 = d.1 in
        let b : d.0 ≤ l + (F.top - l) = d.2 in
        let q : F.top - (F.top - d.0) ≡ d.0 = omega arith in
        (F.top - d.0, omega arith, rw q d.3)

-- addresses in one entry of level l are in one entry of each level above
pub near_above : (l d v v' : ℕ) → v / span l ≡ v' / span l → v / span (l + d) ≡ v' / span (l + d)
near_above l d v v' e =
    let s : span (l + d) ≡ span l * 2 ^ (9 * d) = ap (λ (x : ℕ). 2 ^ x) (omega arith) ∙ pow-add 2 (12 + 9 * l) (9 * d) in
    rw s (sym (div-div-eq-div-mul v (span l) (2 ^ (9 * d))) ∙ ap (λ (x : ℕ). x / 2 ^ (9 * d)) e ∙ div-div-eq-div-mul v' (span l) (2 ^ (9 * d)))

pub near_index : (l m v v' : ℕ) → l ≤ m → v / span l ≡ v' / span l → index m v ≡ index m v'
near_index l m v v' h e =
    let q : m ≡ l + (m - l) = omega arith in
    ap (λ (x : ℕ). x % 512) (subst (λ (x : ℕ). v / span x ≡ v' / span x) (sym q) (near_above l (m - l) v v' e))

-- g, but a at u
abbrev with_at : ℕ → ℕ → (ℕ → ℕ) → ℕ → ℕ
with_at u a g x = pick (eqb x u) a (g x)

at_same : (u a : ℕ) (g : ℕ → ℕ) → with_at u a g u ≡ a
at_same u a g = rw (eq-eqb u u refl)

at_other : (u a : ℕ) (g : ℕ → ℕ) (x : ℕ) → (x ≡ u → ⊥) → with_at u a g x ≡ g x
at_other u a g x n = rw (ne_eqb x u n)

-- where the walk of an address ends in a well-formed table
pub record End (F : Format) (W : ℕ → ℕ → ℕ) (In : ℕ → Type 0) (root : ℕ) (T : Formed F W In root) (v : ℕ) : Type 0 where
  pub l : ℕ
  pub n : ℕ
  pub low : l ≤ F.top
  pub taken : In n
  pub at : way F W root v (F.top - l) ≡ some n
  pub is : walk F W F.top root v ≡ hit l n (index l v)
  pub lev : T.lev n ≡ l
  pub last : NoTable (F.kind l (W n (index l v)))
  pub fits : Entry F l (W n (index l v))
  pub shown : shows F W root v ≡ view l (W n (index l v))

module _ (F : Format) (W : ℕ → ℕ → ℕ) (In : ℕ → Type 0) (root : ℕ) (T : Formed F W In root) where
  -- in a well-formed table there is no table entry at the lowest level
  no_low : (n k : ℕ) → In n → k < 512 → T.lev n ≡ 0 → NoTable (F.kind 0 (W n k))
  no_low n k i h e m t =
      let d = T.down n k m i h (rw e t) in
      omega (arith, d.2)

  pub end : (v : ℕ) → End F W In root T v
  unfolding shows
  end v =
      let e = ends F W root v in
      let l : ℕ = e.0 in
      let n : ℕ = e.1 in
      let r = e.2 in
      let hl : l ≤ F.top = r.low in
      let i = way_in F W In root T v (F.top - l) n (omega arith) r.at in
      let lv : T.lev n ≡ l = i.1 ∙ omega arith in
      record {
        l = l;
        n = n;
        low = hl;
        taken = i.0;
        at = r.at;
        is = r.is;
        lev = lv;
        last = bar l n lv i.0 r.last;
        fits = subst (λ (x : ℕ). Entry F x (W n (index l v))) lv (T.entries n (index l v) i.0 (index_lt l v));
        shown = ap (seen W) r.is;
      }
    where
      bar : (l n : ℕ) → T.lev n ≡ l → In n → (0 < l → NoTable (F.kind l (W n (index l v)))) → NoTable (F.kind l (W n (index l v)))
      bar zero n lv i last = no_low n (index 0 v) i (index_lt 0 v) lv
      bar (suc l) n lv i last = last (omega arith)

-- A change at the end of x's walk: W' and In' against W and In.
module _ (F : Format) (W W' : ℕ → ℕ → ℕ) (In : ℕ → Type 0) (root : ℕ) (T : Formed F W In root) (x : ℕ) (E : End F W In root T x)
    (other : (n k : ℕ) → In n → k < 512 → ((n ≡ E.n) × (k ≡ index E.l x) → ⊥) → W' n k ≡ W n k) where
  back : F.top - (F.top - E.l) ≡ E.l
  back = omega (arith, E.low)

  other_at : (v : ℕ) → index E.l v ≡ index E.l x
      → (n k : ℕ) → In n → k < 512 → ((n ≡ E.n) × (k ≡ index (F.top - (F.top - E.l)) v) → ⊥) → W' n k ≡ W n k
  other_at v here n k i h ne = other n k i h (λ w. ne (w.0, w.1 ∙ sym here ∙ ap (λ (z : ℕ). index z v) (sym back)))

  -- an address outside the entry's span sees what it saw
  pub outside : F.top ≤ 4 → Canonical (suc F.top) x → (v : ℕ) → Canonical (suc F.top) v → (v / span E.l ≡ x / span E.l → ⊥) → shows F W' root v ≡ shows F W root v
  unfolding shows
  outside ht cx v cv ne =
      let d = apart F E.l x v ht E.low cx cv (λ q. ne (sym q)) in
      let hk : F.top - E.l ≤ F.top = omega arith in
      let e = end F W In root T v in
      let hl : F.top - e.l ≤ F.top = omega arith in
      let words = others F W In root T x (F.top - E.l) E.n W' hk E.at (other_at x refl) v d.0 d.1 d.2 (F.top - e.l) e.n hl e.at in
      let b : F.top - (F.top - e.l) ≡ e.l = omega (arith, e.low) in
      let w : W' e.n (index e.l v) ≡ W e.n (index e.l v) = rw b at words in
      let at : way F W' root v (F.top - e.l) ≡ some e.n =
      elsewhere F W In root T x (F.top - E.l) E.n W' hk E.at (other_at x refl) v d.0 d.1 d.2 (F.top - e.l) hl ∙ e.at in
      let is : walk F W' F.top root v ≡ hit e.l e.n (index e.l v) = ends_at F W' root v e.l e.n e.low at (rw w e.last) in
      ap (seen W') is ∙ ap (view e.l) w ∙ sym e.shown

  module _ (v : ℕ) (near : v / span E.l ≡ x / span E.l) where
    here : index E.l v ≡ index E.l x
    here = ap (λ (z : ℕ). z % 512) near

    at_v : way F W root v (F.top - E.l) ≡ some E.n
    at_v = way_like F W root v x (F.top - E.l) (λ j h. near_index E.l (F.top - j) v x (omega arith) near) ∙ E.at

    way_new : way F W' root v (F.top - E.l) ≡ some E.n
    way_new = way_kept F W In root T v (F.top - E.l) E.n W' (omega arith) at_v (other_at v here)

    -- an address in the entry's span sees the word written, where that is no table
    pub inside : NoTable (F.kind E.l (W' E.n (index E.l x))) → shows F W' root v ≡ view E.l (W' E.n (index E.l x))
    unfolding shows
    inside bar =
        ap (seen W') (ends_at F W' root v E.l E.n E.low way_new (rw here bar)) ∙ ap (λ (z : ℕ). view E.l (W' E.n z)) here

    -- an address in the span of an entry that became the table u ends at its own entry there, where that is no table
    pub grown_walk : (m u : ℕ) → E.l ≡ suc m → F.kind (suc m) (W' E.n (index E.l x)) ≡ table u → NoTable (F.kind m (W' u (index m v)))
        → walk F W' F.top root v ≡ hit m u (index m v)
    grown_walk m u hl tab last =
        let tb : F.kind (F.top - (F.top - E.l)) (W' E.n (index (F.top - (F.top - E.l)) v)) ≡ table u = rw (back, here, hl) (rw hl at tab) in
        let at : way F W' root v (F.top - m) ≡ some u =
        ap (way F W' root v) (omega (arith, E.low)) ∙ on F W' root v (F.top - E.l) E.n u way_new tb in
        ends_at F W' root v m u (omega (arith, E.low)) at last

    pub grown : (m u : ℕ) → E.l ≡ suc m → F.kind (suc m) (W' E.n (index E.l x)) ≡ table u → NoTable (F.kind m (W' u (index m v)))
        → shows F W' root v ≡ view m (W' u (index m v))
    unfolding shows
    grown m u hl tab last = ap (seen W') (grown_walk m u hl tab last)

  pub at_place? : (n k : ℕ) → ((n ≡ E.n) × (k ≡ index E.l x)) ⊎ ((n ≡ E.n) × (k ≡ index E.l x) → ⊥)
  at_place? n k = ⊎_elim (λ a. ⊎_elim (λ b. inl (a, b)) (λ nb. inr (λ w. nb w.1)) (same? k (index E.l x))) (λ na. inr (λ w. na w.0)) (same? n E.n)

  -- the entry that reaches a table is not the one that changed, which was none
  parent_kept : (m : ℕ) → In m → (m ≡ root → ⊥) → W' (T.par_n m) (T.par_k m) ≡ W (T.par_n m) (T.par_k m)
  parent_kept m i ne =
      let u = T.up m i ne in
      other (T.par_n m) (T.par_k m) u.0 u.1 (λ w.
      let e : F.kind (T.lev (T.par_n m)) (W (T.par_n m) (T.par_k m)) ≡ table m = u.2 in
      let e2 : F.kind (T.lev E.n) (W E.n (index E.l x)) ≡ table m = subst (λ (z : ℕ). F.kind (T.lev E.n) (W E.n z) ≡ table m) w.1 (subst (λ (z : ℕ). F.kind (T.lev z) (W z (T.par_k m)) ≡ table m) w.0 e) in
      E.last m (subst (λ (z : ℕ). F.kind z (W E.n (index E.l x)) ≡ table m) E.lev e2))

  -- a word that the rules write and that is no table keeps the table well formed
  pub formed_put : Entry F E.l (W' E.n (index E.l x)) → NoTable (F.kind E.l (W' E.n (index E.l x))) → Formed F W' In root
  formed_put fit bar = record {
    lev = T.lev;
    par_n = T.par_n;
    par_k = T.par_k;
    root_in = T.root_in;
    root_lev = T.root_lev;
    entries = λ n k i h. ⊎_elim (λ w. at_n n k w) (λ ne. subst (Entry F (T.lev n)) (sym (other n k i h ne)) (T.entries n k i h)) (at_place? n k);
    down = λ n k m i h t. ⊎_elim
        (λ w. absurd (bar m (moved n k m w t)))
        (λ ne. T.down n k m i h (ap (F.kind (T.lev n)) (sym (other n k i h ne)) ∙ t))
        (at_place? n k);
    up = λ m i ne.
        let u = T.up m i ne in
        (u.0, u.1, ap (F.kind (T.lev (T.par_n m))) (parent_kept m i ne) ∙ u.2);
  }
    where
      at_n : (n k : ℕ) → (n ≡ E.n) × (k ≡ index E.l x) → Entry F (T.lev n) (W' n k)
      at_n n k w = rw (w.0, w.1, E.lev) fit

      moved : (n k m : ℕ) → (n ≡ E.n) × (k ≡ index E.l x) → F.kind (T.lev n) (W' n k) ≡ table m → F.kind E.l (W' E.n (index E.l x)) ≡ table m
      moved n k m w t = rw E.lev at (rw w.1 at (rw w.0 at t))

  -- an entry becomes the table u, a frame that was not taken, whose entries are none: still well formed
  module _ (In' : ℕ → Type 0) (u l : ℕ) (kept : (n : ℕ) → In n → In' n) (new : In' u) (was : (n : ℕ) → In' n → In n ⊎ (n ≡ u)) (fresh : In u → ⊥)
      (hl : E.l ≡ suc l) (fit : Entry F (suc l) (W' E.n (index E.l x))) (tab : F.kind (suc l) (W' E.n (index E.l x)) ≡ table u)
      (fits : (k : ℕ) → k < 512 → Entry F l (W' u k)) (flat : (k : ℕ) → k < 512 → NoTable (F.kind l (W' u k))) where
    not_u : (n : ℕ) → In n → n ≡ u → ⊥
    not_u n i e = fresh (subst In e i)

    lev' : ℕ → ℕ
    lev' = with_at u l T.lev

    par_n' : ℕ → ℕ
    par_n' = with_at u E.n T.par_n

    par_k' : ℕ → ℕ
    par_k' = with_at u (index E.l x) T.par_k

    lev_old : (n : ℕ) → In n → lev' n ≡ T.lev n
    unfolding lev'
    lev_old n i = at_other u l T.lev n (not_u n i)

    lev_new : lev' u ≡ l
    unfolding lev'
    lev_new = at_same u l T.lev

    entries' : (n k : ℕ) → In' n → k < 512 → Entry F (lev' n) (W' n k)
    entries' n k i h = ⊎_elim old (λ (e : n ≡ u). rw (e, lev_new) (fits k h)) (was n i)
      where
        old : In n → Entry F (lev' n) (W' n k)
        old o = rw (lev_old n o) (⊎_elim at_n (λ ne. subst (Entry F (T.lev n)) (sym (other n k o h ne)) (T.entries n k o h)) (at_place? n k))
          where
            at_n : (n ≡ E.n) × (k ≡ index E.l x) → Entry F (T.lev n) (W' n k)
            at_n w = rw (w.0, w.1, E.lev, hl) (rw hl at fit)

    Down : ℕ → ℕ → ℕ → Type 0
    Down n k m = In' m × (m ≡ root → ⊥) × (lev' n ≡ suc (lev' m)) × (par_n' m ≡ n) × (par_k' m ≡ k)

    down' : (n k m : ℕ) → In' n → k < 512 → F.kind (lev' n) (W' n k) ≡ table m → Down n k m
    unfolding Down par_n' par_k'
    down' n k m i h t = ⊎_elim old (λ (e : n ≡ u). absurd (flat k h m (rw lev_new at (rw e at t)))) (was n i)
      where
        old : In n → Down n k m
        old o = ⊎_elim at_n there (at_place? n k)
          where
            t2 : F.kind (T.lev n) (W' n k) ≡ table m
            t2 = rw (lev_old n o) at t

            there : ((n ≡ E.n) × (k ≡ index E.l x) → ⊥) → Down n k m
            there ne =
                let d = T.down n k m o h (ap (F.kind (T.lev n)) (sym (other n k o h ne)) ∙ t2) in (
                  kept m d.0,
                  d.1,
                  lev_old n o ∙ d.2 ∙ ap suc (sym (lev_old m d.0)),
                  at_other u E.n T.par_n m (not_u m d.0) ∙ d.3,
                  at_other u (index E.l x) T.par_k m (not_u m d.0) ∙ d.4,
                )

            at_n : (n ≡ E.n) × (k ≡ index E.l x) → Down n k m
            at_n w =
                let t3 : F.kind E.l (W' E.n (index E.l x)) ≡ table m = rw E.lev at (rw w.1 at (rw w.0 at t2)) in
                let mu : m ≡ u = table_inj (sym t3 ∙ ap (λ (z : ℕ). F.kind z (W' E.n (index E.l x))) hl ∙ tab) in (
                  subst In' (sym mu) new,
                  (λ e. fresh (subst In (sym e ∙ mu) T.root_in)),
                  lev_old n o ∙ ap T.lev w.0 ∙ E.lev ∙ hl ∙ ap suc (sym (ap lev' mu ∙ lev_new)),
                  ap (with_at u E.n T.par_n) mu ∙ at_same u E.n T.par_n ∙ sym w.0,
                  ap (with_at u (index E.l x) T.par_k) mu ∙ at_same u (index E.l x) T.par_k ∙ sym w.1,
                )

    Up : ℕ → Type 0
    Up m = In' (par_n' m) × (par_k' m < 512) × (F.kind (lev' (par_n' m)) (W' (par_n' m) (par_k' m)) ≡ table m)

    up' : (m : ℕ) → In' m → (m ≡ root → ⊥) → Up m
    unfolding Up par_n' par_k'
    up' m i ne = ⊎_elim old (λ e. fresh_up e) (was m i)
      where
        old : In m → Up m
        old o =
            let a = T.up m o ne in
            let pn : with_at u E.n T.par_n m ≡ T.par_n m = at_other u E.n T.par_n m (not_u m o) in
            let pk : with_at u (index E.l x) T.par_k m ≡ T.par_k m = at_other u (index E.l x) T.par_k m (not_u m o) in
            rw (pn, pk) (kept (T.par_n m) a.0, a.1, rw (lev_old (T.par_n m) a.0) (ap (F.kind (T.lev (T.par_n m))) (parent_kept m o ne) ∙ a.2))

        fresh_up : m ≡ u → Up m
        fresh_up e =
            let pn : with_at u E.n T.par_n m ≡ E.n = ap (with_at u E.n T.par_n) e ∙ at_same u E.n T.par_n in
            let pk : with_at u (index E.l x) T.par_k m ≡ index E.l x = ap (with_at u (index E.l x) T.par_k) e ∙ at_same u (index E.l x) T.par_k in
            rw (pn, pk) (kept E.n E.taken, index_lt E.l x, rw (lev_old E.n E.taken, E.lev, hl) (rw hl at (tab ∙ ap table (sym e))))

    pub formed_grow : Formed F W' In' root
    unfolding Down Up
    formed_grow = record {
      lev = lev';
      par_n = par_n';
      par_k = par_k';
      root_in = kept root T.root_in;
      root_lev = lev_old root T.root_in ∙ T.root_lev;
      entries = entries';
      down = down';
      up = up';
    }
