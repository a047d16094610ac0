-- What each step of the sweep keeps: the start, a frame of another rank, a word that reaches nothing, a table, the next rank.
use Rattle.std.proofs.Common.{ℕ, zero, suc, ◌+◌, ◌-◌, ◌*◌, ◌≤◌, ◌<◌, ◌≡◌, refl, sym, ap, ◌∙◌, subst, ⊎_elim, List, arith, eqb, get_or, set, replicate, length-set, get_or-set_same, get_or-set_other, eq-eqb, ne_eqb}
use Rattle.std.proofs.Math.ListN.{length-replicate}
use Rattle.paging.specs.Choice.{pick}
use Rattle.paging.specs.Format.{table, Entry}
use Rattle.paging.proofs.Cases.{same?}
use Rattle.x86_64.specs.Entry.{x86}
use Rattle.x86_64.proofs.Format.{lawful}
use Rattle.pool.specs.Pool.{word, mem_of}
use Rattle.form.specs.Form.{WellFormed}
use Rattle.form.specs.Sweep.{Read, Child, Sweep}
use Rattle.form.proofs.Words.{table_inj}

-- a function with one value changed
pub with_at : ℕ → ℕ → (ℕ → ℕ) → ℕ → ℕ
with_at u a g x = pick (eqb x u) a (g x)

at_same : (u a : ℕ) (g : ℕ → ℕ) (x : ℕ) → x ≡ u → with_at u a g x ≡ a
unfolding with_at
at_same u a g x e = rw (eq-eqb x u e)

at_other : (u a : ℕ) (g : ℕ → ℕ) (x : ℕ) → (x ≡ u → ⊥) → with_at u a g x ≡ g x
unfolding with_at
at_other u a g x e = rw (ne_eqb x u e)

zeros : (n i : ℕ) → ◌≡◌ {A = ℕ} (get_or (replicate n 0) i 0) 0
zeros zero i = refl
zeros (suc n) zero = refl
zeros (suc n) (suc i) = zeros n i

pub top_is : x86.top ≡ 3
unfolding x86
top_is = refl

-- a statement of a word, by frame number and level of the well-formed pool
pub in_form : (p : List ℕ) (b used : ℕ) (F : WellFormed p b used) (P : ℕ → ℕ → Type 0) (f k l : ℕ) → suc (F.lev (b + f)) ≡ l
    → P (l - 1) (word p f k) → P (F.lev (b + f)) (mem_of p b (b + f) k)
in_form p b used F P f k l e x =
    let m : f ≡ b + f - b = omega arith in
    let v : l - 1 ≡ F.lev (b + f) = omega arith in
    subst (λ (i : ℕ). P (F.lev (b + f)) (word p i k)) m (subst (λ (i : ℕ). P i (word p f k)) v x)

abbrev pub start : List ℕ
start = set (replicate 1024 0) 0 4

module _ (p : List ℕ) (b used : ℕ) where
  -- the root alone is ranked, and nothing read
  pub begin : Sweep p b used start 4 0
  begin = record {
    par_n = λ h. h;
    par_k = λ h. h;
    long = length-set {A = ℕ} (replicate 1024 0) 0 4 ∙ length-replicate {A = ℕ} 1024 0;
    root = first;
    entries = λ g j hg hj R. absurd (none g j R);
    down = λ g j m hg hj R e. absurd (none g j R);
    up = λ h hh pos r. absurd (omega (arith, rest h (λ e. omega arith)));
    forced = forced;
  }
    where
      first : get_or start 0 0 ≡ 4
      first = get_or-set_same {A = ℕ} (replicate 1024 0) 0 4 0 (omega (arith, length-replicate {A = ℕ} 1024 0))

      rest : (g : ℕ) → (g ≡ 0 → ⊥) → get_or start g 0 ≡ 0
      rest g ne = get_or-set_other {A = ℕ} (replicate 1024 0) 0 g 4 0 ne ∙ zeros 1024 g

      none : (g j : ℕ) → Read start 4 0 g j → ⊥
      none g j R = ⊎_elim
          (λ (e : g ≡ 0). omega (arith, R.before (ap (λ (x : ℕ). get_or start x 0) e ∙ first)))
          (λ (e : g ≡ 0 → ⊥). omega (arith, R.high, rest g e))
          (same? g 0)

      forced : (F : WellFormed p b used) (h : ℕ) → h < used → 0 < get_or start h 0
          → get_or start h 0 ≡ suc (F.lev (b + h))
      forced F h hh r = ⊎_elim here (λ (e : h ≡ 0 → ⊥). absurd (omega (arith, rest h e))) (same? h 0)
        where
          here : h ≡ 0 → get_or start h 0 ≡ suc (F.lev (b + h))
          here e =
              let i : b + h ≡ b = omega arith in
              omega (arith, first, ap (λ (x : ℕ). get_or start x 0) e, ap F.lev i, F.root_lev, top_is)

  module _ (at : List ℕ) where
    -- the same words read, said of another turn
    moved : (r n r' n' : ℕ) → ((g j : ℕ) → g < used → j < 512 → Read at r' n' g j → Read at r n g j)
        → ((g j : ℕ) → g < used → j < 512 → Read at r n g j → Read at r' n' g j) → Sweep p b used at r n → Sweep p b used at r' n'
    moved r n r' n' back fwd S = record {
      par_n = S.par_n;
      par_k = S.par_k;
      long = S.long;
      root = S.root;
      entries = λ g j hg hj R. S.entries g j hg hj (back g j hg hj R);
      down = λ g j m hg hj R e. S.down g j m hg hj (back g j hg hj R) e;
      up = λ h hh pos k.
          let u = S.up h hh pos k in
          (u.0, u.1, fwd (S.par_n h) (S.par_k h) u.0 u.1 u.2, u.3);
      forced = S.forced;
    }

    -- a frame of another rank waits, or has been read
    pub skip_frame : (r f : ℕ) → (get_or at f 0 ≡ r → ⊥) → Sweep p b used at r (f * 512) → Sweep p b used at r (f * 512 + 512)
    skip_frame r f ne = moved r (f * 512) r (f * 512 + 512) back fwd
      where
        fwd : (g j : ℕ) → g < used → j < 512 → Read at r (f * 512) g j → Read at r (f * 512 + 512) g j
        fwd g j hg hj R = record { high = R.high; before = λ e. omega (arith, R.before e) }

        back : (g j : ℕ) → g < used → j < 512 → Read at r (f * 512 + 512) g j → Read at r (f * 512) g j
        back g j hg hj R = record { high = R.high; before = before }
          where
            before : get_or at g 0 ≡ r → g * 512 + j < f * 512
            before e = ⊎_elim (λ (q : g ≡ f). absurd (ne (sym (ap (λ (x : ℕ). get_or at x 0) q) ∙ e))) (λ (q : g ≡ f → ⊥). lower q) (same? g f)
              where
                lower : (g ≡ f → ⊥) → g * 512 + j < f * 512
                lower q = omega (arith, R.before e)

    -- all of a rank read, the next lower one begins
    pub next_rank : (r : ℕ) → Sweep p b used at (r + 1) (used * 512) → Sweep p b used at r 0
    next_rank r = moved (r + 1) (used * 512) r 0 back fwd
      where
        back : (g j : ℕ) → g < used → j < 512 → Read at r 0 g j → Read at (r + 1) (used * 512) g j
        back g j hg hj R = record { high = ⊎_elim same other (same? (get_or at g 0) r); before = λ e. omega arith }
          where
            same : get_or at g 0 ≡ r → r + 1 ≤ get_or at g 0
            same e = absurd (omega (arith, R.before e))

            other : (get_or at g 0 ≡ r → ⊥) → r + 1 ≤ get_or at g 0
            other e = omega (arith, R.high)

        fwd : (g j : ℕ) → g < used → j < 512 → Read at (r + 1) (used * 512) g j → Read at r 0 g j
        fwd g j hg hj R = record { high = omega (arith, R.high); before = λ e. absurd (omega (arith, R.high)) }

    -- place k of frame f, whose turn it is
    module _ (r f k : ℕ) (S : Sweep p b used at r (f * 512 + k)) (hf : f < used) (hk : k < 512) (e : get_or at f 0 ≡ r) where
      pub read_on : (g j : ℕ) → Read at r (f * 512 + k) g j → Read at r (f * 512 + k + 1) g j
      read_on g j R = record { high = R.high; before = λ q. omega (arith, R.before q) }

      read_old : (g j : ℕ) → Read at r (f * 512 + k + 1) g j → (g * 512 + j ≡ f * 512 + k → ⊥) → Read at r (f * 512 + k) g j
      read_old g j R ne = record { high = R.high; before = λ q. before q }
        where
          before : get_or at g 0 ≡ r → g * 512 + j < f * 512 + k
          before q = omega (arith, R.before q)

      -- a statement of this word is one of place j of frame g, where that is this word
      here : (P : ℕ → ℕ → Type 0) (g j : ℕ) → j < 512 → g * 512 + j ≡ f * 512 + k → P (r - 1) (word p f k) → P (get_or at g 0 - 1) (word p g j)
      here P g j hj q x =
          let gf : g ≡ f = omega arith in
          let eg : r ≡ get_or at g 0 = sym (ap (λ (y : ℕ). get_or at y 0) gf ∙ e) in
          subst (λ (y : ℕ). P (y - 1) (word p g j)) eg (subst (λ (i : ℕ). P (r - 1) (get_or p i 0)) (sym q) x)

      there : (P : ℕ → ℕ → Type 0) (g j : ℕ) → j < 512 → g * 512 + j ≡ f * 512 + k → P (get_or at g 0 - 1) (word p g j) → P (r - 1) (word p f k)
      there P g j hj q x =
          let gf : g ≡ f = omega arith in
          let eg : get_or at g 0 ≡ r = ap (λ (y : ℕ). get_or at y 0) gf ∙ e in
          subst (λ (i : ℕ). P (r - 1) (get_or p i 0)) q (subst (λ (y : ℕ). P (y - 1) (word p g j)) eg x)

      entries_on : Entry x86 (r - 1) (word p f k) → (g j : ℕ) → g < used → j < 512 → Read at r (f * 512 + k + 1) g j
          → Entry x86 (get_or at g 0 - 1) (word p g j)
      entries_on x g j hg hj R = ⊎_elim
          (λ (q : g * 512 + j ≡ f * 512 + k). here (Entry x86) g j hj q x)
          (λ (q : g * 512 + j ≡ f * 512 + k → ⊥). S.entries g j hg hj (read_old g j R q))
          (same? (g * 512 + j) (f * 512 + k))

      -- a word that reaches nothing
      pub plain_step : Entry x86 (r - 1) (word p f k) → ((m : ℕ) → x86.kind (r - 1) (word p f k) ≡ table m → ⊥)
          → Sweep p b used at r (f * 512 + k + 1)
      plain_step x nt = record {
        par_n = S.par_n;
        par_k = S.par_k;
        long = S.long;
        root = S.root;
        entries = entries_on x;
        down = λ g j m hg hj R t. ⊎_elim
            (λ (q : g * 512 + j ≡ f * 512 + k). absurd (nt m (there (λ (l w : ℕ). x86.kind l w ≡ table m) g j hj q t)))
            (λ (q : g * 512 + j ≡ f * 512 + k → ⊥). S.down g j m hg hj (read_old g j R q) t)
            (same? (g * 512 + j) (f * 512 + k));
        up = λ h hh pos i.
            let u = S.up h hh pos i in
            (u.0, u.1, read_on (S.par_n h) (S.par_k h) u.2, u.3);
        forced = S.forced;
      }

      -- a table to frame h, which nothing reached yet
      module _ (h : ℕ) (x : Entry x86 (r - 1) (word p f k)) (t : x86.kind (r - 1) (word p f k) ≡ table (b + h)) (h0 : 0 < h) (hu : h < used)
          (few : used ≤ 1024) (z : get_or at h 0 ≡ 0) where
        abbrev new : List ℕ
        new = set at h (r - 1)

        above : 1 < r
        above = omega (arith, (lawful.table_in (r - 1) (word p f k) (b + h) t).0)

        new_here : get_or new h 0 ≡ r - 1
        new_here = get_or-set_same at h (r - 1) 0 (omega (arith, S.long))

        new_else : (g : ℕ) → (g ≡ h → ⊥) → get_or new g 0 ≡ get_or at g 0
        new_else g ne = get_or-set_other at h g (r - 1) 0 ne

        new_same : (g : ℕ) → 0 < get_or at g 0 → get_or new g 0 ≡ get_or at g 0
        new_same g pos = new_else g (λ q. omega (arith, ap (λ (y : ℕ). get_or at y 0) q))

        old_same : (n g j : ℕ) → Read new r n g j → get_or new g 0 ≡ get_or at g 0
        old_same n g j R = new_else g (λ q. omega (arith, ap (λ (y : ℕ). get_or new y 0) q, new_here, above, R.high))

        to_new : (n g j : ℕ) → Read at r n g j → Read new r n g j
        to_new n g j R =
            let s : get_or new g 0 ≡ get_or at g 0 = new_same g (omega (arith, R.high, above)) in
            record { high = omega (arith, R.high); before = λ q. R.before (sym s ∙ q) }

        to_old : (n g j : ℕ) → Read new r n g j → Read at r n g j
        to_old n g j R =
            let s : get_or new g 0 ≡ get_or at g 0 = old_same n g j R in
            record { high = omega (arith, R.high); before = λ q. R.before (s ∙ q) }

        abbrev par_n' : ℕ → ℕ
        par_n' = with_at h f S.par_n

        abbrev par_k' : ℕ → ℕ
        par_k' = with_at h k S.par_k

        down_new : (g j m : ℕ) → g < used → j < 512 → Read new r (f * 512 + k + 1) g j → x86.kind (get_or new g 0 - 1) (word p g j) ≡ table m
            → Child par_n' par_k' b used new g j m
        down_new g j m hg hj R y = ⊎_elim own old (same? (g * 512 + j) (f * 512 + k))
          where
            s : get_or new g 0 ≡ get_or at g 0
            s = old_same (f * 512 + k + 1) g j R

            y_old : x86.kind (get_or at g 0 - 1) (word p g j) ≡ table m
            y_old = subst (λ (i : ℕ). x86.kind (i - 1) (word p g j) ≡ table m) s y

            own : g * 512 + j ≡ f * 512 + k → Child par_n' par_k' b used new g j m
            own q =
                let gf : g ≡ f = omega arith in
                let jk : j ≡ k = omega arith in
                let yk : x86.kind (r - 1) (word p f k) ≡ table m = there (λ (l w : ℕ). x86.kind l w ≡ table m) g j hj q y_old in
                record {
                  h = h;
                  is = table_inj (sym yk ∙ t);
                  positive = h0;
                  taken = hu;
                  lower = omega (arith, s, ap (λ (i : ℕ). get_or at i 0) gf, e, new_here, above);
                  ranked = omega (arith, new_here, above);
                  frame = at_same h f S.par_n h refl ∙ sym gf;
                  place = at_same h k S.par_k h refl ∙ sym jk;
                }

            old : (g * 512 + j ≡ f * 512 + k → ⊥) → Child par_n' par_k' b used new g j m
            old q =
                let c = S.down g j m hg hj (read_old g j (to_old (f * 512 + k + 1) g j R) q) y_old in
                let ne : c.h ≡ h → ⊥ = λ i. omega (arith, ap (λ (v : ℕ). get_or at v 0) i, c.ranked) in
                let sc : get_or new c.h 0 ≡ get_or at c.h 0 = new_else c.h ne in
                record {
                  h = c.h;
                  is = c.is;
                  positive = c.positive;
                  taken = c.taken;
                  lower = s ∙ c.lower ∙ ap suc (sym sc);
                  ranked = omega (arith, c.ranked);
                  frame = at_other h f S.par_n c.h ne ∙ c.frame;
                  place = at_other h k S.par_k c.h ne ∙ c.place;
                }

        abbrev Up : ℕ → ℕ → ℕ → Type 0
        Up g n j = (n < used) × (j < 512) × Read new r (f * 512 + k + 1) n j × (x86.kind (get_or new n 0 - 1) (word p n j) ≡ table (b + g))

        up_new : (g : ℕ) → g < used → 0 < g → 0 < get_or new g 0 → Up g (par_n' g) (par_k' g)
        up_new g hg pos i = ⊎_elim own old (same? g h)
          where
            own : g ≡ h → Up g (par_n' g) (par_k' g)
            own q =
                let sf : get_or new f 0 ≡ r = new_same f (omega (arith, above)) ∙ e in
                let v : Up h f k = (
                  hf,
                  hk,
                  record { high = omega arith; before = λ y. omega arith },
                  subst (λ (y : ℕ). x86.kind (y - 1) (word p f k) ≡ table (b + h)) (sym sf) t,
                ) in
                subst (λ (y : ℕ). Up g y (par_k' g)) (sym (at_same h f S.par_n g q))
                (subst (λ (y : ℕ). Up g f y) (sym (at_same h k S.par_k g q)) (subst (λ (y : ℕ). Up y f k) (sym q) v))

            old : (g ≡ h → ⊥) → Up g (par_n' g) (par_k' g)
            old q =
                let u = S.up g hg pos (omega (arith, new_else g q)) in
                let sn : get_or new (S.par_n g) 0 ≡ get_or at (S.par_n g) 0 = new_same (S.par_n g) (omega (arith, u.2.high, above)) in
                let v : Up g (S.par_n g) (S.par_k g) = (
                  u.0,
                  u.1,
                  to_new (f * 512 + k + 1) (S.par_n g) (S.par_k g) (read_on (S.par_n g) (S.par_k g) u.2),
                  subst (λ (y : ℕ). x86.kind (y - 1) (word p (S.par_n g) (S.par_k g)) ≡ table (b + g)) (sym sn) u.3,
                ) in
                subst (λ (y : ℕ). Up g y (par_k' g)) (sym (at_other h f S.par_n g q))
                (subst (λ (y : ℕ). Up g (S.par_n g) y) (sym (at_other h k S.par_k g q)) v)

        forced_new : (F : WellFormed p b used) (g : ℕ) → g < used → 0 < get_or new g 0 → get_or new g 0 ≡ suc (F.lev (b + g))
        forced_new F g hg i = ⊎_elim own old (same? g h)
          where
            own : g ≡ h → get_or new g 0 ≡ suc (F.lev (b + g))
            own q =
                let le : get_or at f 0 ≡ suc (F.lev (b + f)) = S.forced F f hf (omega (arith, above)) in
                let t-in = in_form p b used F (λ (l w : ℕ). x86.kind l w ≡ table (b + h)) f k r (sym le ∙ e) t in
                let d = F.down (b + f) k (b + h) (omega arith, omega arith) hk t-in in
                let bq : b + g ≡ b + h = omega arith in
                omega (arith, ap (λ (y : ℕ). get_or new y 0) q, new_here, above, le, e, d.2, ap F.lev bq)

            old : (g ≡ h → ⊥) → get_or new g 0 ≡ suc (F.lev (b + g))
            old q = new_else g q ∙ S.forced F g hg (omega (arith, new_else g q))

        pub ranks_step : Sweep p b used (set at h (r - 1)) r (f * 512 + k + 1)
        ranks_step = record {
          par_n = par_n';
          par_k = par_k';
          long = length-set at h (r - 1) ∙ S.long;
          root = new_else 0 (λ q. omega arith) ∙ S.root;
          entries = λ g j hg hj R.
              subst (λ (y : ℕ). Entry x86 (y - 1) (word p g j)) (sym (old_same (f * 512 + k + 1) g j R))
              (entries_on x g j hg hj (to_old (f * 512 + k + 1) g j R));
          down = down_new;
          up = up_new;
          forced = forced_new;
        }
