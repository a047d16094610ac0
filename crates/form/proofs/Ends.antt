-- The answer when every rank has had its turn.
use Rattle.std.proofs.Common.{ℕ, zero, suc, ◌+◌, ◌-◌, ◌≤◌, ◌<◌, ◌≡◌, sym, ap, ◌∙◌, subst, ⊎_elim, List, Bool, true, false, arith, get_or}
use Rattle.paging.specs.Choice.{Decided}
use Rattle.paging.specs.Format.{table}
use Rattle.paging.proofs.Cases.{same?}
use Rattle.x86_64.specs.Entry.{x86}
use Rattle.x86_64.proofs.Format.{lawful}
use Rattle.pool.specs.Pool.{word, mem_of, Taken}
use Rattle.form.specs.Form.{WellFormed}
use Rattle.form.specs.Sweep.{Read, Sweep, AllReached}
use Rattle.form.proofs.Steps.{top_is}

module _ (p : List ℕ) (b used : ℕ) (at : List ℕ) (S : Sweep p b used at 0 0) where
  -- every word of a reached frame has been read
  all_read : (g j : ℕ) → 0 < get_or at g 0 → Read at 0 0 g j
  all_read g j h = record { high = omega arith; before = λ e. absurd (omega arith) }

  ranked_as : (g h : ℕ) → g ≡ h → 0 < get_or at h 0 → 0 < get_or at g 0
  ranked_as g h e r = subst (λ (y : ℕ). 0 < get_or at y 0) (sym e) r

  -- every frame reached: the ranks are the levels
  module _ (u0 : 0 < used) (all : AllReached at used) where
    abbrev lev : ℕ → ℕ
    lev n = get_or at (n - b) 0 - 1

    down : (n k m : ℕ) → Taken b used n → k < 512 → x86.kind (lev n) (mem_of p b n k) ≡ table m
        → Taken b used m × (m ≡ b → ⊥) × (lev n ≡ suc (lev m)) × (b + S.par_n (m - b) ≡ n) × (S.par_k (m - b) ≡ k)
    down n k m i hk t =
        let hn : n - b < used = omega arith in
        let c = S.down (n - b) k m hn hk (all_read (n - b) k (all (n - b) hn)) t in
        let mh : m - b ≡ c.h = omega (arith, c.is) in
        let am : get_or at (m - b) 0 ≡ get_or at c.h 0 = ap (λ (y : ℕ). get_or at y 0) mh in (
          (omega (arith, c.is), omega (arith, c.is, c.taken)),
          (λ q. omega (arith, c.is, c.positive)),
          omega (arith, am, c.lower, c.ranked),
          omega (arith, ap S.par_n mh, c.frame),
          ap S.par_k mh ∙ c.place,
        )

    up : (m : ℕ) → Taken b used m → (m ≡ b → ⊥)
        → Taken b used (b + S.par_n (m - b)) × (S.par_k (m - b) < 512)
        × (x86.kind (lev (b + S.par_n (m - b))) (mem_of p b (b + S.par_n (m - b)) (S.par_k (m - b))) ≡ table m)
    up m i ne =
        let hm : m - b < used = omega arith in
        let u = S.up (m - b) hm (go i ne) (all (m - b) hm) in
        let q : S.par_n (m - b) ≡ b + S.par_n (m - b) - b = omega arith in
        let mb : b + (m - b) ≡ m = omega arith in (
          (omega arith, omega (arith, u.0)),
          u.1,
          subst (λ (y : ℕ). x86.kind (get_or at y 0 - 1) (word p y (S.par_k (m - b))) ≡ table m) q (u.3 ∙ ap table mb),
        )
      where
        go : Taken b used m → (m ≡ b → ⊥) → 0 < m - b
        go i ne = omega arith

    pub finished : WellFormed p b used
    finished = record {
      lev = lev;
      par_n = λ m. b + S.par_n (m - b);
      par_k = λ m. S.par_k (m - b);
      root_in = (omega arith, omega arith);
      root_lev = root_lev;
      entries = λ n k i hk. S.entries (n - b) k (omega arith) hk (all_read (n - b) k (all (n - b) (omega arith)));
      down = down;
      up = up;
    }
      where
        root_lev : lev b ≡ x86.top
        root_lev =
            let z : b - b ≡ 0 = omega arith in
            omega (arith, ap (λ (y : ℕ). get_or at y 0) z, S.root, top_is)

  -- In a well-formed pool every frame is reached, from one whose level is higher: d is the number of levels that may be climbed.
  module _ (F : WellFormed p b used) where
    abbrev Reached : ℕ → ℕ → Type 0
    Reached d g = 4 ≤ F.lev (b + g) + d → 0 < get_or at g 0

    reach_root : (g : ℕ) → g ≡ 0 → 0 < get_or at g 0
    reach_root g e = omega (arith, ap (λ (y : ℕ). get_or at y 0) e, S.root)

    -- the frame that g is reached from has been read, if it was reached
    reach_by : (g : ℕ) → g < used → (g ≡ 0 → ⊥) → (F.lev (b + g) < 3) × ((d : ℕ) → ((h : ℕ) → h < used → Reached d h) → Reached (suc d) g)
    reach_by g hg ne =
        let u = F.up (b + g) (omega arith, omega arith) (λ q. ne (omega arith)) in
        let n = F.par_n (b + g) in
        let k = F.par_k (b + g) in
        let x = F.down n k (b + g) u.0 u.1 u.2 in
        let t = lawful.table_in (F.lev n) (mem_of p b n k) (b + g) u.2 in
        let nb : b + (n - b) ≡ n = omega (arith, u.0.0) in
        let ln : F.lev (b + (n - b)) ≡ F.lev n = ap F.lev nb in
        let hn : n - b < used = omega (arith, u.0.0, u.0.1) in (
          omega (arith, t.1, top_is, x.2),
          λ d ih h.
              let i : 0 < get_or at (n - b) 0 = ih (n - b) hn (omega (arith, x.2)) in
              let le : get_or at (n - b) 0 ≡ suc (F.lev n) = S.forced F (n - b) hn i ∙ ap suc ln in
              let ll : F.lev n ≡ get_or at (n - b) 0 - 1 = omega arith in
              let t : x86.kind (get_or at (n - b) 0 - 1) (word p (n - b) k) ≡ table (b + g) = subst (λ (y : ℕ). x86.kind y (word p (n - b) k) ≡ table (b + g)) ll u.2 in
              let c = S.down (n - b) k (b + g) hn u.1 (all_read (n - b) k i) t in
              ranked_as g c.h (omega (arith, c.is)) c.ranked,
        )

    reach : (d g : ℕ) → g < used → Reached d g
    reach zero g hg h = ⊎_elim (reach_root g) (λ (ne : g ≡ 0 → ⊥). absurd (omega (arith, (reach_by g hg ne).0))) (same? g 0)
    reach (suc d) g hg h = ⊎_elim (reach_root g) (λ (ne : g ≡ 0 → ⊥). (reach_by g hg ne).1 d (reach d) h) (same? g 0)

    pub all_reached : AllReached at used
    all_reached g hg = reach 4 g hg (omega arith)

  pub answered : (ok : Bool) → 0 < used → Decided (AllReached at used) ok → Decided (WellFormed p b used) ok
  answered true u0 d = finished u0 d
  answered false u0 d = λ F. d (all_reached F)
