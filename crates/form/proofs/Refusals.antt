-- Why each refusal is right, and what one word's step gives.
use Rattle.std.proofs.Common.{ℕ, suc, ◌+◌, ◌-◌, ◌*◌, ◌≤◌, ◌<◌, ◌≡◌, refl, sym, ap, ◌∙◌, subst, ◌⊎◌, ⊎_elim, List, Bool, arith, get_or, get_or-set_other}
use Rattle.paging.specs.Format.{table, Entry}
use Rattle.x86_64.specs.Entry.{x86}
use Rattle.pool.specs.Pool.{word, Taken}
use Rattle.form.specs.Form.{WellFormed}
use Rattle.form.specs.Sweep.{Sweep, Swept, goes, stops, Step, plain, ranks, foreign, outside, again}
use Rattle.form.proofs.Steps.{in_form, plain_step, ranks_step}

-- a ranked frame keeps its rank
pub rank_stays : (f : ℕ) {b used r w : ℕ} {at new : List ℕ} {ok : Bool} → 0 < get_or at f 0 → Step b used r w at new ok → get_or new f 0 ≡ get_or at f 0
rank_stays f i (plain x nt) = refl
rank_stays f {r = r} {at = at} i (ranks h x t h0 hu z) = get_or-set_other at h f (r - 1) 0 (λ q. omega (arith, ap (λ (y : ℕ). get_or at y 0) q))
rank_stays f i (foreign nt) = refl
rank_stays f i (outside m t o) = refl
rank_stays f i (again h t h0 hu nz) = refl

module _ (p : List ℕ) (b used : ℕ) (at : List ℕ) (r f k : ℕ) (S : Sweep p b used at r (f * 512 + k)) (hf : f < used) (hk : k < 512)
    (e : get_or at f 0 ≡ r) (pos : 0 < r) where
  level_of_lem : (F : WellFormed p b used) → suc (F.lev (b + f)) ≡ r
  level_of_lem F = sym (S.forced F f hf (omega arith)) ∙ e

  -- what a well-formed pool would say of the frame that this table reaches
  reached : (F : WellFormed p b used) (m : ℕ) → x86.kind (r - 1) (word p f k) ≡ table m
      → Taken b used m × (m ≡ b → ⊥) × (F.lev (b + f) ≡ suc (F.lev m)) × (F.par_n m ≡ b + f) × (F.par_k m ≡ k)
  reached F m t = F.down (b + f) k m (omega arith, omega arith) hk (in_form p b used F (λ (l w : ℕ). x86.kind l w ≡ table m) f k r (level_of_lem F) t)

  bad_foreign : (Entry x86 (r - 1) (word p f k) → ⊥) → WellFormed p b used → ⊥
  bad_foreign nt F = in_form p b used F (λ (l w : ℕ). Entry x86 l w → ⊥) f k r (level_of_lem F) nt (F.entries (b + f) k (omega arith, omega arith) hk)

  bad_outside : (m : ℕ) → x86.kind (r - 1) (word p f k) ≡ table m → (m ≤ b) ⊎ (b + used ≤ m) → WellFormed p b used → ⊥
  bad_outside m t o F = ⊎_elim low high o
    where
      low : m ≤ b → ⊥
      low h = (reached F m t).1 (omega (arith, (reached F m t).0.0))

      high : b + used ≤ m → ⊥
      high h = omega (arith, (reached F m t).0.1)

  -- its frame would be reached from two places
  bad_again : (h : ℕ) → x86.kind (r - 1) (word p f k) ≡ table (b + h) → 0 < h → h < used → (get_or at h 0 ≡ 0 → ⊥) → WellFormed p b used → ⊥
  bad_again h t h0 hu nz F =
      let u = S.up h hu h0 (omega arith) in
      let n = S.par_n h in
      let le : get_or at n 0 ≡ suc (F.lev (b + n)) = S.forced F n u.0 (omega (arith, u.2.high)) in
      let kn = in_form p b used F (λ (l w : ℕ). x86.kind l w ≡ table (b + h)) n (S.par_k h) (get_or at n 0) (sym le) u.3 in
      let d = F.down (b + n) (S.par_k h) (b + h) (omega (arith, u.0), omega (arith, u.0)) u.1 kn in
      let c = reached F (b + h) t in
      let nf : n ≡ f = omega (arith, d.3, c.3) in
      let jk : S.par_k h ≡ k = sym d.4 ∙ c.4 in
      omega (arith, u.2.before (ap (λ (y : ℕ). get_or at y 0) nf ∙ e))

  pub stepped : (w : ℕ) (new : List ℕ) (ok : Bool) → used ≤ 1024 → w ≡ word p f k → Step b used r w at new ok
      → Swept p b used new r (f * 512 + (k + 1)) ok
  stepped w new ok few q s = subst (λ (i : ℕ). Swept p b used new r i ok) on (go new ok (subst (λ (i : ℕ). Step b used r i at new ok) q s))
    where
      on : f * 512 + k + 1 ≡ f * 512 + (k + 1)
      on = omega arith

      go : (new : List ℕ) (ok : Bool) → Step b used r (word p f k) at new ok → Swept p b used new r (f * 512 + k + 1) ok
      go _ _ (plain x nt) = goes (plain_step p b used at r f k S hf hk e x nt)
      go _ _ (ranks h x t h0 hu z) = goes (ranks_step p b used at r f k S hf hk e h x t h0 hu few z)
      go _ _ (foreign nt) = stops (bad_foreign nt)
      go _ _ (outside m t o) = stops (bad_outside m t o)
      go _ _ (again h t h0 hu nz) = stops (bad_again h t h0 hu nz)
