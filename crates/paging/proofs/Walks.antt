-- The laws of walks in a well-formed table: a write at one place changes no walk that does not go by that place.
use Prim.Native.Nat.{ℕ, zero, suc, ◌+◌, ◌-◌, ◌<◌, ◌≤◌}
use mathlib.Core.Path.{◌≡◌, refl, sym, ap, ◌∙◌, subst}
use mathlib.Core.Logic.{⊎_elim}
use native.Mathlib.Omega.{arith}
use native.Mathlib.Nat.{not-suc-le-zero, eq-or-lt_of_le, le_of_suc-le-suc}
use Rattle.paging.specs.Level.{index}
use Rattle.paging.specs.Format.{Kind, nothing, leaf, table, Format}
use Rattle.paging.specs.Table.{Hit, hit, walk, Formed}
use Rattle.paging.specs.Way.{Opt, some, none, way}
use Rattle.paging.proofs.Levels.{index_lt}

pub table_inj : {m n : ℕ} → table m ≡ table n → m ≡ n
table_inj e = cc

pub hit_level : {l m n u i j : ℕ} → hit l n i ≡ hit m u j → l ≡ m
hit_level e = cc

pub hit_frame : {l m n u i j : ℕ} → hit l n i ≡ hit m u j → n ≡ u
hit_frame e = cc

-- an entry that is no table
abbrev pub NoTable : Kind → Type 0
NoTable k = (m : ℕ) → k ≡ table m → ⊥

pub nothing_bar : {k : Kind} → k ≡ nothing → NoTable k
nothing_bar e m t = let y : nothing ≡ table m = sym e ∙ t in let z : ◌≡◌ {A = ℕ} 0 1 = cc in omega arith

pub leaf_bar : {k : Kind} → k ≡ leaf → NoTable k
leaf_bar e m t = let y : leaf ≡ table m = sym e ∙ t in let z : ◌≡◌ {A = ℕ} 0 1 = cc in omega arith

module _ (F : Format) (W : ℕ → ℕ → ℕ) where
  no_some : {A : Type 0} {n : ℕ} → none ≡ some n → A
  no_some e = let z : ◌≡◌ {A = ℕ} 0 1 = cc in absurd (omega arith)

  -- one step of the way
  pub record Step (root v k m : ℕ) : Type 0 where
    pub from : ℕ
    pub was : way F W root v k ≡ some from
    pub entry : F.kind (F.top - k) (W from (index (F.top - k) v)) ≡ table m

  pub step : (root v k m : ℕ) → way F W root v (suc k) ≡ some m → Step root v k m
  unfolding way
  step root v k m e = go (way F W root v k) refl
    where
      go : (o : Opt) → way F W root v k ≡ o → Step root v k m
      go none p = no_some (rw p at e)
      go (some n) p = kinds (F.kind (F.top - k) (W n (index (F.top - k) v))) refl
        where
          kinds : (t : Kind) → F.kind (F.top - k) (W n (index (F.top - k) v)) ≡ t → Step root v k m
          kinds nothing q = no_some (rw (p, q) at e)
          kinds leaf q = no_some (rw (p, q) at e)
          kinds (table x) q =
              let z : some x ≡ some m = rw (p, q) at e in
              let y : x ≡ m = cc in
              record { from = n; was = p; entry = q ∙ ap table y }

  pub on : (root v k n m : ℕ) → way F W root v k ≡ some n → F.kind (F.top - k) (W n (index (F.top - k) v)) ≡ table m → way F W root v (suc k) ≡ some m
  unfolding way
  on root v k n m p q = rw (p, q)

-- a walk goes on from where its way has come
pub through : (F : Format) (W : ℕ → ℕ → ℕ) (root v k n : ℕ) → k ≤ F.top → way F W root v k ≡ some n → walk F W F.top root v ≡ walk F W (F.top - k) n v
unfolding way walk
through F W root v zero n h p =
    let z : root ≡ n = cc in
    let t : F.top - 0 ≡ F.top = omega arith in
    rw (t, z)
through F W root v (suc k) n h p =
    let s = step F W root v k n p in
    let r : F.top - k ≡ suc (F.top - suc k) = omega arith in
    let e : F.kind (suc (F.top - suc k)) (W s.from (index (suc (F.top - suc k)) v)) ≡ table n = rw r at s.entry in
    through F W root v k s.from (omega arith) s.was ∙ ap (λ (x : ℕ). walk F W x s.from v) r ∙ rw e

-- addresses of the same indexes go the same way
pub way_like : (F : Format) (W : ℕ → ℕ → ℕ) (root v v' k : ℕ) → ((j : ℕ) → j < k → index (F.top - j) v ≡ index (F.top - j) v') → way F W root v k ≡ way F W root v' k
unfolding way
way_like F W root v v' zero like = refl
way_like F W root v v' (suc k) like = rw (way_like F W root v v' k (λ j l. like j (omega arith)), like k (omega arith))

-- the words on the way are the same: so is the way
pub way_same : (F : Format) (W W' : ℕ → ℕ → ℕ) (root v k : ℕ) → ((j n : ℕ) → j < k → way F W root v j ≡ some n → W' n (index (F.top - j) v) ≡ W n (index (F.top - j) v))
    → way F W' root v k ≡ way F W root v k
unfolding way
way_same F W W' root v zero same = refl
way_same F W W' root v (suc k) same = go (way F W root v k) refl (way_same F W W' root v k (λ j n l. same j n (omega arith)))
  where
    go : (o : Opt) → way F W root v k ≡ o → way F W' root v k ≡ way F W root v k → way F W' root v (suc k) ≡ way F W root v (suc k)
    go none e r = rw (r, e)
    go (some n) e r = rw (r, e, same k n (omega arith) e)

-- where a walk ends: at a place on its way, which is no table above the lowest level
pub record Ends (F : Format) (W : ℕ → ℕ → ℕ) (root v l n : ℕ) (h : Hit) : Type 0 where
  pub low : l ≤ F.top
  pub at : way F W root v (F.top - l) ≡ some n
  pub is : h ≡ hit l n (index l v)
  pub last : 0 < l → NoTable (F.kind l (W n (index l v)))

ends_from : (F : Format) (W : ℕ → ℕ → ℕ) (root v l k n : ℕ) → l + k ≡ F.top → way F W root v k ≡ some n → (l' : ℕ) × (n' : ℕ) × Ends F W root v l' n' (walk F W l n v)
unfolding walk
ends_from F W root v zero k n e p =
    let q : k ≡ F.top - 0 = omega arith in
    (0, n, record { low = omega arith; at = ap (way F W root v) (sym q) ∙ p; is = refl; last = λ h. absurd (not-suc-le-zero h) })
ends_from F W root v (suc l) k n e p = go (F.kind (suc l) (W n (index (suc l) v))) refl (ends_from F W root v l)
  where
    q : k ≡ F.top - suc l
    q = omega arith

    here : walk F W (suc l) n v ≡ hit (suc l) n (index (suc l) v) → NoTable (F.kind (suc l) (W n (index (suc l) v))) → (l' : ℕ) × (n' : ℕ) × Ends F W root v l' n' (walk F W (suc l) n v)
    here is bar = (suc l, n, record { low = omega arith; at = ap (way F W root v) (sym q) ∙ p; is = is; last = λ h. bar })

    go : (t : Kind) → F.kind (suc l) (W n (index (suc l) v)) ≡ t
        → ((k n : ℕ) → l + k ≡ F.top → way F W root v k ≡ some n → (l' : ℕ) × (n' : ℕ) × Ends F W root v l' n' (walk F W l n v))
        → (l' : ℕ) × (n' : ℕ) × Ends F W root v l' n' (walk F W (suc l) n v)
    go nothing t ih = here (rw t) (nothing_bar t)
    go leaf t ih = here (rw t) (leaf_bar t)
    go (table m) t ih =
        let r : F.top - k ≡ suc l = omega arith in
        let i = ih (suc k) m (omega arith) (on F W root v k n m p (rw r t)) in
        let same : walk F W (suc l) n v ≡ walk F W l m v = rw t in
        (i.0, i.1, rw same i.2)

pub ends : (F : Format) (W : ℕ → ℕ → ℕ) (root v : ℕ) → (l : ℕ) × (n : ℕ) × Ends F W root v l n (walk F W F.top root v)
unfolding way
ends F W root v = ends_from F W root v F.top 0 root (omega arith) refl

-- from an entry that is no table a walk goes nowhere else
pub stands : (F : Format) (W : ℕ → ℕ → ℕ) (n v l : ℕ) → NoTable (F.kind l (W n (index l v))) → walk F W l n v ≡ hit l n (index l v)
unfolding walk
stands F W n v zero bar = refl
stands F W n v (suc l) bar = go (F.kind (suc l) (W n (index (suc l) v))) refl
  where
    go : (t : Kind) → F.kind (suc l) (W n (index (suc l) v)) ≡ t → walk F W (suc l) n v ≡ hit (suc l) n (index (suc l) v)
    go nothing t = rw t
    go leaf t = rw t
    go (table m) t = absurd (bar m t)

-- a walk whose way has come to an entry that is no table ends there
pub ends_at : (F : Format) (W : ℕ → ℕ → ℕ) (root v l n : ℕ) → l ≤ F.top → way F W root v (F.top - l) ≡ some n → NoTable (F.kind l (W n (index l v)))
    → walk F W F.top root v ≡ hit l n (index l v)
ends_at F W root v l n h p bar =
    let z : F.top - (F.top - l) ≡ l = omega arith in
    through F W root v (F.top - l) n (omega arith) p ∙ ap (λ (x : ℕ). walk F W x n v) z ∙ stands F W n v l bar

module _ (F : Format) (W : ℕ → ℕ → ℕ) (In : ℕ → Type 0) (root : ℕ) (T : Formed F W In root) where
  pub way_in : (v k n : ℕ) → k ≤ F.top → way F W root v k ≡ some n → In n × (T.lev n ≡ F.top - k)
  unfolding way
  way_in v zero n h e =
      let z : root ≡ n = cc in
      (subst In z T.root_in, ap T.lev (sym z) ∙ T.root_lev ∙ omega arith)
  way_in v (suc k) n h e =
      let s = step F W root v k n e in
      let i = way_in v k s.from (omega arith) s.was in
      let d = T.down s.from (index (F.top - k) v) n i.0 (index_lt (F.top - k) v) (rw i.1 s.entry) in
      (d.0, omega (arith, i.1, d.2))

  -- two addresses whose ways come to one frame after as many steps have the same indexes above it
  pub same_way : (v v' k n : ℕ) → k ≤ F.top → way F W root v k ≡ some n → way F W root v' k ≡ some n
      → (j : ℕ) → j < k → index (F.top - j) v ≡ index (F.top - j) v'
  same_way v v' zero n h e e' j l = absurd (not-suc-le-zero l)
  same_way v v' (suc k) n h e e' j l =
      let s = step F W root v k n e in
      let s' = step F W root v' k n e' in
      let i = way_in v k s.from (omega arith) s.was in
      let i' = way_in v' k s'.from (omega arith) s'.was in
      let d = T.down s.from (index (F.top - k) v) n i.0 (index_lt (F.top - k) v) (rw i.1 s.entry) in
      let d' = T.down s'.from (index (F.top - k) v') n i'.0 (index_lt (F.top - k) v') (rw i'.1 s'.entry) in
      let one : s.from ≡ s'.from = sym d.3 ∙ d'.3 in
      let here : index (F.top - k) v ≡ index (F.top - k) v' = sym d.4 ∙ d'.4 in
      ⊎_elim (λ q. rw q here) (λ m. same_way v v' k s.from (omega arith) s.was (s'.was ∙ ap some (sym one)) j m) (eq-or-lt_of_le (le_of_suc-le-suc l))

  -- W' is W but for the place that v has after k steps
  module _ (v k n : ℕ) (W' : ℕ → ℕ → ℕ) (hk : k ≤ F.top) (at : way F W root v k ≡ some n)
      (other : (n' i : ℕ) → In n' → i < 512 → ((n' ≡ n) × (i ≡ index (F.top - k) v) → ⊥) → W' n' i ≡ W n' i) where
    -- what walks by another place meets the same words
    pub others : (v' j : ℕ) → j ≤ k → (index (F.top - j) v ≡ index (F.top - j) v' → ⊥)
        → (k' n' : ℕ) → k' ≤ F.top → way F W root v' k' ≡ some n' → W' n' (index (F.top - k') v') ≡ W n' (index (F.top - k') v')
    others v' j hj apart k' n' h e' = other n' (index (F.top - k') v') (way_in v' k' n' h e').0 (index_lt (F.top - k') v') go
      where
        go : (n' ≡ n) × (index (F.top - k') v' ≡ index (F.top - k) v) → ⊥
        go w =
            let a = way_in v k n hk at in
            let b = way_in v' k' n' h e' in
            let kk : k' ≡ k = omega (arith, a.1, b.1, ap T.lev w.0) in
            let e2 : way F W root v' k ≡ some n = ap (way F W root v') (sym kk) ∙ e' ∙ ap some w.0 in
            ⊎_elim
            (λ q. apart (ap (λ (x : ℕ). index (F.top - x) v) q ∙ sym w.1 ∙ ap (λ (x : ℕ). index (F.top - x) v') (kk ∙ sym q)))
            (λ l. apart (same_way v v' k n hk at e2 j l))
            (eq-or-lt_of_le hj)

    -- and goes the same way
    pub elsewhere : (v' j : ℕ) → j ≤ k → (index (F.top - j) v ≡ index (F.top - j) v' → ⊥) → (k' : ℕ) → k' ≤ F.top → way F W' root v' k' ≡ way F W root v' k'
    elsewhere v' j hj apart k' h = way_same F W W' root v' k' (λ i m g e. others v' j hj apart i m (omega arith) e)

    -- a change at the end of v's way leaves the way
    pub way_kept : way F W' root v k ≡ some n
    way_kept = way_same F W W' root v k (λ j m h e.
        let a = way_in v j m (omega arith) e in
        let b = way_in v k n hk at in
        other m (index (F.top - j) v) a.0 (index_lt (F.top - j) v) (λ w. omega (arith, a.1, b.1, ap T.lev w.0))) ∙ at
