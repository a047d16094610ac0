-- The table under a protect: each leaf over a changed page is written anew with its own address and the new rights, and nothing else changes.
use Rattle.std.specs.Prelude.{None, Some}
use Prim.Native.Nat.{ℕ, ◌/◌}
use mathlib.Core.Path.{◌≡◌, refl, sym, ◌∙◌, ap, subst}
use mathlib.Core.Bool.{Bool}
use mathlib.Core.List.{List}
use mathlib.Core.Logic.{⊎_elim}
use native.Mathlib.Omega.{arith}
use lib.Dec.{ltb, lit<}
use Rattle.paging.specs.Level.{span, index, Canonical}
use Rattle.paging.specs.Format.{leaf, nothing, LeafReads, Entry, page}
use Rattle.paging.specs.Table.{View, view}
use Rattle.paging.proofs.Cases.{same?}
use Rattle.paging.proofs.Formats.{IsLeaf, Is, is}
use Rattle.paging.proofs.Walks.{leaf_bar}
use Rattle.paging.proofs.Changes.{end, inside}
use Rattle.common.specs.Page.{is_huge}
use Rattle.x86_64.specs.Entry.{granted, leaf_by, x86}
use Rattle.x86_64.proofs.Format.{lawful}
use Rattle.x86_64.proofs.ReadBack.{huge_level}
use Rattle.pool.specs.Pool.{word, put_word, mem_of, Taken}
use Rattle.form.specs.Form.{Good}
use Rattle.walk.specs.Walk.{size_at, found}
use Rattle.walk.specs.declared.Walk.{Walk}
use Rattle.walk.specs.declared.Walk.TheVariants.{Leaf, Open}
use Rattle.walk.specs.declared.LeafEntry.{LeafEntry}
use Rattle.walk.specs.declared.OpenEntry.{OpenEntry}
use Rattle.walk.proofs.Found.{over, unused}
use Rattle.walk.proofs.Sizes.{size_level}
use Rattle.table.specs.Table.{Updating, updated}
use Rattle.table.proofs.Laws.{rewritten}
use Rattle.table_laws.specs.Effects.{shows_in, Rewrites}
use Rattle.table_laws.proofs.Effects.{shown_at}
use Rattle.table_laws.proofs.Writes.{rewrites}
use Rattle.vmar_protect_laws.specs.Laws.{Over}

-- a leaf whose flags are such as Q says
pub record Given (Q : ℕ → Type 0) (y : View) : Type 0 where
  pub l : ℕ
  pub w : ℕ
  pub is : y ≡ view l w
  pub kind : x86.kind l w ≡ leaf
  pub flags : Q (x86.flags w)

-- what an address showed and what it shows: the same, or a leaf of the same frame with such flags
pub data Like (Q : ℕ → Type 0) (y z : View) : Type 0 where
  same : z ≡ y → Like Q y z
  leaves : (l w w' : ℕ) → y ≡ view l w → z ≡ view l w' → x86.kind l w ≡ leaf → x86.kind l w' ≡ leaf → x86.addr w' ≡ x86.addr w → Q (x86.flags w') → Like Q y z

pub like_then : (Q : ℕ → Type 0) (x y z : View) → Like Q x y → Like Q y z → Like Q x z
like_then Q x y z (same e) (same f) = same (f ∙ e)
like_then Q x y z (same e) (leaves l w w' a b c d i j) = leaves l w w' (sym e ∙ a) b c d i j
like_then Q x y z (leaves l w w' a b c d i j) (same f) = leaves l w w' a (f ∙ b) c d i j
like_then Q x y z (leaves l w w' a b c d i j) (leaves m v v' k n o q r t) =
    let e : view l w' ≡ view m v = sym b ∙ k in
    let e1 : m ≡ l = cc in
    let e2 : v ≡ w' = cc in
    leaves l w v' a (n ∙ ap (λ (u : ℕ). view u v') e1) c (subst (λ (u : ℕ). x86.kind u v' ≡ leaf) e1 q) (r ∙ ap x86.addr e2 ∙ i) t

pub given_stays : (Q : ℕ → Type 0) (y z : View) → Like Q y z → Given Q y → Given Q z
given_stays Q y z (same e) g = record { l = g.l; w = g.w; is = e ∙ g.is; kind = g.kind; flags = g.flags }
given_stays Q y z (leaves l w w' a b c d i j) g = record { l = l; w = w'; is = b; kind = d; flags = j }

-- a leaf is still one, of the same level
pub carried : (Q : ℕ → Type 0) (y z : View) (l w : ℕ) → Like Q y z → y ≡ view l w → x86.kind l w ≡ leaf → (w' : ℕ) × (z ≡ view l w') × (x86.kind l w' ≡ leaf)
carried Q y z l w (same e) q k = (w, e ∙ q, k)
carried Q y z l w (leaves m v v' a b c d i j) q k =
    let e : view m v ≡ view l w = sym a ∙ q in
    let e1 : m ≡ l = cc in
    (v', b ∙ ap (λ (u : ℕ). view u v') e1, subst (λ (u : ℕ). x86.kind u v' ≡ leaf) e1 d)

-- the entry that ends a walk is of the same level
pub level_back : (Q : ℕ → Type 0) (y z : View) (l w : ℕ) → Like Q y z → z ≡ view l w → (w' : ℕ) × (y ≡ view l w')
level_back Q y z l w (same e) q = (w, sym e ∙ q)
level_back Q y z l w (leaves m v v' a b c d i j) q =
    let e : view m v' ≡ view l w = sym b ∙ q in
    let e1 : m ≡ l = cc in
    (v, a ∙ ap (λ (u : ℕ). view u v) e1)

-- addresses in the span of the entry that ends a walk end there too
pub near_shows : (p : List ℕ) (base used : ℕ) → Good p base used → (v l w x : ℕ) → shows_in p base v ≡ view l w → x / span l ≡ v / span l → shows_in p base x ≡ view l w
near_shows p base used G v l w x e n =
    let E = end x86 (mem_of p (base / 4096)) (Taken (base / 4096) used) (base / 4096) G.formed v in
    let q : view E.l (mem_of p (base / 4096) E.n (index E.l v)) ≡ view l w = sym E.shown ∙ e in
    let q1 : E.l ≡ l = cc in
    inside x86 (mem_of p (base / 4096)) (mem_of p (base / 4096)) (Taken (base / 4096) used) (base / 4096) G.formed v E (λ m i t h ne. refl) x (rw q1 n) E.last ∙ q

-- the leaf over v has such flags now, and no other address sees a change
pub record Step (Q : ℕ → Type 0) (base v : ℕ) (p q : List ℕ) : Type 0 where
  pub like : (x : ℕ) → Canonical 4 x → Like Q (shows_in p base x) (shows_in q base x)
  pub far : (x : ℕ) → Canonical 4 x → (Over p base v x → ⊥) → shows_in q base x ≡ shows_in p base x
  pub near : (x l w : ℕ) → shows_in p base v ≡ view l w → x86.kind l w ≡ leaf → x / span l ≡ v / span l → Given Q (shows_in q base x)

-- one `update` to flags of which an entry gives such
module _ (p : List ℕ) (base used : ℕ) (G : Good p base used) (v g : ℕ) (Q : ℕ → Type 0) (cv : Canonical 4 v) (fit : Q (granted g)) where
  -- over a leaf, by what was written
  step_of : (q : List ℕ) (l w n : ℕ) → shows_in p base v ≡ view l w → x86.kind l w ≡ leaf → x86.kind l n ≡ leaf → x86.addr n ≡ x86.addr w → Q (x86.flags n)
      → Rewrites p q base used v l n → Step Q base v p q
  step_of q l w n shown k k' a r R = record {
    like = λ x cx. ⊎_elim
        (λ (e : x / span l ≡ v / span l). leaves l w n (near_shows p base used G v l w x shown e) (R.inside x e) k k' a r)
        (λ (e : x / span l ≡ v / span l → ⊥). same (R.outside cv x cx e))
        (same? (x / span l) (v / span l));
    far = λ x cx off. R.outside cv x cx (λ e. off (l, w, shown, e));
    near = λ x m u e i b.
        let z : view m u ≡ view l w = sym e ∙ shown in
        let z1 : m ≡ l = cc in
        record { l = l; w = n; is = R.inside x (subst (λ (j : ℕ). x / span j ≡ v / span j) z1 b); kind = k'; flags = r };
  }

  leaf_step : (e : LeafEntry) → found p (base / 4096) v ≡ Leaf e → Step Q base v p (updated p (base / 4096) v None (Some (record { 0 = g }))).pool
  unfolding x86
  leaf_step e q =
      let o = over p (base / 4096) used G.formed v e q in
      let w : ℕ = word p e.frame e.place in
      let n : ℕ = x86.leaf_word o.l (x86.addr w) g 0 in
      let read : IsLeaf x86 lawful o.l w = subst (Is x86 lawful o.l w) o.kind (is x86 lawful o.l w o.placed.fits) in
      let wrote : LeafReads x86 o.l n (x86.addr w) (granted g) 0 = lawful.reads o.l (x86.addr w) g 0 o.low read.aligned (lit< tt) in
      let fits : Entry x86 o.l n = page (x86.addr w) g 0 o.low read.aligned (lit< tt) refl in
      let R = rewrites p base used G v o.l e.frame e.place n o.placed fits (leaf_bar wrote.kind) in
      let huge : is_huge e.size ≡ ltb 0 o.l = ap is_huge o.size ∙ sym (huge_level (size_at o.l)) ∙ ap (ltb 0) (size_level o.l o.low) in
      let pool : (updated p (base / 4096) v None (Some (record { 0 = g }))).pool ≡ put_word p e.frame e.place n =
      ap (λ (u : Updating). u.pool) (rewritten p (base / 4096) v e q None (Some (record { 0 = g })) refl)
      ∙ ap (λ (h : Bool). put_word p e.frame e.place (leaf_by h (x86.addr w) g 0)) huge in
      subst (λ (z : List ℕ). Step Q base v p z) (sym pool)
      (step_of (put_word p e.frame e.place n) o.l w n (shown_at p base used v G o.l e.frame e.place o.placed) o.kind wrote.kind wrote.addr (subst Q (sym wrote.flags) fit) R)

  open_step : (o : OpenEntry) → found p (base / 4096) v ≡ Open o → Step Q base v p (updated p (base / 4096) v None (Some (record { 0 = g }))).pool
  open_step o q =
      let pool : (updated p (base / 4096) v None (Some (record { 0 = g }))).pool ≡ p = rw q in
      let u = unused p (base / 4096) used G.formed v o q in
      let shown : shows_in p base v ≡ view o.level 0 = shown_at p base used v G o.level o.frame o.place u.placed ∙ ap (view o.level) u.blank in
      subst (λ (z : List ℕ). Step Q base v p z) (sym pool) (record {
        like = λ x cx. same refl;
        far = λ x cx off. refl;
        near = λ x l w e k b.
            let z : view l w ≡ view o.level 0 = sym e ∙ shown in
            let z1 : l ≡ o.level = cc in
            let z2 : w ≡ 0 = cc in
            let no_leaf : nothing ≡ leaf = sym (lawful.blank o.level) ∙ ap (λ (j : ℕ). x86.kind j 0) (sym z1) ∙ ap (x86.kind l) (sym z2) ∙ k in
            let d : ◌≡◌ {A = ℕ} 0 1 = cc in
            absurd (omega arith);
      })

  pub step : Step Q base v p (updated p (base / 4096) v None (Some (record { 0 = g }))).pool
  step = go (found p (base / 4096) v) refl
    where
      go : (r : Walk) → found p (base / 4096) v ≡ r → Step Q base v p (updated p (base / 4096) v None (Some (record { 0 = g }))).pool
      go (Leaf e) q = leaf_step e q
      go (Open o) q = open_step o q

-- what some changes at pages of C do: each address shows the same, or a leaf of the same frame with such flags, and only one whose entry is over such a page changes
pub record Alike (Q : ℕ → Type 0) (base : ℕ) (C : ℕ → Type 0) (p q : List ℕ) : Type 0 where
  pub like : (x : ℕ) → Canonical 4 x → Like Q (shows_in p base x) (shows_in q base x)
  pub far : (x : ℕ) → Canonical 4 x → ((v : ℕ) → C v → Over p base v x → ⊥) → shows_in q base x ≡ shows_in p base x

module _ (Q : ℕ → Type 0) (base : ℕ) (C : ℕ → Type 0) (canonical : (v : ℕ) → C v → Canonical 4 v) where
  pub alike_none : (p : List ℕ) → Alike Q base C p p
  alike_none p = record { like = λ x cx. same refl; far = λ x cx off. refl }

  pub alike_step : (v : ℕ) (p q : List ℕ) → C v → Step Q base v p q → Alike Q base C p q
  alike_step v p q c s = record { like = s.like; far = λ x cx off. s.far x cx (off v c) }

  pub alike_then : (p q r : List ℕ) → Alike Q base C p q → Alike Q base C q r → Alike Q base C p r
  alike_then p q r a b = record {
    like = λ x cx. like_then Q _ _ _ (a.like x cx) (b.like x cx);
    far = λ x cx off. b.far x cx (λ v c u. let k = level_back Q _ _ u.0 u.1 (a.like v (canonical v c)) u.2 in off v c (u.0, k.0, k.1, u.3)) ∙ a.far x cx off;
  }

  -- of more pages
  pub alike_wider : (D : ℕ → Type 0) → ((v : ℕ) → C v → D v) → (p q : List ℕ) → Alike Q base C p q → Alike Q base D p q
  alike_wider D more p q a = record { like = a.like; far = λ x cx off. a.far x cx (λ v c. off v (more v c)) }
