-- The pool after a protect, mapping by mapping and page by page.
use Prim.Native.Nat.{ℕ, zero, suc, ◌+◌, ◌-◌, ◌*◌, ◌/◌, ◌%◌, ◌^◌, ◌≤◌, ◌<◌}
use mathlib.Core.Path.{◌≡◌, refl, sym, ◌∙◌, ap, subst}
use mathlib.Core.Bool.{true, false}
use mathlib.Core.List.{List}
use mathlib.Core.Logic.{◌⊎◌, inl, inr, ⊎_elim}
use native.Mathlib.Omega.{arith}
use Rattle.paging.specs.Level.{span, Canonical}
use Rattle.paging.specs.Format.{leaf}
use Rattle.paging.specs.Table.{View, view}
use Rattle.paging.proofs.Cases.{same?, below?}
use Rattle.scan.proofs.Scans.{tell}
use Rattle.x86_64.specs.Entry.{granted, x86}
use Rattle.form.specs.Form.{Good}
use Rattle.table_laws.specs.Effects.{shows_in}
use Rattle.space.specs.Space.{region_at, mapping_at, is_region, region_place, mapping_place}
use Rattle.space.specs.Passes.{page_at, Passes, RootRange}
use Rattle.space.specs.declared.Mapping.{Mapping}
use Rattle.space.specs.declared.Space.{Space}
use Rattle.space.proofs.Facts.{region_place_lem, mapping_place_lem, child_in, mapping_in}
use Rattle.vmar_protect.specs.Protect.{with_rights, Lent, lent, page_done, pages_done, touching, changed, mapping_done, mappings_done}
use Rattle.vmar_protect_laws.specs.Laws.{page_addr, InRange, Over, LastOver}
use Rattle.vmar_protect_laws.proofs.Righted.{alike_now}
use Rattle.vmar_protect.proofs.Buffers.{pages_kept, mappings_kept}
use Rattle.vmar_protect_laws.proofs.Pages.{pages_stay, few, in_range, range_touches, among, places_stay, in_range?}
use Rattle.vmar_protect_laws.proofs.Tables.{Given, Like, same, given_stays, carried, level_back, Step, step, Alike, alike_none, alike_step, alike_then, alike_wider}

-- a root's range lies in one half
abbrev Half : ℕ → ℕ → Type 0
Half a e = (e ≤ 2 ^ 47) ⊎ ((2 ^ 64 - 2 ^ 47 ≤ a) × (e ≤ 2 ^ 64))

-- and so does what lies in it
half_in : (a e b c : ℕ) → a ≤ b → c ≤ e → Half a e → Half b c
half_in a e b c l h (inl x) = inl (omega arith)
half_in a e b c l h (inr x) = let x0 = x.0 in let x1 = x.1 in inr (omega arith, omega arith)

module _ {s : Space} {flags : List ℕ} (p : Passes s flags) where
  root_half : (a n : ℕ) → RootRange a n → Half a (a + n)
  root_half a n (inl e) = inl (omega (arith, e.1))
  root_half a n (inr e) = inr (omega (arith, e.0), omega (arith, e.0, e.1))

  -- each region lies in its root's half, since a parent stands before its children
  place_half : (n k : ℕ) → k < n → k < s.regcount → Half (region_at s (region_place s k)).addr ((region_at s (region_place s k)).addr + (region_at s (region_place s k)).size)
  place_half zero k l h = absurd (omega arith)
  place_half (suc n) k l h =
      ⊎_elim
      (λ (e : (region_at s (region_place s k)).parent ≡ 32). root_half _ _ (p.tree.range k h e))
      (λ (e : (region_at s (region_place s k)).parent ≡ 32 → ⊥).
      let m = p.tree.parent k h e in
      let b = m.1 in
      let up = place_half n m.0 (omega arith) (omega arith) in
      let at = p.regions.slot m.0 (omega arith) in
      let i = child_in p (region_place s k) (region_place s m.0) (region_place_lem p k h).0 (region_place_lem p k h).1 at (sym m.2) in
      half_in _ _ _ _ i.0 i.1 up)
      (same? _ _)

  -- by the slot
  region_half : (i : ℕ) → i < 32 → is_region s i ≡ true → Half (region_at s i).addr ((region_at s i).addr + (region_at s i).size)
  region_half i l a =
      let m = p.regions.whole i l a in
      subst (λ (j : ℕ). Half (region_at s j).addr ((region_at s j).addr + (region_at s j).size)) m.2 (place_half (suc m.0) m.0 (omega arith) m.1)

  -- so that each page in a range is an address of the two halves
  pub page_canonical : (r begin end i j : ℕ) → InRange s r begin end i j → Canonical 4 (page_addr s i j)
  page_canonical r begin end i j w =
      let q = p.inner.region i w.slot w.live in
      let m = mapping_in p i (mapping_at s i).region w.slot w.live refl in
      let m0 = m.0 in
      let m1 = m.1 in
      let w0 = w.page in
      let z = (p.paged i w.slot w.live).size in
      by (region_half (mapping_at s i).region q.0 q.1) m0 m1
    where
      by : Half (region_at s (mapping_at s i).region).addr ((region_at s (mapping_at s i).region).addr + (region_at s (mapping_at s i).region).size)
          → (region_at s (mapping_at s i).region).addr ≤ (mapping_at s i).addr
          → (mapping_at s i).addr + (mapping_at s i).size ≤ (region_at s (mapping_at s i).region).addr + (region_at s (mapping_at s i).region).size → Canonical 4 (page_addr s i j)
      by (inl h) a b = let w0 = w.page in inl (omega arith)
      by (inr h) a b = let w0 = w.page in let h0 = h.0 in let h1 = h.1 in inr (omega arith, omega arith)

-- the pages of a mapping, Q telling what an entry gives for their new flags
module _ (base used access : ℕ) (Q C : ℕ → Type 0) (canonical : (v : ℕ) → C v → Canonical 4 v) (m : Mapping) (j first : ℕ) where
  -- one page
  page_step : (t : Lent) → Good t.pool base used → (i : ℕ) → C (m.addr + i * 4096) → Q (granted (with_rights (page_at t.flags j i) access))
      → Step Q base (m.addr + i * 4096) t.pool (page_done t (base / 4096) m j access i).pool
  unfolding page_done
  page_step t G i c fit = step t.pool base used G (m.addr + i * 4096) (with_rights (page_at t.flags j i) access) Q (canonical _ c) fit

  -- the n pages from the first on are such, and in the slot
  pub record Run (t : Lent) (n : ℕ) : Type 0 where
    pub room : first + n ≤ 512
    pub all : (i : ℕ) → first ≤ i → i < first + n → C (m.addr + i * 4096)
    pub fits : (i : ℕ) → first ≤ i → i < first + n → Q (granted (with_rights (page_at t.flags j i) access))

  less : (t : Lent) (n : ℕ) → Run t (suc n) → Run t n
  less t n R = let r = R.room in record { room = omega arith; all = λ i l h. R.all i l (omega arith); fits = λ i l h. R.fits i l (omega arith) }

  -- the last of them is yet to be done, and has its flags
  last_step : (t : Lent) → Good t.pool base used → (n : ℕ) → Run t (suc n)
      → Step Q base (m.addr + (first + n) * 4096) (pages_done t (base / 4096) m j access first n).pool (page_done (pages_done t (base / 4096) m j access first n) (base / 4096) m j access (first + n)).pool
  last_step t G n R =
      let r = R.room in
      page_step (pages_done t (base / 4096) m j access first n) ((pages_kept base used t m j access first n).good G) (first + n) (R.all (first + n) (omega arith) (omega arith))
      (subst (λ (y : ℕ). Q (granted (with_rights y access))) (sym (pages_stay base m j access first t n j (first + n) (omega arith) (omega arith) (λ a. let a2 = a.2 in omega arith)))
      (R.fits (first + n) (omega arith) (omega arith)))

  -- all of them
  pub pages_alike : (t : Lent) → Good t.pool base used → (n : ℕ) → Run t n → Alike Q base C t.pool (pages_done t (base / 4096) m j access first n).pool
  unfolding pages_done
  pages_alike t G zero R = alike_none Q base C canonical t.pool
  pages_alike t G (suc n) R =
      let u = pages_done t (base / 4096) m j access first n in
      alike_then Q base C canonical t.pool u.pool _ (pages_alike t G n (less t n R))
      (alike_step Q base C canonical (m.addr + (first + n) * 4096) u.pool _ (R.all (first + n) (omega arith) (omega arith)) (last_step t G n R))

  -- an address whose leaf is over one of them has such flags then
  pub pages_given : (t : Lent) → Good t.pool base used → (n : ℕ) → Run t n → (i x l w : ℕ) → first ≤ i → i < first + n → Canonical 4 x
      → shows_in t.pool base (m.addr + i * 4096) ≡ view l w → x86.kind l w ≡ leaf → x / span l ≡ (m.addr + i * 4096) / span l
      → Given Q (shows_in (pages_done t (base / 4096) m j access first n).pool base x)
  unfolding pages_done
  pages_given t G zero R i x l w a b cx e k z = absurd (omega arith)
  pages_given t G (suc n) R i x l w a b cx e k z =
      let u = pages_done t (base / 4096) m j access first n in
      let last = last_step t G n R in
      ⊎_elim
      (λ (q : i ≡ first + n).
      let was = carried Q _ _ l w ((pages_alike t G n (less t n R)).like (m.addr + i * 4096) (canonical _ (R.all i a b))) e k in
      last.near x l was.0 (subst (λ (y : ℕ). shows_in u.pool base (m.addr + y * 4096) ≡ view l was.0) q was.1) was.2 (subst (λ (y : ℕ). x / span l ≡ (m.addr + y * 4096) / span l) q z))
      (λ (q : i ≡ first + n → ⊥). given_stays Q _ _ (last.like x cx) (pages_given t G n (less t n R) i x l w a (omega arith) cx e k z))
      (same? i (first + n))

-- the address v is that of a page in the range; of one of the mapping at place k
abbrev pub Page : Space → ℕ → ℕ → ℕ → ℕ → Type 0
Page s r begin end v = (i : ℕ) × (j : ℕ) × InRange s r begin end i j × (page_addr s i j ≡ v)

abbrev PageAt : Space → ℕ → ℕ → ℕ → ℕ → ℕ → Type 0
PageAt s r begin end k v = (j : ℕ) × InRange s r begin end (mapping_place s k) j × (page_addr s (mapping_place s k) j ≡ v)

-- whatever the flags are
abbrev pub Any : ℕ → Type 0
Any n = Unit {0}

-- the mappings of a region
module _ (s : Space) (f : List ℕ) (g : Passes s f) (base used r begin end access : ℕ) (run : begin ≤ end) (low_end : begin % 4096 ≡ 0) (high_end : end % 4096 ≡ 0) where
  -- each page is an address of the two halves
  canonical : (v : ℕ) → Page s r begin end v → Canonical 4 v
  canonical v c = subst (Canonical 4) c.3 (page_canonical g r begin end c.0 c.1 c.2)

  wider : (k v : ℕ) → PageAt s r begin end k v → Page s r begin end v
  wider k v c = (mapping_place s k, c.0, c.1, c.2)

  canonical_at : (k v : ℕ) → PageAt s r begin end k v → Canonical 4 v
  canonical_at k v c = canonical v (wider k v c)

  -- the changed pages of a touching mapping are such
  its_run : (Q : ℕ → Type 0) (t : Lent) (k : ℕ) → k < s.mapcount → touching (mapping_at s (mapping_place s k)) r begin end ≡ true
      → ((i : ℕ) → i < (mapping_at s (mapping_place s k)).size / 4096 → Q (granted (with_rights (page_at t.flags (mapping_place s k) i) access)))
      → Run base used access Q (PageAt s r begin end k) (canonical_at k) (mapping_at s (mapping_place s k)) (mapping_place s k) (changed (mapping_at s (mapping_place s k)) begin end).first t
      (changed (mapping_at s (mapping_place s k)) begin end).count
  its_run Q t k l e fit = record {
    room = few s f g base r begin end access run low_end high_end k l e;
    all = λ i a b. (i, at i a b, refl);
    fits = λ i a b. fit i (at i a b).page;
  }
    where
      at : (i : ℕ) → (changed (mapping_at s (mapping_place s k)) begin end).first ≤ i
          → i < (changed (mapping_at s (mapping_place s k)) begin end).first + (changed (mapping_at s (mapping_place s k)) begin end).count → InRange s r begin end (mapping_place s k) i
      at i a b = in_range s f g base r begin end access run low_end high_end k (mapping_place s k) i l e (refl, a, b)

  -- one mapping, then those at the first n places
  place_alike : (t : Lent) → Good t.pool base used → (k : ℕ) → k < s.mapcount
      → Alike Any base (PageAt s r begin end k) t.pool (mapping_done t (base / 4096) s r begin end access k).pool
  unfolding mapping_done
  place_alike t G k l =
      ⊎_elim
      (λ (e : touching (mapping_at s (mapping_place s k)) r begin end ≡ true). rw e
      (pages_alike base used access Any (PageAt s r begin end k) (canonical_at k) (mapping_at s (mapping_place s k)) (mapping_place s k) (changed (mapping_at s (mapping_place s k)) begin end).first t G
      (changed (mapping_at s (mapping_place s k)) begin end).count (its_run Any t k l e (λ i h. tt))))
      (λ (e : touching (mapping_at s (mapping_place s k)) r begin end ≡ false). rw e (alike_none Any base (PageAt s r begin end k) (canonical_at k) t.pool))
      (tell (touching (mapping_at s (mapping_place s k)) r begin end))

  pub places_alike : (t : Lent) → Good t.pool base used → (n : ℕ) → n ≤ s.mapcount
      → Alike Any base (Page s r begin end) t.pool (mappings_done t (base / 4096) s r begin end access n).pool
  unfolding mappings_done
  places_alike t G zero l = alike_none Any base (Page s r begin end) canonical t.pool
  places_alike t G (suc n) l =
      alike_then Any base (Page s r begin end) canonical t.pool (mappings_done t (base / 4096) s r begin end access n).pool _ (places_alike t G n (omega arith))
      (alike_wider Any base (PageAt s r begin end n) (canonical_at n) (Page s r begin end) (wider n) _ _
      (place_alike (mappings_done t (base / 4096) s r begin end access n) ((mappings_kept base used t s r begin end access n).good G) n (omega arith)))

  -- the leaf of x is over page j of the mapping at place k
  pub record Under (p : List ℕ) (k j x : ℕ) : Type 0 where
    pub page : InRange s r begin end (mapping_place s k) j
    pub canonical : Canonical 4 x
    pub l : ℕ
    pub w : ℕ
    pub shows : shows_in p base (page_addr s (mapping_place s k) j) ≡ view l w
    pub leaf : x86.kind l w ≡ leaf
    pub near : x / span l ≡ page_addr s (mapping_place s k) j / span l

  -- it stays so
  under_then : (Q : ℕ → Type 0) (p q : List ℕ) → ((x : ℕ) → Canonical 4 x → Like Q (shows_in p base x) (shows_in q base x)) → (k j x : ℕ) → Under p k j x → Under q k j x
  under_then Q p q like k j x U =
      let was = carried Q _ _ U.l U.w (like (page_addr s (mapping_place s k) j) (page_canonical g r begin end (mapping_place s k) j U.page)) U.shows U.leaf in
      record { page = U.page; canonical = U.canonical; l = U.l; w = was.0; shows = was.1; leaf = was.2; near = U.near }

  -- once that mapping is done, x has such flags
  place_given : (Q : ℕ → Type 0) (t : Lent) → Good t.pool base used → (k : ℕ) → k < s.mapcount
      → ((i : ℕ) → i < (mapping_at s (mapping_place s k)).size / 4096 → Q (granted (with_rights (page_at t.flags (mapping_place s k) i) access)))
      → (j x : ℕ) → Under t.pool k j x → Given Q (shows_in (mapping_done t (base / 4096) s r begin end access k).pool base x)
  unfolding mapping_done
  place_given Q t G k h fit j x U =
      let y = range_touches s f g base r begin end access run low_end high_end (mapping_place s k) j U.page in
      let a = among s f g base r begin end access run low_end high_end (mapping_place s k) j U.page in
      rw y
      (pages_given base used access Q (PageAt s r begin end k) (canonical_at k) (mapping_at s (mapping_place s k)) (mapping_place s k) (changed (mapping_at s (mapping_place s k)) begin end).first t G
      (changed (mapping_at s (mapping_place s k)) begin end).count (its_run Q t k h y fit) j x U.l U.w a.1 a.2 U.canonical U.shows U.leaf U.near)

  -- its flags are those of the last mapping in the list with a page under that leaf
  pub places_last : (p : List ℕ) → Good p base used → (n k : ℕ) → n ≤ s.mapcount → k < n → (j x : ℕ) → Under p k j x
      → ((m i : ℕ) → k < m → m < n → InRange s r begin end (mapping_place s m) i → Over p base (page_addr s (mapping_place s m) i) x → ⊥)
      → Given (λ h. h ≡ granted (with_rights (page_at f (mapping_place s k) j) access)) (shows_in (mappings_done (lent f p) (base / 4096) s r begin end access n).pool base x)
  unfolding mappings_done
  places_last p G zero k h d j x U later = absurd (omega arith)
  places_last p G (suc n) k h d j x U later =
      let u = mappings_done (lent f p) (base / 4096) s r begin end access n in
      let G' = (mappings_kept base used (lent f p) s r begin end access n).good G in
      let A = places_alike (lent f p) G n (omega arith) in
      ⊎_elim
      (λ (y : k ≡ n).
      place_given (λ h. h ≡ granted (with_rights (page_at f (mapping_place s k) j) access)) u G' n (omega arith)
      (subst (λ (q : ℕ). (i : ℕ) → i < (mapping_at s (mapping_place s q)).size / 4096 → granted (with_rights (page_at u.flags (mapping_place s q) i) access) ≡ granted (with_rights (page_at f (mapping_place s k) j) access)) y
      (same_flags u k (omega arith) U.page (λ i l. places_stay s f g base r begin end access run low_end high_end (lent f p) n (mapping_place s k) i (omega arith) l (λ q c e w. g.mappings.once q k (omega arith) (omega arith) (sym e)))))
      j x (subst (λ (i : ℕ). Under u.pool i j x) y (under_then Any _ _ A.like k j x U)))
      (λ (y : k ≡ n → ⊥).
      given_stays (λ h. h ≡ granted (with_rights (page_at f (mapping_place s k) j) access)) _ _
      (same ((place_alike u G' n (omega arith)).far x U.canonical (λ v c o.
      let b = level_back Any _ _ o.0 o.1 (A.like v (canonical_at n v c)) o.2 in
      later n c.0 (omega arith) (omega arith) c.1 (subst (λ (z : ℕ). Over p base z x) (sym c.2) (o.0, b.0, b.1, o.3)))))
      (places_last p G n k (omega arith) (omega arith) j x U (λ m i a b. later m i a (omega arith))))
      (same? k n)
    where
      -- all pages of a mapping that is yet to be done get the same but for their rights
      same_flags : (u : Lent) (k : ℕ) → k < s.mapcount → InRange s r begin end (mapping_place s k) j
          → ((i : ℕ) → i < 512 → page_at u.flags (mapping_place s k) i ≡ page_at f (mapping_place s k) i)
          → (i : ℕ) → i < (mapping_at s (mapping_place s k)).size / 4096 → granted (with_rights (page_at u.flags (mapping_place s k) i) access) ≡ granted (with_rights (page_at f (mapping_place s k) j) access)
      same_flags u k l w stay i h =
          let q = mapping_place_lem g k l in
          let o = g.pages (mapping_place s k) q.0 in
          let z = (g.paged (mapping_place s k) q.0 q.1).few in
          ap (λ (y : ℕ). granted (with_rights y access)) (stay i (omega arith))
          ∙ ap granted (alike_now (page_at f (mapping_place s k) i) (page_at f (mapping_place s k) j) access (o.known i h) (o.known j w.page) (o.alike i h ∙ sym (o.alike j w.page)))

-- the last number below n that has P, where one has
last_of : (P : ℕ → Type 0) → ((k : ℕ) → P k ⊎ (P k → ⊥)) → (n k : ℕ) → k < n → P k → (m : ℕ) × (m < n) × P m × ((q : ℕ) → m < q → q < n → P q → ⊥)
last_of P dec zero k l h = absurd (omega arith)
last_of P dec (suc n) k l h =
    ⊎_elim
    (λ (y : P n). (n, omega arith, y, λ q a b. absurd (omega arith)))
    (λ (y : P n → ⊥).
    let z : (k ≡ n → ⊥) = λ e. y (subst P e h) in
    let w = last_of P dec n k (omega arith) h in
    let w1 = w.1 in
    (w.0, omega arith, w.2, λ q a b c. ⊎_elim (λ (e : q ≡ n). y (subst P e c)) (λ (e : q ≡ n → ⊥). w.3 q a (omega arith) c) (same? q n)))
    (dec n)

-- one number below n that has P, or none
one_of : (P : ℕ → Type 0) → ((k : ℕ) → P k ⊎ (P k → ⊥)) → (n : ℕ) → ((k : ℕ) × P k) ⊎ ((k : ℕ) → k < n → P k → ⊥)
one_of P dec zero = inr (λ k l h. absurd (omega arith))
one_of P dec (suc n) =
    ⊎_elim
    (λ (y : P n). inl (n, y))
    (λ (y : P n → ⊥). ⊎_elim
    (λ w. inl w)
    (λ (none : (k : ℕ) → k < n → P k → ⊥). inr (λ k l h. ⊎_elim (λ (e : k ≡ n). y (subst P e h)) (λ (e : k ≡ n → ⊥). none k (omega arith) h) (same? k n)))
    (one_of P dec n))
    (dec n)

-- the entry over v is over x, or it is not
over? : (p : List ℕ) (base v x : ℕ) → Over p base v x ⊎ (Over p base v x → ⊥)
over? p base v x = go (shows_in p base v) refl
  where
    go : (y : View) → shows_in p base v ≡ y → Over p base v x ⊎ (Over p base v x → ⊥)
    go (view l w) e =
        ⊎_elim
        (λ (n : x / span l ≡ v / span l). inl (l, w, e, n))
        (λ (n : x / span l ≡ v / span l → ⊥). inr (λ o.
        let q : view o.0 o.1 ≡ view l w = sym o.2 ∙ e in
        let q0 : o.0 ≡ l = cc in
        n (subst (λ (i : ℕ). x / span i ≡ v / span i) q0 o.3)))
        (same? (x / span l) (v / span l))

-- where some page in the range lies under the entry over x, one is the last
module _ (s : Space) (f : List ℕ) (g : Passes s f) (p : List ℕ) (base r begin end x : ℕ) where
  -- page j of the mapping at place k is such
  abbrev PageOver : ℕ → ℕ → Type 0
  PageOver k j = (k < s.mapcount) × InRange s r begin end (mapping_place s k) j × Over p base (page_addr s (mapping_place s k) j) x

  page_over? : (k j : ℕ) → PageOver k j ⊎ (PageOver k j → ⊥)
  page_over? k j =
      ⊎_elim
      (λ (l : k < s.mapcount). ⊎_elim
      (λ (w : InRange s r begin end (mapping_place s k) j). ⊎_elim
      (λ (o : Over p base (page_addr s (mapping_place s k) j) x). inl (l, w, o))
      (λ (o : Over p base (page_addr s (mapping_place s k) j) x → ⊥). inr (λ c. o c.2))
      (over? p base (page_addr s (mapping_place s k) j) x))
      (λ (w : InRange s r begin end (mapping_place s k) j → ⊥). inr (λ c. w c.1))
      (in_range? s r begin end (mapping_place s k) j (mapping_place_lem g k l).0))
      (λ (l : s.mapcount ≤ k). inr (λ c. let z = c.0 in omega arith))
      (below? k s.mapcount)

  place_over? : (k : ℕ) → ((j : ℕ) × PageOver k j) ⊎ ((j : ℕ) × PageOver k j → ⊥)
  place_over? k =
      ⊎_elim
      (λ w. inl w)
      (λ (none : (j : ℕ) → j < 512 → PageOver k j → ⊥). inr (λ c.
      let w = c.1.1 in
      let z = (g.paged (mapping_place s k) w.slot w.live).few in
      let y = w.page in
      none c.0 (omega arith) c.1))
      (one_of (PageOver k) (page_over? k) 512)

  pub last_over : (k j : ℕ) → PageOver k j → (m : ℕ) × (i : ℕ) × LastOver s p base r begin end x m i
  last_over k j c =
      let w = last_of (λ i. (j : ℕ) × PageOver i j) place_over? s.mapcount k c.0 (j, c) in
      let o = w.2.1 in
      (w.0, w.2.0, record { place = w.1; page = o.1; over = o.2; last = λ m i a b d e. w.3 m a b (i, (b, d, e)) })
