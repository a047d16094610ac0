-- Parts that make up the whole length leave no gap: no two mappings of a region overlap, so that the parts in a range are at most its length, and a byte that none
-- holds would make them less.
use Prim.Native.Nat.{ℕ, zero, suc, ◌+◌, ◌-◌, ◌≤◌, ◌<◌}
use mathlib.Core.Path.{◌≡◌, refl, sym, ◌∙◌, ap, subst}
use mathlib.Core.Bool.{Bool, true, false}
use mathlib.Core.List.{List}
use mathlib.Core.Logic.{◌⊎◌, inl, inr, ⊎_elim}
use native.Mathlib.Omega.{arith}
use lib.Dec.{eqb}
use borrow.Author.Tests.{eqb-true, eq-eqb}
use Rattle.paging.specs.Choice.{pick}
use Rattle.paging.proofs.Cases.{same?, below?, clash, no_truth}
use Rattle.scan.specs.Scan.{first}
use Rattle.scan.proofs.Scans.{tell, first_passes, before_first}
use Rattle.space.specs.Range.{contains}
use Rattle.space.specs.Space.{mapping_at, mapping_place}
use Rattle.space.specs.Passes.{Passes}
use Rattle.space.specs.declared.Mapping.{Mapping}
use Rattle.space.specs.declared.Space.{Space}
use Rattle.space.proofs.Facts.{mapping_place_lem}
use Rattle.space.proofs.Ranges as ranges
use Rattle.vmar_protect.specs.Protect.{touching, part_from, part_to, part_in, total}
use Rattle.vmar_protect_laws.specs.Answers.{HeldIn}
use Rattle.vmar_protect.proofs.Parts.{touch_means, touch_of, from_is, to_is, part_there, part_none}

-- a part by where the mapping lies
part_of_lem : (m : Mapping) (r a b : ℕ) → a ≤ b → m.region ≡ r → part_in m r a b ≡ part_to m b - part_from m a
part_of_lem m r a b h e =
    ⊎_elim
    (λ (t : touching m r a b ≡ true). sym (part_there m r a b t))
    (λ (t : touching m r a b ≡ false). sym (part_none m r a b t) ∙ none t)
    (tell (touching m r a b))
  where
    none : touching m r a b ≡ false → 0 ≡ part_to m b - part_from m a
    none t =
        let f = from_is m a in
        let f0 = f.0 in
        let f1 = f.1 in
        let u = to_is m b in
        let u0 = u.0 in
        let u1 = u.1 in
        ⊎_elim
        (λ (l : m.addr + m.size < a). omega arith)
        (λ (l : a ≤ m.addr + m.size). ⊎_elim (λ (k : b < m.addr). omega arith) (λ (k : m.addr ≤ b). clash _ (touch_of _ r _ _ a b e l k) t) (below? b m.addr))
        (below? (m.addr + m.size) a)

-- a mapping of another region adds nothing
other_none : (m : Mapping) (r a b : ℕ) → (m.region ≡ r → ⊥) → part_in m r a b ≡ 0
other_none m r a b d = ⊎_elim (λ (t : touching m r a b ≡ true). absurd (d (touch_means _ r _ _ a b t).0)) (λ (t : touching m r a b ≡ false). sym (part_none m r a b t)) (tell (touching m r a b))

-- a mapping that ends before x has its part before it, one that begins at or after y behind it
part_split : (m : Mapping) (r a x y b : ℕ) → a ≤ x → x ≤ y → y ≤ b → (m.addr + m.size ≤ x) ⊎ (y ≤ m.addr) → part_in m r a b ≡ part_in m r a x + part_in m r y b
part_split m r a x y b h i j side = ⊎_elim own other (same? m.region r)
  where
    other : (m.region ≡ r → ⊥) → part_in m r a b ≡ part_in m r a x + part_in m r y b
    other d = omega (arith, other_none m r a b d, other_none m r a x d, other_none m r y b d)

    own : m.region ≡ r → part_in m r a b ≡ part_in m r a x + part_in m r y b
    own e =
        let p = part_of_lem m r a b (omega arith) e in
        let q = part_of_lem m r a x h e in
        let w = part_of_lem m r y b j e in
        let fa = from_is m a in
        let fy = from_is m y in
        let tb = to_is m b in
        let tx = to_is m x in
        let fa0 = fa.0 in
        let fa1 = fa.1 in
        let fy0 = fy.0 in
        let fy1 = fy.1 in
        let tb0 = tb.0 in
        let tb1 = tb.1 in
        let tx0 = tx.0 in
        let tx1 = tx.1 in
        ⊎_elim
        (λ (z : m.addr + m.size ≤ x).
        let same : part_to m b ≡ part_to m x = ⊎_elim (λ (s : part_to m b ≡ m.addr + m.size). ⊎_elim (λ (t : part_to m x ≡ m.addr + m.size). s ∙ sym t) (λ (t : part_to m x ≡ x). omega arith) tx.2) (λ (s : part_to m b ≡ b). ⊎_elim (λ (t : part_to m x ≡ m.addr + m.size). omega arith) (λ (t : part_to m x ≡ x). omega arith) tx.2) tb.2 in
        omega arith)
        (λ (z : y ≤ m.addr).
        let same : part_from m a ≡ part_from m y = ⊎_elim (λ (s : part_from m a ≡ m.addr). ⊎_elim (λ (t : part_from m y ≡ m.addr). s ∙ sym t) (λ (t : part_from m y ≡ y). omega arith) fy.2) (λ (s : part_from m a ≡ a). ⊎_elim (λ (t : part_from m y ≡ m.addr). omega arith) (λ (t : part_from m y ≡ y). omega arith) fy.2) fa.2 in
        omega arith)
        side

-- the parts on two sides of x make up the part
part_add : (m : Mapping) (r a x b : ℕ) → a ≤ x → x ≤ b → part_in m r a b ≡ part_in m r a x + part_in m r x b
part_add m r a x b h j =
    ⊎_elim
    (λ (l : m.addr < x). ⊎_elim
    (λ (k : x < m.addr + m.size). ⊎_elim (λ (e : m.region ≡ r). within l k e) (λ (d : m.region ≡ r → ⊥). omega (arith, other_none m r a b d, other_none m r a x d, other_none m r x b d)) (same? m.region r))
    (λ (k : m.addr + m.size ≤ x). part_split m r a x x b h (omega arith) j (inl k))
    (below? x (m.addr + m.size)))
    (λ (l : x ≤ m.addr). part_split m r a x x b h (omega arith) j (inr l))
    (below? m.addr x)
  where
    within : m.addr < x → x < m.addr + m.size → m.region ≡ r → part_in m r a b ≡ part_in m r a x + part_in m r x b
    within l k e =
        let p = part_of_lem m r a b (omega arith) e in
        let q = part_of_lem m r a x h e in
        let w = part_of_lem m r x b j e in
        let fa = from_is m a in
        let fa2 : part_from m a ≤ x = ⊎_elim (λ (z : part_from m a ≡ m.addr). omega arith) (λ (z : part_from m a ≡ a). omega arith) fa.2 in
        let fx : part_from m x ≡ x = ⊎_elim (λ (z : part_from m x ≡ m.addr). let y = (from_is m x).1 in omega arith) (λ (z : part_from m x ≡ x). z) (from_is m x).2 in
        let tb : x ≤ part_to m b = ⊎_elim (λ (z : part_to m b ≡ m.addr + m.size). omega arith) (λ (z : part_to m b ≡ b). omega arith) (to_is m b).2 in
        let tx : part_to m x ≡ x = ⊎_elim (λ (z : part_to m x ≡ m.addr + m.size). let y = (to_is m x).1 in omega arith) (λ (z : part_to m x ≡ x). z) (to_is m x).2 in
        omega arith

-- so do their totals
total_add : (s : Space) (r n a x b : ℕ) → a ≤ x → x ≤ b → total s r a b n ≡ total s r a x n + total s r x b n
unfolding total
total_add s r zero a x b h j = refl
total_add s r (suc n) a x b h j = let p = total_add s r n a x b h j in let q = part_add (mapping_at s (mapping_place s n)) r a x b h j in omega arith

-- each part is in the total
total_least : (s : Space) (r a b n k : ℕ) → k < n → part_in (mapping_at s (mapping_place s k)) r a b ≤ total s r a b n
unfolding total
total_least s r a b zero k l = absurd (omega arith)
total_least s r a b (suc n) k l =
    ⊎_elim
    (λ (e : k ≡ n). let q = ap (λ (i : ℕ). part_in (mapping_at s (mapping_place s i)) r a b) e in omega arith)
    (λ (e : k ≡ n → ⊥). let q = total_least s r a b n k (omega arith) in omega arith)
    (same? k n)

module _ (s : Space) (f : List ℕ) (g : Passes s f) (r : ℕ) where
  -- the total by a gap [x, y) that no mapping of the region at the places before n meets
  total_split : (n a x y b : ℕ) → a ≤ x → x ≤ y → y ≤ b
      → ((k : ℕ) → k < n → (mapping_at s (mapping_place s k)).region ≡ r → ((mapping_at s (mapping_place s k)).addr + (mapping_at s (mapping_place s k)).size ≤ x) ⊎ (y ≤ (mapping_at s (mapping_place s k)).addr))
      → total s r a b n ≡ total s r a x n + total s r y b n
  unfolding total
  total_split zero a x y b h i j apart = refl
  total_split (suc n) a x y b h i j apart =
      let p = total_split n a x y b h i j (λ k l e. apart k (omega arith) e) in
      let m : Mapping = mapping_at s (mapping_place s n) in
      let q : part_in m r a b ≡ part_in m r a x + part_in m r y b =
      ⊎_elim
      (λ (e : m.region ≡ r). part_split m r a x y b h i j (apart n (omega arith) e))
      (λ (d : m.region ≡ r → ⊥). omega (arith, other_none m r a b d, other_none m r a x d, other_none m r y b d))
      (same? m.region r) in
      omega arith

  -- two mappings at different places
  apart_at : (j k : ℕ) → j < s.mapcount → k < s.mapcount → (j ≡ k → ⊥) → (mapping_at s (mapping_place s j)).region ≡ r → (mapping_at s (mapping_place s k)).region ≡ r
      → ((mapping_at s (mapping_place s k)).addr + (mapping_at s (mapping_place s k)).size ≤ (mapping_at s (mapping_place s j)).addr)
      ⊎ ((mapping_at s (mapping_place s j)).addr + (mapping_at s (mapping_place s j)).size ≤ (mapping_at s (mapping_place s k)).addr)
  apart_at j k l h d e i =
      let p = mapping_place_lem g j l in
      let q = mapping_place_lem g k h in
      ⊎_elim
      (λ (o : mapping_place s k < mapping_place s j). ranges.apart _ _ _ _ (g.apart.mappings (mapping_place s j) (mapping_place s k) o p.0 p.1 q.1 (e ∙ sym i)))
      (λ (o : mapping_place s j ≤ mapping_place s k). ⊎_elim
      (λ (z : mapping_place s j ≡ mapping_place s k). absurd (⊎_elim (λ (y : j < k). g.mappings.once j k y h z) (λ (y : k ≤ j). g.mappings.once k j (omega arith) l (sym z)) (below? j k)))
      (λ (z : mapping_place s j ≡ mapping_place s k → ⊥).
      ⊎_elim inr inl (ranges.apart _ _ _ _ (g.apart.mappings (mapping_place s k) (mapping_place s j) (omega arith) q.0 q.1 p.1 (i ∙ sym e))))
      (same? (mapping_place s j) (mapping_place s k)))
      (below? (mapping_place s k) (mapping_place s j))

  -- one more mapping: the others' parts lie on its two sides
  one_more : (n a b : ℕ) → n < s.mapcount → a ≤ b → ((x y : ℕ) → x ≤ y → total s r x y n ≤ y - x) → total s r a b n + part_in (mapping_at s (mapping_place s n)) r a b ≤ b - a
  one_more n a b l h most = by (same? (mapping_at s (mapping_place s n)).region r)
    where
      m : Mapping
      m = mapping_at s (mapping_place s n)

      cut : (k : ℕ) → k < n → m.region ≡ r → (mapping_at s (mapping_place s k)).region ≡ r
          → ((mapping_at s (mapping_place s k)).addr + (mapping_at s (mapping_place s k)).size ≤ part_from m a) ⊎ (part_to m b ≤ (mapping_at s (mapping_place s k)).addr)
      cut k u e i =
          let fa = from_is m a in
          let fa0 = fa.0 in
          let tb = to_is m b in
          let tb0 = tb.0 in
          ⊎_elim
          (λ (z : (mapping_at s (mapping_place s k)).addr + (mapping_at s (mapping_place s k)).size ≤ m.addr). inl (omega arith))
          (λ (z : m.addr + m.size ≤ (mapping_at s (mapping_place s k)).addr). inr (omega arith))
          (apart_at n k l (omega arith) (λ q. omega arith) e i)

      by : (m.region ≡ r) ⊎ (m.region ≡ r → ⊥) → total s r a b n + part_in m r a b ≤ b - a
      by (inr d) = let p = most a b h in omega (arith, other_none m r a b d)
      by (inl e) =
          let w = part_of_lem m r a b h e in
          let fa = from_is m a in
          let fa0 = fa.0 in
          let fa1 = fa.1 in
          let tb = to_is m b in
          let tb0 = tb.0 in
          let tb1 = tb.1 in
          ⊎_elim
          (λ (c : part_from m a < part_to m b).
          let q = total_split n a (part_from m a) (part_to m b) b fa1 (omega arith) tb1 (λ k u i. cut k u e i) in
          let x = most a (part_from m a) fa1 in
          let y = most (part_to m b) b tb1 in
          omega arith)
          (λ (c : part_to m b ≤ part_from m a). let p = most a b h in omega arith)
          (below? (part_from m a) (part_to m b))

  -- the parts in a range are at most its length
  total_most : (n a b : ℕ) → n ≤ s.mapcount → a ≤ b → total s r a b n ≤ b - a
  unfolding total
  total_most zero a b l h = omega arith
  total_most (suc n) a b l h = one_more n a b (omega arith) h (λ x y i. total_most n x y (omega arith) i)

  -- the mapping at place k is one of the region and holds x
  abbrev holds_at : ℕ → ℕ → Bool
  holds_at x k = pick (eqb (mapping_at s (mapping_place s k)).region r) (contains (mapping_at s (mapping_place s k)).addr (mapping_at s (mapping_place s k)).size x) false

  -- both parts of that test
  holds_both : (x k : ℕ) → holds_at x k ≡ true → ((mapping_at s (mapping_place s k)).region ≡ r) × (contains (mapping_at s (mapping_place s k)).addr (mapping_at s (mapping_place s k)).size x ≡ true)
  holds_both x k e =
      ⊎_elim
      (λ (t : eqb (mapping_at s (mapping_place s k)).region r ≡ true). (eqb-true _ _ t, rw t at e))
      (λ (t : eqb (mapping_at s (mapping_place s k)).region r ≡ false). no_truth (rw t at e))
      (tell (eqb (mapping_at s (mapping_place s k)).region r))

  -- by the slot, and by the place
  at_place : (x k : ℕ) → k < s.mapcount → (mapping_at s (mapping_place s k)).region ≡ r → contains (mapping_at s (mapping_place s k)).addr (mapping_at s (mapping_place s k)).size x ≡ true
      → HeldIn s r x
  at_place x k l e c = let q = mapping_place_lem g k l in record { mapping = mapping_place s k; slot = q.0; live = q.1; mine = e; holds = c }

  place_of : (x : ℕ) → HeldIn s r x
      → (k : ℕ) × (k < s.mapcount) × ((mapping_at s (mapping_place s k)).region ≡ r) × (contains (mapping_at s (mapping_place s k)).addr (mapping_at s (mapping_place s k)).size x ≡ true)
  place_of x h =
      let q = g.mappings.whole h.mapping h.slot h.live in (
        q.0,
        q.1,
        subst (λ (i : ℕ). (mapping_at s i).region ≡ r) (sym q.2) h.mine,
        subst (λ (i : ℕ). contains (mapping_at s i).addr (mapping_at s i).size x ≡ true) (sym q.2) h.holds,
      )

  -- a mapping of the region holds x, or none does
  pub held? : (x : ℕ) → HeldIn s r x ⊎ (HeldIn s r x → ⊥)
  held? x =
      ⊎_elim
      (λ (c : first (holds_at x) 0 s.mapcount < s.mapcount).
      let q = holds_both x (first (holds_at x) 0 s.mapcount) (first_passes (holds_at x) s.mapcount c) in
      inl (at_place x (first (holds_at x) 0 s.mapcount) c q.0 q.1))
      (λ (c : s.mapcount ≤ first (holds_at x) 0 s.mapcount). inr (λ h.
      let q = place_of x h in
      let l = q.1 in
      clash _ q.3 (rw (eq-eqb (mapping_at s (mapping_place s q.0)).region r q.2) at (before_first (holds_at x) s.mapcount q.0 (omega arith)))))
      (below? (first (holds_at x) 0 s.mapcount) s.mapcount)

  -- where none does, each lies before or behind it
  beside : (x k : ℕ) → (HeldIn s r x → ⊥) → k < s.mapcount → (mapping_at s (mapping_place s k)).region ≡ r
      → ((mapping_at s (mapping_place s k)).addr + (mapping_at s (mapping_place s k)).size ≤ x) ⊎ (x + 1 ≤ (mapping_at s (mapping_place s k)).addr)
  beside x k none l i =
      ⊎_elim
      (λ (c : x < (mapping_at s (mapping_place s k)).addr). inr (omega arith))
      (λ (c : (mapping_at s (mapping_place s k)).addr ≤ x). ⊎_elim
      (λ (d : x < (mapping_at s (mapping_place s k)).addr + (mapping_at s (mapping_place s k)).size). absurd (none (at_place x k l i (ranges.holds_of _ _ _ c d))))
      (λ (d : (mapping_at s (mapping_place s k)).addr + (mapping_at s (mapping_place s k)).size ≤ x). inl d)
      (below? x ((mapping_at s (mapping_place s k)).addr + (mapping_at s (mapping_place s k)).size)))
      (below? x (mapping_at s (mapping_place s k)).addr)

  -- a total of the whole length covers each address
  pub covers : (begin len x : ℕ) → total s r begin (begin + len) s.mapcount ≡ len → begin ≤ x → x < begin + len → HeldIn s r x
  covers begin len x e l h =
      ⊎_elim
      (λ (c : HeldIn s r x). c)
      (λ (none : HeldIn s r x → ⊥).
      let q = total_split s.mapcount begin x (x + 1) (begin + len) l (omega arith) (omega arith) (λ k u i. beside x k none u i) in
      let a = total_most s.mapcount begin x (omega arith) l in
      let b = total_most s.mapcount (x + 1) (begin + len) (omega arith) (omega arith) in
      absurd (omega arith))
      (held? x)

  -- and where each address is held, it is the whole length: an address adds one
  one_byte : (x : ℕ) → HeldIn s r x → 1 ≤ total s r x (x + 1) s.mapcount
  one_byte x h =
      let q = place_of x h in
      let m : Mapping = mapping_at s (mapping_place s q.0) in
      let c = ranges.holds _ _ _ q.3 in
      let c0 = c.0 in
      let c1 = c.1 in
      let fx : part_from m x ≡ x = ⊎_elim (λ (z : part_from m x ≡ m.addr). let y = (from_is m x).1 in omega arith) (λ (z : part_from m x ≡ x). z) (from_is m x).2 in
      let tx : part_to m (x + 1) ≡ x + 1 = ⊎_elim (λ (z : part_to m (x + 1) ≡ m.addr + m.size). let y = (to_is m (x + 1)).1 in omega arith) (λ (z : part_to m (x + 1) ≡ x + 1). z) (to_is m (x + 1)).2 in
      let w = part_of_lem m r x (x + 1) (omega arith) q.2 in
      let y = total_least s r x (x + 1) s.mapcount q.0 q.1 in
      omega arith

  pub filled : (begin len : ℕ) → ((x : ℕ) → begin ≤ x → x < begin + len → HeldIn s r x) → total s r begin (begin + len) s.mapcount ≡ len
  filled begin zero each = let q = total_most s.mapcount begin (begin + 0) (omega arith) (omega arith) in omega arith
  filled begin (suc n) each =
      let p = filled begin n (λ x l h. each x l (omega arith)) in
      let y = one_byte (begin + n) (each (begin + n) (omega arith) (omega arith)) in
      let q = total_add s r s.mapcount begin (begin + n) (begin + suc n) (omega arith) (omega arith) in
      let e = ap (λ (z : ℕ). total s r (begin + n) z s.mapcount) {x = begin + suc n} {y = begin + n + 1} (omega arith) in
      let t = total_most s.mapcount begin (begin + suc n) (omega arith) (omega arith) in
      omega arith

  -- each address of a range is held, or one is not
  pub gap? : (begin len : ℕ) → ((x : ℕ) → begin ≤ x → x < begin + len → HeldIn s r x) ⊎ ((x : ℕ) × (begin ≤ x) × (x < begin + len) × (HeldIn s r x → ⊥))
  gap? begin zero = inl (λ x l h. absurd (omega arith))
  gap? begin (suc n) = ⊎_elim (λ each. ⊎_elim (λ (y : HeldIn s r (begin + n)). inl (more each y)) (λ (y : HeldIn s r (begin + n) → ⊥). inr (begin + n, omega arith, omega arith, y)) (held? (begin + n)))
      (λ w. let l = w.2 in inr (w.0, w.1, omega arith, w.3)) (gap? begin n)
    where
      more : ((x : ℕ) → begin ≤ x → x < begin + n → HeldIn s r x) → HeldIn s r (begin + n) → (x : ℕ) → begin ≤ x → x < begin + suc n → HeldIn s r x
      more each y x l h = ⊎_elim (λ (z : x ≡ begin + n). subst (HeldIn s r) (sym z) y) (λ (z : x ≡ begin + n → ⊥). each x l (omega arith)) (same? x (begin + n))
