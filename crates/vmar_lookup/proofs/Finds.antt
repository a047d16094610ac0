-- A lookup finds the one mapping that holds the address, wherever in the tree it is.
use Prim.Native.Nat.{ℕ, zero, suc, ◌+◌, ◌≤◌, ◌<◌}
use mathlib.Core.Path.{◌≡◌, refl, sym, ◌∙◌, ap, subst}
use mathlib.Core.Bool.{Bool, true, false}
use mathlib.Core.List.{List}
use mathlib.Core.Logic.{⊎_elim}
use native.Mathlib.Omega.{arith}
use borrow.Author.Tests.{lt-ltb, le-ltb}
use Rattle.std.specs.Prelude.{Ok}
use Rattle.paging.proofs.Cases.{same?, below?, clash}
use Rattle.scan.specs.Scan.{first}
use Rattle.scan.proofs.Scans.{first_passes, before_first}
use Rattle.space.specs.Range.{overlap, contains}
use Rattle.space.specs.Space.{region_at, mapping_at, is_region, region_place, mapping_place}
use Rattle.space.specs.Passes.{Passes}
use Rattle.space.specs.declared.Space.{Space}
use Rattle.space.proofs.Ranges.{apart, inner, holds, holds_of}
use Rattle.space.proofs.Facts.{region_place_lem, mapping_place_lem, child_in}
use Rattle.vmar_lookup.specs.Lookup.{owned, holds_child, child_holding, holds_mapping, step_at, follow, look, Down, Here}
use Rattle.vmar_lookup.specs.Laws.{Holds}
use Rattle.vmar_lookup.proofs.Lookups.{some_depth, downward, at_mapping_lem, owned_is, owned_of}
use Rattle.vmar_lookup.proofs.Depth.{one_place, enough}

-- two ranges that do not overlap hold no address together
pub not_both : (a n b m x : ℕ) → overlap a n b m ≡ false → contains a n x ≡ true → contains b m x ≡ true → ⊥
not_both a n b m x o c d =
    let h = holds a n x c in
    let k = holds b m x d in
    let h0 = h.0 in
    let h1 = h.1 in
    let k0 = k.0 in
    let k1 = k.1 in
    ⊎_elim (λ (l : b + m ≤ a). omega arith) (λ (l : a + n ≤ b). omega arith) (apart a n b m o)

-- where one index alone passes, it is the first
the_first : (q : ℕ → Bool) (n k : ℕ) → k < n → q k ≡ true → ((j : ℕ) → j < n → q j ≡ true → j ≡ k) → first q 0 n ≡ k
the_first q n k l e one =
    ⊎_elim
    (λ (h : k < first q 0 n). clash (q k) e (before_first q n k h))
    (λ (h : first q 0 n ≤ k). let z : first q 0 n < n = omega arith in one (first q 0 n) z (first_passes q n z))
    (below? k (first q 0 n))

module _ (s : Space) (flags : List ℕ) (p : Passes s flags) (x : ℕ) where
  -- one child of a region at most holds the address
  one_child : (r j k : ℕ) → j < s.regcount → k < s.regcount → holds_child s r x j ≡ true → holds_child s r x k ≡ true → j ≡ k
  one_child r j k a b c d =
      let u = owned_is _ _ _ _ _ c in
      let v = owned_is _ _ _ _ _ d in
      let e = region_place_lem p j a in
      let f = region_place_lem p k b in
      ⊎_elim
      (λ (l : region_place s j < region_place s k).
      absurd (not_both _ _ _ _ x (p.apart.children (region_place s k) (region_place s j) l f.0 f.1 e.1 (v.0 ∙ sym u.0)) v.1 u.1))
      (λ (l : region_place s k ≤ region_place s j). ⊎_elim
      (λ (q : region_place s k ≡ region_place s j). one_place s flags p x j k a b (sym q))
      (λ (n : region_place s k ≡ region_place s j → ⊥).
      absurd (not_both _ _ _ _ x (p.apart.children (region_place s j) (region_place s k) (omega arith) e.0 e.1 f.1 (u.0 ∙ sym v.0)) u.1 v.1))
      (same? (region_place s k) (region_place s j)))
      (below? (region_place s j) (region_place s k))

  -- a lookup in the parent goes on in the child that holds the address
  through : (j k : ℕ) → j < s.regcount → k < s.regcount → (region_at s (region_place s k)).parent ≡ region_place s j → contains (region_at s (region_place s j)).addr (region_at s (region_place s j)).size x ≡ true
      → contains (region_at s (region_place s k)).addr (region_at s (region_place s k)).size x ≡ true → step_at s x (region_place s j) ≡ Down (region_place s k)
  through j k a b e c d =
      sym (downward s x (region_place s j) c k
      (the_first (holds_child s (region_place s j) x) s.regcount k b (owned_of _ _ _ _ _ e d) (λ i l h. one_child (region_place s j) i k l b h (owned_of _ _ _ _ _ e d)))
      (lt-ltb _ _ b))

  -- a lookup in any region that holds the address is one in the root: by places, since a parent stands before its children
  from_root : (n k : ℕ) → k < n → k < s.regcount → contains (region_at s (region_place s k)).addr (region_at s (region_place s k)).size x ≡ true
      → look s x 32 (region_place s k) ≡ look s x 32 (region_place s 0)
  from_root zero k h l c = absurd (omega arith)
  from_root (suc n) k h l c =
      ⊎_elim
      (λ (e : (region_at s (region_place s k)).parent ≡ 32). ap (λ (i : ℕ). look s x 32 (region_place s i)) (p.tree.root k l e))
      (λ (e : (region_at s (region_place s k)).parent ≡ 32 → ⊥).
      let m = p.tree.parent k l e in
      let j = m.0 in
      let b = m.1 in
      let a : j < s.regcount = omega arith in
      let at = region_place_lem p k l in
      let within = child_in p (region_place s k) (region_place s j) at.0 at.1 (region_place_lem p j a).0 (sym m.2) in
      let w0 = within.0 in
      let w1 = within.1 in
      let hold = holds _ _ _ c in
      let h0 = hold.0 in
      let h1 = hold.1 in
      let up : contains (region_at s (region_place s j)).addr (region_at s (region_place s j)).size x ≡ true = holds_of _ _ _ (omega arith) (omega arith) in
      let z = p.regions.room in
      enough s flags p x 32 31 k l (omega arith) (omega arith)
      ∙ sym (some_depth s x 32 (region_place s j) (λ y. omega arith) ∙ ap (follow (look s x 31)) (through j k a l (sym m.2) up c))
      ∙ from_root n j (omega arith) a up)
      (same? _ _)

  none_first : (q : ℕ → Bool) (n : ℕ) → ((j : ℕ) → j < n → q j ≡ true → ⊥) → n ≤ first q 0 n
  none_first q n no' = ⊎_elim (λ (l : first q 0 n < n). absurd (no' (first q 0 n) l (first_passes q n l))) (λ (l : n ≤ first q 0 n). l) (below? (first q 0 n) n)

  -- one mapping of a region at most holds the address
  one_mapping : (r j k : ℕ) → j < s.mapcount → k < s.mapcount → holds_mapping s r x j ≡ true → holds_mapping s r x k ≡ true → mapping_place s j ≡ mapping_place s k
  one_mapping r j k a b c d =
      let u = owned_is _ _ _ _ _ c in
      let v = owned_is _ _ _ _ _ d in
      let e = mapping_place_lem p j a in
      let f = mapping_place_lem p k b in
      ⊎_elim
      (λ (l : mapping_place s j < mapping_place s k).
      absurd (not_both _ _ _ _ x (p.apart.mappings (mapping_place s k) (mapping_place s j) l f.0 f.1 e.1 (v.0 ∙ sym u.0)) v.1 u.1))
      (λ (l : mapping_place s k ≤ mapping_place s j). ⊎_elim
      (λ (q : mapping_place s k ≡ mapping_place s j). sym q)
      (λ (n : mapping_place s k ≡ mapping_place s j → ⊥).
      absurd (not_both _ _ _ _ x (p.apart.mappings (mapping_place s j) (mapping_place s k) (omega arith) e.0 e.1 f.1 (u.0 ∙ sym v.0)) u.1 v.1))
      (same? (mapping_place s k) (mapping_place s j)))
      (below? (mapping_place s j) (mapping_place s k))

  -- in its own region a mapping is found: no child holds the address, and no other mapping
  own_step : (m k : ℕ) → Holds s x m → k < s.mapcount → mapping_place s k ≡ m → step_at s x (mapping_at s m).region ≡ Here m
  own_step m k h l e =
      let r = (mapping_at s m).region in
      let region = p.inner.region m h.slot h.live in
      let hold = holds _ _ _ h.holds in
      let within = inner _ _ _ _ (p.inner.mapping m h.slot h.live) in
      let w0 = within.0 in
      let w1 = within.1 in
      let h0 = hold.0 in
      let h1 = hold.1 in
      let up : contains (region_at s r).addr (region_at s r).size x ≡ true = holds_of _ _ _ (omega arith) (omega arith) in
      let none : s.regcount ≤ child_holding s r x = none_first (holds_child s r x) s.regcount (λ j a c.
      let u = owned_is _ _ _ _ _ c in
      let at = region_place_lem p j a in
      not_both _ _ _ _ x (p.apart.both (region_place s j) m at.0 h.slot at.1 h.live u.0) u.1 h.holds) in
      let own : holds_mapping s r x k ≡ true =
      subst (λ (i : ℕ). owned (mapping_at s i).region r (mapping_at s i).addr (mapping_at s i).size x ≡ true) (sym e) (owned_of _ _ _ _ _ refl h.holds) in
      let here : first (holds_mapping s r x) 0 s.mapcount ≡ k =
      the_first (holds_mapping s r x) s.mapcount k l own (λ j a c. one_mapping_place j k a l (one_mapping r j k a l c own)) in
      sym (at_mapping_lem s x r up (child_holding s r x) refl (le-ltb _ _ none) k here (lt-ltb _ _ l)) ∙ ap (λ (i : ℕ). Here i) e
    where
      one_mapping_place : (j i : ℕ) → j < s.mapcount → i < s.mapcount → mapping_place s j ≡ mapping_place s i → j ≡ i
      one_mapping_place j i a b q =
          ⊎_elim
          (λ (n : j < i). absurd (p.mappings.once j i n b q))
          (λ (n : i ≤ j). ⊎_elim (λ (t : i ≡ j). sym t) (λ (t : i ≡ j → ⊥). absurd (p.mappings.once i j (omega arith) a (sym q))) (same? i j))
          (below? j i)

  -- the mapping that holds the address is found from every live region that holds it
  pub finds : (r m : ℕ) → r < 32 → is_region s r ≡ true → contains (region_at s r).addr (region_at s r).size x ≡ true → Holds s x m → look s x 32 r ≡ Ok m
  finds r m l a c h =
      let own = p.inner.region m h.slot h.live in
      let q = (mapping_at s m).region in
      let at = p.regions.whole r l a in
      let home = p.regions.whole q own.0 own.1 in
      let listed = p.mappings.whole m h.slot h.live in
      let within = inner _ _ _ _ (p.inner.mapping m h.slot h.live) in
      let w0 = within.0 in
      let w1 = within.1 in
      let hold = holds _ _ _ h.holds in
      let h0 = hold.0 in
      let h1 = hold.1 in
      let up : contains (region_at s q).addr (region_at s q).size x ≡ true = holds_of _ _ _ (omega arith) (omega arith) in
      sym (ap (λ (i : ℕ). look s x 32 i) at.2)
      ∙ from_root (suc at.0) at.0 (omega arith) at.1 (subst (λ (i : ℕ). contains (region_at s i).addr (region_at s i).size x ≡ true) (sym at.2) c)
      ∙ sym (from_root (suc home.0) home.0 (omega arith) home.1 (subst (λ (i : ℕ). contains (region_at s i).addr (region_at s i).size x ≡ true) (sym home.2) up))
      ∙ ap (λ (i : ℕ). look s x 32 i) home.2
      ∙ some_depth s x 32 q (λ y. omega arith)
      ∙ ap (follow (look s x 31)) (own_step m listed.0 h listed.1 listed.2)
