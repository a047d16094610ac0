-- What an offset that was found tells: where it comes from, and what is free there.
use Rattle.std.specs.Prelude.{Option, Some, None, Result, Ok, Err}
use Prim.Native.Nat.{ℕ, zero, suc, ◌+◌, ◌-◌, ◌≤◌, ◌<◌}
use mathlib.Core.Path.{◌≡◌, refl, sym, ◌∙◌, ap, subst}
use mathlib.Core.Bool.{Bool, true, false, not}
use mathlib.Core.Logic.{◌⊎◌, inl, inr, ⊎_elim}
use native.Mathlib.Omega.{arith}
use lib.Dec.{ltb, eqb}
use borrow.Author.Tests.{le-leb, leb-true, ltb-true, ltb-false, not-true, eq-eqb, eqb-true}
use Rattle.paging.proofs.Cases.{no_truth, below?, clash}
use Rattle.scan.specs.Scan.{first, some_of, some}
use Rattle.scan.proofs.Scans.{tell, first_passes, before_first, none_passes}
use Rattle.vm.specs.Align.{multiple}
use Rattle.refusal.specs.declared.Refusal.{Refusal}
use Rattle.refusal.specs.declared.Refusal.TheVariants.{InvalidArgs, NoMemory}
use Rattle.space.specs.Range.{overlap}
use Rattle.space.specs.Space.{region_at, mapping_at, is_region}
use Rattle.space.specs.declared.Region.{Region}
use Rattle.space.specs.declared.Space.{Space}
use Rattle.space.proofs.Ranges.{inner, inner_of}
use Rattle.vmar_offset.specs.Offset.{meets, child_meets, meets_child, meets_mapping, test_map, takes_child, takes_mapping, child_end, mapping_end, find_free_area, found, determine_offset}
use Rattle.vmar_offset.proofs.Offsets.{on_child, off_children, at_zero, at_child_lem, at_mapping_lem, nowhere, odd_length, asked_odd, asked_full, asked_free, too_large, searched}
use Rattle.vmar_offset.proofs.Found.{free_fits}
use Rattle.vmar_laws.specs.Search.{FreeIn, NoChild, FirstFit, NoFit, OneFit}
use Rattle.vmar_laws.specs.Search as fit

-- a part of r that does not meet a range does not overlap it
apart_part : (live : Bool) (owner addr size r b n : ℕ) → meets live owner addr size r b n ≡ false → live ≡ true → owner ≡ r → overlap addr size b n ≡ false
unfolding meets
apart_part live owner addr size r b n e a q = rw (a, eq-eqb owner r q) at e

pub apart_child : (g : Region) (r b n : ℕ) → child_meets g r b n ≡ false → g.live ≡ true → g.parent ≡ r → overlap g.addr g.size b n ≡ false
apart_child g = apart_part g.live g.parent g.addr g.size

-- what is free lies in its region and overlaps no child and no mapping of it
module _ (s : Space) (r off len : ℕ) (t : test_map s r off len ≡ true) where
  children_off : some (meets_child s r ((region_at s r).addr + off) len) 0 32 ≡ false
  children_off =
      ⊎_elim
      (λ (c : some (meets_child s r ((region_at s r).addr + off) len) 0 32 ≡ true). no_truth (on_child s r off len (free_fits s r off len t) c ∙ t))
      (λ (c : some (meets_child s r ((region_at s r).addr + off) len) 0 32 ≡ false). c)
      (tell (some (meets_child s r ((region_at s r).addr + off) len) 0 32))

  mappings_off : some (meets_mapping s r ((region_at s r).addr + off) len) 0 64 ≡ false
  mappings_off = not-true _ (sym (off_children s r off len (free_fits s r off len t) children_off) ∙ t)

  pub free_in : r < 32 → is_region s r ≡ true → FreeIn s r ((region_at s r).addr + off) len
  free_in l a =
      let z : off + len ≤ (region_at s r).size = leb-true _ _ (free_fits s r off len t) in
      record {
        slot = l;
        live = a;
        inner = inner_of _ _ _ _ (omega arith) (omega arith);
        children = λ j h. apart_child (region_at s j) r _ _ (none_passes (meets_child s r ((region_at s r).addr + off) len) 0 32 j children_off (omega arith) h);
        mappings = λ j h. let m = mapping_at s j in apart_part m.live m.region m.addr m.size r _ _ (none_passes (meets_mapping s r ((region_at s r).addr + off) len) 0 64 j mappings_off (omega arith) h);
      }

-- and what lies so passes the test
meets_none : (live : Bool) (owner addr size r b n : ℕ) → (live ≡ true → owner ≡ r → overlap addr size b n ≡ false) → meets live owner addr size r b n ≡ false
unfolding meets
meets_none live owner addr size r b n f =
    ⊎_elim
    (λ (l : live ≡ true). ⊎_elim (λ (q : eqb owner r ≡ true). rw (l, q) (f l (eqb-true _ _ q))) (λ (q : eqb owner r ≡ false). rw (l, q)) (tell (eqb owner r)))
    (λ (l : live ≡ false). rw l)
    (tell live)

-- where each fails, none passes
all_fail : (p : ℕ → Bool) (k i : ℕ) → ((j : ℕ) → j < i + k → p j ≡ false) → some_of p i k ≡ false
unfolding some_of
all_fail p zero i f = refl
all_fail p (suc k) i f = rw (f i (omega arith)) (all_fail p k (i + 1) (λ j l. f j (omega arith)))

none_pass : (p : ℕ → Bool) (n : ℕ) → ((j : ℕ) → j < n → p j ≡ false) → some p 0 n ≡ false
unfolding some
none_pass p n f = all_fail p (n - 0) 0 (λ j l. f j (omega arith))

pub free_tests : (s : Space) (r off len : ℕ) → FreeIn s r ((region_at s r).addr + off) len → test_map s r off len ≡ true
free_tests s r off len f =
    let z = (inner _ _ _ _ f.inner).1 in
    off_children s r off len (le-leb (off + len) (region_at s r).size (omega arith)) (none_pass _ 32 (λ j l. let g = region_at s j in meets_none g.live g.parent g.addr g.size r _ _ (f.children j l)))
    ∙ ap not (none_pass _ 64 (λ j l. let m = mapping_at s j in meets_none m.live m.region m.addr m.size r _ _ (f.mappings j l)))

same_ok : {a b : ℕ} → ◌≡◌ {A = Result ℕ Refusal} (Ok a) (Ok b) → a ≡ b
same_ok e = cc

refused_ok : {A : Type 0} {why : Refusal} {b : ℕ} → ◌≡◌ {A = Result ℕ Refusal} (Err why) (Ok b) → A
refused_ok e = let z : ◌≡◌ {A = ℕ} 0 1 = cc in absurd (omega arith)

invalid_none : {A : Type 0} → ◌≡◌ {A = Result ℕ Refusal} (Err InvalidArgs) (Err NoMemory) → A
invalid_none e = let z : ◌≡◌ {A = ℕ} 0 1 = cc in absurd (omega arith)

ok_none : {A : Type 0} {b : ℕ} → ◌≡◌ {A = Result ℕ Refusal} (Ok b) (Err NoMemory) → A
ok_none e = let z : ◌≡◌ {A = ℕ} 0 1 = cc in absurd (omega arith)

-- all of the search, found or not
data Searched (s : Space) (r len align : ℕ) : Option ℕ → Type 0 where
  at : (off : ℕ) → FirstFit s r len align off → Searched s r len align (Some off)
  none : NoFit s r len align → Searched s r len align None

-- a place that is not before the end is past all of them
all_before : (p : ℕ → Bool) (n : ℕ) → ltb (first p 0 n) n ≡ false → (j : ℕ) → j < n → p j ≡ false
all_before p n e j l = let z : n ≤ first p 0 n = ltb-false _ _ e in before_first p n j (omega arith)

module _ (s : Space) (r len align : ℕ) where
  search_all : Searched s r len align (find_free_area s r len align)
  search_all = ⊎_elim (λ (t : test_map s r 0 len ≡ true). subst (Searched s r len align) (at_zero s r len align t) (at 0 (fit.start t))) past (tell (test_map s r 0 len))
    where
      k : ℕ
      k = first (takes_child s r len align) 0 s.regcount

      j : ℕ
      j = first (takes_mapping s r len align) 0 s.mapcount

      none_yet : test_map s r 0 len ≡ false → ltb k s.regcount ≡ false → NoChild s r len align s.regcount
      none_yet t l = record { start = t; before = all_before (takes_child s r len align) s.regcount l }

      last : test_map s r 0 len ≡ false → ltb k s.regcount ≡ false → (ltb j s.mapcount ≡ true) ⊎ (ltb j s.mapcount ≡ false)
          → Searched s r len align (find_free_area s r len align)
      last t l (inl h) =
          subst (Searched s r len align) (at_mapping_lem s r len align t k refl l j refl h)
          (at (mapping_end s r j) (fit.mapping j (ltb-true _ _ h) (none_yet t l) (before_first (takes_mapping s r len align) s.mapcount)
          (first_passes (takes_mapping s r len align) s.mapcount (ltb-true _ _ h))))
      last t l (inr h) =
          subst (Searched s r len align) (nowhere s r len align t k refl l j refl h)
          (none (record { children = none_yet t l; mappings = all_before (takes_mapping s r len align) s.mapcount h }))

      past : test_map s r 0 len ≡ false → Searched s r len align (find_free_area s r len align)
      past t =
          ⊎_elim
          (λ (l : ltb k s.regcount ≡ true).
          subst (Searched s r len align) (at_child_lem s r len align t k refl l)
          (at (child_end s r k) (fit.child k (ltb-true _ _ l) (record { start = t; before = before_first (takes_child s r len align) s.regcount })
          (first_passes (takes_child s r len align) s.regcount (ltb-true _ _ l)))))
          (λ (l : ltb k s.regcount ≡ false). last t l (tell (ltb j s.mapcount)))
          (tell (ltb k s.regcount))

  found_fit : {a : Option ℕ} (off : ℕ) → Searched s r len align a → found a ≡ Ok off → FirstFit s r len align off
  found_fit off (at o w) e = subst (FirstFit s r len align) (same_ok e) w
  found_fit off (none w) e = refused_ok e

  found_none : {a : Option ℕ} → Searched s r len align a → found a ≡ Err NoMemory → NoFit s r len align
  found_none (at o w) e = ok_none e
  found_none (none w) e = w

  -- the offset asked for is the one found, a multiple of the alignment
  pub hinted : (o : Option ℕ) (off : ℕ) → determine_offset s r o len align ≡ Ok off → (a : ℕ) → o ≡ Some a → (off ≡ a) × (multiple a align ≡ true)
  hinted o off e a q =
      ⊎_elim
      (λ (m : multiple len align ≡ true). ⊎_elim
      (λ (t : multiple a align ≡ true). ⊎_elim
      (λ (f : test_map s r a len ≡ true). (sym (same_ok (asked_free s r len align o m a q t f ∙ e)), t))
      (λ (f : test_map s r a len ≡ false). refused_ok (asked_full s r len align o m a q t f ∙ e))
      (tell (test_map s r a len)))
      (λ (t : multiple a align ≡ false). refused_ok (asked_odd s r len align o m a q t ∙ e))
      (tell (multiple a align)))
      (λ (m : multiple len align ≡ false). refused_ok (odd_length s r len align o m ∙ e))
      (tell (multiple len align))

  -- one that was not asked for is the first that fits
  pub unhinted : (o : Option ℕ) (off : ℕ) → determine_offset s r o len align ≡ Ok off → o ≡ None → FirstFit s r len align off
  unhinted o off e q =
      ⊎_elim
      (λ (m : multiple len align ≡ true). ⊎_elim
      (λ (t : ltb (region_at s r).size len ≡ true). refused_ok (too_large s r len align o m q t ∙ e))
      (λ (t : ltb (region_at s r).size len ≡ false). found_fit off search_all (searched s r len align o m q t ∙ e))
      (tell (ltb (region_at s r).size len)))
      (λ (m : multiple len align ≡ false). refused_ok (odd_length s r len align o m ∙ e))
      (tell (multiple len align))

  -- 3 is given only where none was asked for and none fits
  pub no_memory : (o : Option ℕ) → determine_offset s r o len align ≡ Err NoMemory → (o ≡ None) × NoFit s r len align
  no_memory o e =
      ⊎_elim
      (λ (m : multiple len align ≡ true). by o refl m)
      (λ (m : multiple len align ≡ false). invalid_none (odd_length s r len align o m ∙ e))
      (tell (multiple len align))
    where
      by : (a : Option ℕ) → o ≡ a → multiple len align ≡ true → (o ≡ None) × NoFit s r len align
      by (Some a) q m =
          ⊎_elim
          (λ (t : multiple a align ≡ true). ⊎_elim
          (λ (f : test_map s r a len ≡ true). ok_none (asked_free s r len align o m a q t f ∙ e))
          (λ (f : test_map s r a len ≡ false). invalid_none (asked_full s r len align o m a q t f ∙ e))
          (tell (test_map s r a len)))
          (λ (t : multiple a align ≡ false). invalid_none (asked_odd s r len align o m a q t ∙ e))
          (tell (multiple a align))
      by None q m =
          ⊎_elim
          (λ (t : ltb (region_at s r).size len ≡ true). invalid_none (too_large s r len align o m q t ∙ e))
          (λ (t : ltb (region_at s r).size len ≡ false). (q, found_none search_all (searched s r len align o m q t ∙ e)))
          (tell (ltb (region_at s r).size len))

-- the first of two places that pass is not after the other
one_place : (p : ℕ → Bool) (j k : ℕ) → p j ≡ true → p k ≡ true → ((i : ℕ) → i < j → p i ≡ false) → ((i : ℕ) → i < k → p i ≡ false) → j ≡ k
one_place p j k a b before-j before-k =
    ⊎_elim
    (λ (l : j < k). clash (p j) a (before-k j l))
    (λ (l : k ≤ j). ⊎_elim (λ (h : k < j). clash (p k) b (before-j k h)) (λ (h : j ≤ k). omega arith) (below? k j))
    (below? j k)

module _ (s : Space) (r len align : ℕ) where
  only : (a b : ℕ) → FirstFit s r len align a → FirstFit s r len align b → a ≡ b
  only _ _ (fit.start t) (fit.start u) = refl
  only _ _ (fit.start t) (fit.child k l n u) = clash (test_map s r 0 len) t n.start
  only _ _ (fit.start t) (fit.mapping k l n m u) = clash (test_map s r 0 len) t n.start
  only _ _ (fit.child k l n u) (fit.start t) = clash (test_map s r 0 len) t n.start
  only _ _ (fit.child k l n u) (fit.child j h m w) = ap (child_end s r) (one_place (takes_child s r len align) k j u w n.before m.before)
  only _ _ (fit.child k l n u) (fit.mapping j h m q w) = clash (takes_child s r len align k) u (m.before k l)
  only _ _ (fit.mapping k l n m u) (fit.start t) = clash (test_map s r 0 len) t n.start
  only _ _ (fit.mapping k l n m u) (fit.child j h q w) = clash (takes_child s r len align j) w (n.before j h)
  only _ _ (fit.mapping k l n m u) (fit.mapping j h q v w) = ap (mapping_end s r) (one_place (takes_mapping s r len align) k j u w m v)

  none_fits : (a : ℕ) → NoFit s r len align → FirstFit s r len align a → ⊥
  none_fits _ n (fit.start t) = clash (test_map s r 0 len) t n.children.start
  none_fits _ n (fit.child k l m u) = clash (takes_child s r len align k) u (n.children.before k l)
  none_fits _ n (fit.mapping k l m q u) = clash (takes_mapping s r len align k) u (n.mappings k l)

  -- what the search finds, by what fits
  by_fit : {a : Option ℕ} (off : ℕ) → Searched s r len align a → FirstFit s r len align off → Ok off ≡ found a
  by_fit off (at o w) f = ap (λ (x : ℕ). Ok x) (only off o f w)
  by_fit off (none w) f = absurd (none_fits off w f)

  by_none : {a : Option ℕ} → Searched s r len align a → NoFit s r len align → Err NoMemory ≡ found a
  by_none (at o w) n = absurd (none_fits o n w)
  by_none (none w) n = refl

  one_or_none : {a : Option ℕ} → Searched s r len align a → ((off : ℕ) × FirstFit s r len align off) ⊎ NoFit s r len align
  one_or_none (at o w) = inl (o, w)
  one_or_none (none w) = inr w

  pub fit_found : (off : ℕ) → FirstFit s r len align off → Ok off ≡ found (find_free_area s r len align)
  fit_found off f = by_fit off (search_all s r len align) f

  pub none_found : NoFit s r len align → Err NoMemory ≡ found (find_free_area s r len align)
  none_found n = by_none (search_all s r len align) n

  pub fits? : ((off : ℕ) × FirstFit s r len align off) ⊎ NoFit s r len align
  fits? = one_or_none (search_all s r len align)

pub one_fit : OneFit
one_fit = record { only = only; none = none_fits }
