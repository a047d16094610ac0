-- Slots changed one by one, and a list without the slots that go.
use Prim.Native.Nat.{ℕ, zero, suc, ◌+◌, ◌≤◌, ◌<◌}
use mathlib.Core.Path.{◌≡◌, refl, sym, ◌∙◌, ap, subst}
use mathlib.Core.Bool.{Bool, true, false}
use mathlib.Core.List.{List}
use mathlib.Core.Logic.{⊎_elim}
use native.Mathlib.Omega.{arith}
use lib.ListN.{length, get_or, set, length-set}
use lib.Seq.{get_or-set_same, get_or-set_other}
use Rattle.paging.proofs.Cases.{same?, below?, clash}
use Rattle.scan.proofs.Scans.{tell}
use Rattle.space.specs.Passes.{In, Listed}
use Rattle.vmar_prune.specs.Prune.{Packed, packed}
use Rattle.vmar_prune_laws.specs.Order.{InOrder}

-- the first n records of a list changed one after the other: regions and mappings alike
module _ {A : Type 0} (d : A) (l : List A) (change : ℕ → A → A) (go : ℕ → List A) (start : go zero ≡ l) (step : (i : ℕ) → go (suc i) ≡ set (go i) i (change i (get_or l i d))) where
  pub each_length : (n : ℕ) → length (go n) ≡ length l
  each_length zero = ap (λ (x : List A). length x) start
  each_length (suc n) = ap (λ (x : List A). length x) (step n) ∙ length-set (go n) n (change n (get_or l n d)) ∙ each_length n

  pub each_at : (n i : ℕ) → i < n → i < length l → get_or (go n) i d ≡ change i (get_or l i d)
  each_at zero i h k = absurd (omega arith)
  each_at (suc n) i h k =
      ap (λ (x : List A). get_or x i d) (step n)
      ∙ ⊎_elim
      (λ (e : i ≡ n).
      subst (λ (x : ℕ). get_or (set (go n) n (change n (get_or l n d))) x d ≡ change x (get_or l x d)) (sym e)
      (let z = each_length n in get_or-set_same (go n) n (change n (get_or l n d)) d (omega arith)))
      (λ (e : i ≡ n → ⊥). get_or-set_other (go n) n i (change n (get_or l n d)) d e ∙ each_at n i (omega arith) k)
      (same? i n)

-- a list without the slots that go: place j goes to `place j`, as many as are kept before it
module _ (keeps : ℕ → Bool) (blank list : List ℕ) where
  abbrev place : ℕ → ℕ
  place n = (packed keeps blank list n).count

  abbrev kept : ℕ → List ℕ
  kept n = (packed keeps blank list n).list

  none_yet : packed keeps blank list zero ≡ record { list = blank; count = 0 }
  unfolding packed
  none_yet = refl

  one_more : (n : ℕ) → keeps (get_or list n 0) ≡ true → packed keeps blank list (suc n) ≡ record { list = set (kept n) (place n) (get_or list n 0); count = place n + 1 }
  unfolding packed
  one_more n e = rw e

  passed : (n : ℕ) → keeps (get_or list n 0) ≡ false → packed keeps blank list (suc n) ≡ packed keeps blank list n
  unfolding packed
  passed n e = rw e

  place_more : (n : ℕ) → keeps (get_or list n 0) ≡ true → place (suc n) ≡ place n + 1
  place_more n e = ap (λ (q : Packed). q.count) (one_more n e)

  place_same : (n : ℕ) → keeps (get_or list n 0) ≡ false → place (suc n) ≡ place n
  place_same n e = ap (λ (q : Packed). q.count) (passed n e)

  step_up : (n : ℕ) → (place n ≤ place (suc n)) × (place (suc n) ≤ place n + 1)
  step_up n =
      ⊎_elim
      (λ (e : keeps (get_or list n 0) ≡ true). let z = place_more n e in (omega arith, omega arith))
      (λ (e : keeps (get_or list n 0) ≡ false). let z = place_same n e in (omega arith, omega arith))
      (tell (keeps (get_or list n 0)))

  place_up : (j n : ℕ) → j ≤ n → place j ≤ place n
  place_up j zero h = let z : j ≡ zero = omega arith in subst (λ (x : ℕ). place j ≤ place x) z (omega arith)
  place_up j (suc n) h =
      ⊎_elim
      (λ (e : j ≡ suc n). subst (λ (x : ℕ). place j ≤ place x) e (omega arith))
      (λ (e : j ≡ suc n → ⊥). let z = place_up j n (omega arith) in let w = (step_up n).0 in omega arith)
      (same? j (suc n))

  pub place_most : (n : ℕ) → place n ≤ n
  place_most zero = let z : place zero ≡ 0 = ap (λ (q : Packed). q.count) none_yet in omega arith
  place_most (suc n) = let z = place_most n in let w = (step_up n).1 in omega arith

  place_before : (j n : ℕ) → j < n → keeps (get_or list j 0) ≡ true → place j < place n
  place_before j n h e = let z = place_more j e in let w = place_up (suc j) n h in omega arith

  pub kept_length : (n : ℕ) → length (kept n) ≡ length blank
  kept_length zero = ap (λ (q : Packed). length q.list) none_yet
  kept_length (suc n) =
      ⊎_elim
      (λ (e : keeps (get_or list n 0) ≡ true). ap (λ (q : Packed). length q.list) (one_more n e) ∙ length-set (kept n) (place n) (get_or list n 0) ∙ kept_length n)
      (λ (e : keeps (get_or list n 0) ≡ false). ap (λ (q : Packed). length q.list) (passed n e) ∙ kept_length n)
      (tell (keeps (get_or list n 0)))

  kept_at : (n j : ℕ) → n ≤ length blank → j < n → keeps (get_or list j 0) ≡ true → get_or (kept n) (place j) 0 ≡ get_or list j 0
  kept_at zero j l h t = absurd (omega arith)
  kept_at (suc n) j l h t =
      ⊎_elim
      (λ (e : keeps (get_or list n 0) ≡ true).
      ap (λ (q : Packed). get_or q.list (place j) 0) (one_more n e)
      ∙ ⊎_elim
      (λ (q : j ≡ n).
      subst (λ (x : ℕ). get_or (set (kept n) (place n) (get_or list n 0)) (place x) 0 ≡ get_or list x 0) (sym q)
      (let z = kept_length n in let w = place_most n in get_or-set_same (kept n) (place n) (get_or list n 0) 0 (omega arith)))
      (λ (q : j ≡ n → ⊥).
      get_or-set_other (kept n) (place n) (place j) (get_or list n 0) 0 (λ z. let w = place_before j n (omega arith) t in omega arith)
      ∙ kept_at n j (omega arith) (omega arith) t)
      (same? j n))
      (λ (e : keeps (get_or list n 0) ≡ false).
      ap (λ (q : Packed). get_or q.list (place j) 0) (passed n e)
      ∙ ⊎_elim
      (λ (q : j ≡ n). clash (keeps (get_or list n 0)) (subst (λ (x : ℕ). keeps (get_or list x 0) ≡ true) q t) e)
      (λ (q : j ≡ n → ⊥). kept_at n j (omega arith) (omega arith) t)
      (same? j n))
      (tell (keeps (get_or list n 0)))

  -- past them the list is as it began
  pub kept_rest : (n k : ℕ) → place n ≤ k → get_or (kept n) k 0 ≡ get_or blank k 0
  kept_rest zero k h = ap (λ (q : Packed). get_or q.list k 0) none_yet
  kept_rest (suc n) k h =
      ⊎_elim
      (λ (e : keeps (get_or list n 0) ≡ true).
      let z = place_more n e in
      ap (λ (q : Packed). get_or q.list k 0) (one_more n e) ∙ get_or-set_other (kept n) (place n) k (get_or list n 0) 0 (λ w. omega arith) ∙ kept_rest n k (omega arith))
      (λ (e : keeps (get_or list n 0) ≡ false). let z = place_same n e in ap (λ (q : Packed). get_or q.list k 0) (passed n e) ∙ kept_rest n k (omega arith))
      (tell (keeps (get_or list n 0)))

  kept_only : (n k : ℕ) → k < place n → (j : ℕ) × (j < n) × (keeps (get_or list j 0) ≡ true) × (place j ≡ k)
  kept_only zero k h = let z : place zero ≡ 0 = ap (λ (q : Packed). q.count) none_yet in absurd (omega arith)
  kept_only (suc n) k h =
      ⊎_elim
      (λ (e : keeps (get_or list n 0) ≡ true).
      let z = place_more n e in
      ⊎_elim
      (λ (l : k < place n). let m = kept_only n k l in let w = m.1 in (m.0, omega arith, m.2, m.3))
      (λ (l : place n ≤ k). (n, omega arith, e, omega arith))
      (below? k (place n)))
      (λ (e : keeps (get_or list n 0) ≡ false).
      let z = place_same n e in
      let m = kept_only n k (omega arith) in
      let w = m.1 in
      (m.0, omega arith, m.2, m.3))
      (tell (keeps (get_or list n 0)))

  pub packed_order : (count : ℕ) → count ≤ length blank → InOrder keeps list count (packed keeps blank list count).list (packed keeps blank list count).count
  packed_order count l = record {
    to = place;
    stays = λ j h t. (place_before j count h t, kept_at count j l h t);
    order = λ j k h w t. place_before j k h t;
    only = kept_only count;
  }

module _ {keeps : ℕ → Bool} {list : List ℕ} {count : ℕ} {new : List ℕ} {now : ℕ} (inorder : InOrder keeps list count new now) where
  -- the place that place k comes from
  pub source : (k : ℕ) → k < now → (j : ℕ) × (j < count) × (keeps (get_or list j 0) ≡ true) × (inorder.to j ≡ k) × (get_or new k 0 ≡ get_or list j 0)
  source k h =
      let m = inorder.only k h in
      (m.0, m.1, m.2, m.3, subst (λ (x : ℕ). get_or new x 0 ≡ get_or list m.0 0) m.3 (inorder.stays m.0 m.1 m.2).1)

  -- the first place stays the first
  pub first_stays : 0 < count → keeps (get_or list 0 0) ≡ true → inorder.to 0 ≡ 0
  first_stays l t =
      let w = (inorder.stays 0 l t).0 in
      let m = inorder.only 0 (omega arith) in
      let z = m.3 in
      ⊎_elim
      (λ (e : m.0 ≡ 0). subst (λ (x : ℕ). inorder.to x ≡ 0) e z)
      (λ (e : m.0 ≡ 0 → ⊥). let y = inorder.order 0 m.0 (omega arith) m.1 t in absurd (omega arith))
      (same? m.0 0)

  -- the same by another test that agrees, in another list that does
  pub order_by : (keeps' : ℕ → Bool) (new' : List ℕ) → ((j : ℕ) → j < count → keeps' (get_or list j 0) ≡ keeps (get_or list j 0))
      → ((k : ℕ) → k < now → get_or new' k 0 ≡ get_or new k 0) → InOrder keeps' list count new' now
  order_by keeps' new' agree same = record {
    to = inorder.to;
    stays = λ j h t. let w = inorder.stays j h (sym (agree j h) ∙ t) in (w.0, same (inorder.to j) w.0 ∙ w.1);
    order = λ j k h l t. inorder.order j k h l (sym (agree j (omega arith)) ∙ t);
    only = λ k h. let m = inorder.only k h in (m.0, m.1, agree m.0 m.1 ∙ m.2, m.3);
  }

-- where the slots that are kept are those that live afterwards, the new list holds each once
module _ {n : ℕ} {list : List ℕ} {count : ℕ} {lives : ℕ → Bool} (listed : Listed n list count lives) {keeps : ℕ → Bool} {new : List ℕ} {now : ℕ}
    (inorder : InOrder keeps list count new now) (fewer : now ≤ count) (blank : (k : ℕ) → now ≤ k → k < n → get_or new k 0 ≡ 0)
    (lives' : ℕ → Bool) (agree : (i : ℕ) → i < n → lives i ≡ true → keeps i ≡ lives' i) (old : (i : ℕ) → i < n → lives' i ≡ true → lives i ≡ true) where
  pub listed_kept : Listed n new now lives'
  listed_kept = record { room = let z = listed.room in omega arith; slot = slot; once = once; rest = blank; live = live; whole = whole }
    where
      slot : (k : ℕ) → k < now → get_or new k 0 < n
      slot k h = let m = source inorder k h in let z = listed.slot m.0 m.1 in let w = m.4 in omega arith

      once : (j k : ℕ) → j < k → k < now → get_or new j 0 ≡ get_or new k 0 → ⊥
      once j k h l q =
          let a = source inorder j (omega arith) in
          let b = source inorder k l in
          let e : get_or list a.0 0 ≡ get_or list b.0 0 = sym a.4 ∙ q ∙ b.4 in
          let za = a.3 in
          let zb = b.3 in
          ⊎_elim
          (λ (w : a.0 < b.0). listed.once a.0 b.0 w b.1 e)
          (λ (w : b.0 ≤ a.0). ⊎_elim
          (λ (z : b.0 ≡ a.0). let y : inorder.to b.0 ≡ inorder.to a.0 = ap inorder.to z in omega arith)
          (λ (z : b.0 ≡ a.0 → ⊥). listed.once b.0 a.0 (omega arith) a.1 (sym e))
          (same? b.0 a.0))
          (below? a.0 b.0)

      live : (i : ℕ) → i < n → In new now i → lives' i ≡ true
      live i h (k, l, q) =
          let m = source inorder k l in
          let e : get_or list m.0 0 ≡ i = sym m.4 ∙ q in
          sym (agree i h (listed.live i h (m.0, m.1, e))) ∙ subst (λ (x : ℕ). keeps x ≡ true) e m.2

      whole : (i : ℕ) → i < n → lives' i ≡ true → In new now i
      whole i h t =
          let a = old i h t in
          let m = listed.whole i h a in
          let w = inorder.stays m.0 m.1 (subst (λ (x : ℕ). keeps x ≡ true) (sym m.2) (agree i h a ∙ t)) in
          (inorder.to m.0, w.0, w.1 ∙ m.2)
