-- Page flags that are copied within the lent bytes: what each slot's pages are afterwards.
use Prim.Native.Nat.{ℕ, zero, suc, ◌+◌, ◌-◌, ◌*◌, ◌/◌, ◌≤◌, ◌<◌}
use mathlib.Core.Path.{◌≡◌, refl, sym, ◌∙◌, ap, subst}
use mathlib.Core.Bool.{Bool}
use mathlib.Core.List.{List}
use mathlib.Core.Logic.{⊎_elim}
use native.Mathlib.Omega.{arith}
use lib.Dec.{ltb}
use lib.ListN.{length, get_or, set, length-set}
use lib.Seq.{get_or-set_same, get_or-set_other}
use borrow.Author.Tests.{eq-eqb, ne_eqb, lt-ltb, le-ltb}
use Rattle.paging.specs.Choice.{pick}
use Rattle.paging.proofs.Cases.{same?}
use Rattle.space.specs.Space.{blank_mapping}
use Rattle.space.specs.Passes.{page_at}
use Rattle.space.specs.declared.Mapping.{Mapping}
use Rattle.vmar_prune.specs.Piece.{copied, retained}
use Rattle.vmar_prune.specs.Prune.{retained_to}
use Rattle.vmar_prune_laws.specs.Part.{Moved}

module _ (f : List ℕ) (to from n : ℕ) where
  pub copied_length : (j : ℕ) → length (copied f to from n j) ≡ length f
  unfolding copied
  copied_length zero = refl
  copied_length (suc j) = length-set (copied f to from n j) (to + j) (pick (ltb j n) (get_or f (from + j) 0) 0) ∙ copied_length j

  copied_in : (j k : ℕ) → k < j → to + j ≤ length f → get_or (copied f to from n j) (to + k) 0 ≡ pick (ltb k n) (get_or f (from + k) 0) 0
  unfolding copied
  copied_in zero k l h = absurd (omega arith)
  copied_in (suc j) k l h =
      ⊎_elim
      (λ (e : k ≡ j).
      subst (λ (x : ℕ). get_or (set (copied f to from n j) (to + j) (pick (ltb j n) (get_or f (from + j) 0) 0)) (to + x) 0 ≡ pick (ltb x n) (get_or f (from + x) 0) 0) (sym e)
      (let z = copied_length j in get_or-set_same (copied f to from n j) (to + j) (pick (ltb j n) (get_or f (from + j) 0) 0) 0 (omega arith)))
      (λ (e : k ≡ j → ⊥).
      get_or-set_other (copied f to from n j) (to + j) (to + k) (pick (ltb j n) (get_or f (from + j) 0) 0) 0 (λ q. e (omega arith)) ∙ copied_in j k (omega arith) (omega arith))
      (same? k j)

  copied_out : (j x : ℕ) → ((k : ℕ) → k < j → x ≡ to + k → ⊥) → get_or (copied f to from n j) x 0 ≡ get_or f x 0
  unfolding copied
  copied_out zero x d = refl
  copied_out (suc j) x d =
      get_or-set_other (copied f to from n j) (to + j) x (pick (ltb j n) (get_or f (from + j) 0) 0) 0 (d j (omega arith)) ∙ copied_out j x (λ k l. d k (omega arith))

-- the n pages from page d of slot i on, copied to slot j; other slots keep theirs
module _ (f : List ℕ) (i d j n : ℕ) where
  abbrev there : List ℕ
  there = copied f (j * 512) (i * 512 + d) n 512

  pub copy_moved : length f ≡ 32768 → j < 64 → n ≤ 512 → Moved f i d there j n
  copy_moved long l most = record {
    pages = λ p h. copied_in f (j * 512) (i * 512 + d) n 512 p (omega arith) (omega arith)
        ∙ ap (λ (t : Bool). pick t (get_or f (i * 512 + d + p) 0) 0) (lt-ltb p n h)
        ∙ ap (λ (x : ℕ). get_or f x 0) (let z : i * 512 + d + p ≡ i * 512 + (d + p) = omega arith in z);
    past = λ p h q. copied_in f (j * 512) (i * 512 + d) n 512 p q (omega arith) ∙ ap (λ (t : Bool). pick t (get_or f (i * 512 + d + p) 0) 0) (le-ltb p n h);
  }

  pub copy_other : (x p : ℕ) → (x ≡ j → ⊥) → p < 512 → page_at there x p ≡ page_at f x p
  copy_other x p q h = copied_out f (j * 512) (i * 512 + d) n 512 (x * 512 + p) (λ k l e. q (omega arith))

-- pages of one slot that two lists of flags share
pub same_pages : (f h g : List ℕ) (i d j n : ℕ) → d + n ≤ 512 → ((p : ℕ) → p < 512 → page_at h i p ≡ page_at f i p) → Moved h i d g j n → Moved f i d g j n
same_pages f h g i d j n l e m = record { pages = λ p q. m.pages p q ∙ e (d + p) (omega arith); past = m.past }

-- a slot's piece and where it begins, in pages
pub record Begins (m k : Mapping) (d : ℕ) : Type 0 where
  pub at : (k.addr - m.addr) / 4096 ≡ d
  pub end : d + k.size / 4096 ≤ m.size / 4096
  pub few : m.size / 4096 ≤ 512
  pub still : k.size ≡ m.size → d ≡ 0

module _ (m k : Mapping) (f : List ℕ) (i : ℕ) where
  retained_same : k.size ≡ m.size → retained m k f i ≡ f
  unfolding retained
  retained_same e = rw (eq-eqb k.size m.size e)

  retained_cut : (k.size ≡ m.size → ⊥) → retained m k f i ≡ copied f (i * 512) (i * 512 + (k.addr - m.addr) / 4096) (k.size / 4096) 512
  unfolding retained
  retained_cut e = rw (ne_eqb k.size m.size e)

  retained_length : length (retained m k f i) ≡ length f
  retained_length =
      ⊎_elim
      (λ (e : k.size ≡ m.size). ap (λ (x : List ℕ). length x) (retained_same e))
      (λ (e : k.size ≡ m.size → ⊥). ap (λ (x : List ℕ). length x) (retained_cut e) ∙ copied_length f (i * 512) (i * 512 + (k.addr - m.addr) / 4096) (k.size / 4096) 512)
      (same? k.size m.size)

  retained_other : (x p : ℕ) → (x ≡ i → ⊥) → p < 512 → page_at (retained m k f i) x p ≡ page_at f x p
  retained_other x p q h =
      ⊎_elim
      (λ (e : k.size ≡ m.size). ap (λ (y : List ℕ). page_at y x p) (retained_same e))
      (λ (e : k.size ≡ m.size → ⊥).
      ap (λ (y : List ℕ). page_at y x p) (retained_cut e) ∙ copy_other f i ((k.addr - m.addr) / 4096) i (k.size / 4096) x p q h)
      (same? k.size m.size)

  retained_moved : (d : ℕ) → (k.size ≡ m.size → ⊥) → Begins m k d → length f ≡ 32768 → i < 64 → Moved f i d (retained m k f i) i (k.size / 4096)
  retained_moved d e w long l =
      let we = w.end in
      let wf = w.few in
      subst (λ (y : List ℕ). Moved f i d y i (k.size / 4096)) (sym (retained_cut e))
      (subst (λ (x : ℕ). Moved f i x (copied f (i * 512) (i * 512 + (k.addr - m.addr) / 4096) (k.size / 4096) 512) i (k.size / 4096)) w.at
      (copy_moved f i ((k.addr - m.addr) / 4096) i (k.size / 4096) long l (omega arith)))

module _ (old new : List Mapping) (f : List ℕ) where
  abbrev was : ℕ → Mapping
  was i = get_or old i blank_mapping

  abbrev is : ℕ → Mapping
  is i = get_or new i blank_mapping

  abbrev after : ℕ → List ℕ
  after n = retained_to old new f n

  after_step : (n : ℕ) → after (suc n) ≡ retained (was n) (is n) (after n) n
  unfolding retained_to
  after_step n = refl

  after_none : after zero ≡ f
  unfolding retained_to
  after_none = refl

  pub after_length : (n : ℕ) → length (after n) ≡ length f
  after_length zero = ap (λ (x : List ℕ). length x) after_none
  after_length (suc n) = ap (λ (x : List ℕ). length x) (after_step n) ∙ retained_length (was n) (is n) (after n) n ∙ after_length n

  -- a slot that is still to come, and one that keeps its size, has the pages it had
  after_later : (n i p : ℕ) → n ≤ i → p < 512 → page_at (after n) i p ≡ page_at f i p
  after_later zero i p l h = ap (λ (x : List ℕ). page_at x i p) after_none
  after_later (suc n) i p l h =
      ap (λ (x : List ℕ). page_at x i p) (after_step n) ∙ retained_other (was n) (is n) (after n) n i p (λ e. omega arith) h ∙ after_later n i p (omega arith) h

  pub after_same : (n i p : ℕ) → (is i).size ≡ (was i).size → p < 512 → page_at (after n) i p ≡ page_at f i p
  after_same zero i p e h = ap (λ (x : List ℕ). page_at x i p) after_none
  after_same (suc n) i p e h =
      ap (λ (x : List ℕ). page_at x i p) (after_step n)
      ∙ ⊎_elim
      (λ (q : i ≡ n).
      ap (λ (x : List ℕ). page_at x i p) (retained_same (was n) (is n) (after n) n (subst (λ (x : ℕ). (is x).size ≡ (was x).size) q e)) ∙ after_same n i p e h)
      (λ (q : i ≡ n → ⊥). retained_other (was n) (is n) (after n) n i p q h ∙ after_same n i p e h)
      (same? i n)

  after_cut_lem : (n i d : ℕ) → i < n → n ≤ 64 → length f ≡ 32768 → ((is i).size ≡ (was i).size → ⊥) → Begins (was i) (is i) d → Moved f i d (after n) i ((is i).size / 4096)
  after_cut_lem zero i d l h long e w = absurd (omega arith)
  after_cut_lem (suc n) i d l h long e w =
      subst (λ (x : List ℕ). Moved f i d x i ((is i).size / 4096)) (sym (after_step n))
      (⊎_elim
      (λ (q : i ≡ n).
      subst (λ (x : ℕ). Moved f i d (retained (was x) (is x) (after n) x) i ((is i).size / 4096)) q
      (let we = w.end in
      let wf = w.few in
      same_pages f (after n) _ i d i ((is i).size / 4096) (omega arith) (λ p z. after_later n i p (omega arith) z)
      (retained_moved (was i) (is i) (after n) i d e w (after_length n ∙ long) (omega arith))))
      (λ (q : i ≡ n → ⊥).
      let m = after_cut_lem n i d (omega arith) (omega arith) long e w in
      let we = w.end in
      let wf = w.few in
      record {
        pages = λ p z. retained_other (was n) (is n) (after n) n i p q (omega arith) ∙ m.pages p z;
        past = λ p z y. retained_other (was n) (is n) (after n) n i p q y ∙ m.past p z y;
      })
      (same? i n))

  -- a slot's pages afterwards: those of its piece, and zeros
  pub after_moved : (n i d : ℕ) → i < n → n ≤ 64 → length f ≡ 32768 → Begins (was i) (is i) d → ((p : ℕ) → (was i).size / 4096 ≤ p → p < 512 → page_at f i p ≡ 0)
      → Moved f i d (after n) i ((is i).size / 4096)
  after_moved n i d l h long w zeros =
      ⊎_elim
      (λ (e : (is i).size ≡ (was i).size).
      let we = w.end in
      let wf = w.few in
      let z = w.still e in
      record {
        pages = λ p q. after_same n i p e (omega arith) ∙ ap (page_at f i) (let y : p ≡ d + p = omega arith in y);
        past = λ p q y. after_same n i p e y ∙ zeros p (omega arith) y;
      })
      (λ (e : (is i).size ≡ (was i).size → ⊥). after_cut_lem n i d l h long e w)
      (same? (is i).size (was i).size)
