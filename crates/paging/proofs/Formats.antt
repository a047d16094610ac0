-- What holds of every format that meets the laws.
use Prim.Native.Nat.{ℕ, suc, ◌+◌, ◌-◌, ◌*◌, ◌/◌, ◌%◌, ◌^◌, ◌≤◌, ◌<◌}
use mathlib.Core.Path.{◌≡◌, refl, sym, ap, ◌∙◌, subst}
use mathlib.Core.Bool.{Bool, true, false, ◌&&◌}
use native.Mathlib.Omega.{arith}
use native.Mathlib.Nat.{div-add-mod', mul_assoc, mul-mod_left, mul-le-mul_right, lt_of_mul-lt-mul_right, add-mul}
use lib.Pow.{pow-add}
use lib.Dec.{eqb, ltb}
use borrow.Author.Tests.{eq-eqb, lt-ltb, eqb-true, ltb-true}
use Rattle.paging.specs.Choice.{Decided}
use Rattle.paging.specs.Level.{span, index}
use Rattle.paging.specs.Format.{
  Kind,
  nothing,
  leaf,
  table,
  by_kind,
  Format,
  LeafReads,
  Aligned,
  Lawful,
  Entry,
  blank,
  pointer,
  page,
  written,
  piece,
  Formats,
  FormatsHold,
}
use Rattle.paging.proofs.Cases.{both, no_truth}
use Rattle.paging.proofs.Levels.{span_suc, span_pos, offset_suc, index_lt}

module _ (F : Format) (G : Lawful F) where
  -- A leaf and a table entry by what is read of them, and an entry by its kind: `Entry` says how the word was written, `Is` what reading it shows.
  pub record IsLeaf (l w : ℕ) : Type 0 where
    pub low : l ≤ F.leaf_top
    pub aligned : Aligned F l (F.addr w)
    pub same : F.leaf_word l (F.addr w) (F.flags w) (F.marks w) ≡ w

  pub record IsTable (l w m : ℕ) : Type 0 where
    pub few : F.marks w < F.table_marks
    pub same : F.table_word m (F.marks w) ≡ w

  abbrev pub Is : ℕ → ℕ → Kind → Type 0
  Is l w nothing = w ≡ 0
  Is l w leaf = IsLeaf l w
  Is l w (table m) = IsTable l w m

  pub is : (l w : ℕ) → Entry F l w → Is l w (F.kind l w)
  is l w (blank e) = subst (Is l w) (sym (G.blank l) ∙ ap (F.kind l) (sym e)) e
  is l w (pointer m a h t s b e) =
      let r = G.points l m a h t s b in
      subst (Is l w) (sym r.0 ∙ ap (F.kind l) (sym e)) (record { few = rw (e, r.1) b; same = rw (e, r.1) })
  is l w (page p f a h g b e) =
      let r = G.reads l p f a h g b in
      subst (Is l w) (sym r.kind ∙ ap (F.kind l) (sym e))
      (record {
        low = h;
        aligned = rw (e, r.addr) g;
        same = rw (e, r.addr, r.flags, r.marks) (G.again l p f a);
      })

  pub entry_of : (l w : ℕ) (k : Kind) → F.kind l w ≡ k → Is l w k → Entry F l w
  entry_of l w nothing e i = blank i
  entry_of l w leaf e i = page (F.addr w) (F.flags w) (F.marks w) i.low i.aligned (G.marks_lt w) (sym i.same)
  entry_of l w (table m) e i =
      let t = G.table_in l w m e in
      pointer m (F.marks w) t.0 t.1 t.2 i.few (sym i.same)

  -- the test says true of what is written by the rules, and of nothing else
  test : ℕ → ℕ → Kind → Bool
  test l w k =
      by_kind k (eqb w 0)
      (eqb (F.addr w % span l) 0 && eqb (F.leaf_word l (F.addr w) (F.flags w) (F.marks w)) w)
      (λ m. ltb (F.marks w) F.table_marks && eqb (F.table_word m (F.marks w)) w)

  test_true : (l w : ℕ) (k : Kind) → Is l w k → test l w k ≡ true
  unfolding test
  test_true l w nothing i = eq-eqb w 0 i
  test_true l w leaf i = rw (eq-eqb _ 0 i.aligned.0, eq-eqb _ w i.same)
  test_true l w (table m) i = rw (lt-ltb _ _ i.few, eq-eqb _ w i.same)

  true_test : (l w : ℕ) (k : Kind) → F.kind l w ≡ k → test l w k ≡ true → Is l w k
  unfolding test
  true_test l w nothing e t = eqb-true w 0 t
  true_test l w leaf e t =
      let b = both _ _ t in
      record { low = G.leaf_low l w e; aligned = (eqb-true _ 0 b.0, G.addr_lt w); same = eqb-true _ w b.1 }
  true_test l w (table m) e t =
      let b = both _ _ t in
      record { few = ltb-true _ _ b.0; same = eqb-true _ w b.1 }

  decided : (l w : ℕ) → Decided (Entry F l w) (written F l w)
  unfolding written test
  decided l w = go (test l w (F.kind l w)) refl
    where
      go : (t : Bool) → test l w (F.kind l w) ≡ t → Decided (Entry F l w) t
      go true e = entry_of l w (F.kind l w) refl (true_test l w (F.kind l w) refl e)
      go false e = λ x. no_truth (sym e ∙ test_true l w (F.kind l w) (is l w x))

  -- a piece's address is one that a leaf of its level can have
  module _ (l w : ℕ) (i : IsLeaf (suc l) w) where
    abbrev blocks : ℕ
    blocks = F.addr w / span (suc l)

    addr_is : F.addr w ≡ blocks * 512 * span l
    addr_is =
        let e : F.addr w ≡ blocks * span (suc l) = omega (arith, div-add-mod' (F.addr w) (span (suc l)), i.aligned.0) in
        e ∙ ap (λ (n : ℕ). blocks * n) (span_suc l) ∙ sym (mul_assoc blocks 512 (span l))

    physical_is : 2 ^ F.physical ≡ 2 ^ (F.physical - (12 + 9 * suc l)) * span (suc l)
    physical_is = ap (λ (n : ℕ). 2 ^ n) e ∙ pow-add 2 (F.physical - (12 + 9 * suc l)) (12 + 9 * suc l)
      where
        e : F.physical ≡ F.physical - (12 + 9 * suc l) + (12 + 9 * suc l)
        e = omega (arith, G.room, i.low)

    piece_aligned : (k : ℕ) → k < 512 → Aligned F l (F.addr w + k * span l)
    piece_aligned k h = (rw e (mul-mod_left (blocks * 512 + k) (span l)), below)
      where
        e : F.addr w + k * span l ≡ (blocks * 512 + k) * span l
        e = ap (λ (n : ℕ). n + k * span l) addr_is ∙ sym (add-mul (blocks * 512) k (span l))

        fits : blocks < 2 ^ (F.physical - (12 + 9 * suc l))
        fits = lt_of_mul-lt-mul_right (span (suc l))
            (omega (arith, i.aligned.1, physical_is, div-add-mod' (F.addr w) (span (suc l))))

        below : F.addr w + k * span l < 2 ^ F.physical
        below =
            let a : (blocks + 1) * span (suc l) ≤ 2 ^ (F.physical - (12 + 9 * suc l)) * span (suc l) = mul-le-mul_right (span (suc l)) (omega (arith, fits)) in
            let b : k * span l ≤ 511 * span l = mul-le-mul_right (span l) (omega arith) in
            omega (arith, a, b, physical_is, add-mul blocks 1 (span (suc l)), div-add-mod' (F.addr w) (span (suc l)), i.aligned.0, span_suc l, span_pos l)

    -- the flags that the whole shows are those that it grants, so the piece shows them too
    piece_is : (a k : ℕ) → a < 4 → k < 512 → LeafReads F l (piece F l w a k) (F.addr w + k * span l) (F.flags w) a
    piece_is a k b h =
        let r = G.reads l (F.addr w + k * span l) (F.flags w) a (omega (arith, i.low)) (piece_aligned k h) b in
        let s = G.reads (suc l) (F.addr w) (F.flags w) (F.marks w) i.low i.aligned (G.marks_lt w) in
        let g : F.granted (F.flags w) ≡ F.flags w = sym s.flags ∙ ap F.flags i.same in
        record { kind = r.kind; addr = r.addr; flags = r.flags ∙ g; marks = r.marks }

    piece_own : (a v : ℕ) → a < 4 → F.addr (piece F l w a (index l v)) + v % span l ≡ F.addr w + v % span (suc l)
    piece_own a v b = omega (arith, (piece_is a (index l v) b (index_lt l v)).addr, offset_suc l v)

  pub formats : Formats F
  formats = record {
    decided = decided;
    leaf_again = λ l w x k. (subst (Is l w) k (is l w x)).same;
    table_again = λ l w m x k. (subst (Is l w) k (is l w x)).same;
    piece_reads = λ l w a i x k. piece_is l w (subst (Is (suc l) w) k (is (suc l) w x)) a i;
    piece_entry = λ l w a i x k b h.
        let s = subst (Is (suc l) w) k (is (suc l) w x) in
        page (F.addr w + i * span l) (F.flags w) a (omega (arith, s.low)) (piece_aligned l w s i h) b refl;
    own_frame = λ l w a v x k. piece_own l w (subst (Is (suc l) w) k (is (suc l) w x)) a v;
  }

pub formats_hold : FormatsHold
formats_hold = record { holds = formats }
