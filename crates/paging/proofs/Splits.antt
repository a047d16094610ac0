-- A leaf that gives way to a table of its pieces changes no translation.
use Prim.Native.Nat.{ℕ, suc, ◌+◌, ◌*◌, ◌/◌, ◌%◌, ◌<◌, ◌≤◌}
use mathlib.Core.Path.{◌≡◌, refl, sym, ap, ◌∙◌, subst}
use mathlib.Core.Logic.{⊎_elim}
use native.Mathlib.Omega.{arith}
use Rattle.paging.specs.Level.{span, index, Canonical}
use Rattle.paging.specs.Format.{Kind, leaf, table, by_kind, Format, LeafReads, Lawful, Entry, pointer, piece}
use Rattle.paging.specs.Table.{view, shows, to, nowhere, translated, translates, Formed}
use Rattle.paging.specs.Split.{Split, Splits}
use Rattle.paging.specs.Need.{leaf_level, over}
use Rattle.paging.proofs.Cases.{same?}
use Rattle.paging.proofs.Levels.{index_lt}
use Rattle.paging.proofs.Formats.{formats}
use Rattle.paging.proofs.Walks.{hit_level, hit_frame, leaf_bar}
use Rattle.paging.proofs.Changes.{End, end, outside, inside, grown, formed_grow}

module _ (F : Format) (W W' : ℕ → ℕ → ℕ) (In In' : ℕ → Type 0) (root x l n u a : ℕ) (G : Lawful F) (low : F.top ≤ 4) (marks : 0 < F.table_marks)
    (T : Formed F W In root) (cx : Canonical (suc F.top) x) (S : Split F W W' In In' root x l n u a) where
  E : End F W In root T x
  E = end F W In root T x

  level : E.l ≡ suc l
  level = hit_level (sym E.is ∙ S.at)

  frame : E.n ≡ n
  frame = hit_frame (sym E.is ∙ S.at)

  place : index E.l x ≡ index (suc l) x
  place = ap (λ (m : ℕ). index m x) level

  abbrev w : ℕ
  w = W n (index (suc l) x)

  fits : Entry F (suc l) w
  fits = subst (λ (m : ℕ). Entry F m (W n (index m x))) level (subst (λ (m : ℕ). Entry F E.l (W m (index E.l x))) frame E.fits)

  other : (m k : ℕ) → In m → k < 512 → ((m ≡ E.n) × (k ≡ index E.l x) → ⊥) → W' m k ≡ W m k
  other m k i h ne = S.other m k i h (λ z. ne (z.0 ∙ sym frame, z.1 ∙ sym place))

  at_place : W' E.n (index E.l x) ≡ F.table_word u 0
  at_place = ap (λ (m : ℕ). W' m (index E.l x)) frame ∙ ap (W' n) place ∙ S.table

  top_low : suc l ≤ F.top
  top_low = omega (arith, E.low, level)

  tab : F.kind (suc l) (W' E.n (index E.l x)) ≡ table u
  tab = ap (F.kind (suc l)) at_place ∙ (G.points (suc l) u 0 (omega arith) top_low S.below marks).0

  -- each piece is a leaf of its own
  piece_kind : (k : ℕ) → k < 512 → F.kind l (W' u k) ≡ leaf
  piece_kind k h = ap (F.kind l) (S.pieces k h) ∙ ((formats F G).piece_reads l w a k fits S.whole S.few h).kind

  formed : Formed F W' In' root
  formed =
      formed_grow F W W' In root T x E other In' u l S.kept S.new S.was S.fresh level
      (subst (Entry F (suc l)) (sym at_place) (pointer u 0 (omega arith) top_low S.below marks refl))
      tab
      (λ k h. subst (Entry F l) (sym (S.pieces k h)) ((formats F G).piece_entry l w a k fits S.whole S.few h))
      (λ k h. leaf_bar (piece_kind k h))

  -- a leaf's translation, by its kind
  as_leaf : (m v z : ℕ) → F.kind m z ≡ leaf → translated F v (view m z) ≡ to (F.addr z + v % span m) (F.flags z)
  as_leaf m v z e = ap (λ (k : Kind). by_kind k nowhere (to (F.addr z + v % span m) (F.flags z)) (λ t. nowhere)) e

  as_level : (m z : ℕ) → F.kind m z ≡ leaf → leaf_level F (view m z) ≡ m
  as_level m z e = ap (λ (k : Kind). by_kind k 0 m (λ t. 0)) e

  -- in the leaf, what was seen before and what is seen now
  before : (v : ℕ) → v / span E.l ≡ x / span E.l → shows F W root v ≡ view (suc l) w
  before v e =
      let word : W E.n (index E.l x) ≡ w = ap (λ (m : ℕ). W m (index E.l x)) frame ∙ ap (W n) place in
      inside F W W In root T x E (λ m k t g ne. refl) v e E.last ∙ ap (view E.l) word ∙ ap (λ (m : ℕ). view m w) level

  after : (v : ℕ) → v / span E.l ≡ x / span E.l → shows F W' root v ≡ view l (piece F l w a (index l v))
  after v e =
      let h = index_lt l v in
      grown F W W' In root T x E other v e l u level tab (leaf_bar (piece_kind (index l v) h)) ∙ ap (view l) (S.pieces (index l v) h)

  reads : (v : ℕ) → LeafReads F l (piece F l w a (index l v)) (F.addr w + index l v * span l) (F.flags w) a
  reads v = (formats F G).piece_reads l w a (index l v) fits S.whole S.few (index_lt l v)

  at_level : (v : ℕ) → v / span (suc l) ≡ x / span (suc l) → v / span E.l ≡ x / span E.l
  at_level v e = rw level e

  whole : (v : ℕ) → v / span (suc l) ≡ x / span (suc l) → over F W root v ≡ suc l
  whole v e = ap (leaf_level F) (before v (at_level v e)) ∙ as_level (suc l) w S.whole

  near : (v : ℕ) → v / span (suc l) ≡ x / span (suc l) → over F W' root v ≡ l
  near v e = ap (leaf_level F) (after v (at_level v e)) ∙ as_level l (piece F l w a (index l v)) (reads v).kind

  far : (v : ℕ) → Canonical (suc F.top) v → (v / span (suc l) ≡ x / span (suc l) → ⊥) → shows F W' root v ≡ shows F W root v
  far v cv ne = outside F W W' In root T x E other low cx v cv (rw level ne)

  same : (v : ℕ) → Canonical (suc F.top) v → translates F W' root v ≡ translates F W root v
  unfolding translates
  same v cv = ⊎_elim within (λ ne. ap (translated F v) (outside F W W' In root T x E other low cx v cv ne)) (same? (v / span E.l) (x / span E.l))
    where
      within : v / span E.l ≡ x / span E.l → translated F v (shows F W' root v) ≡ translated F v (shows F W root v)
      within e =
          ap (translated F v) (after v e)
          ∙ as_leaf l v (piece F l w a (index l v)) (reads v).kind
          ∙ ap (λ (z : ℕ). to z (F.flags (piece F l w a (index l v)))) ((formats F G).own_frame l w a v fits S.whole S.few)
          ∙ ap (to (F.addr w + v % span (suc l))) (reads v).flags
          ∙ sym (ap (translated F v) (before v e) ∙ as_leaf (suc l) v w S.whole)

pub splits : Splits
splits = record {
  holds = λ F W W' In In' root x l n u a G low marks T cx S. record {
    formed = formed F W W' In In' root x l n u a G low marks T cx S;
    same = same F W W' In In' root x l n u a G low marks T cx S;
    whole = whole F W W' In In' root x l n u a G low marks T cx S;
    near = near F W W' In In' root x l n u a G low marks T cx S;
    far = far F W W' In In' root x l n u a G low marks T cx S;
  };
}
