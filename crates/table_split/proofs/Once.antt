-- One split in a pool is a split of the format: what stands in paging/specs/Split holds of it.
use Prim.Native.Nat.{ℕ, zero, suc, ◌+◌, ◌-◌, ◌*◌, ◌/◌, ◌%◌, ◌^◌, ◌≤◌, ◌<◌}
use mathlib.Core.Path.{◌≡◌, refl, sym, ap, ◌∙◌, subst}
use mathlib.Core.Bool.{false}
use mathlib.Core.Logic.{◌⊎◌, inl, inr, ⊎_elim}
use mathlib.Core.List.{List}
use native.Mathlib.Omega.{arith}
use lib.Dec.{lit<}
use lib.ListN.{length, length-set}
use borrow.Author.Tests.{eqb-false}
use Rattle.paging.specs.Level.{span, index, Canonical}
use Rattle.paging.specs.Format.{Kind, nothing, leaf, by_kind, Entry}
use Rattle.paging.specs.Format as format
use Rattle.paging.specs.Table.{hit, walk, view, shows}
use Rattle.paging.specs.Need.{splits, leaf_level, over}
use Rattle.paging.specs.Split.{Split, Splitting}
use Rattle.paging.proofs.Cases.{below?}
use Rattle.paging.proofs.Levels.{index_lt}
use Rattle.paging.proofs.Formats.{Is, IsLeaf, is}
use Rattle.paging.proofs.Counts.{splits_more, aligned_under}
use Rattle.paging.proofs.Splits as split
use Rattle.common.specs.Page.{level_of, size_of, aligned}
use Rattle.common.specs.declared.vm.PageSize.{PageSize}
use Rattle.x86_64.specs.Entry.{table_word, x86}
use Rattle.x86_64.proofs.Format.{lawful}
use Rattle.pool.specs.Pool.{word, put_frame, listed, mem_of, Taken}
use Rattle.pool.proofs.Memory.{taken_was, mem_at, put_same, put_other, frame_put_length, frame_put_before, frame_put_in, listed_length, listed_at}
use Rattle.form.specs.Form.{WellFormed, Good}
use Rattle.walk.specs.Walk.{size_at, found}
use Rattle.walk.specs.declared.Walk.{Walk}
use Rattle.walk.specs.declared.Walk.TheVariants.{Leaf, Open}
use Rattle.walk.specs.declared.LeafEntry.{LeafEntry}
use Rattle.walk.proofs.Sizes.{size_level, size_bytes}
use Rattle.walk.proofs.Found as walks
use Rattle.walk.proofs.Found.{Placed, Over, unused}
use Rattle.table_split.specs.Split.{piece, split_leaf, leaf_over}
use Rattle.table_split.proofs.Pieces.{piece_is}

module _ (p : List ℕ) (b used : ℕ) (T : WellFormed p b used) (v : ℕ) where
  -- what the entry that a walk found shows
  pub placed_view : (l f k : ℕ) → Placed p b used T v l f k → shows x86 (mem_of p b) b v ≡ view l (word p f k)
  placed_view l f k P =
      P.E.shown
      ∙ ap (λ (n : ℕ). view P.E.l (mem_of p b n (index P.E.l v))) P.number
      ∙ ap (λ (m : ℕ). view m (mem_of p b (b + f) (index m v))) P.level
      ∙ ap (view l) (mem_at p b f (index l v) ∙ ap (word p f) (sym P.at))

  -- the level of the leaf over an address, found by the walk
  pub leaf_over_lem : leaf_over p b v ≡ over x86 (mem_of p b) b v
  leaf_over_lem = go (found p b v) refl
    where
      level : (l w : ℕ) (k : Kind) → shows x86 (mem_of p b) b v ≡ view l w → x86.kind l w ≡ k → over x86 (mem_of p b) b v ≡ by_kind k 0 l (λ m. 0)
      level l w k s q = ap (leaf_level x86) s ∙ ap (λ (t : Kind). by_kind t 0 l (λ m. 0)) q

      go : (w : Walk) → found p b v ≡ w → leaf_over p b v ≡ over x86 (mem_of p b) b v
      go (Leaf e) q =
          let O = walks.over p b used T v e q in
          rw q (ap level_of O.size ∙ size_level O.l O.low ∙ sym (level O.l (word p e.frame e.place) leaf (placed_view O.l e.frame e.place O.placed) O.kind))
      go (Open o) q =
          let U = unused p b used T v o q in
          rw q (sym (level o.level 0 nothing (placed_view o.level o.frame o.place U.placed ∙ ap (view o.level) U.blank) (lawful.blank o.level)))

-- a leaf that v falls into, in a good pool
module _ (p : List ℕ) (base used : ℕ) (G : Good p base used) (v : ℕ) (page : v % 4096 ≡ 0) (e : LeafEntry) (q : found p (base / 4096) v ≡ Leaf e)
    (off : aligned e.size v ≡ false) where
  abbrev b : ℕ
  b = base / 4096

  abbrev O : Over p b used G.formed v e
  O = walks.over p b used G.formed v e q

  -- the leaf is no page of the lowest level
  pub record Above : Type 0 where
    pub m : ℕ
    pub is : O.l ≡ suc m

  pub above : Above
  above = go O.l refl
    where
      off_by : (l : ℕ) → O.l ≡ l → v % span l ≡ 0 → ⊥
      off_by l r z = eqb-false (v % size_of e.size) 0 off (ap (λ (n : ℕ). v % n) (ap size_of O.size ∙ size_bytes O.l O.low ∙ ap span r) ∙ z)

      go : (l : ℕ) → O.l ≡ l → Above
      go zero r = absurd (off_by 0 r page)
      go (suc m) r = record { m = m; is = r }

  abbrev m : ℕ
  m = above.m

  low : m ≤ 1
  low = omega (arith, above.is, O.low)

  pub falls : 0 < v % span (suc m)
  falls =
      let z : v % size_of e.size ≡ v % span (suc m) = ap (λ (n : ℕ). v % n) (ap size_of O.size ∙ size_bytes O.l O.low ∙ ap span above.is) in
      ⊎_elim (λ h. absurd (eqb-false (v % size_of e.size) 0 off (omega (arith, z)))) (λ h. h) (below? (v % span (suc m)) 1)

  abbrev w : ℕ
  w = word p e.frame e.place

  place : e.place ≡ index (suc m) v
  place = O.placed.at ∙ ap (λ (l : ℕ). index l v) above.is

  whole : x86.kind (suc m) w ≡ leaf
  whole = subst (λ (l : ℕ). x86.kind l w ≡ leaf) above.is O.kind

  written : IsLeaf x86 lawful (suc m) w
  written = subst (Is x86 lawful (suc m) w) whole (is x86 lawful (suc m) w (subst (λ (l : ℕ). Entry x86 l w) above.is O.placed.fits))

  size : size_at (level_of e.size - 1) ≡ size_at m
  size =
      let z : suc m - 1 ≡ m = omega arith in
      ap (λ (s : PageSize). size_at (level_of s - 1)) O.size ∙ ap (λ (l : ℕ). size_at (l - 1)) (size_level O.l O.low ∙ above.is) ∙ ap size_at z

  -- it takes a frame
  pub level_is : leaf_over p b v ≡ suc m
  level_is = rw q (ap level_of O.size ∙ size_level O.l O.low ∙ above.is)

  pub wants : 0 < splits v (leaf_over p b v)
  wants = omega (arith, ap (splits v) level_is, splits_more m v falls)

  small : e.place < 512
  small = rw place (index_lt (suc m) v)

  -- v is an address of the two halves: nothing else falls into a leaf
  canonical : Canonical 4 v ⊎ (v % span 3 ≡ 0) → Canonical 4 v
  canonical (inl c) = c
  canonical (inr z) =
      let u : suc m + (3 - suc m) ≡ 3 = omega (arith, low) in
      absurd (omega (arith, falls, aligned_under (suc m) (3 - suc m) v (rw u z)))

  at_walk : walk x86 (mem_of p b) x86.top b v ≡ hit (suc m) (b + e.frame) (index (suc m) v)
  at_walk =
      let P = O.placed in
      P.E.is
      ∙ ap (λ (n : ℕ). hit P.E.l n (index P.E.l v)) P.number
      ∙ ap (λ (l : ℕ). hit l (b + e.frame) (index l v)) (P.level ∙ above.is)

  -- a frame is free
  module _ (room : used < length p / 512) where
    fits : used * 512 + 512 ≤ length p
    fits = omega arith

    abbrev ws : List ℕ
    ws = listed 512 (piece (size_at (level_of e.size - 1)) w)

    abbrev p' : List ℕ
    p' = split_leaf p b used e

    full : length ws ≡ 512
    full = listed_length (piece (size_at (level_of e.size - 1)) w) 512

    pub same_length : length p' ≡ length p
    same_length = length-set (put_frame p used ws) (e.frame * 512 + e.place) (table_word (b + used) 0) ∙ frame_put_length p used ws full fits

    at_entry : mem_of p' b (b + e.frame) (index (suc m) v) ≡ table_word (b + used) 0
    at_entry =
        mem_at p' b e.frame (index (suc m) v) ∙ ap (word p' e.frame) (sym place)
        ∙ put_same (put_frame p used ws) e.frame e.place (table_word (b + used) 0) (rw (frame_put_length p used ws full fits) (omega (arith, small, O.placed.taken)))

    pieces : (i : ℕ) → i < 512 → mem_of p' b (b + used) i ≡ format.piece x86 m (mem_of p b (b + e.frame) (index (suc m) v)) 0 i
    pieces i h =
        put_other (put_frame p used ws) b e.frame e.place (table_word (b + used) 0) (b + used) i (omega arith) h small (λ z. omega (arith, z.0, O.placed.taken))
        ∙ mem_at (put_frame p used ws) b used i
        ∙ frame_put_in p used ws full i (omega (arith, fits)) h
        ∙ listed_at (piece (size_at (level_of e.size - 1)) w) 512 i h
        ∙ ap (λ (s : PageSize). piece s w i) size
        ∙ piece_is m w i low written h
        ∙ ap (λ (x : ℕ). format.piece x86 m x 0 i) (sym (mem_at p b e.frame (index (suc m) v) ∙ ap (word p e.frame) (sym place)))

    elsewhere : (n k : ℕ) → Taken b used n → k < 512 → ((n ≡ b + e.frame) × (k ≡ index (suc m) v) → ⊥) → mem_of p' b n k ≡ mem_of p b n k
    elsewhere n k t h ne =
        put_other (put_frame p used ws) b e.frame e.place (table_word (b + used) 0) n k t.0 h small (λ z. ne (z.0, z.1 ∙ place))
        ∙ frame_put_before p used ws full b n k (omega (arith, fits)) t.1 t.0 h

    bound : (b + used) * 4096 < 2 ^ 52
    bound = omega (arith, G.sized.below, G.sized.page)

    pub once : Split x86 (mem_of p b) (mem_of p' b) (Taken b used) (Taken b (used + 1)) b v m (b + e.frame) (b + used) 0
    unfolding x86
    once = record {
      at = at_walk;
      whole = ap (x86.kind (suc m)) (mem_at p b e.frame (index (suc m) v) ∙ ap (word p e.frame) (sym place)) ∙ whole;
      table = at_entry;
      pieces = pieces;
      other = elsewhere;
      fresh = λ t. omega (arith, t.1);
      kept = λ n t. (t.0, omega (arith, t.1));
      new = (omega arith, omega arith);
      was = taken_was b used;
      few = lit< tt;
      below = bound;
    }

    module _ (at : Canonical 4 v ⊎ (v % span 3 ≡ 0)) where
      pub splitting : Splitting x86 (mem_of p b) (mem_of p' b) (Taken b (used + 1)) b v m
      unfolding x86
      splitting = (split.splits).holds x86 (mem_of p b) (mem_of p' b) (Taken b used) (Taken b (used + 1)) b v m (b + e.frame) (b + used) 0 lawful (omega arith) (lit< tt) G.formed (canonical at) once

      pub good : Good p' base (used + 1)
      good = record {
        sized = rw same_length (record {
          whole = G.sized.whole;
          few = G.sized.few;
          page = G.sized.page;
          below = G.sized.below;
          root = omega arith;
          there = omega arith;
        });
        formed = splitting.formed;
      }

      -- what is left to split takes one frame less
      pub left_over : leaf_over p' b v ≡ m
      left_over = leaf_over_lem p' b (used + 1) splitting.formed v ∙ splitting.near v refl

      pub one_less : splits v (leaf_over p b v) ≡ 1 + splits v (leaf_over p' b v)
      one_less = ap (splits v) level_is ∙ splits_more m v falls ∙ ap (λ (l : ℕ). 1 + splits v l) (sym left_over)
