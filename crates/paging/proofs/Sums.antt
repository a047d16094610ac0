-- The sum over the leaves of a table is what its two ends need.
use Prim.Native.Nat.{ℕ, zero, suc, ◌+◌, ◌-◌, ◌*◌, ◌/◌, ◌%◌, ◌<◌, ◌≤◌}
use mathlib.Core.Path.{◌≡◌, refl, sym, ap, ◌∙◌}
use mathlib.Core.Bool.{Bool, true, false}
use mathlib.Core.Logic.{◌⊎◌, inl, inr, ⊎_elim}
use native.Mathlib.Omega.{arith}
use lib.Dec.{eqb}
use lib.Pow.{pow_pos}
use native.Mathlib.Nat.{mul-mod_left}
use borrow.Author.Tests.{lt-ltb, le-ltb}
use Rattle.paging.specs.Choice.{pick}
use Rattle.paging.specs.Level.{span, index, half, Canonical, Within}
use Rattle.paging.specs.Format.{Kind, nothing, leaf, table, by_kind, Format, Lawful}
use Rattle.paging.specs.Table.{walk, View, view, seen, shows}
use Rattle.paging.specs.Cut.{required, under, root_block, frames}
use Rattle.paging.specs.Need.{splits, left, need, leaf_level, over}
use Rattle.paging.proofs.Cases.{same?, below?}
use Rattle.paging.proofs.Levels.{above, half_is, K, Side, lower, upper, side, all_blocks}
use Rattle.paging.proofs.Counts.{sum_ext, sum_add, focus, place_of, block_above, share, share_in, share_out, required_is, splits_aligned, splits_most, left_most, aligned_under}

module _ (F : Format) (W : ℕ → ℕ → ℕ) where
  -- the level of the leaf that a walk from frame n ends at
  abbrev from : ℕ → ℕ → ℕ → ℕ
  from l n v = leaf_level F (seen W (walk F W l n v))

  from_zero : (n v : ℕ) → from 0 n v ≡ 0
  unfolding walk
  from_zero n v = go (F.kind 0 (W n (index 0 v)))
    where
      go : (k : Kind) → ◌≡◌ {A = ℕ} (by_kind k 0 0 (λ m. 0)) 0
      go nothing = refl
      go leaf = refl
      go (table m) = refl

  module _ (l n v : ℕ) where
    abbrev w : ℕ
    w = W n (index (suc l) v)

    from_nothing : F.kind (suc l) w ≡ nothing → from (suc l) n v ≡ 0
    unfolding walk
    from_nothing e = rw (e, e)

    from_leaf : F.kind (suc l) w ≡ leaf → from (suc l) n v ≡ suc l
    unfolding walk
    from_leaf e = rw (e, e)

    from_table : (m : ℕ) → F.kind (suc l) w ≡ table m → from (suc l) n v ≡ from l m v
    unfolding walk
    from_table m e = rw e

  module _ (a e : ℕ) (h : a < e) where
    -- the blocks at of level l have this together, where c and d are what the splits at the two ends take
    abbrev Shares : ℕ → (ℕ → ℕ) → ℕ → ℕ → ℕ
    Shares l at c d = share l (at (index l a)) a c + share l (at (index l e)) e d

    splits_zero : (x : ℕ) → splits x 0 ≡ 0
    unfolding splits
    splits_zero x = refl

    left_splits_zero : splits e (left a e 0) ≡ 0
    unfolding splits left
    left_splits_zero = refl

    -- one entry of a table
    one : (l n : ℕ) (at : ℕ → ℕ) (k : ℕ) → k < 512 → at k % 512 ≡ k
        → ((m : ℕ) (at' : ℕ → ℕ) → ((j : ℕ) → j < 512 → at' j % 512 ≡ j) → under F W a e l m at' ≡ Shares l at' (splits a (from l m a)) (splits e (left a e (from l m e))))
        → by_kind (F.kind (suc l) (W n k)) 0 (required (suc l) (at k) a e) (λ m. under F W a e l m (λ j. at k * 512 + j))
        ≡ share (suc l) (at k) a (splits a (from (suc l) n a)) + share (suc l) (at k) e (splits e (left a e (from (suc l) n e)))
    one l n at k hk fine ih = go (F.kind (suc l) (W n k)) refl
      where
        -- an address of this block has its entry here
        place : (x : ℕ) → x / span (suc l) ≡ at k → index (suc l) x ≡ k
        place x d = ap (λ (i : ℕ). i % 512) d ∙ fine

        kind_at : (x : ℕ) (t : Kind) → F.kind (suc l) (W n k) ≡ t → x / span (suc l) ≡ at k → F.kind (suc l) (W n (index (suc l) x)) ≡ t
        kind_at x t q d = ap (λ (i : ℕ). F.kind (suc l) (W n i)) (place x d) ∙ q

        -- the share of an end, by what its walk meets in this block
        same_share : (x : ℕ) (c d : ℕ) → (x / span (suc l) ≡ at k → c ≡ d) → share (suc l) (at k) x c ≡ share (suc l) (at k) x d
        same_share x c d f = ⊎_elim
            (λ (q : x / span (suc l) ≡ at k). ap (share (suc l) (at k) x) (f q))
            (λ q. share_out (suc l) (at k) x c q ∙ sym (share_out (suc l) (at k) x d q))
            (same? (x / span (suc l)) (at k))

        zero_share : (x : ℕ) → share (suc l) (at k) x 0 ≡ 0
        zero_share x = ⊎_elim (share_in (suc l) (at k) x 0) (share_out (suc l) (at k) x 0) (same? (x / span (suc l)) (at k))

        go : (t : Kind) → F.kind (suc l) (W n k) ≡ t
            → by_kind t 0 (required (suc l) (at k) a e) (λ m. under F W a e l m (λ j. at k * 512 + j))
            ≡ share (suc l) (at k) a (splits a (from (suc l) n a)) + share (suc l) (at k) e (splits e (left a e (from (suc l) n e)))
        go nothing q = sym (
            omega (
              arith,
              same_share a (splits a (from (suc l) n a)) 0 (λ d. ap (splits a) (from_nothing l n a (kind_at a nothing q d)) ∙ splits_zero a),
              same_share e (splits e (left a e (from (suc l) n e))) 0 (λ d. ap (λ (i : ℕ). splits e (left a e i)) (from_nothing l n e (kind_at e nothing q d)) ∙ left_splits_zero),
              zero_share a,
              zero_share e,
            )
            )
        go leaf q =
            omega (
              arith,
              required_is a e h (suc l) (at k),
              same_share a (splits a (from (suc l) n a)) (splits a (suc l)) (λ d. ap (splits a) (from_leaf l n a (kind_at a leaf q d))),
              same_share e (splits e (left a e (from (suc l) n e))) (splits e (left a e (suc l))) (λ d. ap (λ (i : ℕ). splits e (left a e i)) (from_leaf l n e (kind_at e leaf q d))),
            )
        go (table m) q =
            omega (
              arith,
              ih m (λ j. at k * 512 + j) (place_of (at k)),
              in_block a (splits a (from l m a)),
              in_block e (splits e (left a e (from l m e))),
              same_share a (splits a (from (suc l) n a)) (splits a (from l m a)) (λ d. ap (splits a) (from_table l n a m (kind_at a (table m) q d))),
              same_share e (splits e (left a e (from (suc l) n e))) (splits e (left a e (from l m e))) (λ d. ap (λ (i : ℕ). splits e (left a e i)) (from_table l n e m (kind_at e (table m) q d))),
            )
          where
            in_block : (x c : ℕ) → share l (at k * 512 + index l x) x c ≡ share (suc l) (at k) x c
            in_block x c = ap (λ (t : Bool). pick t c 0) (block_above l x (at k))

    -- the entries of a table and of those below it
    pub under_is : (l n : ℕ) (at : ℕ → ℕ) → ((k : ℕ) → k < 512 → at k % 512 ≡ k)
        → under F W a e l n at ≡ Shares l at (splits a (from l n a)) (splits e (left a e (from l n e)))
    unfolding under
    under_is zero n at fine = sym (
        omega (
          arith,
          ap (λ (i : ℕ). share 0 (at (index 0 a)) a (splits a i)) (from_zero n a),
          ap (λ (i : ℕ). share 0 (at (index 0 e)) e (splits e (left a e i))) (from_zero n e),
          none (eqb (a / span 0) (at (index 0 a))) (splits a 0) (splits_zero a),
          none (eqb (e / span 0) (at (index 0 e))) (splits e (left a e 0)) left_splits_zero,
        )
        )
      where
        none : (t : Bool) (c : ℕ) → c ≡ 0 → pick t c 0 ≡ 0
        none true c z = z
        none false c z = refl
    under_is (suc l) n at fine =
        sum_ext 512
        (λ k. by_kind (F.kind (suc l) (W n k)) 0 (required (suc l) (at k) a e) (λ m. under F W a e l m (λ j. at k * 512 + j)))
        (λ k. share (suc l) (at k) a (splits a (from (suc l) n a)) + share (suc l) (at k) e (splits e (left a e (from (suc l) n e))))
        (λ k hk. one l n at k hk (fine k hk) (under_is l))
        ∙ sum_add 512 (λ k. share (suc l) (at k) a (splits a (from (suc l) n a))) (λ k. share (suc l) (at k) e (splits e (left a e (from (suc l) n e))))
        ∙ rw (focus at fine (suc l) a (splits a (from (suc l) n a)), focus at fine (suc l) e (splits e (left a e (from (suc l) n e))))

-- the root's entries, and the addresses that calls take
module _ (m : ℕ) (low : m ≤ 4) where
  some_blocks : 0 < K m low
  some_blocks = pow_pos (52 - 9 * suc m)

  pub root_place : (k : ℕ) → k < 512 → root_block m k % 512 ≡ k
  root_place k h = ⊎_elim
      (λ (l : k < 256). rw (lt-ltb k 256 l) (omega arith))
      (λ (l : 256 ≤ k). rw (le-ltb k 256 l, all_blocks m low) (omega (arith, some_blocks)))
      (below? k 256)

  pub root_block_lem : (v : ℕ) → Canonical (suc m) v → v / span m ≡ root_block m (index m v)
  root_block_lem v c = go (side m low v c)
    where
      go : Side m low v → v / span m ≡ root_block m (index m v)
      go (lower z i) = rw (lt-ltb (index m v) 256 i) (omega (arith, above m v, z))
      go (upper z i) = rw (le-ltb (index m v) 256 i, all_blocks m low) (omega (arith, above m v, z, some_blocks))

module _ (F : Format) (G : Lawful F) (low : F.top ≤ 4) (W : ℕ → ℕ → ℕ) (root : ℕ) where
  pub over_most : (v : ℕ) → over F W root v ≤ F.leaf_top
  over_most v = go (shows F W root v)
    where
      go : (x : View) → leaf_level F x ≤ F.leaf_top
      go (view l w) = by (F.kind l w) refl
        where
          by : (k : Kind) → F.kind l w ≡ k → by_kind k 0 l (λ m. 0) ≤ F.leaf_top
          by nothing q = omega arith
          by leaf q = G.leaf_low l w q
          by (table m) q = omega arith

  module _ (a e : ℕ) (h : a < e) (r : Within (suc F.top) a e) where
    pub begins : Canonical (suc F.top) a
    begins = ⊎_elim (λ l. inl (omega arith)) (λ u. inr (u.0, omega (arith, u.1))) r.1

    -- the end is such an address too, or every leaf that it could fall into ends there
    pub ends : Canonical (suc F.top) e ⊎ (e % span F.top ≡ 0)
    ends = ⊎_elim in_lower (λ u. inl (inr (omega (arith, u.0), u.1))) r.1
      where
        in_lower : e ≤ half (suc F.top) → Canonical (suc F.top) e ⊎ (e % span F.top ≡ 0)
        in_lower l = ⊎_elim (λ k. inl (inl k)) (λ k. inr (last (omega arith))) (below? e (half (suc F.top)))
          where
            last : e ≡ half (suc F.top) → e % span F.top ≡ 0
            last q = ap (λ (n : ℕ). n % span F.top) (q ∙ half_is F.top low) ∙ mul-mod_left 256 (span F.top)

    at_end : splits e (left a e (over F W root e)) ≡ share F.top (root_block F.top (index F.top e)) e (splits e (left a e (over F W root e)))
    at_end = ⊎_elim
        (λ c. sym (share_in F.top (root_block F.top (index F.top e)) e (splits e (left a e (over F W root e))) (root_block_lem F.top low e c)))
        (λ z.
        let n : splits e (left a e (over F W root e)) ≡ 0 =
        splits_aligned (left a e (over F W root e)) e (aligned_under (left a e (over F W root e)) (F.top - left a e (over F W root e)) e (rw (up (left a e (over F W root e)) (omega (arith, left_most a e (over F W root e), over_most e, G.low))) z)) in
        n ∙ sym (any (eqb (e / span F.top) (root_block F.top (index F.top e))) n))
        ends
      where
        up : (l : ℕ) → l ≤ F.top → l + (F.top - l) ≡ F.top
        up l k = omega arith

        any : (t : Bool) {c : ℕ} → c ≡ 0 → pick t c 0 ≡ 0
        any true z = z
        any false z = refl

    -- what the table's leaves require is found from the two walks of the ends
    pub frames_is : frames F W root a e ≡ need a (over F W root a) e (over F W root e)
    unfolding frames shows
    frames_is =
        under_is F W a e h F.top root (root_block F.top) (root_place F.top low)
        ∙ omega (
          arith,
          share_in F.top (root_block F.top (index F.top a)) a (splits a (over F W root a)) (root_block_lem F.top low a begins),
          at_end,
        )

    -- two for each level at which there are larger leaves
    pub frames_most : frames F W root a e ≤ 2 * F.leaf_top
    frames_most = omega (
      arith,
      frames_is,
      splits_most a (over F W root a),
      splits_most e (left a e (over F W root e)),
      left_most a e (over F W root e),
      over_most a,
      over_most e,
    )
