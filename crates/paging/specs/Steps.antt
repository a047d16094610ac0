-- How a range is cut out of a table, step by step: the leaves over its ends are split until both ends are where leaves begin, then every entry from
-- one end to the other is rewritten. What a code has to do; what it comes to stands in Cut.
--
-- In this order: the splits at one address, every entry of a range rewritten, both together.
-- Frames are taken one after the other: when k are taken, those that are In k, and the next is `next k`.
use Rattle.std.specs.Prelude.{ℕ, suc, ◌+◌, ◌*◌, ◌/◌, ◌%◌, ◌≤◌, ◌<◌, ◌≡◌}
use Rattle.paging.specs.Level.{span, index}
use Rattle.paging.specs.Format.{Format}
use Rattle.paging.specs.Table.{hit, walk, View, view}
use Rattle.paging.specs.Need.{over}
use Rattle.paging.specs.Split.{Split}

-- what is seen of an entry after it
abbrev pub rewritten : (ℕ → ℕ → ℕ) → View → View
rewritten g (view l w) = view l (g l w)

module _ (F : Format) (In : ℕ → ℕ → Type 0) (next : ℕ → ℕ) (root : ℕ) where
  -- the leaf over x is split while x falls into it: from the memory W, k frames taken, to W' and k'
  pub data SplitAt (x : ℕ) : (ℕ → ℕ → ℕ) → ℕ → (ℕ → ℕ → ℕ) → ℕ → Type 0 where
    rests : (W : ℕ → ℕ → ℕ) (k : ℕ) → x % span (over F W root x) ≡ 0 → SplitAt x W k W k
    splits : (W : ℕ → ℕ → ℕ) (k : ℕ) (W₁ W' : ℕ → ℕ → ℕ) (k' l n a : ℕ) → 0 < x % span (suc l)
        → Split F W W₁ (In k) (In (k + 1)) root x l n (next k) a → SplitAt x W₁ (k + 1) W' k' → SplitAt x W k W' k'

  -- every entry from that of v on, until e, holds g of its level and its word: from W to W', k frames taken
  pub data Rewritten (g : ℕ → ℕ → ℕ) (e k : ℕ) : ℕ → (ℕ → ℕ → ℕ) → (ℕ → ℕ → ℕ) → Type 0 where
    ends : (v : ℕ) (W : ℕ → ℕ → ℕ) → e ≤ v → Rewritten g e k v W W
    rewrites : (v : ℕ) (W W₁ W' : ℕ → ℕ → ℕ) (l n : ℕ) → v < e → walk F W F.top root v ≡ hit l n (index l v)
        → W₁ n (index l v) ≡ g l (W n (index l v)) → ((m i : ℕ) → In k m → i < 512 → ((m ≡ n) × (i ≡ index l v) → ⊥) → W₁ m i ≡ W m i)
        → Rewritten g e k (v / span l * span l + span l) W₁ W' → Rewritten g e k v W W'

  -- both: [a, e) of W, k frames taken, gives W' and k' of them
  pub record Ranged (g : ℕ → ℕ → ℕ) (a e : ℕ) (W : ℕ → ℕ → ℕ) (k : ℕ) (W' : ℕ → ℕ → ℕ) (k' : ℕ) : Type 0 where
    pub W₁ : ℕ → ℕ → ℕ
    pub k₁ : ℕ
    pub W₂ : ℕ → ℕ → ℕ
    pub at_a : SplitAt a W k W₁ k₁
    pub at_e : SplitAt e W₁ k₁ W₂ k'
    pub between : Rewritten g e k' a W₂ W'
