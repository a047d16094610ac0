-- A leaf gives way to a table of its 512 pieces: "give each kept address its own frame or do not keep it" (README). Over any format.
--
--     before               after
--     +------+             +-------+      +----------+
--     | leaf |             | table |----> | piece 0  |    addr
--     +------+             +-------+      | piece 1  |    addr + 1 span
--                                         |   ..     |
--                                         | piece 511|    addr + 511 spans, each with the leaf's rights
--                                         +----------+
use Rattle.std.specs.Prelude.{ℕ, suc, ◌*◌, ◌/◌, ◌^◌, ◌<◌, ◌≤◌, ◌≡◌, ◌⊎◌}
use Rattle.paging.specs.Level.{span, index, Canonical}
use Rattle.paging.specs.Format.{leaf, Format, Lawful, piece}
use Rattle.paging.specs.Table.{hit, walk, Formed, shows, translates}
use Rattle.paging.specs.Need.{over}

-- W' is W, but the leaf of level l + 1 over x, in frame n, is a table in frame u, whose entries are the leaf's pieces with the marks a; In' is In and u
pub record Split (F : Format) (W W' : ℕ → ℕ → ℕ) (In In' : ℕ → Type 0) (root x l n u a : ℕ) : Type 0 where
  pub at : walk F W F.top root x ≡ hit (suc l) n (index (suc l) x)
  pub whole : F.kind (suc l) (W n (index (suc l) x)) ≡ leaf
  pub table : W' n (index (suc l) x) ≡ F.table_word u 0
  pub pieces : (i : ℕ) → i < 512 → W' u i ≡ piece F l (W n (index (suc l) x)) a i
  pub other : (m k : ℕ) → In m → k < 512 → ((m ≡ n) × (k ≡ index (suc l) x) → ⊥) → W' m k ≡ W m k
  pub fresh : In u → ⊥
  pub kept : (m : ℕ) → In m → In' m
  pub new : In' u
  pub was : (m : ℕ) → In' m → In m ⊎ (m ≡ u)
  pub few : a < 4
  pub below : u * 4096 < 2 ^ F.physical

-- What is proved of it: the table stays well formed, and no address is translated otherwise, neither in the leaf nor outside.
pub record Splitting (F : Format) (W W' : ℕ → ℕ → ℕ) (In' : ℕ → Type 0) (root x l : ℕ) : Type 0 where
  pub formed : Formed F W' In' root
  pub same : (v : ℕ) → Canonical (suc F.top) v → translates F W' root v ≡ translates F W root v
  -- the leaf was of level l + 1 for all its addresses, its pieces are of level l, and outside it everything is seen as before
  pub whole : (v : ℕ) → v / span (suc l) ≡ x / span (suc l) → over F W root v ≡ suc l
  pub near : (v : ℕ) → v / span (suc l) ≡ x / span (suc l) → over F W' root v ≡ l
  pub far : (v : ℕ) → Canonical (suc F.top) v → (v / span (suc l) ≡ x / span (suc l) → ⊥) → shows F W' root v ≡ shows F W root v

pub record Splits : Type 1 where
  pub holds : (F : Format) (W W' : ℕ → ℕ → ℕ) (In In' : ℕ → Type 0) (root x l n u a : ℕ) → Lawful F → F.top ≤ 4 → 0 < F.table_marks
      → Formed F W In root → Canonical (suc F.top) x → Split F W W' In In' root x l n u a → Splitting F W W' In' root x l
