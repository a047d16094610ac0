-- Tables in memory, over any format. W n k is the word at place k of frame n; a frame's number is its physical address by 4096, so that
-- the frames of one pool or of two are one memory.
--
--     root, level 3        level 2              level 1              level 0
--     +----------+         +----------+         +----------+         +----------+
--     | index 3 -|-------> | index 2 -|-------> | index 1 -|-------> | index 0 -|---> page of 4 KiB
--     +----------+         +----------+         +----------+         +----------+
--                                |                    +---> page of 2 MiB
--                                +---> page of 1 GiB
--
-- In this order: where a walk ends, what is seen there, what an address translates to, and when a table is well formed.
use Rattle.std.specs.Prelude.{ℕ, zero, suc, ◌+◌, ◌%◌, ◌<◌, ◌≡◌}
use Rattle.paging.specs.Level.{span, index}
use Rattle.paging.specs.Format.{table, by_kind, Format, Entry}

-- an entry: its level, its frame and its place in the frame
pub data Hit : Type 0 where
  hit : ℕ → ℕ → ℕ → Hit

-- from frame n of level l down to the first entry that is no table
unfoldable pub walk : Format → (ℕ → ℕ → ℕ) → ℕ → ℕ → ℕ → Hit
walk F W zero n v = hit 0 n (index 0 v)
walk F W (suc l) n v =
    by_kind (F.kind (suc l) (W n (index (suc l) v))) (hit (suc l) n (index (suc l) v)) (hit (suc l) n (index (suc l) v)) (λ m. walk F W l m v)

-- what stands there: the level and the word
pub data View : Type 0 where
  view : ℕ → ℕ → View

abbrev pub seen : (ℕ → ℕ → ℕ) → Hit → View
seen W (hit l n k) = view l (W n k)

-- what a table shows of an address
unfoldable pub shows : Format → (ℕ → ℕ → ℕ) → ℕ → ℕ → View
shows F W root v = seen W (walk F W F.top root v)

-- the physical address and the rights of an address, a leaf without rights included; or none
pub data Translation : Type 0 where
  to : ℕ → ℕ → Translation
  nowhere : Translation

abbrev pub translated : Format → ℕ → View → Translation
translated F v (view l w) = by_kind (F.kind l w) nowhere (to (F.addr w + v % span l) (F.flags w)) (λ m. nowhere)

unfoldable pub translates : Format → (ℕ → ℕ → ℕ) → ℕ → ℕ → Translation
translates F W root v = translated F v (shows F W root v)

-- Document 01, 'Well formed', of the frames that are In, with this root. Each has a level; each but the root has one entry that reaches it.
pub record Formed (F : Format) (W : ℕ → ℕ → ℕ) (In : ℕ → Type 0) (root : ℕ) : Type 0 where
  pub lev : ℕ → ℕ
  pub par_n : ℕ → ℕ
  pub par_k : ℕ → ℕ
  pub root_in : In root
  pub root_lev : lev root ≡ F.top
  -- each leaf and each table entry is a word that the rules write at its level; no other non-zero entries
  pub entries : (n k : ℕ) → In n → k < 512 → Entry F (lev n) (W n k)
  -- every table entry reaches a taken frame other than the root, from one level above, which no other entry reaches
  pub down : (n k m : ℕ) → In n → k < 512 → F.kind (lev n) (W n k) ≡ table m
      → In m × (m ≡ root → ⊥) × (lev n ≡ suc (lev m)) × (par_n m ≡ n) × (par_k m ≡ k)
  -- each taken frame but the root is reached
  pub up : (m : ℕ) → In m → (m ≡ root → ⊥) → In (par_n m) × (par_k m < 512) × (F.kind (lev (par_n m)) (W (par_n m) (par_k m)) ≡ table m)
