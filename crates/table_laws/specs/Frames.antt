-- How a map takes frames: "a frame is taken at `used` and zeroed", in the order of the walk. What `filled` (table_map/specs/Map) comes to, word by word.
use Rattle.std.specs.Prelude.{ℕ, suc, ◌+◌, ◌-◌, ◌*◌, ◌<◌, ◌≤◌, ◌≡◌, List, eqb, length}
use Rattle.paging.specs.Choice.{pick}
use Rattle.paging.specs.Level.{index}
use Rattle.x86_64.specs.Entry.{table_word}
use Rattle.pool.specs.Pool.{word}
use Rattle.walk.specs.declared.OpenEntry.{OpenEntry}
use Rattle.table_map.specs.Map.{filled}

-- what stands over the frames that are still to be taken, n of them from u on: a table in the next, or the page's word
abbrev pub next_word : ℕ → ℕ → ℕ → ℕ → ℕ
next_word b u n w = pick (eqb n 0) w (table_word (b + u) 0)

-- n tables under the unused entry o of v's walk, from frame u on, with the word w in the last: p' against p
pub record Frames (p p' : List ℕ) (b u n v w : ℕ) (o : OpenEntry) : Type 0 where
  -- the entry leads to the first of them
  pub entry : word p' o.frame o.place ≡ next_word b u n w
  -- no other word of the frames before them changes
  pub before : (i k : ℕ) → i < u → k < 512 → ((i ≡ o.frame) × (k ≡ o.place) → ⊥) → word p' i k ≡ word p i k
  -- table j of them is zero but for v's place, which leads to the next, or holds the page's word
  pub tables : (j k : ℕ) → j < n → k < 512 → word p' (u + j) k ≡ pick (eqb k (index (o.level - suc j) v)) (next_word b (u + suc j) (n - suc j) w) 0

pub record FramesTaken : Type 0 where
  pub holds : (n : ℕ) (p : List ℕ) (b u v w : ℕ) (o : OpenEntry) → o.frame < u → o.place < 512 → n ≤ o.level → (u + n) * 512 ≤ length p
      → Frames p (filled n p b u v o w) b u n v w o
