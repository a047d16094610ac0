-- What a single map does to a well-formed table: "a frame is taken at `used` and zeroed", from the unused entry at which the address's walk
-- ends down to the level of the page; then the leaf is written. States document 01, 'Entries and translation' and rows 7 and 8 of 'Refusal numbers'.
--
--     before                    after, a page of 4 KiB under an unused entry of level 2
--     +---+                     +---+      +---------+      +-----------+
--     | 0 |                     | --|----> | frame u |----> | frame u+1 |
--     +---+                     +---+      +---------+      +-----------+
--                                          zeros but one    zeros but the leaf
use Rattle.std.specs.Prelude.{ℕ, zero, suc, ◌+◌, ◌-◌, ◌*◌, ◌/◌, ◌%◌, ◌^◌, ◌≤◌, ◌<◌, ◌≡◌, List, ltb, length, Err, Ok, Result}
use Rattle.paging.specs.Choice.{pick}
use Rattle.paging.specs.Level.{index}
use Rattle.common.specs.Page.{level_of, size_of, is_huge}
use Rattle.common.specs.declared.vm.PageSize.{PageSize}
use Rattle.x86_64.specs.Entry.{addr_of, leaf_by, table_word}
use Rattle.pool.specs.Pool.{put_word, zeroed}
use Rattle.refusal.specs.declared.Refusal.TheVariants.{AlreadyMapped, NoFrames}
use Rattle.walk.specs.Walk.{found}
use Rattle.walk.specs.declared.Walk.{Walk}
use Rattle.walk.specs.declared.Walk.TheVariants.{Leaf, Open}
use Rattle.walk.specs.declared.OpenEntry.{OpenEntry}
use Rattle.refusal.specs.declared.Refusal.{Refusal}

-- an entry that stands in a pool of len words, whose frames all have addresses
pub record Room (len base : ℕ) (o : OpenEntry) : Type 0 where
  pub frame : o.frame * 512 + 512 ≤ len
  pub place : o.place < 512
  pub level : o.level ≤ 3
  pub page : base % 4096 ≡ 0
  pub below : base + 4096 * (len / 512) ≤ 2 ^ 52

-- a table in frame u, zeroed, under the entry o
abbrev pub grown : List ℕ → ℕ → ℕ → OpenEntry → List ℕ
grown p b u o = put_word (zeroed p u) o.frame o.place (table_word (b + u) 0)

-- the entry of v in it
abbrev pub under : ℕ → ℕ → OpenEntry → OpenEntry
under u v o = record { level = o.level - 1; frame = u; place = index (o.level - 1) v }

-- n tables under the entry o, from frame u on, and the word w in the last
unfoldable pub filled : ℕ → List ℕ → ℕ → ℕ → ℕ → OpenEntry → ℕ → List ℕ
filled zero p b u v o w = put_word p o.frame o.place w
filled (suc n) p b u v o w = filled n (grown p b u o) b (u + 1) v (under u v o) w

pub record Mapping : Type 0 where
  pub result : Result ℕ Refusal
  pub pool : List ℕ

-- "A single map aligns the physical address down to its page size."
abbrev pub leaf_for : PageSize → ℕ → ℕ → ℕ
leaf_for s pa f = leaf_by (is_huge s) (addr_of (pa - pa % size_of s)) f 0

-- an unused entry o over a page of level t: 7 where a table stands at t, 8 where fewer frames are free than the levels between
abbrev pub map_under : List ℕ → ℕ → ℕ → ℕ → ℕ → ℕ → OpenEntry → Mapping
map_under p b used v t w o =
    pick (ltb o.level t) (record { result = Err AlreadyMapped; pool = p })
    (pick (ltb (length p / 512 - used) (o.level - t)) (record { result = Err NoFrames; pool = p })
    (record { result = Ok (used + (o.level - t)); pool = filled (o.level - t) p b used v o w }))

abbrev pub by_open : {A : Type 0} → Walk → A → (OpenEntry → A) → A
by_open (Leaf e) a f = a
by_open (Open o) a f = f o

-- 7: "a used entry, or a larger leaf over the page"
abbrev pub mapped : List ℕ → ℕ → ℕ → ℕ → ℕ → PageSize → ℕ → Mapping
mapped p b used v pa s f = by_open (found p b v) (record { result = Err AlreadyMapped; pool = p }) (map_under p b used v (level_of s) (leaf_for s pa f))
