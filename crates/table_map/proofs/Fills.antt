-- The laws of filling: what one table more does to the pool's words.
use Rattle.std.specs.Prelude.{Err, Ok}
use Prim.Native.Nat.{ℕ, zero, suc, ◌+◌, ◌-◌, ◌*◌, ◌/◌, ◌≤◌, ◌<◌}
use mathlib.Core.Path.{◌≡◌}
use mathlib.Core.List.{List}
use native.Mathlib.Omega.{arith}
use native.Mathlib.Nat.{not-suc-le-zero}
use native.Mathlib.Numerals.{sub-one}
use lib.ListN.{length, length-set}
use Rattle.paging.proofs.Levels.{index_lt}
use Rattle.pool.specs.Pool.{put_word}
use Rattle.pool.proofs.Memory.{zeroed_length}
use Rattle.walk.specs.declared.OpenEntry.{OpenEntry}
use borrow.Author.Tests.{lt-ltb, le-ltb}
use Rattle.common.specs.Page.{level_of}
use Rattle.common.specs.declared.vm.PageSize.{PageSize}
use Rattle.refusal.specs.declared.Refusal.TheVariants.{AlreadyMapped, NoFrames}
use Rattle.walk.specs.Walk.{found}
use Rattle.walk.specs.declared.Walk.TheVariants.{Open}
use Rattle.table_map.specs.Map.{Room, grown, under, filled, leaf_for, mapped}

pub fill_none : (n : ℕ) (p : List ℕ) (b u v : ℕ) (o : OpenEntry) (w : ℕ) → n ≡ 0 → put_word p o.frame o.place w ≡ filled n p b u v o w
unfolding filled
fill_none n p b u v o w e = rw e

pub fill_more : (n : ℕ) (p : List ℕ) (b u v : ℕ) (o : OpenEntry) (w : ℕ) → 0 < n
    → filled (n - 1) (grown p b u o) b (u + 1) v (under u v o) w ≡ filled n p b u v o w
unfolding filled
fill_more zero p b u v o w h = absurd (not-suc-le-zero h)
fill_more (suc n) p b u v o w h = rw sub-one

pub grown_length : (p : List ℕ) (b u : ℕ) (o : OpenEntry) → u * 512 + 512 ≤ length p → length (grown p b u o) ≡ length p
grown_length p b u o h = simp length-set (zeroed_length p u h)

-- the entry below stands in the pool too
pub room_under : (len base u v : ℕ) (o : OpenEntry) → Room len base o → u * 512 + 512 ≤ len → Room len base (under u v o)
room_under len base u v o r h = record {
  frame = h;
  place = index_lt (o.level - 1) v;
  level = omega (arith, r.level);
  page = r.page;
  below = r.below;
}

-- what a map is, by what its tests show of the unused entry that the walk found
module _ (p : List ℕ) (b used v : ℕ) (s : PageSize) (pa f : ℕ) (o : OpenEntry) (q : found p b v ≡ Open o) where
  pub table_there : o.level < level_of s → mapped p b used v pa s f ≡ record { result = Err AlreadyMapped; pool = p }
  table_there h = rw (q, lt-ltb o.level (level_of s) h)

  module _ (h : level_of s ≤ o.level) where
    pub short : length p / 512 - used < o.level - level_of s → mapped p b used v pa s f ≡ record { result = Err NoFrames; pool = p }
    short l = rw (q, le-ltb o.level (level_of s) h, lt-ltb (length p / 512 - used) (o.level - level_of s) l)

    pub done : o.level - level_of s ≤ length p / 512 - used
        → mapped p b used v pa s f ≡ record { result = Ok (used + (o.level - level_of s)); pool = filled (o.level - level_of s) p b used v o (leaf_for s pa f) }
    done l = rw (q, le-ltb o.level (level_of s) h, le-ltb (length p / 512 - used) (o.level - level_of s) l)
