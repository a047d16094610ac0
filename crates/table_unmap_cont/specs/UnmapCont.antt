-- What `unmap_cont` does to a well-formed table, word by word. That it takes the frames which its partly cut leaves require, keeps every address outside
-- and leaves none inside is proved of it: Demand, beside this file.
use Rattle.std.specs.Prelude.{ℕ, zero, suc, ◌+◌, ◌-◌, ◌*◌, ◌/◌, ◌%◌, List, eqb, ltb, leb, length, Err, Ok, Result}
use Rattle.paging.specs.Choice.{pick}
use Rattle.paging.specs.Level.{span}
use Rattle.common.specs.Page.{size_of}
use Rattle.pool.specs.Pool.{put_word}
use Rattle.refusal.specs.declared.Refusal.TheVariants.{NoFrames}
use Rattle.walk.specs.Walk.{found}
use Rattle.walk.specs.declared.Walk.{Walk}
use Rattle.walk.specs.declared.Walk.TheVariants.{Leaf, Open}
use Rattle.table.specs.Table.{by_leaf}
use Rattle.table_split.specs.Split.{Tables, needed, split_ends}
use Rattle.refusal.specs.declared.Refusal.{Refusal}

-- the bytes that the entry at the end of a walk spans
abbrev pub span_of : Walk → ℕ
span_of (Leaf e) = size_of e.size
span_of (Open o) = span o.level

-- the entry over v is emptied
abbrev pub emptied : List ℕ → ℕ → ℕ → List ℕ
emptied p b v = by_leaf (found p b v) (λ e. put_word p e.frame e.place 0) p

-- the begin of the next entry
abbrev pub after : List ℕ → ℕ → ℕ → ℕ
after p b v = let s = span_of (found p b v) in v + (s - v % s)

-- "passes over holes, removes whole leaves": every entry from v to e, n of them at most; a hole is passed by the span of the unused entry that makes it
unfoldable pub cleared : ℕ → List ℕ → ℕ → ℕ → ℕ → List ℕ
cleared zero p b v e = p
cleared (suc n) p b v e = pick (leb e v) p (cleared n (emptied p b v) b (after p b v) e)

pub record ContUnmapping : Type 0 where
  pub result : Result ℕ Refusal
  pub pool : List ℕ

-- what is left, with t after the splits: no more entries are met than its tables have, however long the range is
abbrev pub cut_from : Tables → ℕ → ℕ → ℕ → List ℕ
cut_from t b a e = cleared (t.used * 512) t.pool b a e

-- 8 where fewer frames are free than needed, and then nothing is changed; else the answer is the number of frames taken
abbrev pub unmap_cont : List ℕ → ℕ → ℕ → ℕ → ℕ → ContUnmapping
unmap_cont p b used v n =
    pick (eqb n 0) (record { result = Ok 0; pool = p })
    (pick (ltb (length p / 512 - used) (needed p b v (v + n))) (record { result = Err NoFrames; pool = p })
    (record { result = Ok (needed p b v (v + n)); pool = cut_from (split_ends p b used v (v + n)) b v (v + n) }))
