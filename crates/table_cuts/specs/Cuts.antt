-- A sequence of cuts of the table. The region calls that cut do one after another, each by `unmap_cont`: document 01, 'What must change shape', "`Drop`: an explicit cut".
-- "A frame is taken at `used`", so that the order of the cuts decides which frame becomes which table, and is part of what a call promises.
use Rattle.std.specs.Prelude.{ℕ, ◌+◌, ◌%◌, ◌≡◌, List, [], ◌∷◌, eqb, Err, Ok, Result}
use mathlib.Core.List as list
use Rattle.paging.specs.Choice.{pick}
use Rattle.paging.specs.Level.{Within}
use Rattle.table_split.specs.Split.{Tables}
use Rattle.table_unmap_cont.specs.UnmapCont.{unmap_cont}
use Rattle.refusal.specs.declared.Refusal.{Refusal}

-- a range that is cut: len bytes from addr on
pub record Cut : Type 0 where
  pub addr : ℕ
  pub len : ℕ

-- the cut is one that `unmap_cont` takes: "A table range whose start or size is not a multiple of 4096 is 1", and the address rule
pub record Fits (c : Cut) : Type 0 where
  pub page : c.addr % 4096 ≡ 0
  pub pages : c.len % 4096 ≡ 0
  pub range : Within 4 c.addr (c.addr + c.len)

-- c is one of the cuts
abbrev pub Among : Cut → List Cut → Type 0
Among c cs = list.Memᴰ c cs

-- the frames that an answer says are taken; a refused cut takes none and changes no word
abbrev pub taken : Result ℕ Refusal → ℕ
taken (Ok n) = n
taken (Err why) = 0

-- one cut of the table whose first frame has the number b
unfoldable pub cut_one : ℕ → Cut → Tables → Tables
cut_one b c t = let o = unmap_cont t.pool b t.used c.addr c.len in record { pool = o.pool; used = t.used + taken o.result }

-- one after another
unfoldable pub cut_all : ℕ → List Cut → Tables → Tables
cut_all b [] t = t
cut_all b (c ∷ cs) t = cut_all b cs (cut_one b c t)

-- how many of them are not empty
unfoldable pub non_empty : List Cut → ℕ
non_empty [] = 0
non_empty (c ∷ cs) = pick (eqb c.len 0) 0 1 + non_empty cs
