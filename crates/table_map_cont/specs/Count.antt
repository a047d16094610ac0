-- What `map_cont` answers, found without writing: page after page on the table as it stands, remembering only the frames in use and the address.
--
-- A page of level t whose walk ends at an unused entry of level l needs a table of each level from t to l - 1. Such a table of level m was made for the
-- page before, and is counted already, exactly where that page lies in the same entry of level m + 1: where v does not begin such an entry. With c the
-- highest level at which v begins an entry, the tables from level c up are there, and the walk would end at level c if not below.
--
--     unused entry of level 3     first page: l = 3, three tables       next page, in the same 2 MiB: c = 0, none
--     pages of 4 KiB                                                    first page of the next 2 MiB: c = 1, one table
use Rattle.std.specs.Prelude.{ℕ, zero, suc, ◌+◌, ◌-◌, ◌/◌, ◌%◌, min, List, eqb, ltb, length, Err, Ok, Result}
use Rattle.paging.specs.Choice.{pick}
use Rattle.paging.specs.Level.{span}
use Rattle.refusal.specs.declared.Refusal.TheVariants.{AlreadyMapped, NoFrames}
use Rattle.walk.specs.Walk.{found}
use Rattle.walk.specs.declared.OpenEntry.{OpenEntry}
use Rattle.table_map.specs.Map.{by_open}
use Rattle.table_map_cont.specs.MapCont.{highest, page_level, by_result}
use Rattle.refusal.specs.declared.Refusal.{Refusal}

-- the highest level at which v begins an entry
abbrev pub begins : ℕ → ℕ
begins v = highest (λ l. eqb (v % span l) 0) 3

-- a page of level t under the unused entry o, in a pool of so many frames, the tables from level c up being there: 7, 8, or the frames then in use
abbrev pub count_under : ℕ → ℕ → ℕ → ℕ → OpenEntry → Result ℕ Refusal
count_under frames used c t o =
    pick (ltb o.level t) (Err AlreadyMapped)
    (pick (ltb (frames - used) (min o.level c - t)) (Err NoFrames)
    (Ok (used + (min o.level c - t))))

abbrev pub count_page : List ℕ → ℕ → ℕ → ℕ → ℕ → ℕ → Result ℕ Refusal
count_page p b used c v t = by_open (found p b v) (Err AlreadyMapped) (count_under (length p / 512) used c t)

-- at most k pages; before the first no table is there that the walk does not meet, so c is 3
unfoldable pub counted : ℕ → List ℕ → ℕ → ℕ → ℕ → ℕ → ℕ → ℕ → ℕ → Result ℕ Refusal
counted zero p b used c v pa n top = Ok used
counted (suc k) p b used c v pa n top =
    pick (eqb n 0) (Ok used)
    (by_result (count_page p b used c v (page_level top v pa n))
    (λ used'. counted k p b used' (begins (v + span (page_level top v pa n))) (v + span (page_level top v pa n)) (pa + span (page_level top v pa n)) (n - span (page_level top v pa n)) top)
    Err)
