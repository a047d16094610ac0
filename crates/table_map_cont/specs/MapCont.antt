-- What `map_cont` does to a well-formed table. States document 01, 'Entries and translation': "With HUGE_PAGE, `map_cont` takes the largest of 1 GiB,
-- 2 MiB and 4 KiB that fits the remaining length and the alignment of both addresses; otherwise 4 KiB only. Its refusal is that of the first failing page
-- in address order, and unlike the Rust nothing stays mapped."
use Rattle.std.specs.Prelude.{ℕ, zero, suc, ◌+◌, ◌-◌, ◌/◌, ◌%◌, ◌^◌, ◌≤◌, ◌≡◌, Bool, ◌&&◌, List, eqb, leb, Err, Ok, Result}
use Rattle.paging.specs.Choice.{pick}
use Rattle.paging.specs.Level.{span, Within}
use Rattle.common.specs.Flags.{HUGE_PAGE, has}
use Rattle.refusal.specs.declared.Refusal.{Refusal}
use Rattle.walk.specs.Walk.{size_at}
use Rattle.table_map.specs.Map.{mapped, Mapping}

-- the ranges that are taken: n bytes from v on in one half, to the physical address pa on
pub record Range (v n pa : ℕ) : Type 0 where
  pub within : Within 4 v (v + n)
  pub start : v % 4096 ≡ 0
  pub size : n % 4096 ≡ 0
  pub physical : pa + n ≤ 2 ^ 52

-- the level of the largest page that `map_cont` makes: 1 GiB
abbrev pub largest : ℕ
largest = 2

-- "With HUGE_PAGE .. the largest; otherwise 4 KiB only": the highest level that these flags allow
abbrev pub top_level : ℕ → ℕ
top_level f = pick (eqb (has HUGE_PAGE f) 1) largest 0

-- the highest level up to a top that passes a test, or 0
unfoldable pub highest : (ℕ → Bool) → ℕ → ℕ
highest test zero = 0
highest test (suc l) = pick (test (suc l)) (suc l) (highest test l)

-- a page of level l "fits the remaining length and the alignment of both addresses"
abbrev pub fits : ℕ → ℕ → ℕ → ℕ → Bool
fits v pa n l = leb (span l) n && (eqb (v % span l) 0 && eqb (pa % span l) 0)

abbrev pub page_level : ℕ → ℕ → ℕ → ℕ → ℕ
page_level top v pa n = highest (fits v pa n) top

abbrev pub by_result : {A : Type 0} → Result ℕ Refusal → (ℕ → A) → (Refusal → A) → A
by_result (Ok used) f g = f used
by_result (Err r) f g = g r

-- a page that is mapped is followed by the rest; "the first failing page" ends it
abbrev pub and_then : Mapping → (ℕ → List ℕ → Mapping) → Mapping
and_then m rest = by_result m.result (λ used. rest used m.pool) (λ r. m)

-- the pages "in address order", at most k of them, each as a single map does it (table_map/specs/Map)
unfoldable pub pages : ℕ → List ℕ → ℕ → ℕ → ℕ → ℕ → ℕ → ℕ → ℕ → Mapping
pages zero p b used v pa n top f = record { result = Ok used; pool = p }
pages (suc k) p b used v pa n top f =
    pick (eqb n 0) (record { result = Ok used; pool = p })
    (and_then (mapped p b used v pa (size_at (page_level top v pa n)) f)
    (λ used' p'. pages k p' b used' (v + span (page_level top v pa n)) (pa + span (page_level top v pa n)) (n - span (page_level top v pa n)) top f))

-- "unlike the Rust nothing stays mapped"
abbrev pub or_nothing : List ℕ → Mapping → Mapping
or_nothing p m = by_result m.result (λ used. m) (λ r. record { result = Err r; pool = p })

-- n bytes are at most n / 4096 pages
abbrev pub map_cont : List ℕ → ℕ → ℕ → ℕ → ℕ → ℕ → ℕ → Mapping
map_cont p b used v n pa f = or_nothing p (pages (n / 4096) p b used v pa n (top_level f) f)
