-- What `map_cont` on a well-formed table means for every address: theorems about the definition of specs/MapCont.
use Rattle.std.specs.Prelude.{ℕ, ◌+◌, ◌-◌, ◌/◌, ◌%◌, ◌≤◌, ◌<◌, ◌≡◌, ◌⊎◌, List, length, Err, Ok}
use Rattle.paging.specs.Level.{Canonical}
use Rattle.paging.specs.Table.{to}
use Rattle.x86_64.specs.Entry.{granted}
use Rattle.pool.specs.Pool.{word}
use Rattle.form.specs.Form.{Good}
use Rattle.refusal.specs.declared.Refusal.{Refusal}
use Rattle.refusal.specs.declared.Refusal.TheVariants.{AlreadyMapped, NoFrames}
use Rattle.table_laws.specs.Effects.{translates_in}
use Rattle.table_map_cont.specs.MapCont.{Range, top_level, map_cont}
use Rattle.table_map_cont.specs.Count.{counted}

-- the n bytes from v on are now those from pa on: p' with used' tables against p with used
pub record MapsRange (p p' : List ℕ) (base used used' v n pa f : ℕ) : Type 0 where
  pub good : Good p' base used'
  -- frames are only taken
  pub grows : used ≤ used'
  -- each address of the range translates to its own byte, from pa aligned down to a page on, with the rights that are read back where f was written
  pub inside : (x : ℕ) → v ≤ x → x < v + n → translates_in p' base x ≡ to (pa - pa % 4096 + (x - v)) (granted f)
  -- no other address is translated otherwise
  pub outside : (x : ℕ) → Canonical 4 x → (x < v) ⊎ (v + n ≤ x) → translates_in p' base x ≡ translates_in p base x
  -- no word in use is changed
  pub words : (i k : ℕ) → i < used → k < 512 → (word p i k ≡ 0 → ⊥) → word p' i k ≡ word p i k

-- What is proved of every good pool and every range that is taken: `RangesHold`, below.
pub record Ranges (p : List ℕ) (base used v n pa f : ℕ) : Type 0 where
  -- an accepted call maps its range, and that alone
  pub maps : (used' : ℕ) → (map_cont p (base / 4096) used v n pa f).result ≡ Ok used' → MapsRange p (map_cont p (base / 4096) used v n pa f).pool base used used' v n pa f
  -- a refused one changes no word: "unlike the Rust nothing stays mapped"
  pub keeps : (r : Refusal) → (map_cont p (base / 4096) used v n pa f).result ≡ Err r → (map_cont p (base / 4096) used v n pa f).pool ≡ p
  -- it is refused as a single map is: 7 or 8
  pub refusals : (r : Refusal) → (map_cont p (base / 4096) used v n pa f).result ≡ Err r → (r ≡ AlreadyMapped) ⊎ (r ≡ NoFrames)
  -- the answer, found without a write
  pub by_count : (map_cont p (base / 4096) used v n pa f).result ≡ counted (n / 4096) p (base / 4096) used 3 v pa n (top_level f)
  -- and with no more pages tried than the pool has words, and one, however long the range is
  pub few : counted (n / 4096) p (base / 4096) used 3 v pa n (top_level f) ≡ counted (length p + 1) p (base / 4096) used 3 v pa n (top_level f)
  -- an empty range is mapped at once
  pub empty : n ≡ 0 → map_cont p (base / 4096) used v n pa f ≡ record { result = Ok used; pool = p }

pub record RangesHold : Type 0 where
  pub holds : (p : List ℕ) (base used v n pa f : ℕ) → Good p base used → Range v n pa → Ranges p base used v n pa f
