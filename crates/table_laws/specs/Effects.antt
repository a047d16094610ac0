-- What the four calls on a well-formed table mean for every address: theorems about the definitions of table/specs/Table and
-- table_map/specs/Map. `shows` is the level and the word at the end of an address's walk, `translates` its frame and rights.
use Rattle.std.specs.Prelude.{ℕ, ◌+◌, ◌-◌, ◌/◌, ◌^◌, ◌≤◌, ◌<◌, ◌≡◌, ◌⊎◌, List, length, Err, Ok, Option, Result}
use Rattle.paging.specs.Level.{span, Canonical}
use Rattle.paging.specs.Format.{leaf}
use Rattle.paging.specs.Table.{View, view, shows, Translation, to, nowhere, translates}
use Rattle.common.specs.Page.{level_of, size_of}
use Rattle.common.specs.declared.defs.MMUFlags.{MMUFlags}
use Rattle.common.specs.declared.vm.PageSize.{PageSize}
use Rattle.x86_64.specs.Entry.{addr_of, x86}
use Rattle.pool.specs.Pool.{mem_of}
use Rattle.form.specs.Form.{Good}
use Rattle.refusal.specs.declared.Refusal.{Refusal}
use Rattle.refusal.specs.declared.Refusal.TheVariants.{NotMapped, AlreadyMapped, NoFrames}
use Rattle.table.specs.Table.{queried, unmapped, new_word, updated}
use Rattle.table_map.specs.Map.{leaf_for, mapped}

-- what the pool p at this base shows of v, and what it translates v to
abbrev pub shows_in : List ℕ → ℕ → ℕ → View
shows_in p base v = shows x86 (mem_of p (base / 4096)) (base / 4096) v

abbrev pub translates_in : List ℕ → ℕ → ℕ → Translation
translates_in p base v = translates x86 (mem_of p (base / 4096)) (base / 4096) v

-- the entry of level l over v now holds w, and no other address sees a change
pub record Rewrites (p p' : List ℕ) (base used v l w : ℕ) : Type 0 where
  pub good : Good p' base used
  pub inside : (x : ℕ) → x / span l ≡ v / span l → shows_in p' base x ≡ view l w
  pub outside : Canonical 4 v → (x : ℕ) → Canonical 4 x → (x / span l ≡ v / span l → ⊥) → shows_in p' base x ≡ shows_in p base x

-- a page of level t over v now holds w, and no other address is translated otherwise
pub record Adds (p p' : List ℕ) (base used' v t w : ℕ) : Type 0 where
  pub good : Good p' base used'
  pub inside : (x : ℕ) → x / span t ≡ v / span t → shows_in p' base x ≡ view t w
  pub outside : Canonical 4 v → (x : ℕ) → Canonical 4 x → (x / span t ≡ v / span t → ⊥) → translates_in p' base x ≡ translates_in p base x

-- what a map of a page of level t answers, by what the table shows of v before: 7, 8 or success, one of them and no other
pub data MapAnswer (p : List ℕ) (base used v t : ℕ) (r : Result ℕ Refusal) : Type 0 where
  -- "a used entry, or a larger leaf over the page": a leaf ends the walk, or the walk goes on below the page's level
  in_the_way : (l w : ℕ) → shows_in p base v ≡ view l w → (x86.kind l w ≡ leaf) ⊎ (l < t) → r ≡ Err AlreadyMapped → MapAnswer p base used v t r
  -- "the pool is short": the tables from the unused entry down to the page are more than the free frames
  short : (l : ℕ) → shows_in p base v ≡ view l 0 → t ≤ l → length p / 512 - used < l - t → r ≡ Err NoFrames → MapAnswer p base used v t r
  -- each of them takes a frame
  done : (l : ℕ) → shows_in p base v ≡ view l 0 → t ≤ l → l - t ≤ length p / 512 - used → r ≡ Ok (used + (l - t)) → MapAnswer p base used v t r

-- What is proved of every good pool and every address: `EffectsHold`, below. Where other addresses are spoken of, v and they are of the two halves.
pub record Effects (p : List ℕ) (base used v : ℕ) : Type 0 where
  -- query answers what the address translates to, and refuses exactly where that is nothing
  pub queries : (a : ℕ) (f : MMUFlags) (s : PageSize) → queried p (base / 4096) v ≡ Ok (a, f, s) → translates_in p base v ≡ to a f.0
  pub queries_not : queried p (base / 4096) v ≡ Err NotMapped → translates_in p base v ≡ nowhere
  -- unmap empties the leaf's entry, and answers the leaf's own address
  pub unmaps : (a : ℕ) (s : PageSize) → (unmapped p (base / 4096) v).result ≡ Ok (a, s)
      → (w : ℕ) × (shows_in p base v ≡ view (level_of s) w) × (a ≡ addr_of w) × Rewrites p (unmapped p (base / 4096) v).pool base used v (level_of s) 0
  -- update rewrites the leaf's entry
  pub updates : (n : Option ℕ) (f : Option MMUFlags) (s : PageSize) → (updated p (base / 4096) v n f).result ≡ Ok s
      → (w : ℕ) × (shows_in p base v ≡ view (level_of s) w) × Rewrites p (updated p (base / 4096) v n f).pool base used v (level_of s) (new_word w s n f)
  -- map adds its page
  pub maps : (s : PageSize) (pa f used' : ℕ) → pa + size_of s ≤ 2 ^ 52 → (mapped p (base / 4096) used v pa s f).result ≡ Ok used'
      → Adds p (mapped p (base / 4096) used v pa s f).pool base used' v (level_of s) (leaf_for s pa f)
  pub map_answer : (s : PageSize) (pa f : ℕ) → MapAnswer p base used v (level_of s) (mapped p (base / 4096) used v pa s f).result
  -- a refused call changes no word
  pub unmap_keeps : (r : Refusal) → (unmapped p (base / 4096) v).result ≡ Err r → (unmapped p (base / 4096) v).pool ≡ p
  pub update_keeps : (n : Option ℕ) (f : Option MMUFlags) (r : Refusal) → (updated p (base / 4096) v n f).result ≡ Err r → (updated p (base / 4096) v n f).pool ≡ p
  pub map_keeps : (s : PageSize) (pa f : ℕ) (r : Refusal) → (mapped p (base / 4096) used v pa s f).result ≡ Err r → (mapped p (base / 4096) used v pa s f).pool ≡ p

pub record EffectsHold : Type 0 where
  pub holds : (p : List ℕ) (base used v : ℕ) → Good p base used → Effects p base used v
