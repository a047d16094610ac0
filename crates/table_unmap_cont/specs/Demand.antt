-- Demand 3 of the README, of `unmap_cont` on every well-formed table and every range that a call takes:
--
--   "On a well-formed table, cutting any accepted range out of the table takes exactly the frames its partly cut leaves require: one for a 2 MiB leaf;
--   for a 1 GiB leaf one plus one for each 2 MiB stretch that a cut splits inside. Never more than four, some table needs four, and the cut is refused
--   for lack of frames exactly when fewer are free than it needs. Every address outside keeps its frame and rights; no address inside has a frame any
--   more."
--
-- In this order: what a cut requires, what query answers, what is left, the demand, and the theorem.
use Rattle.std.specs.Prelude.{ℕ, suc, ◌+◌, ◌-◌, ◌*◌, ◌/◌, ◌%◌, ◌<◌, ◌≤◌, ◌≡◌, Bool, true, false, ◌⊎◌, List, length, Err, Ok, Result}
use Rattle.paging.specs.Choice.{pick}
use Rattle.paging.specs.Level.{span, Canonical, Within}
use Rattle.paging.specs.Table.{view, Translation, to, nowhere}
use Rattle.paging.specs.Cut.{partly, sum, required, frames}
use Rattle.common.specs.Page.{level_of}
use Rattle.common.specs.declared.defs.MMUFlags.{MMUFlags}
use Rattle.common.specs.declared.vm.PageSize.{PageSize}
use Rattle.x86_64.specs.Entry.{x86}
use Rattle.intel.specs.Intel.{Rights, Answer, fault, maps, intel}
use Rattle.pool.specs.Pool.{mem_of}
use Rattle.form.specs.Form.{Good}
use Rattle.refusal.specs.declared.Refusal.TheVariants.{NotMapped, NoFrames}
use Rattle.table.specs.Table.{queried}
use Rattle.table_laws.specs.Effects.{shows_in}
use Rattle.table_laws.specs.Processor.{InMemory}
use Rattle.table_unmap_cont.specs.UnmapCont.{unmap_cont}
use Rattle.refusal.specs.declared.Refusal.{Refusal}

-- what cutting [a, e) out of the pool's table requires, the sum over its leaves; and what there is
abbrev pub frames_for : List ℕ → ℕ → ℕ → ℕ → ℕ
frames_for p base a e = frames x86 (mem_of p (base / 4096)) (base / 4096) a e

abbrev pub free : List ℕ → ℕ → ℕ
free p used = length p / 512 - used

-- the frame and the rights that query answers; the page's size is the rest of its answer
abbrev pub answered : Result (ℕ × MMUFlags × PageSize) Refusal → Translation
answered (Ok (a, f, s)) = to a f.0
answered (Err r) = nowhere

-- the byte and the rights that the processor translates to
pub data Byte : Type 0 where
  byte : ℕ → Rights → Byte
  none : Byte

abbrev pub byte_of : Answer → Byte
byte_of fault = none
byte_of (maps a size r) = byte a r

-- p', with used' frames in use, is what is left of p after [a, e) was cut out of it
pub record CutOut (p p' : List ℕ) (base used used' a e : ℕ) : Type 0 where
  -- it is still a table that every call works on
  pub good : Good p' base used'
  -- "Every address outside keeps its frame and rights"
  pub outside : (v : ℕ) → Canonical 4 v → (v < a) ⊎ (e ≤ v) → answered (queried p' (base / 4096) v) ≡ answered (queried p (base / 4096) v)
  -- "no address inside has a frame any more"
  pub inside : (v : ℕ) → a ≤ v → v < e → queried p' (base / 4096) v ≡ Err NotMapped
  -- no entry outside changes, nor query's answer with it, but those of partly cut leaves
  pub untouched : (v l w : ℕ) → Canonical 4 v → (v < a) ⊎ (e ≤ v) → shows_in p base v ≡ view l w → (w ≡ 0) ⊎ (partly l (v / span l) a e ≡ false)
      → (shows_in p' base v ≡ view l w) × (queried p' (base / 4096) v ≡ queried p (base / 4096) v)
  -- what is kept of one stands in the largest leaves that fit: any larger block would be partly cut
  pub largest : (v x x' : ℕ) (f f' : MMUFlags) (s s' : PageSize) → Canonical 4 v → (v < a) ⊎ (e ≤ v)
      → queried p (base / 4096) v ≡ Ok (x, f, s) → queried p' (base / 4096) v ≡ Ok (x', f', s') → level_of s' < level_of s
      → partly (suc (level_of s')) (v / span (suc (level_of s'))) a e ≡ true
  -- the same by the manual, whatever else memory holds before and after
  pub manual_outside : (mem mem' : ℕ → ℕ) → InMemory p base used mem → InMemory p' base used' mem'
      → (v : ℕ) → Canonical 4 v → (v < a) ⊎ (e ≤ v) → byte_of (intel mem' base v) ≡ byte_of (intel mem base v)
  pub manual_inside : (mem' : ℕ → ℕ) → InMemory p' base used' mem' → (v : ℕ) → a ≤ v → v < e → intel mem' base v ≡ fault

-- the call's answer and what it leaves, for the range of n bytes from v on
pub record Demand (p : List ℕ) (base used v n : ℕ) : Type 0 where
  -- "Never more than four"
  pub most : frames_for p base v (v + n) ≤ 4
  -- "refused for lack of frames exactly when fewer are free than it needs", and then nothing is changed
  pub refused : free p used < frames_for p base v (v + n) → unmap_cont p (base / 4096) used v n ≡ record { result = Err NoFrames; pool = p }
  -- "takes exactly the frames its partly cut leaves require"
  pub carried : frames_for p base v (v + n) ≤ free p used
      → ((unmap_cont p (base / 4096) used v n).result ≡ Ok (frames_for p base v (v + n)))
      × CutOut p (unmap_cont p (base / 4096) used v n).pool base used (used + frames_for p base v (v + n)) v (v + n)

-- one where the test holds, else none
abbrev pub one : Bool → ℕ
one t = pick t 1 0

-- a table that needs four, and a range
pub record NeedsFour : Type 0 where
  pub p : List ℕ
  pub base : ℕ
  pub used : ℕ
  pub a : ℕ
  pub e : ℕ
  pub good : Good p base used
  pub range : Within 4 a e
  pub pages : (a % 4096 ≡ 0) × (e % 4096 ≡ 0)
  pub four : frames_for p base a e ≡ 4

pub record DemandHolds : Type 0 where
  pub holds : (p : List ℕ) (base used v n : ℕ) → Good p base used → v % 4096 ≡ 0 → n % 4096 ≡ 0 → Within 4 v (v + n) → Demand p base used v n
  -- "one for a 2 MiB leaf; for a 1 GiB leaf one plus one for each 2 MiB stretch that a cut splits inside", where it is partly cut; none for a page of
  -- 4 KiB, which no range of pages cuts
  pub two_mib : (q a e : ℕ) → required 1 q a e ≡ one (partly 1 q a e)
  pub one_gib : (q a e : ℕ) → required 2 q a e ≡ pick (partly 2 q a e) (1 + sum 512 (λ i. one (partly 1 (q * 512 + i) a e))) 0
  pub four_kib : (q a e : ℕ) → required 0 q a e ≡ 0
  -- "some table needs four"
  pub needs_four : NeedsFour
