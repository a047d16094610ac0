-- `query` against the processor: for every address and every well-formed table in memory, the frame, the size and the rights that `query` answers are
-- those of the Intel manual's four-level paging (intel/specs/Intel); a leaf without rights translates nothing there while `query` still answers it.
use Rattle.std.specs.Prelude.{ℕ, ◌+◌, ◌*◌, ◌/◌, ◌<◌, ◌≡◌, List, Err, Ok}
use Rattle.common.specs.Flags.{READ, has}
use Rattle.common.specs.Page.{size_of}
use Rattle.common.specs.declared.defs.MMUFlags.{MMUFlags}
use Rattle.common.specs.declared.vm.PageSize.{PageSize}
use Rattle.intel.specs.Intel.{Rights, fault, maps, intel}
use Rattle.intel.specs.Agrees.{SameRights}
use Rattle.pool.specs.Pool.{word}
use Rattle.form.specs.Form.{Good}
use Rattle.refusal.specs.declared.Refusal.TheVariants.{NotMapped}
use Rattle.table.specs.Table.{queried}

-- physical memory holds the first `used` frames of the pool p from the address base on, eight bytes to a word
abbrev pub InMemory : List ℕ → ℕ → ℕ → (ℕ → ℕ) → Type 0
InMemory p base used mem = (i k : ℕ) → i < used → k < 512 → mem (base + i * 4096 + k * 8) ≡ word p i k

-- What is proved of every good pool that memory holds, with its base in CR3: `ProcessorAgrees`, below.
pub record Processor (p : List ℕ) (base : ℕ) (mem : ℕ → ℕ) : Type 0 where
  -- a page that can be read: the same address, size and rights
  pub reads : (v a : ℕ) (f : MMUFlags) (s : PageSize) → queried p (base / 4096) v ≡ Ok (a, f, s) → has READ f.0 ≡ 1
      → (r : Rights) × (intel mem base v ≡ maps a (size_of s) r) × SameRights f.0 r
  -- one that cannot: a fault
  pub holds : (v a : ℕ) (f : MMUFlags) (s : PageSize) → queried p (base / 4096) v ≡ Ok (a, f, s) → has READ f.0 ≡ 0 → intel mem base v ≡ fault
  -- nothing there: a fault
  pub lacks : (v : ℕ) → queried p (base / 4096) v ≡ Err NotMapped → intel mem base v ≡ fault

pub record ProcessorAgrees : Type 0 where
  pub holds : (p : List ℕ) (base used : ℕ) (mem : ℕ → ℕ) → Good p base used → InMemory p base used mem → Processor p base mem
