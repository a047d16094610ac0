-- On a well-formed table the processor's translation is what a walk shows, but for leaves without rights: the processor faults there, and the
-- table still translates, so that the address is not lost.
--
-- In this order: what the processor answers by what a walk shows, the tables in memory, rights and page flags, what agrees, and the theorem.
use Rattle.std.specs.Prelude.{ℕ, ◌+◌, ◌-◌, ◌*◌, ◌%◌, ◌^◌, ◌<◌, ◌≡◌}
use Rattle.paging.specs.Choice.{pick}
use Rattle.paging.specs.Level.{span}
use Rattle.paging.specs.Format.{leaf, by_kind}
use Rattle.paging.specs.Table.{View, view, shows, to, nowhere, translates, Formed}
use Rattle.common.specs.Flags.{READ, WRITE, EXECUTE, USER, has}
use Rattle.x86_64.specs.Entry.{bit, addr_of, flags_of, is_present, kind_at, x86}
use Rattle.intel.specs.Intel.{Rights, Answer, fault, maps, intel}

-- what the processor may do with the page of a leaf: bit 1 is for writing, bit 2 for user mode, bit 63 against fetching
abbrev pub rights_of : ℕ → Rights
rights_of w = record { write = bit 1 w; user = bit 2 w; fetch = 1 - bit 63 w }

-- what the processor answers for v where a walk shows the word w at level l: a leaf with bit 0 maps a page, all else faults
abbrev pub as_intel : ℕ → View → Answer
as_intel v (view l w) = by_kind (kind_at l w) fault (pick (is_present w) (maps (addr_of w + v % span l) (span l) (rights_of w)) fault) (λ m. fault)

-- the tables are in physical memory: frame n at n * 4096, eight bytes to an entry
pub record Stored (W : ℕ → ℕ → ℕ) (In : ℕ → Type 0) (mem : ℕ → ℕ) : Type 0 where
  pub below : (n : ℕ) → In n → n < 2 ^ 40
  pub holds : (n k : ℕ) → In n → k < 512 → mem (n * 4096 + k * 8) ≡ W n k

-- the page flags f say the same as the rights r
pub record SameRights (f : ℕ) (r : Rights) : Type 0 where
  pub read : has READ f ≡ 1
  pub write : has WRITE f ≡ r.write
  pub user : has USER f ≡ r.user
  pub fetch : has EXECUTE f ≡ r.fetch

-- the tables of W from this root, against the processor's memory
pub record Agrees (W : ℕ → ℕ → ℕ) (root : ℕ) (mem : ℕ → ℕ) : Type 0 where
  -- the processor's answer, for every address, by what a walk shows
  pub agrees : (v : ℕ) → intel mem (root * 4096) v ≡ as_intel v (shows x86 W root v)
  -- where the processor maps, the table translates to the same address, with the same rights
  pub mapped : (v p size : ℕ) (r : Rights) → intel mem (root * 4096) v ≡ maps p size r → (f : ℕ) × (translates x86 W root v ≡ to p f) × SameRights f r
  -- where the table translates with READ, the processor maps the same address, with the same rights
  pub readable : (v p f : ℕ) → translates x86 W root v ≡ to p f → has READ f ≡ 1
      → (size : ℕ) × (r : Rights) × (intel mem (root * 4096) v ≡ maps p size r) × SameRights f r
  -- a leaf with bit 0 clear faults, and the table still translates to its address
  pub held : (v l w : ℕ) → shows x86 W root v ≡ view l w → kind_at l w ≡ leaf → bit 0 w ≡ 0
      → (intel mem (root * 4096) v ≡ fault) × (translates x86 W root v ≡ to (addr_of w + v % span l) (flags_of w))
  -- so it is wherever the table translates without READ
  pub unreadable : (v p f : ℕ) → translates x86 W root v ≡ to p f → has READ f ≡ 0 → intel mem (root * 4096) v ≡ fault
  -- where the table translates nowhere the processor faults
  pub unmapped : (v : ℕ) → translates x86 W root v ≡ nowhere → intel mem (root * 4096) v ≡ fault

-- the theorem: so it is for every well-formed table in memory
pub record Agreement : Type 1 where
  pub holds : (W : ℕ → ℕ → ℕ) (In : ℕ → Type 0) (root : ℕ) (mem : ℕ → ℕ) → Formed x86 W In root → Stored W In mem → Agrees W root mem
