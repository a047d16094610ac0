-- What `protect` means on a space that passes its check and a good pool; proofs/Laws has the proof. Document 01, 'Regions': "`protect` compares with closed ends: a
-- child that merely touches gives 1, a touching mapping must grant the rights too"; 'Entries and translation': "`update` acts on the whole leaf over the address", so that
-- rights may change outside the range too, and "On an unused entry the port answers 6", so that no address gains a frame.
use Rattle.std.specs.Prelude.{Err, Ok, Result}
use Rattle.std.specs.Prelude.{ℕ, ◌+◌, ◌*◌, ◌/◌, ◌≤◌, ◌<◌, ◌≡◌, true, List}
use Rattle.paging.specs.Level.{span, Canonical}
use Rattle.paging.specs.Table.{view, to}
use Rattle.common.specs.Flags.{READ, WRITE, EXECUTE, USER, HUGE_PAGE, has, known_page}
use Rattle.common.specs.declared.defs.MMUFlags.{MMUFlags}
use Rattle.common.specs.declared.vm.PageSize.{PageSize}
use Rattle.x86_64.specs.Entry.{any_right, granted}
use Rattle.form.specs.Form.{Good}
use Rattle.refusal.specs.declared.Refusal.{Refusal}
use Rattle.space.specs.Space.{mapping_at, is_mapping, mapping_place}
use Rattle.space.specs.Passes.{page_at, Passes}
use Rattle.space.specs.declared.Space.{Space}
use Rattle.table.specs.Table.{queried}
use Rattle.table_laws.specs.Effects.{shows_in, translates_in}
use Rattle.vmar_offset.specs.Offset.{slot_of}
use Rattle.vmar_protect.specs.Protect.{with_rights, lent, ProtectDone, protected}
use Rattle.vmar_protect_laws.specs.Answers.{Asked, Allowed, ProtectAnswers}

-- known page flags with the rights of `access`: exactly those, and their own USER and HUGE_PAGE
pub record Righted (old access : ℕ) : Type 0 where
  pub known : known_page (with_rights old access) ≡ true
  pub read : has READ (with_rights old access) ≡ has READ access
  pub write : has WRITE (with_rights old access) ≡ has WRITE access
  pub execute : has EXECUTE (with_rights old access) ≡ has EXECUTE access
  pub user : has USER (with_rights old access) ≡ has USER old
  pub huge : has HUGE_PAGE (with_rights old access) ≡ has HUGE_PAGE old
  -- an entry gives the rights, READ with any of them, and that USER
  pub entry : granted (with_rights old access) ≡ any_right access * READ + has WRITE access * WRITE + has EXECUTE access * EXECUTE + has USER old * USER

-- page j of the mapping in slot i begins at this address
abbrev pub page_addr : Space → ℕ → ℕ → ℕ
page_addr s i j = (mapping_at s i).addr + j * 4096

-- page j of the mapping in slot i is one of region r, and lies in [begin, end)
pub record InRange (s : Space) (r begin end i j : ℕ) : Type 0 where
  pub slot : i < 64
  pub live : is_mapping s i ≡ true
  pub mine : (mapping_at s i).region ≡ r
  pub page : j < (mapping_at s i).size / 4096
  pub from : begin ≤ page_addr s i j
  pub to : page_addr s i j < end

-- two answers of `query` tell of one frame and one page size, or both of none; rights may differ
pub data SameFrame : (Result (ℕ × MMUFlags × PageSize) Refusal) → (Result (ℕ × MMUFlags × PageSize) Refusal) → Type 0 where
  none : (why : Refusal) → SameFrame (Err why) (Err why)
  frame : (a : ℕ) (f g : MMUFlags) (z : PageSize) → SameFrame (Ok (a, f, z)) (Ok (a, g, z))

-- the entry that ends the walk of v is over x too
abbrev pub Over : List ℕ → ℕ → ℕ → ℕ → Type 0
Over p base v x = (l : ℕ) × (w : ℕ) × (shows_in p base v ≡ view l w) × (x / span l ≡ v / span l)

-- page j of the mapping at place k of the list lies in [begin, end), under the entry that is over x, and no mapping after it in the list has such a page
pub record LastOver (s : Space) (p : List ℕ) (base r begin end x k j : ℕ) : Type 0 where
  pub place : k < s.mapcount
  pub page : InRange s r begin end (mapping_place s k) j
  pub over : Over p base (page_addr s (mapping_place s k) j) x
  pub last : (m i : ℕ) → k < m → m < s.mapcount → InRange s r begin end (mapping_place s m) i → Over p base (page_addr s (mapping_place s m) i) x → ⊥

-- the call on the two buffers
abbrev pub call : Space → List ℕ → List ℕ → ℕ → ℕ → ℕ → ℕ → ℕ → ProtectDone
call s f p base id begin len access = protected s (lent f p) (base / 4096) id begin len access

pub record Protects (s : Space) (f p : List ℕ) (base used id begin len access : ℕ) : Type 0 where
  -- a refusal changes nothing
  pub refused : (why : Refusal) → (call s f p base id begin len access).result ≡ Err why
      → ((call s f p base id begin len access).flags ≡ f) × ((call s f p base id begin len access).pool ≡ p)
  -- the space still passes its check, and the pool is still good
  pub passes : Passes s (call s f p base id begin len access).flags
  pub good : Good (call s f p base id begin len access).pool base used
  -- what the call answers, and no second answer fits
  pub answers : ProtectAnswers s id begin len access (call s f p base id begin len access).result
  pub only : (x : Result (Unit {0}) Refusal) → ProtectAnswers s id begin len access x → x ≡ (call s f p base id begin len access).result
  -- so that an accepted one is on a live region, no child touches its range, and mappings that grant the rights hold it
  pub asked : (call s f p base id begin len access).result ≡ Ok tt → Asked s id begin len access
  pub allowed : (call s f p base id begin len access).result ≡ Ok tt → Allowed s (slot_of s id) begin (begin + len) access
  -- each page in the range has the rights
  pub changes : (call s f p base id begin len access).result ≡ Ok tt
      → (i j : ℕ) → InRange s (slot_of s id) begin (begin + len) i j → page_at (call s f p base id begin len access).flags i j ≡ with_rights (page_at f i j) access
  -- and no other of the 32,768 page flags changes
  pub keeps : (i j : ℕ) → i < 64 → j < 512 → (InRange s (slot_of s id) begin (begin + len) i j → ⊥) → page_at (call s f p base id begin len access).flags i j ≡ page_at f i j
  -- no address gains, loses or changes its frame
  pub frames : (x : ℕ) → Canonical 4 x → SameFrame (queried p (base / 4096) x) (queried (call s f p base id begin len access).pool (base / 4096) x)
  -- an address that lies in no leaf over a page in the range keeps its rights too
  pub elsewhere : (x : ℕ) → Canonical 4 x → ((i j : ℕ) → InRange s (slot_of s id) begin (begin + len) i j → Over p base (page_addr s i j) x → ⊥)
      → translates_in (call s f p base id begin len access).pool base x ≡ translates_in p base x
  -- and one that lies in a leaf over such a page has what an entry gives for the flags of the last such page, USER with them; all pages of one mapping give the same
  pub given : (call s f p base id begin len access).result ≡ Ok tt → (i j : ℕ) → InRange s (slot_of s id) begin (begin + len) i j
      → (x a g : ℕ) → Canonical 4 x → Over p base (page_addr s i j) x → translates_in p base x ≡ to a g
      → (k : ℕ) × (m : ℕ) × LastOver s p base (slot_of s id) begin (begin + len) x k m
      × (translates_in (call s f p base id begin len access).pool base x ≡ to a (granted (with_rights (page_at f (mapping_place s k) m) access)))

-- What is proved of every space that passes its check, every good pool and every call.
pub record ProtectLaws : Type 0 where
  pub protects : (s : Space) (f p : List ℕ) (base used id begin len access : ℕ) → Passes s f → Good p base used → Protects s f p base used id begin len access
  pub righted : (old access : ℕ) → known_page old ≡ true → Righted old access
